-- `linear::steps::Tcb::to_tdb` meets its contract: TDB is TCB less what it loses. Assumes nothing.
use mathlib.Core.Path.{◌∙◌}
use Rattle.linear.specs.declared.drift.TheConstants.{TDB_LOSES}
use Rattle.linear.proofs.Fractions.{tdb_is}
use Rattle.linear.proofs.Methods.{lost}
use Rattle.linear.proofs.steps.Tcb.to_tdb.Goals as goal

pub returns : goal.returns
returns c = lost c.args.self.0 c.requires TDB_LOSES c.up_to.result c.up_to.ensures.exact c.up_to.ensures.little ∙ tdb_is c.args.self.0 c.requires
