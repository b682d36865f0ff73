-- `linear::steps::Tdb::to_tcb` meets its contract: TCB is TDB and what it gains. Assumes nothing.
use mathlib.Core.Path.{◌∙◌}
use Rattle.linear.specs.declared.drift.TheConstants.{TCB_GAINS}
use Rattle.linear.proofs.Fractions.{tcb_is}
use Rattle.linear.proofs.Methods.{gained}
use Rattle.linear.proofs.steps.Tdb.to_tcb.Goals as goal

pub returns : goal.returns
returns c = gained c.args.self.0 c.requires TCB_GAINS c.up_to.result c.up_to.ensures.exact c.up_to.ensures.little ∙ tcb_is c.args.self.0 c.requires
