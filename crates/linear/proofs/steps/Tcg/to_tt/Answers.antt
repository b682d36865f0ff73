-- `linear::steps::Tcg::to_tt` meets its contract: TT is TCG less what it loses. Assumes nothing.
use mathlib.Core.Path.{◌∙◌}
use Rattle.linear.specs.declared.drift.TheConstants.{TT_LOSES}
use Rattle.linear.proofs.Fractions.{tt_is}
use Rattle.linear.proofs.Methods.{lost}
use Rattle.linear.proofs.steps.Tcg.to_tt.Goals as goal

pub returns : goal.returns
returns c = lost c.args.self.0 c.requires TT_LOSES c.up_to.result c.up_to.ensures.exact c.up_to.ensures.little ∙ tt_is c.args.self.0 c.requires
