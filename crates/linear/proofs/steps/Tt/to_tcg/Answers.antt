-- `linear::steps::Tt::to_tcg` meets its contract: TCG is TT and what it gains. Assumes nothing.
use mathlib.Core.Path.{◌∙◌}
use Rattle.linear.specs.declared.drift.TheConstants.{TCG_GAINS}
use Rattle.linear.proofs.Fractions.{tcg_is}
use Rattle.linear.proofs.Methods.{gained}
use Rattle.linear.proofs.steps.Tt.to_tcg.Goals as goal

pub returns : goal.returns
returns c = gained c.args.self.0 c.requires TCG_GAINS c.up_to.result c.up_to.ensures.exact c.up_to.ensures.little ∙ tcg_is c.args.self.0 c.requires
