-- `filling::batch_over` meets its contract: it tries all before it writes any. Assumes nothing.
use Rattle.scales.proofs.PassedOn.{passed_on}
use mathlib.Core.Path.{sym, ◌∙◌}
use Rattle.filling.proofs.Filling.{filled_not, filled_all}
use Rattle.filling.proofs.batch_over.Goals as goal

pub returns-in_err-steps : goal.returns-in_err-steps
returns-in_err-steps c = rw (passed_on _ _ c.from_residual.ensures) (filled_not _ _ (sym c.tried.ensures ∙ c.in_err-steps.was))

pub returns : goal.returns
returns c = filled_all _ (sym c.tried.ensures ∙ c.in_ok-steps.was) c.write_all.ensures
