-- `desk::conversion::between` meets its contract. Assumes nothing.
use Rattle.scales.proofs.PassedOn.{passed_on}
use borrow.Author.Rules.{rules}
use mathlib.Core.Path.{◌∙◌}
use mir.Syntax.{w64}
use mir.ValLaws.{to_z-of_z}
use Rattle.desk.proofs.Asking.{between_tick, between_refusal}
use Rattle.desk.proofs.conversion.between.Goals as goal

pub returns-in_err-read : goal.returns-in_err-read
returns-in_err-read c = rw (passed_on _ _ c.from_residual.ensures, c.in_err-read.was) (between_refusal _ _ _ _ _)

pub returns : goal.returns
returns c =
    rw c.in_ok-read.was
    (rw (to_z-of_z w64 c.in_ok-read.field-0 (record { sfits = search rules })) at c.walk.ensures ∙ between_tick _ _ _ _ _)
