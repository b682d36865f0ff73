-- `line::number::digits_number` meets its contract. Assumes nothing.
use Rattle.std.proofs.Common.{◌≡◌, sym, ◌∙◌, true, ◌≤◌, ◌<◌, ◌^◌, length, ℕ, Bool, false, nat_eq, List, arith}
use mathlib.Core.Logic.{inl, inr}
use borrow.Author.Tests.{eqb-true, eqb-false}
use Rattle.numbers.specs.Signs.{signed}
use Rattle.line.specs.Numbers.{all_digits, value_of, fitting, digits_number}
use Rattle.line.proofs.Digits.{none_short, none_long, none_wide, some_digits}
use Rattle.line.proofs.Fitting.{negative_told, positive_told}
use Rattle.line.proofs.number.digits_number.Goals as goal

pub returns-then-is_empty : goal.returns-then-is_empty
returns-then-is_empty c = elim c.then-is_empty.either [
  | inl e ↦ sym (none_short _ _ (eqb-true _ _ (sym c.is_empty.ensures ∙ e)))
  | inr h ↦ sym (none_long _ _ h.1)
]

some_length : (size : ℕ) (empty : Bool) → empty ≡ nat_eq size 0 → empty ≡ false → 1 ≤ size
some_length size empty is e = let n = eqb-false size 0 (sym is ∙ e) in omega arith

pub returns-in_err-size : goal.returns-in_err-size
returns-in_err-size c =
    rw c.from_residual.ensures
    (sym (none_wide _ _ (some_length _ _ c.is_empty.ensures c.if-is_empty.false) c.if-digits-gt20.false c.in_err-size.ensures))

-- the digits are a number's, of the size that was found
module _ (negative : Bool) (digits : List ℕ) (size : ℕ) (some : 1 ≤ length digits) (few : length digits ≤ 20)
    (found : ((all_digits digits ≡ true) × (value_of digits < 2 ^ 64)) × (size ≡ value_of digits)) where
  of_size : fitting (signed negative size) ≡ digits_number negative digits
  of_size = rw found.1 (sym (some_digits negative digits some few found.0.0))

pub returns-then-negative : goal.returns-then-negative
returns-then-negative c =
    rw c.if-negative.true
    (negative_told _ _ c.checked_sub_unsigned.ensures
    ∙ of_size true _ _ (some_length _ _ c.is_empty.ensures c.if-is_empty.false) c.if-digits-gt20.false c.in_ok-size.ensures)

pub returns-else-negative : goal.returns-else-negative
returns-else-negative c =
    rw (c.if-negative.false, c.ok.ensures.value)
    (positive_told _ _ c.try_from.ensures
    ∙ of_size false _ _ (some_length _ _ c.is_empty.ensures c.if-is_empty.false) c.if-digits-gt20.false c.in_ok-size.ensures)
