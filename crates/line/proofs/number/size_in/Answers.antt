-- `line::number::size_in` meets its contract: a byte more is the size so far, or there is none.
-- Assumes nothing.
use Rattle.std.proofs.Common.{◌≡◌, true, false, ◌<◌, ◌≤◌, ◌+◌, ◌*◌, ◌-◌, ℕ, List, ◌∷◌, sym, ◌∙◌, arith}
use Rattle.std.proofs.Common.{length, drop, get_or, drop-cons, drop_of_length-le, add-one}
use Rattle.line.specs.Numbers.{is_digit}
use Rattle.line.proofs.Digits.{Sized, sized_none, sized_more, no_digit, size_below, sized_all}
use Rattle.line.proofs.number.size_in.Goals as goal

-- the digit in hand
here : (digits : List ℕ) (i size : ℕ) → i < length digits → Sized digits (drop i digits) size
    → Sized digits (get_or digits i 0 ∷ drop (i + 1) digits) size
here digits i size h s = rw (add-one i) (rw (drop-cons digits i 0 h) at s)

pub loop-digit-init : goal.loop-digit-init
loop-digit-init c = sized_none _

pub returns-then-not-is_ascii_digit : goal.returns-then-not-is_ascii_digit
unfolding is_digit
returns-then-not-is_ascii_digit c (digits, small) =
    let s = here _ _ _ c.loop-digit-test.true c.loop-digit.invariant in
    let e : true ≡ false = sym digits ∙ no_digit s (sym c.if-not-is_ascii_digit.ensures.value) in cc

pub returns-in_err-checked_mul : goal.returns-in_err-checked_mul
returns-in_err-checked_mul c =
    let s = here _ _ _ c.loop-digit-test.true c.loop-digit.invariant in
    rw c.from_residual.ensures (λ (digits, small). let below = size_below s small in c.in_err-checked_mul.ensures (omega arith))

pub returns-in_err-size : goal.returns-in_err-size
returns-in_err-size c =
    let s = here _ _ _ c.loop-digit-test.true c.loop-digit.invariant in
    let tens = c.in_ok-checked_mul.ensures in
    rw c.from_residual-in_err-size.ensures (λ (digits, small). let below = size_below s small in c.in_err-size.ensures (omega (arith, tens)))

pub loop-digit-preserved : goal.loop-digit-preserved
unfolding is_digit
loop-digit-preserved c =
    let s = here _ _ _ c.loop-digit-test.true c.loop-digit.invariant in
    let e : c.in_ok-size.size ≡ 10 * c.loop-digit.size + (get_or c.args.digits.now c.loop-digit.digit-index 0 - 48) =
    omega (arith, c.in_ok-checked_mul.ensures, c.in_ok-size.ensures) in
    rw e (sized_more s (sym c.if-not-is_ascii_digit.ensures.value) (omega (arith, c.in_ok-size.ensures, e)))

pub returns : goal.returns
returns c =
    let none_left : length c.args.digits.now ≤ c.loop-digit.digit-index = omega arith in
    sized_all (rw (drop_of_length-le _ none_left) at c.loop-digit.invariant)
