-- Which sizes fit signed 64 bits with each sign. Assumes nothing.
use borrow.Author.Tests.{le-leb, lt-leb, lt-ltb, le-ltb}
use mathlib.Core.Path.{◌≡◌, refl, sym, ◌∙◌, ap}
use mathlib.Core.Bool.{Bool, true, false}
use mathlib.Core.Option.{some, none}
use Prim.Native.Nat.{ℕ, zero, suc, ◌-◌, ◌^◌, ◌≤◌, ◌<◌}
use native.Mathlib.Omega.{arith}
use native.Mathlib.Decide.{dec_lt}
use lib.IntN.{ℤ, pos, negsuc, ◌-ℤ◌}
use mir.Syntax.{w64}
use mir.Val.{SFits}
use Rattle.std.specs.Prelude as code
use Rattle.std.specs.Prelude.{Some, None, Ok, Err}
use Rattle.std.specs.Option.{SomeIff}
use Rattle.std.specs.Result.{OkIff, result_ok}
use Rattle.numbers.specs.Signs.{signed}
use Rattle.line.specs.Numbers.{fits_signed, fitting}
use Rattle.line.specs.Scan.{told}

pub positive_fits : (n : ℕ) → n < 2 ^ 63 → fitting (signed false n) ≡ some (pos n)
unfolding fitting fits_signed
positive_fits n h = rw (lt-ltb n (2 ^ 63) h)

pub positive_far : (n : ℕ) → 2 ^ 63 ≤ n → fitting (signed false n) ≡ none
unfolding fitting fits_signed
positive_far n h = rw (le-ltb n (2 ^ 63) h)

pub negative_fits : (n : ℕ) → n < 2 ^ 63 → fitting (signed true (suc n)) ≡ some (negsuc n)
unfolding fitting fits_signed
negative_fits n h = rw (le-leb n 9223372036854775807 (omega arith))

pub negative_zero : fitting (signed true 0) ≡ some (pos 0)
unfolding fitting fits_signed
negative_zero = refl

pub negative_far : (n : ℕ) → 2 ^ 63 < n → fitting (signed true n) ≡ none
unfolding fitting fits_signed
negative_far zero h = let z : ⊥ = omega arith in absurd z
negative_far (suc n) h = rw (lt-leb n 9223372036854775807 (omega arith))

-- above 2^63 nothing fits, with either sign
pub far : (negative : Bool) (n : ℕ) → 2 ^ 63 < n → fitting (signed negative n) ≡ none
far true n h = negative_far n h
far false n h = positive_far n (omega arith)

-- ---- what std's conversions answer
below_zero : (n : ℕ) → pos 0 -ℤ pos (suc n) ≡ negsuc n
below_zero n = let e : suc n - 1 ≡ n = omega arith in rw (lt-ltb 0 (suc n) (omega arith), e)

pub negative_told : (size : ℕ) (r : code.Option ℤ) → SomeIff r (SFits w64 (pos 0 -ℤ pos size)) (pos 0 -ℤ pos size)
    → told r ≡ fitting (signed true size)
negative_told zero None h = absurd (h (record { sfits = omega arith }))
negative_told zero (Some z) h = ap some h.1 ∙ sym negative_zero
negative_told (suc n) None h = sym (negative_far (suc n) (elim (dec_lt n (2 ^ 63)) [
  | yes l ↦ absurd (h (rw (below_zero n) (record { sfits = l })))
  | no l ↦ omega (arith, l)
]))
negative_told (suc n) (Some z) h =
    let f = (rw (below_zero n) at h.0).sfits in
    ap some (h.1 ∙ below_zero n) ∙ sym (negative_fits n (omega arith))

pub positive_told : {E : Type 0} (size : ℕ) (r : code.Result ℤ E) → OkIff r (SFits w64 (pos size)) (pos size)
    → told (result_ok r) ≡ fitting (signed false size)
positive_told size (Err e) h = sym (positive_far size (elim (dec_lt size (2 ^ 63)) [
  | yes l ↦ absurd (h (record { sfits = l }))
  | no l ↦ omega (arith, l)
]))
positive_told size (Ok z) h = let f = h.0.sfits in ap some h.1 ∙ sym (positive_fits size (omega arith))
