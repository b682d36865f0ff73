-- Digits: what is one, what they say so far, and which are no number's. Assumes nothing.
use borrow.Author.Tests.{ne_eqb, leb-true, le-leb, lt-leb}
use mathlib.Core.Path.{◌≡◌, refl, sym, ◌∙◌}
use mathlib.Core.Bool.{Bool, true, false, and-false}
use mathlib.Core.Option.{none}
use mathlib.Core.List.{List, [], ◌∷◌}
use Prim.Native.Nat.{ℕ, ◌+◌, ◌*◌, ◌-◌, ◌^◌, ◌≤◌, ◌<◌}
use native.Mathlib.Decide.{dec_lt}
use native.Mathlib.Omega.{arith}
use lib.Dec.{leb, eqb}
use lib.ListN.{length}
use Rattle.numbers.specs.Signs.{signed}
use Rattle.line.specs.Numbers.{is_digit, all_digits, value_from, value_of, fitting, digits_number}
use Rattle.numbers.proofs.Flags.{both}
use Rattle.line.proofs.Cases.{either}
use Rattle.line.proofs.Fitting.{far}

-- ---- a digit, and what is none
pub is_digit_lem : (byte : ℕ) → 48 ≤ byte → byte ≤ 57 → is_digit byte ≡ true
unfolding is_digit
is_digit_lem byte l h = rw (le-leb 48 byte l, le-leb byte 57 h)

pub digit_bounds : (byte : ℕ) → is_digit byte ≡ true → (48 ≤ byte) × (byte ≤ 57)
unfolding is_digit
digit_bounds byte e = let b = both (leb 48 byte) (leb byte 57) e in (leb-true 48 byte b.0, leb-true byte 57 b.1)

pub digit_no_space : (byte : ℕ) → is_digit byte ≡ true → eqb byte 32 ≡ false
digit_no_space byte e = let d = digit_bounds byte e in ne_eqb byte 32 (λ s. let z : ⊥ = omega arith in z)

-- ---- the size so far
-- what digits say after a number is no less than the number
value_above : (n : ℕ) (text : List ℕ) → n ≤ value_from n text
unfolding value_from
value_above n [] = omega arith
value_above n (byte ∷ more) = omega (arith, value_above (10 * n + (byte - 48)) more)

-- digits of which all but a rest are read, and the size they say, of 64 bits
pub record Sized (digits rest : List ℕ) (size : ℕ) : Type 0 where
  pub digits_left : all_digits digits ≡ all_digits rest
  pub value : value_of digits ≡ value_from size rest
  pub small : size < 2 ^ 64

pub sized_none : (digits : List ℕ) → Sized digits digits 0
unfolding value_of
sized_none digits = record { digits_left = refl; value = refl; small = omega arith }

module _ {digits more : List ℕ} {byte size : ℕ} (sized : Sized digits (byte ∷ more) size) where
  pub sized_more : is_digit byte ≡ true → 10 * size + (byte - 48) < 2 ^ 64 → Sized digits more (10 * size + (byte - 48))
  unfolding all_digits value_from
  sized_more d h = record { digits_left = sized.digits_left ∙ rw d; value = sized.value; small = h }

  pub no_digit : is_digit byte ≡ false → all_digits digits ≡ false
  unfolding all_digits
  no_digit d = sized.digits_left ∙ rw d

  pub size_below : value_of digits < 2 ^ 64 → 10 * size + (byte - 48) < 2 ^ 64
  unfolding value_from
  size_below h = omega (arith, sized.value, value_above (10 * size + (byte - 48)) more)

pub sized_all : {digits : List ℕ} {size : ℕ} → Sized digits [] size
    → ((all_digits digits ≡ true) × (value_of digits < 2 ^ 64)) × (size ≡ value_of digits)
unfolding all_digits value_from
sized_all s = ((s.digits_left, omega (arith, s.value, s.small)), sym s.value)

-- ---- which digits are no number's
pub none_spoilt : (negative : Bool) (text : List ℕ) → all_digits text ≡ false → digits_number negative text ≡ none
unfolding digits_number
none_spoilt negative text e = simp (e, and-false)

pub none_short : (negative : Bool) (text : List ℕ) → length text ≡ 0 → digits_number negative text ≡ none
unfolding digits_number
none_short negative text e = rw e

pub none_long : (negative : Bool) (text : List ℕ) → 20 < length text → digits_number negative text ≡ none
unfolding digits_number
none_long negative text h = simp (lt-leb (length text) 20 h, and-false)

pub some_digits : (negative : Bool) (text : List ℕ) → 1 ≤ length text → length text ≤ 20 → all_digits text ≡ true
    → digits_number negative text ≡ fitting (signed negative (value_of text))
unfolding digits_number
some_digits negative text l h e = rw (le-leb 1 (length text) l, le-leb (length text) 20 h, e)

pub none_wide : (negative : Bool) (text : List ℕ) → 1 ≤ length text → length text ≤ 20
    → ((all_digits text ≡ true) × (value_of text < 2 ^ 64) → ⊥) → digits_number negative text ≡ none
none_wide negative text l h n = either (all_digits text)
    (λ (e : all_digits text ≡ true). some_digits negative text l h e ∙ far negative (value_of text) (elim (dec_lt (value_of text) (2 ^ 64)) [
      | yes s ↦ absurd (n (e, s))
      | no s ↦ omega (arith, s)
    ]))
    (λ (e : all_digits text ≡ false). none_spoilt negative text e)
