-- A finite double's value from the fields of its bit pattern. Assumes nothing.
use mathlib.Core.Path.{◌≡◌, refl, sym, ap, ◌∙◌, subst}
use mathlib.Core.Logic.{◌⊎◌, inl, inr}
use Prim.Native.Nat.{ℕ, zero, suc, ◌+◌, ◌-◌, ◌*◌, ◌/◌, ◌%◌, ◌^◌, ◌≤◌, ◌<◌}
use native.Mathlib.Nat.{mod-lt, mod-eq_of_lt, le-add_left, le_of_eq, mul-le-mul_left, pow-suc}
use native.Mathlib.Omega.{arith}
use mathlib.Core.Bool.{Bool, true, false, not, cond}
use lib.Dec.{T, leb, eqb}
use lib.Pow.{pow_pos, field}
use lib.IntN.{ℤ, pos, nat_abs, ◌*ℤ◌}
use lib.Bits.{bit_and, and_mask}
use lib.Ieee.{Float, nan, inf, fin, up, down, binary64, odd, fits, is_nan, of_fields, of_bits}
use lib.Ieee.{to_bits}
use lib.Ieee.Bits.{of_bits-to_bits}
use lib.Ieee.Exact.{HasValue, odd_sign}
use lib.Ieee.Scale.{finite}
use Rattle.numbers.proofs.Order.{abs-*}
use Rattle.numbers.specs.Signs.{signed}
use Rattle.dates.specs.Doubles.{numerator, denominator}
use Rattle.dates.specs.Inner.{Apart}
use Rattle.dates.proofs.Values.{signed_times, signed_size, value_of}

pub no_nan : (x : Float) → T (finite x) → T (not (is_nan x))
unfolding is_nan
no_nan nan p = absurd p
no_nan (inf s) p = absurd p
no_nan (fin s m e) p = tt

-- a field of all ones is an infinity's or a NaN's
past_top : (a b s : Bool) (v : Float) → T (finite (cond a (cond b (inf s) nan) v)) → cond a (cond b (inf s) nan) v ≡ v
past_top true true s v p = absurd p
past_top true false s v p = absurd p
past_top false b s v p = refl

at_low : (s : Bool) (t : ℕ) → HasValue (of_fields binary64 s 0 t) s (t * 2 ^ 0) (2 ^ 1074)
unfolding of_fields
at_low s t = odd_sign 53 s t 0 1074

at_high : (s : Bool) (j t : ℕ) → T (finite (of_fields binary64 s (suc j) t))
    → HasValue (of_fields binary64 s (suc j) t) s ((2 ^ 52 + t) * 2 ^ j) (2 ^ 1074)
unfolding of_fields
at_high s j t p =
    let v = odd 53 s (2 ^ 52 + t) j 1074 in
    subst (λ (k : Float). HasValue k s ((2 ^ 52 + t) * 2 ^ j) (2 ^ 1074)) (sym (past_top (eqb (suc j) 2047) (eqb t 0) s v p))
    (odd_sign 53 s (2 ^ 52 + t) j 1074)

of_bits_is : (b : ℕ) → of_bits binary64 b ≡ of_fields binary64 (leb (2 ^ 63) b) (b % 2 ^ 63 / 2 ^ 52) (b % 2 ^ 52)
unfolding of_bits
of_bits_is b = refl

-- the fields as the code has them
abbrev field_of : ℕ → ℕ
field_of b = bit_and (b / 2 ^ 52) (2 ^ 11 - 1)

abbrev low_of : ℕ → ℕ
low_of b = bit_and b (2 ^ 52 - 1)

field_is : (b : ℕ) → b % 2 ^ 63 / 2 ^ 52 ≡ field_of b
field_is b = field b 11 52 ∙ sym (and_mask (b / 2 ^ 52) 11)

-- without the sign's bit the field is all that is above the digits
pub plain_field : (b : ℕ) → b < 2 ^ 63 → field_of b ≡ b / 2 ^ 52
plain_field b h = sym (field_is b) ∙ ap (λ (z : ℕ). z / 2 ^ 52) (mod-eq_of_lt h)

module _ (x : Float) (F : T (fits binary64 x)) (fine : T (finite x)) where
  abbrev b : ℕ
  b = to_bits binary64 x

  -- x by the code's fields
  is : x ≡ of_fields binary64 (leb (2 ^ 63) b) (field_of b) (low_of b)
  is =
      sym (of_bits-to_bits binary64 x F)
      ∙ of_bits_is b
      ∙ ap (λ (k : ℕ). of_fields binary64 (leb (2 ^ 63) b) k (b % 2 ^ 52)) (field_is b)
      ∙ ap (λ (k : ℕ). of_fields binary64 (leb (2 ^ 63) b) (field_of b) k) (sym (and_mask b 52))

  pub low_lt : low_of b < 2 ^ 52
  low_lt = subst (λ (k : ℕ). k < 2 ^ 52) (sym (and_mask b 52)) (mod-lt b (pow_pos 52))

  abbrev s : Bool
  s = leb (2 ^ 63) b

  abbrev digits : ℕ
  digits = low_of b + 2 ^ 52

  -- what a value a / c says of the page's fraction
  size_of : (a c : ℕ) → HasValue x s a c → c * nat_abs (numerator x) ≡ denominator x * a
  size_of a c v =
      sym (abs-* (pos c) (numerator x))
      ∙ ap nat_abs (value_of x s a c v)
      ∙ abs-* (pos (denominator x)) (signed s a)
      ∙ ap (λ (z : ℕ). denominator x * z) (signed_size s a)

  lowest : field_of b ≡ 0 → 2 ^ 1075 * nat_abs (numerator x) ≤ denominator x * (2 ^ 0 * digits)
  lowest e =
      let q : x ≡ of_fields binary64 s 0 (low_of b) = is ∙ ap (λ (k : ℕ). of_fields binary64 s k (low_of b)) e in
      let v : HasValue x s (low_of b * 2 ^ 0) (2 ^ 1074) = subst (λ (k : Float). HasValue k s (low_of b * 2 ^ 0) (2 ^ 1074)) (sym q) (at_low s (low_of b)) in
      go (2 ^ 1074) (nat_abs (numerator x)) (denominator x) (low_of b) (size_of (low_of b * 2 ^ 0) (2 ^ 1074) v) low_lt
    where
      go : (c n d l : ℕ) → c * n ≡ d * (l * 1) → l < 4503599627370496 → 2 * c * n ≤ d * (1 * (l + 4503599627370496))
      go c n d l i h = let k : 2 * l ≤ l + 4503599627370496 = omega arith in omega (arith, mul-le-mul_left d k)

  higher : (j : ℕ) → field_of b ≡ suc j → HasValue x s (2 ^ suc j * digits) (2 ^ 1075)
  higher j e =
      let q : x ≡ of_fields binary64 s (suc j) (low_of b) = is ∙ ap (λ (k : ℕ). of_fields binary64 s k (low_of b)) e in
      twice x ((2 ^ 52 + low_of b) * 2 ^ j) (2 ^ suc j * digits)
      (subst (λ (k : Float). HasValue k s ((2 ^ 52 + low_of b) * 2 ^ j) (2 ^ 1074)) (sym q)
      (at_high s j (low_of b) (subst (λ (k : Float). T (finite k)) q fine)))
      (go (2 ^ j) (2 ^ suc j) (low_of b) (pow-suc 2 j))
    where
      go : (p q l : ℕ) → q ≡ p * 2 → q * (l + 4503599627370496) ≡ 2 * ((4503599627370496 + l) * p)
      go p q l i = omega (arith, ap (λ (z : ℕ). z * l) i)

      double : (w c a d u : ℕ) → w * u ≡ a * d → c ≡ 2 * a → w * (2 * u) ≡ c * d
      double w c a d u i k = omega (arith, ap (λ (z : ℕ). z * d) k)

      twice : (y : Float) (a c : ℕ) → HasValue y s a (2 ^ 1074) → c ≡ 2 * a → HasValue y s c (2 ^ 1075)
      twice nan a c v i = v
      twice (inf t) a c v i = v
      twice (fin t m e) a c v i = (v.0, double (m * up e) c a (down e) (2 ^ 1074) v.1 i)

  pub taken_apart : Apart x (signed s digits) (field_of b)
  taken_apart = record {
    value = given (field_of b) refl;
    under = rw (signed_size s digits) (under_it (field_of b) refl);
    least = rw (signed_size s digits) (le-add_left (2 ^ 52) (low_of b));
    small = rw (signed_size s digits) (go (low_of b) low_lt);
  }
    where
      go : (l : ℕ) → l < 2 ^ 52 → l + 2 ^ 52 < 2 ^ 53
      go l h = omega arith

      given : (f : ℕ) → field_of b ≡ f
          → (f ≡ 0) ⊎ (pos (2 ^ 1075) *ℤ numerator x ≡ pos (denominator x) *ℤ (pos (2 ^ f) *ℤ signed s digits))
      given zero e = inl refl
      given (suc j) e =
          inr (value_of x s (2 ^ suc j * digits) (2 ^ 1075) (higher j e) ∙ ap (λ (z : ℤ). pos (denominator x) *ℤ z) (sym (signed_times s (2 ^ suc j) digits)))

      under_it : (f : ℕ) → field_of b ≡ f → 2 ^ 1075 * nat_abs (numerator x) ≤ denominator x * (2 ^ f * digits)
      under_it zero e = lowest e
      under_it (suc j) e = le_of_eq (size_of (2 ^ suc j * digits) (2 ^ 1075) (higher j e))
