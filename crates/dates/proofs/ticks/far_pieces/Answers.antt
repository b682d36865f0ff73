-- `dates::ticks::far_pieces` meets its contract: the sign's bit is not set, and the shift fits.
-- Assumes nothing.
use mathlib.Core.Path.{◌≡◌, refl, sym, ap, ◌∙◌, subst}
use mathlib.Core.Bool.{Bool, true, false, not}
use Prim.Native.Nat.{ℕ, ◌+◌, ◌-◌, ◌*◌, ◌/◌, ◌%◌, ◌^◌, ◌≤◌, ◌<◌}
use native.Mathlib.Nat.{le_of_lt, mul-le-mul, mul_comm, mod-eq_of_lt}
use native.Mathlib.Omega.{arith}
use lib.Bits.{bit_and}
use lib.Dec.{T, leb, nleb→lt, lit≤}
use lib.Ieee.{Float, binary64, fits, to_bits}
use lib.IntN.{pos, ◌*ℤ◌}
use lib.Pow.{pow_mono}
use mir.Syntax.{w64}
use mir.Val.{to_z}
use mir.ValLaws.{to_z_pos}
use Rattle.numbers.specs.Signs.{signed}
use Rattle.dates.specs.Doubles.{denominator}
use Rattle.dates.specs.Inner.{Apart}
use Rattle.dates.proofs.Fields.{no_nan, low_lt, plain_field, taken_apart}
use Rattle.dates.proofs.Values.{exponent_reach, far_exact, far_exponent, far_positive}
use Rattle.dates.proofs.Values.{readable_wider}
use Rattle.dates.proofs.ticks.far_pieces.Goals as goal
use Rattle.dates.proofs.ticks.far_pieces.Goals.{Start}

module _ (c : Start) where
  abbrev x : Float
  x = c.args.x

  -- what owning an `f64` tells: the format holds it
  held : T (fits binary64 x)
  held = subst T (sym c.well_formed.0.1) tt

  abbrev bits : ℕ
  bits = to_bits binary64 x

  abbrev digits : ℕ
  digits = bit_and bits 4503599627370495 + 4503599627370496

  abbrev exponent : ℕ
  exponent = bits / 4503599627370496

  digits_few : digits < 2 ^ 53
  digits_few = go _ (low_lt x held c.requires.readable.finitely)
    where
      go : (l : ℕ) → l < 2 ^ 52 → l + 2 ^ 52 < 2 ^ 53
      go l h = omega arith

  -- the sign's bit is not set, so that the field is all that is above the digits
  plain : leb (2 ^ 63) bits ≡ false
  plain = go (leb (2 ^ 63) bits) (taken_apart x held c.requires.readable.finitely)
    where
      go : (s : Bool) → Apart x (signed s digits) (bit_and exponent 2047) → s ≡ false
      go true a = absurd (far_positive x _ _ a c.requires digits refl)
      go false a = refl

  apart : Apart x (pos digits) exponent
  apart =
      subst (λ (k : ℕ). Apart x (pos digits) k) (plain_field bits (nleb→lt (2 ^ 63) bits (subst (λ (b : Bool). T (not b)) (sym plain) tt)))
      (subst (λ (s : Bool). Apart x (signed s digits) (bit_and exponent 2047)) plain (taken_apart x held c.requires.readable.finitely))

  least : 1043 ≤ exponent
  least = far_exponent x (pos digits) exponent apart c.requires

  shift_few : exponent - 1043 ≤ 6
  shift_few = go exponent (exponent_reach x (pos digits) exponent apart 16 (lit≤ tt) (readable_wider 5000000 78125000 x (lit≤ tt) c.requires.readable))
    where
      go : (e : ℕ) → e + 16 ≤ 1065 → e - 1043 ≤ 6
      go e h = omega arith

  abbrev pieces : ℕ
  pieces = digits * 2 ^ (exponent - 1043)

  pieces_few : pieces ≤ 2 ^ 59
  pieces_few = mul-le-mul (le_of_lt digits_few) (pow_mono shift_few)

  result : to_z w64 (pieces % 18446744073709551616) ≡ pos pieces
  result =
      let h = pieces_few in
      let l : pieces < 18446744073709551616 = omega arith in
      ap (to_z w64) (mod-eq_of_lt l) ∙ to_z_pos w64 pieces (omega arith)

pub float_to_bits-bits : goal.float_to_bits-bits
float_to_bits-bits c = no_nan (x c) c.requires.readable.finitely

pub overflow_add-digits : goal.overflow_add-digits
overflow_add-digits c = record { fits = omega (arith, digits_few c) }

pub overflow_cast-result : goal.overflow_cast-result
overflow_cast-result c = record { sfits = omega (arith, digits_few c) }

pub overflow_sub-result : goal.overflow_sub-result
overflow_sub-result c = least c

pub overflow_cast-result-2 : goal.overflow_cast-result-2
overflow_cast-result-2 c = record { sfits = omega (arith, shift_few c) }

pub overflow_shl-result : goal.overflow_shl-result
overflow_shl-result c = omega (arith, shift_few c)

pub returns : goal.returns
returns c =
    rw (result c)
    (record {
      is =
          ap (λ (z : ℕ). pos (denominator (x c)) *ℤ pos z) (mul_comm (digits c) (2 ^ (exponent c - 1043)))
          ∙ far_exact (x c) (pos (digits c)) (exponent c) (apart c) c.requires;
      small = pieces_few c;
    })
