-- `dates::double::take_apart` meets its contract: the fields of the bits are the value's. Assumes
-- nothing.
use mathlib.Core.Path.{sym, subst}
use Prim.Native.Nat.{ℕ, ◌+◌, ◌<◌, ◌^◌}
use native.Mathlib.Omega.{arith}
use lib.Arith.{lt→nleb}
use lib.Bits.{bit_and}
use lib.Dec.{T, leb, le→leb}
use lib.Ieee.{Float, binary64, fits, to_bits}
use lib.Ieee.Bits.{is_true, is_false}
use mir.Syntax.{w64}
use mir.ValLaws.{to_z_pos}
use Rattle.numbers.proofs.Machine.{minus_fits, minus_is}
use Rattle.dates.proofs.Fields.{no_nan, low_lt, taken_apart}
use Rattle.dates.proofs.double.take_apart.Goals as goal
use Rattle.dates.proofs.double.take_apart.Goals.{Start}

abbrev x : Start → Float
x c = c.args.x

-- what owning an `f64` tells: the format holds it
held : (c : Start) → T (fits binary64 (x c))
held c = subst T (sym c.well_formed.0.1) tt

abbrev bits : Start → ℕ
bits c = to_bits binary64 (x c)

abbrev digits : Start → ℕ
digits c = bit_and (bits c) 4503599627370495 + 4503599627370496

few : (c : Start) → digits c < 2 ^ 63
few c = go _ (low_lt (x c) (held c) c.requires)
  where
    go : (l : ℕ) → l < 2 ^ 52 → l + 2 ^ 52 < 2 ^ 63
    go l h = omega arith

pub float_to_bits-bits : goal.float_to_bits-bits
float_to_bits-bits c = no_nan (x c) c.requires

pub overflow_add-digits : goal.overflow_add-digits
overflow_add-digits c = record { fits = omega (arith, few c) }

pub overflow_cast-result : goal.overflow_cast-result
overflow_cast-result c = record { sfits = few (goal.at.overflow_cast-result c).Start }

pub overflow_sub-result : goal.overflow_sub-result
overflow_sub-result c = minus_fits (digits (goal.at.overflow_sub-result c).Start) (few (goal.at.overflow_sub-result c).Start)

pub returns-then-bits-ge9223372036854775808 : goal.returns-then-bits-ge9223372036854775808
returns-then-bits-ge9223372036854775808 c =
    let a = taken_apart (x (goal.at.returns-then-bits-ge9223372036854775808 c).Start) (held (goal.at.returns-then-bits-ge9223372036854775808 c).Start)
    c.requires in
    rw (minus_is (digits (goal.at.returns-then-bits-ge9223372036854775808 c).Start) (few (goal.at.returns-then-bits-ge9223372036854775808 c).Start))
    (rw (is_true (leb (2 ^ 63) (bits (goal.at.returns-then-bits-ge9223372036854775808 c).Start))
    (le→leb (2 ^ 63) (bits (goal.at.returns-then-bits-ge9223372036854775808 c).Start) c.if-bits-ge9223372036854775808.true)) at a)

pub overflow_cast-result-2 : goal.overflow_cast-result-2
overflow_cast-result-2 c = record { sfits = few (goal.at.overflow_cast-result-2 c).Start }

pub returns : goal.returns
returns c =
    let a = taken_apart (x (goal.at.returns c).Start) (held (goal.at.returns c).Start) c.requires in
    rw (to_z_pos w64 (digits (goal.at.returns c).Start) (few (goal.at.returns c).Start))
    (rw (is_false (leb (2 ^ 63) (bits (goal.at.returns c).Start)) (lt→nleb (2 ^ 63) (bits (goal.at.returns c).Start) c.if-bits-ge9223372036854775808.false))
    at a)
