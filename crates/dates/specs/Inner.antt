-- What the inner functions ask and give.
use Rattle.std.specs.Prelude.{◌≡◌, ◌⊎◌, Bool, true, not, ◌&&◌, List, ℕ, ◌+◌, ◌*◌, ◌/◌, ◌^◌, ◌<◌}
use Rattle.std.specs.Prelude.{◌≤◌, T, ℤ, pos, nat_abs, ◌+ℤ◌, ◌-ℤ◌, ◌*ℤ◌, ◌≤ℤ◌, Float}
use Rattle.std.specs.Float.Ieee.Scale.{finite}
use Rattle.scales.specs.declared.scale.Purpose.{Purpose}
use Rattle.scales.specs.declared.scale.Purpose.TheVariants.{Utc}
use Rattle.numbers.specs.Rounding.{floor_div, nearest}
use Rattle.utc.specs.Leaps.{is_list_right}
use Rattle.dates.specs.declared.span.Span.{Span}
use Rattle.dates.specs.Doubles.{beyond, denominator, numerator}
use Rattle.dates.specs.Ticks.{day_ticks}

-- ---- a double taken apart: digits·2^exponent units of 2^-1075, or less where the exponent is 0;
-- the leading digit is in place
pub record Apart (x : Float) (digits : ℤ) (exponent : ℕ) : Type 0 where
  pub value : (exponent ≡ 0)
      ⊎ (pos (2 ^ 1075) *ℤ numerator x ≡ pos (denominator x) *ℤ (pos (2 ^ exponent) *ℤ digits))
  pub under : 2 ^ 1075 * nat_abs (numerator x) ≤ denominator x * (2 ^ exponent * nat_abs digits)
  pub least : 2 ^ 52 ≤ nat_abs digits
  pub small : nat_abs digits < 2 ^ 53

-- a double that passes refusals 2 and 3, as a test and as what is known then
abbrev pub passing : ℕ → Float → Bool
passing most x = finite x && not (beyond most x)

pub record Readable (most : ℕ) (x : Float) : Type 0 where
  pub finitely : T (finite x)
  pub within : T (not (beyond most x))

-- ---- a unit, a day or a second, of odd·2^twos ticks
pub record Factored (odd twos : ℕ) : Type 0 where
  pub some : 0 < odd
  pub small : odd ≤ 1500000000
  pub high : 9 ≤ twos
  pub low : twos ≤ 16

-- so few units that their pieces fit 64 bits: 10^10 seconds, and more days than a date part has
abbrev pub few_units : ℕ → ℕ
few_units twos = 10000000000 * 2 ^ 9 / 2 ^ twos

-- what the product with such an odd number is divided by, above 2^31
pub record Cut (odd by : ℕ) : Type 0 where
  pub small : odd ≤ 1500000000
  pub few : by ≤ 62

-- what whole multiples of d leave of z
abbrev pub left_by : ℕ → ℤ → ℤ
left_by d z = z -ℤ pos d *ℤ floor_div z d

-- ---- a count in two, of units worth `per` of what the rest is counted in
abbrev pub worth : ℤ → Span → ℤ
worth per span = per *ℤ span.units +ℤ span.rest

-- at most so many of each, either way
pub record SpanWithin (mostUnits mostRest : ℕ) (span : Span) : Type 0 where
  pub units : nat_abs span.units ≤ mostUnits
  pub rest : nat_abs span.rest ≤ mostRest

-- so small that a sum of two fits 64 bits
abbrev pub modest : ℕ
modest = 2 ^ 61

-- so few ticks that beyond 100,000 days they do not lead back into the range
abbrev pub few_ticks : ℕ
few_ticks = 10000000000000000

-- a span's two fields, told
pub record Spanned (span : Span) (units rest : ℤ) : Type 0 where
  pub units_are : span.units ≡ units
  pub rest_is : span.rest ≡ rest

-- ---- x units of `per` ticks in shares, 65,536ths of a tick, cut down
unfoldable pub shares_of : ℕ → Float → ℤ
shares_of per x = floor_div (pos (65536 * per) *ℤ numerator x) (denominator x)

-- digits taken for so many 2^-31 of a piece of `odd` shares, as pieces and shares
pub record Pieces (odd : ℕ) (digits : ℤ) (span : Span) : Type 0 where
  pub is : worth (pos odd) span ≡ floor_div (pos odd *ℤ digits) (2 ^ 31)
  pub small : SpanWithin (2 ^ 59) (2 ^ 53) span

-- x units of odd·2^twos ticks, as pieces of `odd` shares, and shares
pub record Counted (odd twos : ℕ) (x : Float) (span : Span) : Type 0 where
  pub is : worth (pos odd) span ≡ shares_of (odd * 2 ^ twos) x
  pub small : SpanWithin (2 ^ 59) (2 ^ 53) span

-- from 2^20 days on
pub record Far (x : Float) : Type 0 where
  pub readable : Readable 5000000 x
  pub far : pos (2 ^ 20 * denominator x) ≤ℤ numerator x

-- such a part as pieces, of which a day has 2^32: exactly
pub record FarPieces (x : Float) (pieces : ℤ) : Type 0 where
  pub is : pos (denominator x) *ℤ pieces ≡ pos (2 ^ 32) *ℤ numerator x
  pub small : nat_abs pieces ≤ 2 ^ 59

-- both parts of a date
pub record CountedSum (first second : Float) (span : Span) : Type 0 where
  pub is : worth (pos 1318359375) span ≡ shares_of day_ticks first +ℤ shares_of day_ticks second
  pub small : SpanWithin (2 ^ 60) (2 ^ 54) span

-- shares to the nearest tick, as units of `per` ticks, and ticks
pub record Rounded (per : ℕ) (shares : ℤ) (span : Span) : Type 0 where
  pub is : nearest shares 65536 ≡ worth (pos per) span
  pub small : SpanWithin 100000000000 1000000000000000 span

-- `most` units of `per` ticks are 100,000 days
pub record Reach (per most : ℤ) : Type 0 where
  pub per_is : per ≡ pos (nat_abs per)
  pub most_is : most ≡ pos (nat_abs most)
  pub days : nat_abs per * nat_abs most ≡ 100000 * day_ticks

-- ---- a tick counted from 70,000 days before JD 2443144.5, which is 32,184,000,000 ticks before
-- the origin
pub record Since (tick : ℤ) (since : ℕ) : Type 0 where
  pub is : pos since ≡ tick +ℤ pos (70000 * day_ticks + 32184000000)
  pub few : since ≤ 12048000032184000000

-- ---- a list that is right where it is looked at: for UTC
pub record Listed (purpose : Purpose) (leaps : List ℤ) : Type 0 where
  pub right : purpose ≡ Utc → is_list_right leaps ≡ true
