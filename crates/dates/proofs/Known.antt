-- 01's known values of dates that are not marked P, and the edges of its rules, computed over the
-- definitions. P12 and P13 stand in `promises`. `fin negative m e` is the double ±m·2^e. Assumes
-- nothing.
use mathlib.Core.Path.{◌≡◌, refl}
use mathlib.Core.Bool.{Bool, true, false}
use lib.IntN.{pos, negsuc, neg_ℤ}
use lib.Ieee.{Float, nan, inf, fin, of_int, div}
use lib.Ieee.Scale.{finite}
use Rattle.numbers.specs.Rounding.{nearest, floor_div}
use Rattle.scales.specs.Tick.{is_valid}
use Rattle.dates.specs.Doubles.{numerator, denominator, beyond}
use Rattle.dates.specs.Ticks.{sum_denominator, sum_numerator, tick_of_date, tick_of_seconds}
use Rattle.dates.specs.Ticks.{tick_of_sum, ticks_rounded}
use Rattle.dates.specs.Readings.{in_range, read_of_parts, read_of_seconds}
use Rattle.dates.specs.Written.{since_half, day_of, first_part, date_of, written_of}
use Rattle.scales.specs.Answers.{Accepts, Refuses, read_number, read_place, read_tick}
use Rattle.dates.specs.Answers.{written_first, written_number, written_place}

-- 2443144.5, 2443143.5, 5000000.0 and -2556855.5
abbrev d2443144_5 : Float
d2443144_5 = fin false 4886289 (negsuc 0)

abbrev d2443143_5 : Float
d2443143_5 = fin false 4886287 (negsuc 0)

-- 2443145 + 3·2^-17
abbrev half : Float
half = fin false 320227901443 (negsuc 16)

abbrev d5000000 : Float
d5000000 = fin false 78125 (pos 6)

abbrev minus2556855_5 : Float
minus2556855_5 = fin true 5113711 (negsuc 0)

pub record KnownDates : Type 0 where
  -- '(5000000, -2556855.5) equals P12'
  pub split : Accepts (read_of_parts d5000000 minus2556855_5) (neg_ℤ (pos 32184000000))
  -- 'NaN in either part is 2', with its place
  pub nan_first : (second : Float) → Refuses (read_of_parts nan second) 2 0
  pub nan_second : (first : Float) → finite first ≡ true → Refuses (read_of_parts first nan) 2 1

pub known_dates : KnownDates
unfolding read_of_parts read_of_seconds in_range is_valid tick_of_date tick_of_sum sum_numerator sum_denominator nearest floor_div numerator denominator beyond
    read_number read_place read_tick
known_dates = record { split = (refl, refl); nan_first = λ second. (refl, refl); nan_second = λ first h. rw h (refl, refl) }

-- ---- the edges of the rules. The double after 5000000.0 is 2^-30 more, the one after 10^10 is
-- 2^-19 more
abbrev past5000000 : Float
past5000000 = fin false 5368709120000001 (negsuc 29)

abbrev ten_to_the_ten : Float
ten_to_the_ten = fin false 9765625 (pos 10)

abbrev past_ten_to_the_ten : Float
past_ten_to_the_ten = fin false 5242880000000001 (negsuc 18)

pub record Edges : Type 0 where
  -- 'beyond' is strict: 5,000,000 days pass, above, and the next double is 3, in either part
  pub days_first : Refuses (read_of_parts past5000000 minus2556855_5) 3 0
  pub days_second : Refuses (read_of_parts minus2556855_5 past5000000) 3 1
  -- 10^10 s pass 3, and 10^19 ticks do not fit 64 bits: 4. The next double is 3
  pub seconds : Refuses (read_of_seconds ten_to_the_ten) 4 0
  pub seconds_past : Refuses (read_of_seconds past_ten_to_the_ten) 3 0
  -- '2 over both parts' comes first
  pub nan_past : Refuses (read_of_parts past5000000 nan) 2 1
  pub infinite : (negative : Bool) → Refuses (read_of_seconds (inf negative)) 2 0
  -- -0.0 is zero
  pub minus_zero : Accepts (read_of_seconds (fin true 0 (pos 0))) (pos 725803167816000000)
  -- 2^-10 s are 976562.5 ticks: 'halves to the greater', before J2000 too
  pub half_after : Accepts (read_of_seconds (fin false 1 (negsuc 9))) (pos 725803167816976563)
  pub half_before : Accepts (read_of_seconds (fin true 1 (negsuc 9))) (pos 725803167815023438)
  -- the smallest double is nothing
  pub smallest : Accepts (read_of_seconds (fin true 1 (negsuc 1073))) (pos 725803167816000000)
  -- the midnight before the origin is a date's first part, and a tick earlier the midnight before:
  -- the day is rounded down
  pub midnight : written_first (written_of (neg_ℤ (pos 32184000000))) ≡ d2443144_5
  pub midnight_before : written_first (written_of (neg_ℤ (pos 32184000001))) ≡ d2443143_5
  -- a tick outside the range is not written
  pub outside : (written_number (written_of (pos 6000000000000000001)) ≡ 4)
      × (written_place (written_of (pos 6000000000000000001)) ≡ 0)

pub edges : Edges
unfolding read_of_parts read_of_seconds in_range is_valid tick_of_seconds ticks_rounded nearest floor_div numerator denominator beyond read_number
    read_place read_tick
    written_of date_of first_part day_of since_half of_int div written_first written_number written_place
edges = record {
  days_first = (refl, refl);
  days_second = (refl, refl);
  seconds = (refl, refl);
  seconds_past = (refl, refl);
  nan_past = (refl, refl);
  infinite = λ negative. (refl, refl);
  minus_zero = (refl, refl);
  half_after = (refl, refl);
  half_before = (refl, refl);
  smallest = (refl, refl);
  midnight = refl;
  midnight_before = refl;
  outside = (refl, refl);
}

-- ---- 'The same date split two ways': noon, JD 2443145, and 3·2^-17 of a day, which are
-- 1977539062.5 ticks. 01 rounded each part by itself, and the first split was a tick less
pub record KnownSplits : Type 0 where
  -- 2443145 + 3·2^-18 and 3·2^-18, and midnight, 2443144.5, and 1/2 + 3·2^-17
  pub noon : Accepts (read_of_parts (fin false 640455802883 (negsuc 17)) (fin false 3 (negsuc 17))) (pos 43169793539063)
  pub midnight : Accepts (read_of_parts d2443144_5 (fin false 65539 (negsuc 16))) (pos 43169793539063)
  -- the half by itself goes to the greater, beside 0.0 and −0.0 and the smallest double
  pub zero : (negative : Bool) → Accepts (read_of_parts half (fin negative 0 (pos 0))) (pos 43169793539063)
  pub more : Accepts (read_of_parts half (fin false 1 (negsuc 1073))) (pos 43169793539063)
  -- 'A part may be far smaller than a tick and still decide a half': the smallest double taken off,
  -- in either order
  pub less : Accepts (read_of_parts half (fin true 1 (negsuc 1073))) (pos 43169793539062)
  pub less_first : Accepts (read_of_parts (fin true 1 (negsuc 1073)) half) (pos 43169793539062)

pub known_splits : KnownSplits
unfolding read_of_parts in_range is_valid tick_of_date tick_of_sum sum_numerator sum_denominator nearest floor_div numerator denominator beyond read_number
    read_tick
known_splits = record {
  noon = (refl, refl);
  midnight = (refl, refl);
  zero = λ negative. by negative;
  more = (refl, refl);
  less = (refl, refl);
  less_first = (refl, refl);
}
  where
    by : (negative : Bool) → Accepts (read_of_parts half (fin negative 0 (pos 0))) (pos 43169793539063)
    by true = (refl, refl)
    by false = (refl, refl)
