-- 'Any two splits that pass 2 and 3 and have the same exact sum', of request 2026-02.
use Rattle.std.specs.Prelude.{◌≡◌, true, false, pos, ◌*ℤ◌, ◌≤ℤ◌, Float}
use Rattle.std.specs.Float.Ieee.Scale.{finite}
use Rattle.dates.specs.Doubles.{beyond}
use Rattle.dates.specs.Ticks.{sum_numerator, sum_denominator}
use Rattle.dates.specs.Readings.{most_days}

-- 'splits that pass 2 and 3'
pub record Passes (first second : Float) : Type 0 where
  pub first_finite : finite first ≡ true
  pub second_finite : finite second ≡ true
  pub first_within : beyond most_days first ≡ false
  pub second_within : beyond most_days second ≡ false

-- 'the same exact sum': n / d and m / e are equal where e·n and d·m are
abbrev pub SameSum : Float → Float → Float → Float → Type 0
SameSum first second other last =
    pos (sum_denominator other last) *ℤ sum_numerator first second
    ≡ pos (sum_denominator first second) *ℤ sum_numerator other last

-- an exact sum that is not the greater
abbrev pub SumNotLater : Float → Float → Float → Float → Type 0
SumNotLater first second other last =
    (pos (sum_denominator other last) *ℤ sum_numerator first second)
    ≤ℤ (pos (sum_denominator first second) *ℤ sum_numerator other last)
