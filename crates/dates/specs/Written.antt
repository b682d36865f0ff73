-- 'Writing a tick as a date: the first part is the last Julian date ending in .5 not after it,
-- exact; the second is the ticks since then divided by 86,400,000,000,000 as one rounded double
-- division.'
use Rattle.dates.specs.Answers.{Written}
use Rattle.std.specs.Prelude.{Err, Ok, cond, ◌/◌, ℤ, pos, ◌+ℤ◌, ◌-ℤ◌, ◌*ℤ◌, Float}
use Rattle.std.specs.Float.{binary64}
use Rattle.std.specs.Float.Ieee.{of_int, div}
use Rattle.numbers.specs.Rounding.{floor_div}
use Rattle.scales.specs.Tick.{is_valid}
use Rattle.dates.specs.declared.reading.Date.{Date}
use Rattle.dates.specs.Ticks.{day_ticks, origin}

-- the ticks from JD 0.5 to a tick
unfoldable pub since_half : ℤ → ℤ
since_half tick = tick +ℤ pos origin -ℤ pos (day_ticks / 2)

-- 'the last Julian date ending in .5 not after it' is this whole number and a half
unfoldable pub day_of : ℤ → ℤ
day_of tick = floor_div (since_half tick) day_ticks

-- 'the ticks since then'
unfoldable pub since_day : ℤ → ℤ
since_day tick = since_half tick -ℤ pos day_ticks *ℤ day_of tick

-- n + 1/2 is (2n + 1) / 2. `first_exact` of proofs/ReadBack says that this division is exact
unfoldable pub first_part : ℤ → Float
first_part tick =
    div binary64 (of_int binary64 (pos 2 *ℤ day_of tick +ℤ pos 1)) (of_int binary64 (pos 2))

unfoldable pub second_part : ℤ → Float
second_part tick = div binary64 (of_int binary64 (since_day tick)) (of_int binary64 (pos day_ticks))

unfoldable pub date_of : ℤ → Date
date_of tick = record { first = first_part tick; second = second_part tick }

-- '4: epoch outside the range', place 0: 'Reading or writing a date counts no step.'
unfoldable pub written_of : ℤ → Written
written_of tick =
    cond (is_valid tick) (Ok (date_of tick)) (Err (record { number = 4; place = 0 }))
