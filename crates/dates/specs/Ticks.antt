-- From days and seconds to ticks.
use Rattle.std.specs.Prelude.{ℕ, ◌*◌, ◌/◌, ◌^◌, ℤ, pos, ◌+ℤ◌, ◌-ℤ◌, ◌*ℤ◌, Float}
use Rattle.numbers.specs.Rounding.{nearest}
use Rattle.dates.specs.Doubles.{numerator, denominator}

-- 'A tick is one nanosecond.' A day has 86,400 s
abbrev pub day_ticks : ℕ
day_ticks = 86400000000000

abbrev pub second_ticks : ℕ
second_ticks = 1000000000

-- a double of units of `per` ticks each, 'rounded to its nearest tick (halves to the greater)'
unfoldable pub ticks_rounded : ℕ → Float → ℤ
ticks_rounded per x = nearest (pos per *ℤ numerator x) (denominator x)

-- 'Julian date 2443144.5003725' in ticks, a whole number: it is 24431445003725 ten-millionths of a
-- day
abbrev pub origin : ℕ
origin = 24431445003725 * (day_ticks / 10 ^ 7)

-- 'J2000 is JD 2451545.0 in the reading's scale', in ticks past the origin
abbrev pub j2000 : ℤ
j2000 = pos (2451545 * day_ticks) -ℤ pos origin

-- 'the exact sum of both parts', of request 2026-02: a fraction, its denominators multiplied out
unfoldable pub sum_numerator : Float → Float → ℤ
sum_numerator first second =
    pos (denominator second) *ℤ numerator first +ℤ pos (denominator first) *ℤ numerator second

unfoldable pub sum_denominator : Float → Float → ℕ
sum_denominator first second = denominator first * denominator second

-- 'the exact sum of both parts is rounded once', halves to the greater: a function of that sum
-- alone, which is n / d days
unfoldable pub tick_of_sum : ℤ → ℕ → ℤ
tick_of_sum n d = nearest (pos day_ticks *ℤ n) d -ℤ pos origin

unfoldable pub tick_of_date : Float → Float → ℤ
tick_of_date first second = tick_of_sum (sum_numerator first second) (sum_denominator first second)

-- 'seconds are rounded once'
unfoldable pub tick_of_seconds : Float → ℤ
tick_of_seconds seconds = ticks_rounded second_ticks seconds +ℤ j2000
