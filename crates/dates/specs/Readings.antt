-- 'A reading is a two-part Julian date in days, two doubles; or seconds past J2000, one double; or
-- ticks.' 'A UTC reading is a Modified Julian Day and ticks within the day.'
use Rattle.scales.specs.Answers.{Read}
use Rattle.std.specs.Prelude.{Err, Ok, Bool, cond, not, List, ℕ, ℤ, Float}
use Rattle.std.specs.Float.Ieee.Scale.{finite}
use Rattle.scales.specs.declared.scale.Purpose.{Purpose}
use Rattle.scales.specs.declared.scale.Purpose.TheVariants as P
use Rattle.scales.specs.Tick.{is_valid}
use Rattle.utc.specs.Readings.{utc_read}
use Rattle.dates.specs.declared.reading.Date.{Date}
use Rattle.dates.specs.declared.reading.Reading.{Reading}
use Rattle.dates.specs.declared.reading.Reading.TheVariants.{TwoPart, SinceJ2000, Ticks, Utc}
use Rattle.dates.specs.Doubles.{beyond}
use Rattle.dates.specs.Ticks.{tick_of_date, tick_of_seconds}

-- '3: date part beyond 5,000,000 days either way, seconds beyond 10^10'
abbrev pub most_days : ℕ
most_days = 5000000

abbrev pub most_seconds : ℕ
most_seconds = 10000000000

-- a refusal by its number and the place told
abbrev pub refused_with : ℕ → ℕ → Read
refused_with number place = Err (record { number = number; place = place })

-- that refusal where the test holds, else what comes after it in the order
abbrev pub refused_if : Bool → ℕ → ℕ → Read → Read
refused_if test number place otherwise = cond test (refused_with number place) otherwise

-- '4: epoch outside the range at start', 'steps done': none
unfoldable pub in_range : ℤ → Read
in_range tick = refused_if (not (is_valid tick)) 4 0 (Ok tick)

-- '2 over both parts, 3 over both parts (the first part first in each), 4'
unfoldable pub read_of_parts : Float → Float → Read
read_of_parts first second =
    refused_if (not (finite first)) 2 0
    (refused_if (not (finite second)) 2 1
    (refused_if (beyond most_days first) 3 0
    (refused_if (beyond most_days second) 3 1
    (in_range (tick_of_date first second)))))

unfoldable pub read_of_seconds : Float → Read
read_of_seconds seconds =
    refused_if (not (finite seconds)) 2 0
    (refused_if (beyond most_seconds seconds) 3 0
    (in_range (tick_of_seconds seconds)))

-- a UTC reading goes by the lent list
unfoldable pub read_of : List ℤ → Reading → Read
read_of leaps (TwoPart first second) = read_of_parts first second
read_of leaps (SinceJ2000 seconds) = read_of_seconds seconds
read_of leaps (Ticks tick) = in_range tick
read_of leaps (Utc day ticks) = utc_read leaps day ticks

-- a date is read as its two parts
abbrev pub read_of_date : Date → Read
read_of_date date = read_of_parts date.first date.second

-- what the first code is read for: 'code 7 with another kind of reading, or this kind with another
-- code, is 1'
abbrev pub purpose_of : Reading → Purpose
purpose_of (TwoPart first second) = P.Reading
purpose_of (SinceJ2000 seconds) = P.Reading
purpose_of (Ticks tick) = P.Reading
purpose_of (Utc day ticks) = P.Utc
