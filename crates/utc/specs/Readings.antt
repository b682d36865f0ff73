-- A UTC reading as a TAI tick, and a TAI tick written as UTC: 'a Modified Julian Day and ticks
-- within the day'.
use Rattle.utc.specs.Answers.{UtcWritten}
use Rattle.scales.specs.Answers.{Read}
use Rattle.std.specs.Prelude.{Err, Ok, Bool, cond, List, ℕ, ℤ, pos, ◌+ℤ◌, ◌-ℤ◌}
use Rattle.std.specs.Int.Signed.{le_z}
use Rattle.numbers.specs.Rounding.{floor_div}
use Rattle.scales.specs.Tick.{is_valid}
use Rattle.utc.specs.declared.writing.Utc.{Utc}
use Rattle.utc.specs.Leaps.{entries, first_day, seconds, list_day}
use Rattle.utc.specs.Days.{last_of, day_ticks, is_reading, tai_by, tai_of, day_start}

-- ---- reading
-- a refusal's place is 0
abbrev pub utc_refused : ℕ → Read
utc_refused number = Err (record { number = number; place = 0 })

-- '5 a day .. before the list's first day, or ticks negative or at or past the day's end'; of a
-- right one '4: epoch outside the range'
unfoldable pub utc_read : List ℤ → ℤ → ℤ → Read
utc_read leaps day ticks =
    let tick = tai_of leaps day ticks in
    cond (is_reading leaps day ticks)
    (cond (is_valid tick) (Ok tick) (utc_refused 4))
    (utc_refused 5)

-- ---- writing
-- the TAI tick at which entry k begins
unfoldable pub entry_start : List ℤ → ℕ → ℤ
entry_start leaps k = tai_by (seconds leaps k) (first_day leaps k) (pos 0)

-- the entry in force at a tick: the last that has begun
unfoldable pub entry_at : List ℤ → ℤ → ℕ
entry_at leaps tick = last_of (λ k. le_z (entry_start leaps k) tick) (entries leaps)

-- the day after so many days of 86,400 s as have gone since that entry's first
unfoldable pub counted_day : List ℤ → ℤ → ℤ
counted_day leaps tick =
    let k = entry_at leaps tick in
    first_day leaps k +ℤ floor_div (tick -ℤ entry_start leaps k) day_ticks

-- a tick's day: that one; but where it has not begun, the tick is in the leap second of the day
-- before
unfoldable pub utc_day : List ℤ → ℤ → ℤ
utc_day leaps tick =
    let day = counted_day leaps tick in
    cond (le_z (day_start leaps day) tick) day (day -ℤ pos 1)

-- the ticks since the day began
unfoldable pub utc_ticks : List ℤ → ℤ → ℤ
utc_ticks leaps tick = tick -ℤ day_start leaps (utc_day leaps tick)

unfoldable pub utc_of : List ℤ → ℤ → Utc
utc_of leaps tick = record { day = utc_day leaps tick; ticks = utc_ticks leaps tick }

-- not 'a TAI tick to be written, before the list's first day'
unfoldable pub is_writable : List ℤ → ℤ → Bool
is_writable leaps tick = le_z (day_start leaps (pos list_day)) tick

-- or refusal 5
unfoldable pub utc_written : List ℤ → ℤ → UtcWritten
utc_written leaps tick =
    cond (is_writable leaps tick)
    (Ok (utc_of leaps tick))
    (Err (record { number = 5; place = 0 }))
