-- What the list says of a day: its seconds, its length, and the TAI tick of a reading.
use Rattle.std.specs.Prelude.{◌≡◌, Bool, cond, ◌&&◌, List, ◌⊎◌, ℕ, zero, suc, ◌*◌, ◌^◌, ℤ, pos}
use Rattle.std.specs.Prelude.{◌+ℤ◌, ◌-ℤ◌, ◌*ℤ◌, ◌<ℤ◌}
use Rattle.std.specs.Int.Signed.{le_z, lt_z}
use Rattle.utc.specs.Leaps.{entries, first_day, seconds, list_day}

-- the last number below n of which p holds, 0 where there is none
unfoldable pub last_of : (ℕ → Bool) → ℕ → ℕ
last_of p zero = 0
last_of p (suc n) = cond (p n) n (last_of p n)

-- a day's entry: the last whose first day is not after it
unfoldable pub entry_on : List ℤ → ℤ → ℕ
entry_on leaps day = last_of (λ k. le_z (first_day leaps k) day) (entries leaps)

-- TAI−UTC on a day
unfoldable pub seconds_on : List ℤ → ℤ → ℤ
seconds_on leaps day = seconds leaps (entry_on leaps day)

-- ---- a day's length, in ticks
abbrev pub second_ticks : ℕ
second_ticks = 10 ^ 9

abbrev pub day_ticks : ℕ
day_ticks = 86400 * second_ticks

-- 'The day before a rise has 86,401 s, before a fall 86,399', and any other 86,400: by the seconds
-- of the day and of the next
unfoldable pub length_by : ℤ → ℤ → ℤ
length_by here next =
    cond (lt_z here next)
    (pos (86401 * second_ticks))
    (cond (lt_z next here) (pos (86399 * second_ticks)) (pos day_ticks))

unfoldable pub length_of : List ℤ → ℤ → ℤ
length_of leaps day = length_by (seconds_on leaps day) (seconds_on leaps (day +ℤ pos 1))

-- ---- a reading
-- a day not 'before the list's first day', and ticks not 'negative or at or past the day's end'
unfoldable pub is_reading : List ℤ → ℤ → ℤ → Bool
is_reading leaps day ticks =
    le_z (pos list_day) day && le_z (pos 0) ticks && lt_z ticks (length_of leaps day)

-- 'TAI tick = (day − 43144)·86,400·10^9 + ticks in day + seconds·10^9 − 32,184,000,000.'
unfoldable pub tai_by : ℤ → ℤ → ℤ → ℤ
tai_by seconds day ticks =
    (day -ℤ pos 43144) *ℤ pos day_ticks +ℤ ticks +ℤ seconds *ℤ pos second_ticks -ℤ pos 32184000000

-- by the day's seconds
unfoldable pub tai_of : List ℤ → ℤ → ℤ → ℤ
tai_of leaps day ticks = tai_by (seconds_on leaps day) day ticks

-- the TAI tick at which a day begins
unfoldable pub day_start : List ℤ → ℤ → ℤ
day_start leaps day = tai_of leaps day (pos 0)

-- 'Order in demand 3 reads, for UTC, as day first, then ticks'
abbrev pub EarlierUtc : ℤ → ℤ → ℤ → ℤ → Type 0
EarlierUtc day ticks otherDay otherTicks =
    (day <ℤ otherDay) ⊎ ((day ≡ otherDay) × (ticks <ℤ otherTicks))
