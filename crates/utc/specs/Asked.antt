-- What the inner functions ask of their callers, each by name, and the day with which writing
-- begins.
use Rattle.std.specs.Prelude.{◌≡◌, true, List, ℕ, ◌*◌, ◌≤◌, ℤ, pos, neg_ℤ, nat_abs, ◌+ℤ◌}
use Rattle.std.specs.Prelude.{◌<◌, ◌+◌, ◌-ℤ◌, ◌≤ℤ◌}
use Rattle.numbers.specs.Rounding.{floor_div}
use Rattle.scales.specs.Tick.{furthest, is_valid}
use Rattle.utc.specs.Leaps.{entries, seconds, is_list_right, list_day}
use Rattle.utc.specs.Days.{day_ticks, entry_on, second_ticks}

-- an entry that another follows, whose seconds are within 100 of 0
pub record Followed (leaps : List ℤ) (entry : ℕ) : Type 0 where
  pub next : entry + 1 < entries leaps
  pub near : nat_abs (seconds leaps entry) ≤ 100

-- a day not before the list's first, and its entry
pub record EntryOfDay (leaps : List ℤ) (day : ℤ) (entry : ℕ) : Type 0 where
  pub begun : pos list_day ≤ℤ day
  pub is : entry ≡ entry_on leaps day

-- seconds, a day and ticks of which the formula stays within 64 bits: 100 s, 100,000 days from
-- 43144 and two days of ticks, either way
pub record NearReading (seconds day ticks : ℤ) : Type 0 where
  pub few : nat_abs seconds ≤ 100
  pub near : nat_abs (day -ℤ pos 43144) ≤ 100000
  pub short : nat_abs ticks ≤ 2 * day_ticks

-- a day not before the list's first, that near
pub record NearListed (day : ℤ) : Type 0 where
  pub begun : pos list_day ≤ℤ day
  pub near : nat_abs (day -ℤ pos 43144) ≤ 100000

-- the TAI tick of day 41317, ticks 0
abbrev pub first_tick : ℤ
first_tick = neg_ℤ (pos 157852822184000000)

-- a valid tick not before it
pub record Writable (tick : ℤ) : Type 0 where
  pub begun : first_tick ≤ℤ tick
  pub valid : nat_abs tick ≤ furthest

-- the last day on which a tick can be: its day where TAI−UTC is −53 s, the least to which 64
-- entries come
unfoldable pub latest_day : ℤ → ℤ
latest_day tick = pos 43144 +ℤ floor_div (tick +ℤ pos (32184000000 + 53 * second_ticks)) day_ticks

-- a list that has been judged, and a tick within the range
pub record ToWrite (leaps : List ℤ) (tick : ℤ) : Type 0 where
  pub right : is_list_right leaps ≡ true
  pub valid : is_valid tick ≡ true
