-- `utc::reading::read` meets its contract: each test is one of the definition's, and a day more
-- than 100,000 after 43144 is out of the range. Assumes nothing.
use Rattle.std.specs.Prelude.{Ok}
use mathlib.Core.Path.{◌≡◌, sym, ◌∙◌, ap}
use mathlib.Core.Bool.{true, false, ◌&&◌}
use mathlib.Core.List.{List}
use Prim.Native.Nat.{◌≤◌}
use native.Mathlib.Omega.{arith}
use lib.IntN.{ℤ, pos, neg_ℤ, nat_abs, ◌-ℤ◌}
use lib.Signed.{◌≤ℤ◌, ◌<ℤ◌, le_z}
use Rattle.numbers.proofs.Differences.{rep, rep₃, lin}
use Rattle.numbers.proofs.Flags.{and_right}
use Rattle.numbers.proofs.Machine.{le_yes, lt_no, lt_yes, no_le, no_lt, read, read_is}
use Rattle.scales.specs.Tick.{furthest, is_valid}
use Rattle.utc.specs.Leaps.{list_day, seconds}
use Rattle.utc.specs.Days.{entry_on, is_reading, length_of, seconds_on, tai_by, tai_of}
use Rattle.utc.specs.Readings.{utc_refused, utc_read}
use Rattle.utc.proofs.Fitting.{le_no}
use Rattle.utc.proofs.Rules.{Moderate, moderate_size, right}
use Rattle.utc.proofs.Standing.{entry_at, seconds_moderate}
use Rattle.utc.proofs.Within.{Reading, is_reading_lem, reading_size}
use Rattle.utc.proofs.reading.read.Goals as goal
use Rattle.utc.proofs.reading.read.Goals.{After-entry_on-entry, After-length_by}
use Rattle.utc.proofs.reading.read.Goals.{After-seconds-seconds, After-tai_by-tick}
use Rattle.utc.proofs.reading.read.Goals.{Else-ticks-length_by, Else-ticks-lt0}
use Rattle.utc.proofs.reading.read.Goals.{
  Start,
  then-day-lt-FIRST_DAY-via-then-day-lt-FIRST_DAY,
  then-day-lt-FIRST_DAY-via-else-day-lt-FIRST_DAY+then-ticks-lt0,
}

-- a day beyond which every tick is out of the range, and up to which the formula is safe
beyond : (seconds day ticks : ℤ) → neg_ℤ (pos 53) ≤ℤ seconds → pos 0 ≤ℤ ticks → pos 143144 <ℤ day
    → pos furthest <ℤ tai_by seconds day ticks
unfolding tai_by
beyond = rep₃ _ (λ a b c d e f. simp lin (omega arith))

near : (day : ℤ) → pos list_day ≤ℤ day → day ≤ℤ pos 143144 → nat_abs (day -ℤ pos 43144) ≤ 100000
near = rep _ (λ a b. simp lin (omega arith))

-- the tests
module _ (leaps : List ℤ) (day ticks : ℤ) where
  no_reading : is_reading leaps day ticks ≡ false → utc_refused 5 ≡ utc_read leaps day ticks
  unfolding utc_read
  no_reading e = rw e

  early : day <ℤ pos list_day → is_reading leaps day ticks ≡ false
  unfolding is_reading
  early h = let no = no_le (pos list_day) day h in rw no

  negative : ticks <ℤ pos 0 → is_reading leaps day ticks ≡ false
  unfolding is_reading
  negative h =
      let no : le_z (pos list_day) day && le_z (pos 0) ticks ≡ false = and_right (le_z (pos list_day) day) (no_le (pos 0) ticks h) in rw no

  over : length_of leaps day ≤ℤ ticks → is_reading leaps day ticks ≡ false
  unfolding is_reading
  over h = and_right (le_z (pos list_day) day && le_z (pos 0) ticks) (no_lt ticks (length_of leaps day) h)

  module _ (h : Reading leaps day ticks) where
    far : Moderate (seconds_on leaps day) → pos 143144 <ℤ day → utc_refused 4 ≡ utc_read leaps day ticks
    unfolding utc_read is_valid tai_of
    far m l =
        let yes = is_reading_lem h in
        let t = tai_by (seconds_on leaps day) day ticks in
        let past = beyond (seconds_on leaps day) day ticks m.low h.low l in
        let no : is_valid t ≡ false = and_right (le_z (neg_ℤ (pos furthest)) t) (no_le t (pos furthest) past) in
        rw (yes, no)

    ranged : is_valid (tai_of leaps day ticks) ≡ true → Ok (tai_of leaps day ticks) ≡ utc_read leaps day ticks
    unfolding utc_read
    ranged v = let yes = is_reading_lem h in rw (yes, v)

    unranged : is_valid (tai_of leaps day ticks) ≡ false → utc_refused 4 ≡ utc_read leaps day ticks
    unfolding utc_read
    unranged v = let yes = is_reading_lem h in rw (yes, v)

-- what the code has at hand
day_is : (c : Start) → read c.args.day ≡ c.args.day
day_is c = read_is c.args.day c.ranges.day

ticks_is : (c : Start) → read c.args.ticks ≡ c.args.ticks
ticks_is c = read_is c.args.ticks c.ranges.ticks

begun : (c : Else-ticks-lt0) → pos list_day ≤ℤ c.args.day
begun c = lt_no _ _ (rw (day_is (goal.at.Else-ticks-lt0 c).Start) at c.if-day-lt-FIRST_DAY.false)

not_negative : (c : Else-ticks-lt0) → pos 0 ≤ℤ c.args.ticks
not_negative c = lt_no _ _ (rw (ticks_is (goal.at.Else-ticks-lt0 c).Start) at c.if-ticks-lt0.false)

entry_is : (c : After-entry_on-entry) → c.entry_on-entry.result ≡ entry_on c.args.leaps.now c.args.day
entry_is c = rw (day_is (goal.at.After-entry_on-entry c).Start) at c.entry_on-entry.ensures

seconds_is : (c : After-seconds-seconds) → read c.seconds-seconds.result ≡ seconds_on c.args.leaps.now c.args.day
unfolding seconds_on
seconds_is c =
    read_is _ (record { sfits = c.seconds-seconds.type_inv }) ∙ c.seconds-seconds.ensures
    ∙ ap (seconds c.args.leaps.now) (entry_is (goal.at.After-seconds-seconds c).After-entry_on-entry)

length_is : (c : After-length_by) → read c.length_by.result ≡ length_of c.args.leaps.now c.args.day
unfolding length_of
length_is c =
    let after = read_is _ (record { sfits = c.seconds_after.type_inv }) ∙ c.seconds_after.ensures in
    read_is _ (record { sfits = c.length_by.type_inv })
    ∙ (rw (seconds_is (goal.at.After-length_by c).After-seconds-seconds, after, day_is (goal.at.After-length_by c).Start) at c.length_by.ensures)

pub returns-then-day-lt-FIRST_DAY : goal.returns-then-day-lt-FIRST_DAY
returns-then-day-lt-FIRST_DAY c =
    let start = (goal.at.returns-then-day-lt-FIRST_DAY c).Start in
    c.no_tick.ensures
    ∙ no_reading c.args.leaps.now c.args.day c.args.ticks
    (elim c.then-day-lt-FIRST_DAY.branch [
      | then-day-lt-FIRST_DAY-via-then-day-lt-FIRST_DAY w ↦
          early c.args.leaps.now c.args.day c.args.ticks (lt_yes _ _ (rw (day_is start) at w.if-day-lt-FIRST_DAY.true))
      | then-day-lt-FIRST_DAY-via-else-day-lt-FIRST_DAY+then-ticks-lt0 w ↦
          negative c.args.leaps.now c.args.day c.args.ticks (lt_yes _ _ (rw (ticks_is start) at w.if-ticks-lt0.true))
    ])

pub entry_on-entry-requires : goal.entry_on-entry-requires
entry_on-entry-requires c = rw (day_is (goal.at.entry_on-entry-requires c).Start) (begun (goal.at.entry_on-entry-requires c).Else-ticks-lt0)

pub seconds-seconds-requires : goal.seconds-seconds-requires
seconds-seconds-requires c =
    rw (entry_is (goal.at.seconds-seconds-requires c).After-entry_on-entry)
    (entry_at (right _ c.requires) _ (begun (goal.at.seconds-seconds-requires c).Else-ticks-lt0)).within

pub seconds_after-requires : goal.seconds_after-requires
seconds_after-requires c =
    rw (day_is (goal.at.seconds_after-requires c).Start)
    (record { begun = begun (goal.at.seconds_after-requires c).Else-ticks-lt0; is = entry_is (goal.at.seconds_after-requires c).After-entry_on-entry })

pub returns-then-ticks-length_by : goal.returns-then-ticks-length_by
returns-then-ticks-length_by c =
    c.no_tick-then-ticks-length_by.ensures
    ∙ no_reading c.args.leaps.now c.args.day c.args.ticks
    (over c.args.leaps.now c.args.day c.args.ticks
    (le_yes _ _ (rw (length_is (goal.at.returns-then-ticks-length_by c).After-length_by, ticks_is (goal.at.returns-then-ticks-length_by c).Start)
    at c.if-ticks-length_by.true)))

-- a right reading
right_one : (c : Else-ticks-length_by) → Reading c.args.leaps.now c.args.day c.args.ticks
right_one c =
    record {
      begun = begun (goal.at.Else-ticks-length_by c).Else-ticks-lt0;
      low = not_negative (goal.at.Else-ticks-length_by c).Else-ticks-lt0;
      high = le_no _ _
          (rw (length_is (goal.at.Else-ticks-length_by c).After-length_by, ticks_is (goal.at.Else-ticks-length_by c).Start) at c.if-ticks-length_by.false);
    }

on_day : (c : Else-ticks-length_by) → Moderate (seconds_on c.args.leaps.now c.args.day)
on_day c =
    seconds_moderate (right _ c.requires) _ (begun (goal.at.Else-ticks-length_by c).Else-ticks-lt0)

pub returns-then-day-gt-LAST_DAY : goal.returns-then-day-gt-LAST_DAY
returns-then-day-gt-LAST_DAY c =
    c.no_tick-then-day-gt-LAST_DAY.ensures
    ∙ far c.args.leaps.now c.args.day c.args.ticks (right_one (goal.at.returns-then-day-gt-LAST_DAY c).Else-ticks-length_by)
    (on_day (goal.at.returns-then-day-gt-LAST_DAY c).Else-ticks-length_by)
    (lt_yes _ _ (rw (day_is (goal.at.returns-then-day-gt-LAST_DAY c).Start) at c.if-day-gt-LAST_DAY.true))

pub tai_by-tick-requires : goal.tai_by-tick-requires
tai_by-tick-requires c =
    let h = right_one (goal.at.tai_by-tick-requires c).Else-ticks-length_by in
    rw (
      seconds_is (goal.at.tai_by-tick-requires c).After-seconds-seconds,
      day_is (goal.at.tai_by-tick-requires c).Start,
      ticks_is (goal.at.tai_by-tick-requires c).Start,
    )
    (record {
      few = moderate_size (on_day (goal.at.tai_by-tick-requires c).Else-ticks-length_by);
      near = near c.args.day h.begun (lt_no _ _ (rw (day_is (goal.at.tai_by-tick-requires c).Start) at c.if-day-gt-LAST_DAY.false));
      short = reading_size h;
    })

tick_is : (c : After-tai_by-tick)
    → read c.tai_by-tick.result ≡ tai_of c.args.leaps.now c.args.day c.args.ticks
unfolding tai_of
tick_is c =
    read_is _ (record { sfits = c.tai_by-tick.type_inv })
    ∙ (rw (
      seconds_is (goal.at.After-tai_by-tick c).After-seconds-seconds,
      day_is (goal.at.After-tai_by-tick c).Start,
      ticks_is (goal.at.After-tai_by-tick c).Start,
    )
    at c.tai_by-tick.ensures)

pub returns-then-valid : goal.returns-then-valid
returns-then-valid c =
    rw (tick_is c.before.before)
    (ranged c.args.leaps.now c.args.day c.args.ticks (right_one (goal.at.returns-then-valid c).Else-ticks-length_by)
    ((rw (tick_is c.before.before) at (sym c.valid.ensures)) ∙ c.if-valid.true))

pub returns : goal.returns
returns c =
    c.no_tick-2.ensures
    ∙ unranged c.args.leaps.now c.args.day c.args.ticks (right_one (goal.at.returns c).Else-ticks-length_by)
    ((rw (tick_is c.before.before.before) at (sym c.valid.ensures)) ∙ c.if-valid.false)
