-- `utc::writing::write` meets its contract: what it answers is the day within which the tick is.
-- Assumes nothing.
use mathlib.Core.Path.{◌≡◌, sym, ◌∙◌}
use mathlib.Core.Bool.{true}
use mathlib.Core.List.{List}
use Prim.Native.Nat.{◌≤◌}
use native.Mathlib.Omega.{arith}
use Rattle.std.proofs.lemmas.Int.{ints}
use lib.Dec.{lit<}
use lib.IntN.{ℤ, pos, nat_abs, ◌-ℤ◌}
use lib.Signed.{◌≤ℤ◌, ◌<ℤ◌}
use mir.Syntax.{w64}
use mir.Val.{SFits}
use Rattle.numbers.proofs.Differences.{rep, lin}
use Rattle.numbers.proofs.Machine.{fits_small, le_yes, read, read_is}
use Rattle.scales.proofs.Range.{valid_size}
use Rattle.scales.specs.Tick.{is_valid}
use Rattle.utc.specs.Leaps.{is_list_right}
use Rattle.utc.specs.Days.{day_start}
use Rattle.utc.specs.Asked.{NearListed, Writable, first_tick, latest_day}
use Rattle.utc.proofs.Counted.{within_written}
use Rattle.utc.proofs.Fitting.{le_no}
use Rattle.utc.proofs.Latest.{before_near, before_within, latest_near, latest_within}
use Rattle.utc.proofs.Within.{Within, reading_size, within_reading}
use Rattle.utc.proofs.writing.write.Goals as goal
use Rattle.utc.proofs.writing.write.Goals.{After-day_start-start, After-day_start-start-2}
use Rattle.utc.proofs.writing.write.Goals.{After-latest_day-day, Else-start-tick, Start}
use Rattle.utc.proofs.writing.write.Goals.{Then-start-tick}

ticks_fit : (leaps : List ℤ) (tick day : ℤ) → is_list_right leaps ≡ true → Within leaps tick day
    → SFits w64 (tick -ℤ day_start leaps day)
ticks_fit leaps tick day e w = fits_small _ _ (reading_size (within_reading leaps e tick day w)) (lit< tt)

tick_is : (c : Start) → read c.args.tick ≡ c.args.tick
tick_is c = read_is c.args.tick c.ranges.tick

writable : (tick : ℤ) → is_valid tick ≡ true → first_tick ≤ℤ tick → Writable tick
writable tick valid begun = record { begun = begun; valid = valid_size tick valid }

pub latest_day-day-requires : goal.latest_day-day-requires
latest_day-day-requires c =
    rw (tick_is (goal.at.latest_day-day-requires c).Start)
    (writable c.args.tick c.requires.valid (grind (arith, ints)))

day_is : (c : After-latest_day-day) → read c.latest_day-day.result ≡ latest_day c.args.tick
day_is c = read_is _ (record { sfits = c.latest_day-day.type_inv }) ∙ (rw (tick_is (goal.at.After-latest_day-day c).Start) at c.latest_day-day.ensures)

pub day_start-start-requires : goal.day_start-start-requires
day_start-start-requires c =
    rw (day_is (goal.at.day_start-start-requires c).After-latest_day-day)
    (latest_near c.args.leaps.now c.requires.right c.args.tick (writable c.args.tick c.requires.valid (grind (arith, ints))))

start_is : (c : After-day_start-start) → read c.day_start-start.result
    ≡ day_start c.args.leaps.now (latest_day c.args.tick)
start_is c =
    read_is _ (record { sfits = c.day_start-start.type_inv })
    ∙ (rw (day_is (goal.at.After-day_start-start c).After-latest_day-day) at c.day_start-start.ensures)

-- the latest day has begun
here : (c : Then-start-tick) → Within c.args.leaps.now c.args.tick (latest_day c.args.tick)
here c =
    latest_within c.args.leaps.now c.requires.right c.args.tick (writable c.args.tick c.requires.valid (grind (arith, ints)))
    (le_yes _ _ (rw (start_is (goal.at.Then-start-tick c).After-day_start-start, tick_is (goal.at.Then-start-tick c).Start) at c.if-start-tick.true))

here_fits : (c : Then-start-tick) → SFits w64 (c.args.tick -ℤ day_start c.args.leaps.now (latest_day c.args.tick))
here_fits c = ticks_fit c.args.leaps.now c.args.tick _ c.requires.right (here c)

pub overflow_sub-result : goal.overflow_sub-result
overflow_sub-result c = rw (tick_is (goal.at.overflow_sub-result c).Start, start_is (goal.at.overflow_sub-result c).After-day_start-start) (here_fits c)

pub returns-then-start-tick : goal.returns-then-start-tick
returns-then-start-tick c =
    rw (
      day_is (goal.at.returns-then-start-tick c).After-latest_day-day,
      tick_is (goal.at.returns-then-start-tick c).Start,
      start_is (goal.at.returns-then-start-tick c).After-day_start-start,
      read_is
          _ (here_fits c),
    )
    (sym (within_written c.args.leaps.now c.requires.right c.args.tick _ (here c)))

-- it has not
not_begun : (c : Else-start-tick) → c.args.tick <ℤ day_start c.args.leaps.now (latest_day c.args.tick)
not_begun c = le_no _ _ (rw (start_is (goal.at.Else-start-tick c).After-day_start-start, tick_is (goal.at.Else-start-tick c).Start) at c.if-start-tick.false)

day_size : (day : ℤ) → nat_abs (day -ℤ pos 43144) ≤ 100000 → nat_abs day ≤ 200000
day_size = rep _ (λ a b. simp lin (omega arith))

nearby : (c : Else-start-tick) → NearListed (latest_day c.args.tick -ℤ pos 1)
nearby c =
    before_near c.args.leaps.now c.requires.right c.args.tick (writable c.args.tick c.requires.valid (grind (arith, ints))) (not_begun c)

day_fits : (c : Else-start-tick) → SFits w64 (latest_day c.args.tick -ℤ pos 1)
day_fits c =
    let day = latest_day c.args.tick -ℤ pos 1 in
    fits_small day 200000 (day_size day (nearby c).near) (lit< tt)

pub overflow_sub-before : goal.overflow_sub-before
overflow_sub-before c = rw (day_is (goal.at.overflow_sub-before c).After-latest_day-day) (day_fits c)

pub day_start-start-requires-2 : goal.day_start-start-requires-2
day_start-start-requires-2 c =
    let other = (goal.at.day_start-start-requires-2 c).Else-start-tick in
    rw (day_is (goal.at.day_start-start-requires-2 c).After-latest_day-day, read_is _ (day_fits other)) (nearby other)

start_is_2 : (c : After-day_start-start-2) → read c.day_start-start-2.result
    ≡ day_start c.args.leaps.now (latest_day c.args.tick -ℤ pos 1)
start_is_2 c =
    read_is _ (record { sfits = c.day_start-start-2.type_inv })
    ∙ (rw (day_is (goal.at.After-day_start-start-2 c).After-latest_day-day, read_is _ (day_fits (goal.at.After-day_start-start-2 c).Else-start-tick))
    at c.day_start-start-2.ensures)

there : (c : Else-start-tick) → Within c.args.leaps.now c.args.tick (latest_day c.args.tick -ℤ pos 1)
there c =
    before_within c.args.leaps.now c.requires.right c.args.tick (writable c.args.tick c.requires.valid (grind (arith, ints))) (not_begun c)

there_fits : (c : Else-start-tick)
    → SFits w64 (c.args.tick -ℤ day_start c.args.leaps.now (latest_day c.args.tick -ℤ pos 1))
there_fits c = ticks_fit c.args.leaps.now c.args.tick _ c.requires.right (there c)

pub overflow_sub-result-2 : goal.overflow_sub-result-2
overflow_sub-result-2 c = rw (tick_is (goal.at.overflow_sub-result-2 c).Start, start_is_2 c) (there_fits (goal.at.overflow_sub-result-2 c).Else-start-tick)

pub returns : goal.returns
returns c =
    let other = (goal.at.returns c).Else-start-tick in
    rw (
      day_is (goal.at.returns c).After-latest_day-day,
      read_is _ (day_fits other),
      tick_is (goal.at.returns c).Start,
      start_is_2 c,
      read_is _ (there_fits other),
    )
    (sym (within_written c.args.leaps.now c.requires.right c.args.tick _ (there other)))
