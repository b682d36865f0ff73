-- The day that the definition writes for a tick is the day within which it is. Counted from the
-- first day of the entry in force it is the day itself, or, in a leap second, the next entry's
-- first day, which has not begun. Assumes nothing.
use Rattle.std.specs.Prelude.{Err, Ok}
use mathlib.Core.Path.{◌≡◌, refl, sym, ◌∙◌, ap}
use mathlib.Core.Bool.{true, cond}
use mathlib.Core.List.{List}
use mathlib.Core.Logic.{⊎_elim}
use Prim.Native.Nat.{ℕ, zero, suc, ◌≤◌, ◌<◌}
use native.Mathlib.Omega.{arith}
use lib.Dec.{lit<}
use lib.IntN.{ℤ, pos, neg_ℤ, ◌+ℤ◌, ◌-ℤ◌, ◌*ℤ◌}
use lib.Signed.{◌≤ℤ◌, ◌<ℤ◌, le_z, lt_z, ≤ℤ_refl}
use mir.Syntax.{w64}
use mir.Val.{SFits, of_z, to_z}
use Rattle.numbers.specs.Signs.{gap}
use Rattle.numbers.specs.Rounding.{floor_div}
use Rattle.numbers.proofs.Differences.{rep₂, rep₃, rep₄, lin}
use Rattle.numbers.proofs.Machine.{le_yes, lt_yes, yes_le, no_le, read_is}
use Rattle.numbers.proofs.Order.{le_or_lt, ≤-antisym, ≤_trans, ≤-total}
use Rattle.numbers.proofs.Rounding.{Floored, floored}
use Rattle.utc.specs.Leaps.{entries, first_day, seconds, is_list_right, list_day}
use Rattle.utc.specs.Days.{day_ticks, seconds_on, day_start, tai_by, tai_of}
use Rattle.utc.specs.Readings.{counted_day, utc_day, entry_at, entry_start, is_writable, utc_ticks}
use Rattle.utc.specs.Readings.{utc_of, utc_written}
use Rattle.utc.proofs.Beside.{and_on, before, under, weak}
use Rattle.utc.proofs.Fitting.{le_no}
use Rattle.utc.proofs.Last.{Last, last_last}
use Rattle.utc.proofs.Rules.{Right, right, days_rise}
use Rattle.utc.proofs.Standing.{Stands, Turns, next_day, seconds_at, seconds_moderate}
use Rattle.utc.proofs.Within.{Within, one_day}

-- ---- days of 86,400 s gone since the first day of an entry, whose seconds are held
not_before : (held first gone tick : ℤ) → (pos day_ticks *ℤ gone) ≤ℤ (tick -ℤ tai_by held first (pos 0))
    → tai_by held (first +ℤ gone) (pos 0) ≤ℤ tick
unfolding tai_by
not_before = rep₄ _ (λ a b c d e f g h. simp lin (omega arith))

not_after : (held first gone tick : ℤ) → (tick -ℤ tai_by held first (pos 0)) <ℤ (pos day_ticks *ℤ gone +ℤ pos day_ticks)
    → tick <ℤ tai_by held (first +ℤ gone +ℤ pos 1) (pos 0)
unfolding tai_by
not_after = rep₄ _ (λ a b c d e f g h. simp lin (omega arith))

-- no day before the entry's
on : (first gone x tick : ℤ) → x ≤ℤ tick → (tick -ℤ x) <ℤ (pos day_ticks *ℤ gone +ℤ pos day_ticks)
    → first ≤ℤ (first +ℤ gone)
on = rep₄ _ (λ a b c d e f g h. simp lin (omega arith))

-- nor any after the next entry's first, where that has not begun
no_further : (held first gone tick next begins : ℤ) → gap held next ≤ 1
    → (pos day_ticks *ℤ gone) ≤ℤ (tick -ℤ tai_by held first (pos 0))
    → tick <ℤ tai_by next begins (pos 0) → (first +ℤ gone) ≤ℤ begins
unfolding tai_by
no_further = rep₄ _ (λ a b c d e f g h. rep₂ _ (λ i j k l. simp lin (omega arith)))

before_starts : (held counted tick : ℤ) → tai_by held counted (pos 0) ≤ℤ tick
    → tai_by held (counted -ℤ pos 1) (pos 0) ≤ℤ tick
unfolding tai_by
before_starts = rep₃ _ (λ a b c d e f. simp lin (omega arith))

module _ (leaps : List ℤ) (e : is_list_right leaps ≡ true) where
  r : Right leaps
  r = right leaps e

  start_by : (day : ℤ) → day_start leaps day ≡ tai_by (seconds_on leaps day) day (pos 0)
  unfolding day_start tai_of
  start_by day = refl

  -- a day begins by the seconds of its entry
  pub start_at : (day : ℤ) (k : ℕ) → Stands leaps day k → day_start leaps day ≡ tai_by (seconds leaps k) day (pos 0)
  unfolding day_start tai_of
  start_at day k a = ap (λ (s : ℤ). tai_by s day (pos 0)) (seconds_at r day k a)

  pub first_at : Stands leaps (pos list_day) 0
  first_at = record {
    within = r.some;
    begun = rw r.day (≤ℤ_refl (pos list_day));
    next = λ h. rw r.day at (r.rises 0 h);
  }

  first_start : entry_start leaps 0 ≡ day_start leaps (pos list_day)
  unfolding entry_start
  first_start = rw r.day (sym (start_at (pos list_day) 0 first_at))

  -- 'the TAI tick of day 41317, ticks 0'
  pub first_tick_lem : day_start leaps (pos list_day) ≡ neg_ℤ (pos 157852822184000000)
  unfolding tai_by
  first_tick_lem = start_at (pos list_day) 0 first_at ∙ rw r.first

  no_earlier : (k : ℕ) → k < entries leaps → pos list_day ≤ℤ first_day leaps k
  no_earlier k h = rw (← r.day) (from k h)
    where
      from : (k : ℕ) → k < entries leaps → first_day leaps 0 ≤ℤ first_day leaps k
      from zero h = ≤ℤ_refl (first_day leaps 0)
      from (suc k) h = weak (first_day leaps 0) (first_day leaps (suc k)) (days_rise r 0 (suc k) (omega arith) h)

  -- the entry in force at a tick, and the days of 86,400 s since its first
  module _ (tick : ℤ) (k : ℕ) (force : Last (λ k. le_z (entry_start leaps k) tick) (entries leaps) k) where
    abbrev held : ℤ
    held = seconds leaps k

    abbrev first : ℤ
    first = first_day leaps k

    abbrev gone : ℤ
    gone = floor_div (tick -ℤ entry_start leaps k) day_ticks

    abbrev counted : ℤ
    counted = first +ℤ gone

    counts : Floored (tick -ℤ tai_by held first (pos 0)) day_ticks gone
    unfolding entry_start
    counts = floored (tick -ℤ tai_by held first (pos 0)) day_ticks (lit< tt)

    started : tai_by held first (pos 0) ≤ℤ tick
    unfolding entry_start
    started = le_yes _ _ force.holds

    not_begun : suc k < entries leaps → tick <ℤ tai_by (seconds leaps (suc k)) (first_day leaps (suc k)) (pos 0)
    unfolding entry_start
    not_begun h = le_no _ _ (force.after (suc k) (omega arith) h)

    first_listed : pos list_day ≤ℤ first
    first_listed = no_earlier k force.within

    counted_on : first ≤ℤ counted
    counted_on = on first gone (tai_by held first (pos 0)) tick started counts.above

    counted_starts : tai_by held counted (pos 0) ≤ℤ tick
    counted_starts = not_before held first gone tick counts.under

    -- where the next entry's first day is not reached
    module _ (a : Stands leaps counted k) where
      here_from : day_start leaps counted ≤ℤ tick
      here_from = rw (start_at counted k a) counted_starts

      here_until : tick <ℤ day_start leaps (counted +ℤ pos 1)
      here_until = ⊎_elim stays turns (next_day r counted k a)
        where
          stays : Stands leaps (counted +ℤ pos 1) k → tick <ℤ day_start leaps (counted +ℤ pos 1)
          stays b = rw (start_at (counted +ℤ pos 1) k b) (not_after held first gone tick counts.above)

          turns : Turns leaps counted k → tick <ℤ day_start leaps (counted +ℤ pos 1)
          turns tick = rw (start_at (counted +ℤ pos 1) (suc k) tick.at, ← tick.first) (not_begun tick.at.within)

      here : Within leaps tick counted
      here = record { begun = ≤_trans (pos list_day) first counted first_listed counted_on; from = here_from; until = here_until }

    -- where it is
    module _ (more : suc k < entries leaps) (past : first_day leaps (suc k) ≤ℤ counted) where
      is_first : counted ≡ first_day leaps (suc k)
      is_first =
          ≤-antisym counted (first_day leaps (suc k))
          (no_further held first gone tick (seconds leaps (suc k)) (first_day leaps (suc k)) (omega (arith, r.changes k more)) counts.under (not_begun more))
          past

      first_on : Stands leaps counted (suc k)
      first_on = rw is_first (record { within = more; begun = ≤ℤ_refl (first_day leaps (suc k)); next = λ h. r.rises (suc k) h })

      not_started : tick <ℤ day_start leaps counted
      not_started = rw (start_at counted (suc k) first_on, is_first) (not_begun more)

      before_at : Stands leaps (counted -ℤ pos 1) k
      before_at = record {
        within = force.within;
        begun = before first counted (rw is_first (r.rises k more));
        next = λ _. rw is_first (under (first_day leaps (suc k)));
      }

      leap_within : Within leaps tick (counted -ℤ pos 1)
      leap_within = record {
        begun = ≤_trans (pos list_day) first (counted -ℤ pos 1) first_listed before_at.begun;
        from = rw (start_at (counted -ℤ pos 1) k before_at) (before_starts held counted tick counted_starts);
        until = rw (and_on counted) not_started;
      }

    chosen : Within leaps tick (cond (le_z (day_start leaps counted) tick) counted (counted -ℤ pos 1))
    chosen = ⊎_elim last more (le_or_lt (entries leaps) (suc k))
      where
        stands : (suc k < entries leaps → counted <ℤ first_day leaps (suc k)) → Stands leaps counted k
        stands h = record { within = force.within; begun = counted_on; next = h }

        kept : Stands leaps counted k
            → Within leaps tick (cond (le_z (day_start leaps counted) tick) counted (counted -ℤ pos 1))
        kept a = let yes = yes_le (day_start leaps counted) tick (here_from a) in rw yes (here a)

        last : entries leaps ≤ suc k
            → Within leaps tick (cond (le_z (day_start leaps counted) tick) counted (counted -ℤ pos 1))
        last h = kept (stands (λ i. let no : ⊥ = omega arith in absurd no))

        leap : suc k < entries leaps → first_day leaps (suc k) ≤ℤ counted
            → Within leaps tick (cond (le_z (day_start leaps counted) tick) counted (counted -ℤ pos 1))
        leap h l = let no = no_le (day_start leaps counted) tick (not_started h l) in rw no (leap_within h l)

        more : suc k < entries leaps
            → Within leaps tick (cond (le_z (day_start leaps counted) tick) counted (counted -ℤ pos 1))
        more h =
            ⊎_elim (λ (l : first_day leaps (suc k) ≤ℤ counted). leap h l) (λ (g : counted <ℤ first_day leaps (suc k)). kept (stands (λ _. g)))
            (≤-total (first_day leaps (suc k)) counted)

  pub day_within : (tick : ℤ) → day_start leaps (pos list_day) ≤ℤ tick → Within leaps tick (utc_day leaps tick)
  unfolding utc_day counted_day entry_at
  day_within tick begun =
      let at_first = yes_le (entry_start leaps 0) tick (rw first_start begun) in
      chosen tick (entry_at leaps tick) (last_last (λ k. le_z (entry_start leaps k) tick) (entries leaps) r.some at_first)

  -- ---- what is written
  later_than_first : (seconds day : ℤ) → pos list_day <ℤ day → neg_ℤ (pos 53) ≤ℤ seconds
      → neg_ℤ (pos 157852822184000000) ≤ℤ tai_by seconds day (pos 0)
  unfolding tai_by
  later_than_first = rep₂ _ (λ a b c d. simp lin (omega arith))

  pub no_earlier_start : (day : ℤ) → pos list_day ≤ℤ day → day_start leaps (pos list_day) ≤ℤ day_start leaps day
  no_earlier_start day h = ⊎_elim at_first after (≤-total day (pos list_day))
    where
      at_first : day ≤ℤ pos list_day → day_start leaps (pos list_day) ≤ℤ day_start leaps day
      at_first l = rw (≤-antisym day (pos list_day) l h) (≤ℤ_refl (day_start leaps (pos list_day)))

      after : pos list_day <ℤ day → day_start leaps (pos list_day) ≤ℤ day_start leaps day
      after l =
          rw (first_tick_lem, start_by day)
          (later_than_first (seconds_on leaps day) day l (seconds_moderate r day h).low)

  -- a tick within a day is written as that day and the ticks since its start
  pub within_written : (tick day : ℤ) → Within leaps tick day
      → utc_written leaps tick ≡ Ok (record { day = day; ticks = tick -ℤ day_start leaps day })
  unfolding utc_written is_writable utc_of utc_ticks
  within_written tick day w =
      let first = ≤_trans (day_start leaps (pos list_day)) (day_start leaps day) tick (no_earlier_start day w.begun) w.from in
      let yes = yes_le (day_start leaps (pos list_day)) tick first in
      rw (yes, one_day leaps e tick (utc_day leaps tick) day (day_within tick first) w)

-- a tick before day 41317, by the code's test
pub early : (leaps : List ℤ) (tick : ℤ) → is_list_right leaps ≡ true → SFits w64 tick
    → lt_z (to_z w64 (of_z w64 tick)) (neg_ℤ (pos 157852822184000000)) ≡ true
    → Err (record { number = 5; place = 0 }) ≡ utc_written leaps tick
unfolding utc_written is_writable
early leaps tick e f h =
    let l = lt_yes _ _ (rw (read_is tick f) at h) in
    let no = no_le (day_start leaps (pos list_day)) tick (rw (first_tick_lem leaps e) l) in rw no
