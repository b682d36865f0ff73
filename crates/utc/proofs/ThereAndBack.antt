-- 'UTC to TAI to UTC over one list is exact', TAI to UTC to TAI where it is accepted, and from the
-- list's first day on every TAI tick has exactly one UTC. Assumes nothing.
use mathlib.Core.Path.{◌≡◌, refl, sym, ◌∙◌, ap}
use mathlib.Core.Bool.{true}
use mathlib.Core.List.{List}
use lib.IntN.{ℤ, pos, ◌-ℤ◌}
use lib.Signed.{◌≤ℤ◌}
use Rattle.scales.specs.Tick.{is_valid}
use Rattle.utc.specs.Leaps.{is_list_right, list_day}
use Rattle.utc.specs.Days.{is_reading, day_start, tai_of}
use Rattle.utc.specs.Readings.{utc_day, utc_read, utc_written}
use Rattle.scales.specs.Answers.{Accepts, read_number, read_tick}
use Rattle.utc.specs.Answers.{WritesUtc, utc_written_day, utc_written_number, utc_written_ticks}
use Rattle.utc.proofs.Accepted.{as_read, read_as, written_as}
use Rattle.utc.proofs.Counted.{day_within, within_written}
use Rattle.utc.proofs.Within.{Within, forth, is_reading_lem, reading, reading_within, tai_back}
use Rattle.utc.proofs.Within.{tai_from, within_reading}

-- the one UTC of a tick: the written one is a right reading, and no other has that tick
pub record OneUtc (leaps : List ℤ) (tick : ℤ) : Type 0 where
  pub number : utc_written_number (utc_written leaps tick) ≡ 0
  pub right : is_reading leaps (utc_written_day (utc_written leaps tick)) (utc_written_ticks (utc_written leaps tick))
      ≡ true
  pub tai : tai_of leaps (utc_written_day (utc_written leaps tick)) (utc_written_ticks (utc_written leaps tick)) ≡ tick
  pub only : (day ticks : ℤ) → is_reading leaps day ticks ≡ true → tai_of leaps day ticks ≡ tick
      → (utc_written_day (utc_written leaps tick) ≡ day) × (utc_written_ticks (utc_written leaps tick) ≡ ticks)

module _ (leaps : List ℤ) (e : is_list_right leaps ≡ true) where
  -- a tick within a day is written as that day and the ticks since it began
  pub within_writes : (tick day : ℤ) → Within leaps tick day
      → WritesUtc (utc_written leaps tick) day (tick -ℤ day_start leaps day)
  unfolding utc_written_number utc_written_day utc_written_ticks
  within_writes tick day w = rw (within_written leaps e tick day w) (refl, refl, refl)

  -- whatever right reading has a tick, it is the one written
  pub only_one : (tick day ticks : ℤ) → is_reading leaps day ticks ≡ true → tai_of leaps day ticks ≡ tick
      → WritesUtc (utc_written leaps tick) day ticks
  only_one tick day ticks r t =
      let w = within_writes (tai_of leaps day ticks) day (reading_within leaps e day ticks (reading leaps day ticks r)) in
      let since = ap (λ (z : ℤ). z -ℤ day_start leaps day) (tai_from leaps day ticks) ∙ forth (day_start leaps day) ticks in
      rw (← t) (w.0, w.1, w.2 ∙ since)

  -- and from the list's first day on there is one
  pub exactly_one : (tick : ℤ) → day_start leaps (pos list_day) ≤ℤ tick → OneUtc leaps tick
  exactly_one tick h =
      let day = utc_day leaps tick in
      let within = day_within leaps e tick h in
      let w = within_writes tick day within in
      record {
        number = w.0;
        right = rw (w.1, w.2) (is_reading_lem (within_reading leaps e tick day within));
        tai = rw (w.1, w.2) (tai_back leaps tick day);
        only = λ d k r t. let o = only_one tick d k r t in (o.1, o.2);
      }

  -- 'UTC to TAI to UTC over one list is exact'
  pub utc_tai_utc : (day ticks : ℤ) → read_number (utc_read leaps day ticks) ≡ 0
      → WritesUtc (utc_written leaps (read_tick (utc_read leaps day ticks))) day ticks
  utc_tai_utc day ticks n =
      let r = read_as leaps day ticks n in only_one (read_tick (utc_read leaps day ticks)) day ticks r.reading (sym r.tick)

  -- and TAI to UTC to TAI, of a valid tick that is accepted
  pub tai_utc_tai : (tick : ℤ) → is_valid tick ≡ true → utc_written_number (utc_written leaps tick) ≡ 0
      → Accepts (utc_read leaps (utc_written_day (utc_written leaps tick))
      (utc_written_ticks (utc_written leaps tick))) tick
  tai_utc_tai tick v n =
      let o = exactly_one tick (written_as leaps tick n).begun in
      let d = utc_written_day (utc_written leaps tick) in
      let k = utc_written_ticks (utc_written leaps tick) in
      let r = as_read leaps d k o.right (rw o.tai v) in
      (r.0, r.1 ∙ o.tai)
