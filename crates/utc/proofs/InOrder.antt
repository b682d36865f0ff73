-- Order, 'day first, then ticks, both epochs over one and the same list'. Assumes nothing.
use mathlib.Core.Path.{◌≡◌}
use mathlib.Core.Bool.{true}
use mathlib.Core.List.{List}
use mathlib.Core.Logic.{inl, inr, ⊎_elim}
use native.Mathlib.Omega.{arith}
use lib.IntN.{ℤ, pos, ◌+ℤ◌, ◌-ℤ◌}
use lib.Signed.{◌≤ℤ◌, ◌<ℤ◌}
use Rattle.numbers.proofs.Differences.{rep₃, rep₄, lin}
use Rattle.numbers.proofs.Order.{≤-antisym, ≤-total}
use Rattle.utc.specs.Leaps.{is_list_right}
use Rattle.utc.specs.Days.{EarlierUtc, day_start, tai_of}
use Rattle.utc.specs.Readings.{utc_day, utc_read, utc_written}
use Rattle.scales.specs.Answers.{read_number, read_tick}
use Rattle.utc.specs.Answers.{utc_written_day, utc_written_number, utc_written_ticks}
use Rattle.utc.proofs.Beside.{weak}
use Rattle.utc.proofs.Accepted.{UtcReadAs, UtcWrittenAs, read_as, written_as}
use Rattle.utc.proofs.Counted.{day_within}
use Rattle.utc.proofs.Tiling.{later_start}
use Rattle.utc.proofs.Within.{no_later_day, reading, reading_within, tai_from}

over : (t n s u : ℤ) → t <ℤ n → n ≤ℤ s → s ≤ℤ u → t <ℤ u
over = rep₄ _ (λ a b c d e f g h. simp lin (omega arith))

on : (s k m : ℤ) → k <ℤ m → (s +ℤ k) <ℤ (s +ℤ m)
on = rep₃ _ (λ a b c d e f. simp lin (omega arith))

since : (s t u : ℤ) → t <ℤ u → (t -ℤ s) <ℤ (u -ℤ s)
since = rep₃ _ (λ a b c d e f. simp lin (omega arith))

module _ (leaps : List ℤ) (e : is_list_right leaps ≡ true) where
  -- of two UTC readings the earlier is the earlier tick
  pub utc_order : (day ticks other more : ℤ) → read_number (utc_read leaps day ticks) ≡ 0
      → read_number (utc_read leaps other more) ≡ 0
      → EarlierUtc day ticks other more
      → read_tick (utc_read leaps day ticks) <ℤ read_tick (utc_read leaps other more)
  utc_order day ticks other more n m earlier = rw (a.tick, b.tick) (⊎_elim by_day by_ticks earlier)
    where
      a : UtcReadAs leaps day ticks
      a = read_as leaps day ticks n

      b : UtcReadAs leaps other more
      b = read_as leaps other more m

      by_day : day <ℤ other → tai_of leaps day ticks <ℤ tai_of leaps other more
      by_day l =
          let v = reading_within leaps e day ticks (reading leaps day ticks a.reading) in
          let w = reading_within leaps e other more (reading leaps other more b.reading) in
          over (tai_of leaps day ticks) (day_start leaps (day +ℤ pos 1)) (day_start leaps other) (tai_of leaps other more)
          v.until (later_start leaps e day other v.begun l) w.from

      by_ticks : (day ≡ other) × (ticks <ℤ more) → tai_of leaps day ticks <ℤ tai_of leaps other more
      by_ticks h = rw (h.0, tai_from leaps other ticks, tai_from leaps other more) (on (day_start leaps other) ticks more h.1)

  -- of two TAI ticks the earlier is written as the earlier UTC
  pub tai_order : (tick other : ℤ) → utc_written_number (utc_written leaps tick) ≡ 0
      → utc_written_number (utc_written leaps other) ≡ 0
      → tick <ℤ other
      → EarlierUtc (utc_written_day (utc_written leaps tick)) (utc_written_ticks (utc_written leaps tick))
      (utc_written_day (utc_written leaps other)) (utc_written_ticks (utc_written leaps other))
  tai_order tick other n m l = rw (a.day, a.ticks, b.day, b.ticks) (⊎_elim same earlier (≤-total (utc_day leaps other) (utc_day leaps tick)))
    where
      a : UtcWrittenAs leaps tick
      a = written_as leaps tick n

      b : UtcWrittenAs leaps other
      b = written_as leaps other m

      earlier : utc_day leaps tick <ℤ utc_day leaps other
          → EarlierUtc (utc_day leaps tick) (tick -ℤ day_start leaps (utc_day leaps tick))
          (utc_day leaps other) (other -ℤ day_start leaps (utc_day leaps other))
      earlier h = inl h

      same : utc_day leaps other ≤ℤ utc_day leaps tick
          → EarlierUtc (utc_day leaps tick) (tick -ℤ day_start leaps (utc_day leaps tick))
          (utc_day leaps other) (other -ℤ day_start leaps (utc_day leaps other))
      same h =
          let v = day_within leaps e tick a.begun in
          let w = day_within leaps e other b.begun in
          let day = utc_day leaps tick in
          let next = utc_day leaps other in
          let one = ≤-antisym day next (no_later_day leaps e tick other day next (weak tick other l) v w) h in
          inr (one, rw one (since (day_start leaps (utc_day leaps other)) tick other l))
