-- The last day on which a tick can be: the tick is within it, where it has begun, or else within
-- the day before. Assumes nothing.
use mathlib.Core.Path.{◌≡◌}
use mathlib.Core.Bool.{true}
use mathlib.Core.List.{List}
use mathlib.Core.Logic.{⊎_elim}
use Prim.Native.Nat.{ℕ, ◌+◌, ◌*◌, ◌≤◌}
use native.Mathlib.Omega.{arith}
use lib.Dec.{lit<}
use lib.IntN.{ℤ, pos, neg_ℤ, nat_abs, ◌+ℤ◌, ◌-ℤ◌, ◌*ℤ◌}
use lib.Signed.{◌≤ℤ◌, ◌<ℤ◌}
use Rattle.numbers.specs.Rounding.{floor_div}
use Rattle.numbers.proofs.Differences.{rep, rep₂, rep₃, lin}
use Rattle.numbers.proofs.Machine.{clash}
use Rattle.numbers.proofs.Order.{≤-antisym, ≤-total}
use Rattle.numbers.proofs.Rounding.{Floored, floored}
use Rattle.scales.specs.Tick.{furthest}
use Rattle.utc.specs.Leaps.{is_list_right, list_day}
use Rattle.utc.specs.Days.{day_ticks, second_ticks, seconds_on, day_start, tai_by, tai_of}
use Rattle.utc.specs.Asked.{NearListed, Writable, first_tick, latest_day}
use Rattle.utc.proofs.Beside.{and_on, before, up}
use Rattle.utc.proofs.Counted.{first_tick_lem}
use Rattle.utc.proofs.Rules.{Right, right}
use Rattle.utc.proofs.Standing.{seconds_moderate}
use Rattle.utc.proofs.Within.{Within}

abbrev later : ℕ
later = 32184000000 + 53 * second_ticks

-- ---- f whole days of a tick t that has moved by 53 s and 32.184 s
listed : (t f : ℤ) → first_tick ≤ℤ t → (t +ℤ pos later) <ℤ (pos day_ticks *ℤ f +ℤ pos day_ticks)
    → pos list_day ≤ℤ (pos 43144 +ℤ f)
listed = rep₂ _ (λ a b c d. simp lin (omega arith))

near : (t f : ℤ) → nat_abs t ≤ furthest → (pos day_ticks *ℤ f) ≤ℤ (t +ℤ pos later)
    → (t +ℤ pos later) <ℤ (pos day_ticks *ℤ f +ℤ pos day_ticks)
    → nat_abs (pos 43144 +ℤ f -ℤ pos 43144) ≤ 99999
near = rep₂ _ (λ a b c d. simp lin (omega arith))

none_after : (t f s : ℤ) → (t +ℤ pos later) <ℤ (pos day_ticks *ℤ f +ℤ pos day_ticks) → neg_ℤ (pos 53) ≤ℤ s
    → t <ℤ tai_by s (pos 43144 +ℤ f +ℤ pos 1) (pos 0)
unfolding tai_by
none_after = rep₃ _ (λ a b c d e f. simp lin (omega arith))

day_before : (t f s : ℤ) → (pos day_ticks *ℤ f) ≤ℤ (t +ℤ pos later) → s ≤ℤ pos 73
    → tai_by s (pos 43144 +ℤ f -ℤ pos 1) (pos 0) ≤ℤ t
unfolding tai_by
day_before = rep₃ _ (λ a b c d e f. simp lin (omega arith))

nearer : (day : ℤ) → nat_abs (day -ℤ pos 43144) ≤ 99999 → nat_abs (day -ℤ pos 1 -ℤ pos 43144) ≤ 100000
nearer = rep _ (λ a b. simp lin (omega arith))

module _ (leaps : List ℤ) (e : is_list_right leaps ≡ true) (t : ℤ) (w : Writable t) where
  r : Right leaps
  r = right leaps e

  counts : Floored (t +ℤ pos later) day_ticks (floor_div (t +ℤ pos later) day_ticks)
  counts = floored (t +ℤ pos later) day_ticks (lit< tt)

  latest_listed : pos list_day ≤ℤ latest_day t
  unfolding latest_day
  latest_listed = listed t (floor_div (t +ℤ pos later) day_ticks) w.begun counts.above

  nearly : nat_abs (latest_day t -ℤ pos 43144) ≤ 99999
  unfolding latest_day
  nearly = near t (floor_div (t +ℤ pos later) day_ticks) w.valid counts.under counts.above

  pub latest_near : NearListed (latest_day t)
  latest_near = record { begun = latest_listed; near = omega (arith, nearly) }

  pub latest_within : day_start leaps (latest_day t) ≤ℤ t → Within leaps t (latest_day t)
  unfolding latest_day day_start tai_of
  latest_within h = record {
    begun = latest_listed;
    from = h;
    until = none_after t (floor_div (t +ℤ pos later) day_ticks) (seconds_on leaps (latest_day t +ℤ pos 1)) counts.above
        (seconds_moderate r (latest_day t +ℤ pos 1) (up (pos list_day) (latest_day t) latest_listed)).low;
  }

  module _ (h : t <ℤ day_start leaps (latest_day t)) where
    not_first : pos list_day <ℤ latest_day t
    not_first =
        ⊎_elim
        (λ (l : latest_day t ≤ℤ pos list_day).
        let is = ≤-antisym (latest_day t) (pos list_day) l latest_listed in
        absurd (clash t (day_start leaps (latest_day t)) h (rw (is, first_tick_lem leaps e) w.begun)))
        (λ (l : pos list_day <ℤ latest_day t). l)
        (≤-total (latest_day t) (pos list_day))

    before_listed : pos list_day ≤ℤ (latest_day t -ℤ pos 1)
    before_listed = before (pos list_day) (latest_day t) not_first

    pub before_near : NearListed (latest_day t -ℤ pos 1)
    before_near = record { begun = before_listed; near = nearer (latest_day t) nearly }

    pub before_within : Within leaps t (latest_day t -ℤ pos 1)
    unfolding latest_day day_start tai_of
    before_within = record {
      begun = before_listed;
      from = day_before t (floor_div (t +ℤ pos later) day_ticks) (seconds_on leaps (latest_day t -ℤ pos 1)) counts.under
          (seconds_moderate r (latest_day t -ℤ pos 1) before_listed).high;
      until = rw (and_on (latest_day t)) h;
    }
