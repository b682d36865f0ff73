-- The length of a day by the list's entries: that of the day before an entry's first goes by that
-- entry's change, and every other day has 86,400 s. Assumes nothing.
use mathlib.Core.Path.{◌≡◌, refl}
use mathlib.Core.Bool.{true}
use mathlib.Core.List.{List}
use mathlib.Core.Logic.{⊎_elim}
use Prim.Native.Nat.{ℕ, suc, ◌<◌}
use native.Mathlib.Omega.{arith}
use lib.IntN.{ℤ, pos, ◌+ℤ◌, ◌-ℤ◌}
use lib.Signed.{◌≤ℤ◌, ≤ℤ_refl, <ℤ_irrefl}
use Rattle.utc.specs.Leaps.{entries, first_day, is_list_right, list_day, seconds}
use Rattle.utc.specs.Days.{day_ticks, entry_on, length_by, length_of}
use Rattle.utc.proofs.Beside.{and_on, before, under}
use Rattle.utc.proofs.Rules.{Right, right}
use Rattle.utc.proofs.Standing.{Stands, Turns, entry_at, next_day, seconds_at}
use Rattle.utc.proofs.Tiling.{length_cases}

module _ (leaps : List ℤ) (e : is_list_right leaps ≡ true) where
  r : Right leaps
  r = right leaps e

  -- 'The day before a rise has 86,401 s, before a fall 86,399', by the entry
  pub length_before : (k : ℕ) → suc k < entries leaps
      → length_of leaps (first_day leaps (suc k) -ℤ pos 1) ≡ length_by (seconds leaps k) (seconds leaps (suc k))
  unfolding length_of
  length_before k h =
      let next = first_day leaps (suc k) in
      let here : Stands leaps (next -ℤ pos 1) k = record {
        within = omega arith;
        begun = before (first_day leaps k) next (r.rises k h);
        next = λ _. under next;
      } in
      let there : Stands leaps next (suc k) = record { within = h; begun = ≤ℤ_refl next; next = λ i. r.rises (suc k) i } in
      rw (and_on next, seconds_at r (next -ℤ pos 1) k here, seconds_at r next (suc k) there)

  -- where no entry begins on the day after
  pub length_other : (day : ℤ) → pos list_day ≤ℤ day
      → ((k : ℕ) → k < entries leaps → first_day leaps k ≡ day +ℤ pos 1 → ⊥)
      → length_of leaps day ≡ pos day_ticks
  unfolding length_of
  length_other day h none =
      let k = entry_on leaps day in
      let here = entry_at r day h in
      ⊎_elim
      (λ (a : Stands leaps (day +ℤ pos 1) k). rw (seconds_at r day k here, seconds_at r (day +ℤ pos 1) k a) (level (seconds leaps k)))
      (λ (t : Turns leaps day k). absurd (none (suc k) t.at.within t.first))
      (next_day r day k here)
    where
      level : (x : ℤ) → length_by x x ≡ pos day_ticks
      level x = length_cases (λ z. z ≡ pos day_ticks) x x (λ l. absurd (<ℤ_irrefl l)) (λ l. absurd (<ℤ_irrefl l)) (λ _ _. refl)
