-- The entry that stands on a day: it has begun, and the next one has not. From a day to the next it
-- stays, or the next one begins; so the seconds change by one at most. Assumes nothing.
use mathlib.Core.Path.{◌≡◌, ap}
use mathlib.Core.List.{List}
use mathlib.Core.Logic.{◌⊎◌, inl, inr, ⊎_elim}
use Prim.Native.Nat.{ℕ, suc, ◌≤◌, ◌<◌}
use native.Mathlib.Omega.{arith}
use lib.IntN.{ℤ, pos, ◌+ℤ◌}
use lib.Signed.{◌≤ℤ◌, ◌<ℤ◌, le_z}
use Rattle.numbers.specs.Signs.{gap}
use Rattle.numbers.proofs.Differences.{rep₃, lin}
use Rattle.numbers.proofs.Machine.{le_yes, yes_le, no_le}
use Rattle.numbers.proofs.Order.{le_or_lt, ≤-total}
use Rattle.utc.specs.Leaps.{entries, first_day, seconds, list_day}
use Rattle.utc.specs.Days.{entry_on, seconds_on}
use Rattle.utc.proofs.Beside.{is_next, up}
use Rattle.utc.proofs.Fitting.{le_no}
use Rattle.utc.proofs.Last.{last_is, last_last}
use Rattle.utc.proofs.Rules.{Right, Moderate, moderate, before_later}

pub record Stands (leaps : List ℤ) (day : ℤ) (k : ℕ) : Type 0 where
  pub within : k < entries leaps
  pub begun : first_day leaps k ≤ℤ day
  pub next : suc k < entries leaps → day <ℤ first_day leaps (suc k)

-- the next entry begins on the day after
pub record Turns (leaps : List ℤ) (day : ℤ) (k : ℕ) : Type 0 where
  pub at : Stands leaps (day +ℤ pos 1) (suc k)
  pub first : first_day leaps (suc k) ≡ day +ℤ pos 1

reached : (x day y : ℤ) → x ≡ day +ℤ pos 1 → x <ℤ y → (day +ℤ pos 1) <ℤ y
reached = rep₃ _ (λ a b c d e f. simp lin (omega arith))

none : (x y z : ℤ) → x ≡ z → y ≡ z → gap x y ≤ 1
none = rep₃ _ (λ a b c d e f. simp lin (omega arith))

module _ {leaps : List ℤ} (r : Right leaps) where
  pub entry_at : (day : ℤ) → pos list_day ≤ℤ day → Stands leaps day (entry_on leaps day)
  unfolding entry_on
  entry_at day h =
      let l = last_last (λ k. le_z (first_day leaps k) day) (entries leaps) r.some (yes_le (first_day leaps 0) day (rw r.day h)) in
      record { within = l.within; begun = le_yes _ _ l.holds; next = λ i. le_no _ _ (l.after _ (omega arith) i) }

  pub at_entry : (day : ℤ) (k : ℕ) → Stands leaps day k → entry_on leaps day ≡ k
  unfolding entry_on
  at_entry day k a =
      last_is (λ k. le_z (first_day leaps k) day) (entries leaps) k
      (record {
        within = a.within;
        holds = yes_le _ _ a.begun;
        after = λ j h i. no_le (first_day leaps j) day (before_later r day (suc k) j h i (a.next (omega arith)));
      })

  -- the day after is still that entry's, or it is the first of the next one
  pub next_day : (day : ℤ) (k : ℕ) → Stands leaps day k → Stands leaps (day +ℤ pos 1) k ⊎ Turns leaps day k
  next_day day k a = ⊎_elim last more (le_or_lt (entries leaps) (suc k))
    where
      stays : (suc k < entries leaps → (day +ℤ pos 1) <ℤ first_day leaps (suc k)) → Stands leaps (day +ℤ pos 1) k
      stays h = record { within = a.within; begun = up (first_day leaps k) day a.begun; next = h }

      last : entries leaps ≤ suc k → Stands leaps (day +ℤ pos 1) k ⊎ Turns leaps day k
      last h = inl (stays (λ i. let no : ⊥ = omega arith in absurd no))

      turns : suc k < entries leaps → first_day leaps (suc k) ≤ℤ (day +ℤ pos 1) → Turns leaps day k
      turns h l =
          let e = is_next day (first_day leaps (suc k)) (a.next h) l in
          record {
            at = record {
              within = h;
              begun = l;
              next = λ i. reached (first_day leaps (suc k)) day (first_day leaps (suc (suc k))) e (r.rises (suc k) i);
            };
            first = e;
          }

      more : suc k < entries leaps → Stands leaps (day +ℤ pos 1) k ⊎ Turns leaps day k
      more h =
          ⊎_elim (λ (l : first_day leaps (suc k) ≤ℤ (day +ℤ pos 1)). inr (turns h l)) (λ (g : (day +ℤ pos 1) <ℤ first_day leaps (suc k)). inl (stays (λ _. g)))
          (≤-total (first_day leaps (suc k)) (day +ℤ pos 1))

  -- ---- seconds
  pub seconds_at : (day : ℤ) (k : ℕ) → Stands leaps day k → seconds_on leaps day ≡ seconds leaps k
  unfolding seconds_on
  seconds_at day k a = ap (seconds leaps) (at_entry day k a)

  pub seconds_moderate : (day : ℤ) → pos list_day ≤ℤ day → Moderate (seconds_on leaps day)
  unfolding seconds_on
  seconds_moderate day h = moderate r (entry_on leaps day) (entry_at day h).within

  -- from a day to the next they change by one at most
  pub seconds_move : (day : ℤ) → pos list_day ≤ℤ day → gap (seconds_on leaps day) (seconds_on leaps (day +ℤ pos 1)) ≤ 1
  seconds_move day h = ⊎_elim stays turns (next_day day k a)
    where
      k : ℕ
      k = entry_on leaps day

      a : Stands leaps day k
      a = entry_at day h

      stays : Stands leaps (day +ℤ pos 1) k → gap (seconds_on leaps day) (seconds_on leaps (day +ℤ pos 1)) ≤ 1
      stays b =
          none (seconds_on leaps day) (seconds_on leaps (day +ℤ pos 1)) (seconds leaps k) (seconds_at day k a) (seconds_at (day +ℤ pos 1) k b)

      turns : Turns leaps day k → gap (seconds_on leaps day) (seconds_on leaps (day +ℤ pos 1)) ≤ 1
      turns t =
          rw (seconds_at day k a, seconds_at (day +ℤ pos 1) (suc k) t.at) (omega (arith, r.changes k t.at.within))
