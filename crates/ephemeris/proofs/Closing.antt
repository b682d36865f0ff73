-- Why asked + D closes in on the earliest tick. Its TDB is the asked or one more, so the place that
-- a delay points to is as far off as the delay is, and one. D moves by at most 3 ticks in 65536, so
-- from 2^28, which no delay passes, two turns lead to one tick. Assumes nothing.
use mathlib.Core.Path.{◌≡◌, refl}
use mathlib.Core.Logic.{⊎_elim}
use mathlib.Core.List.{List}
use Prim.Native.Nat.{ℕ, zero, suc, ◌+◌, ◌*◌, ◌-◌, ◌^◌, ◌≤◌, ◌<◌}
use native.Mathlib.Nat.{le_refl}
use native.Mathlib.Omega.{arith}
use lib.Dec.{lit<}
use lib.IntN.{ℤ, pos, negsuc, ◌+ℤ◌, ◌-ℤ◌, nat_abs}
use lib.Signed.{◌≤ℤ◌, ◌<ℤ◌}
use Rattle.numbers.proofs.Differences.{rep, rep₃, rep₄, lin}
use Rattle.numbers.proofs.Order.{pos_le, le_pos, le_or_lt}
use Rattle.image.specs.declared.table.Table.{Table}
use Rattle.ephemeris.specs.Table.{S, last_place, table_delay, tdb_at, earliest_place}
use Rattle.ephemeris.specs.Accepted.{Accepted}
use Rattle.ephemeris.specs.Asked.{held_inside, ThisOrBefore, FromHere}
use Rattle.ephemeris.proofs.Granules.{delay_bounded}
use Rattle.ephemeris.proofs.Moves.{delay_moves}
use Rattle.ephemeris.proofs.Ticks.{tdb_at_place}
use Rattle.ephemeris.proofs.Order.{tdb_next}
use Rattle.ephemeris.proofs.Search.{earliest_inside, earliest_none, earliest_found, earliest_least}

-- ---- a number held between 0 and n
pub held_inside_lem : (z : ℤ) (n : ℕ) → held_inside z n ≤ n
unfolding held_inside
held_inside_lem (pos k) n = omega arith
held_inside_lem (negsuc k) n = omega arith

pub held_low : (z : ℤ) (n k : ℕ) → z ≤ℤ pos k → held_inside z n ≤ k
unfolding held_inside
held_low (pos j) n k h = omega (arith, pos_le j k h)
held_low (negsuc j) n k h = omega arith

pub held_high : (z : ℤ) (n i m : ℕ) → i ≤ n → pos i ≤ℤ (z +ℤ pos m) → i ≤ held_inside z n + m
unfolding held_inside
held_high (pos j) n i m l h = omega (arith, pos_le i (j + m) h)
held_high (negsuc j) n i m l h = omega (arith, below i m (negsuc j) (record { le = tt }) h)
  where
    below : (i m : ℕ) (z : ℤ) → z ≤ℤ pos 0 → pos i ≤ℤ (z +ℤ pos m) → i ≤ m
    below i m = rep _ (λ a b. simp lin (omega arith))

pub held_between : (z : ℤ) (n : ℕ) → pos 0 ≤ℤ z → z ≤ℤ pos n → nat_abs z ≡ held_inside z n
unfolding held_inside
held_between (pos k) n l h = omega (arith, pos_le k n h)
held_between (negsuc k) n l h = absurd l.le

held_fixed : (z : ℤ) (n i : ℕ) → held_inside z n ≡ i → i < n → z ≤ℤ pos i
unfolding held_inside
held_fixed (pos k) n i e l = le_pos k i (omega arith)
held_fixed (negsuc k) n i e l = record { le = tt }

-- ---- what TDB says of asked + D − S, over plain numbers: i the place, D its delay, and d another
from_over : (i k : ℕ) (s asked D d : ℤ) → nat_abs (d -ℤ D) ≤ k → asked ≤ℤ ((s +ℤ pos i) -ℤ D)
    → (asked +ℤ d -ℤ s) ≤ℤ pos (i + k)
from_over i k = rep₄ _ (λ a b c d e f g h. simp lin (omega arith))

from_under : (i k : ℕ) (s asked D d : ℤ) → nat_abs (d -ℤ D) ≤ k → ((s +ℤ pos i) -ℤ D) ≤ℤ (asked +ℤ pos 1)
    → pos i ≤ℤ ((asked +ℤ d -ℤ s) +ℤ pos (k + 1))
from_under i k = rep₄ _ (λ a b c d e f g h. simp lin (omega arith))

to_reached : (i : ℕ) (s asked d : ℤ) → (asked +ℤ d -ℤ s) ≤ℤ pos i → asked ≤ℤ ((s +ℤ pos i) -ℤ d)
to_reached i = rep₃ _ (λ a b c d e f. simp lin (omega arith))

one_more : (x y asked : ℤ) → x <ℤ asked → y ≤ℤ (x +ℤ pos 2) → y ≤ℤ (asked +ℤ pos 1)
one_more = rep₃ _ (λ a b c d e f. simp lin (omega arith))

-- ---- how far a place is from the earliest tick: at most r after it, and r + 1 before
pub record NearEarliest (T : Table) (cs : List ℤ) (asked : ℤ) (i r : ℕ) : Type 0 where
  pub inside : i ≤ last_place T
  pub over : i ≤ earliest_place T cs asked + r
  pub under : earliest_place T cs asked ≤ i + (r + 1)

-- the distance after each turn
pub reach_after : ℕ → ℕ
reach_after zero = 2 ^ 28
reach_after (suc zero) = 12289
reach_after (suc (suc k)) = 1

less : (t : ℕ) → 3 * (reach_after t + 1) + 68608 < 65536 * (reach_after (suc t) + 1)
unfolding reach_after
less zero = lit< tt
less (suc zero) = lit< tt
less (suc (suc k)) = lit< tt

reach_first : reach_after 0 ≡ 2 ^ 28
unfolding reach_after
reach_first = refl

reach_last : reach_after 2 ≡ 1
unfolding reach_after
reach_last = refl

module _ (T : Table) (cs : List ℤ) (A : Accepted T cs) (asked : ℤ) where
  -- the TDB of the earliest tick is at most one after the asked, unless it is the first tick
  pub earliest_near : (j : ℕ) → suc j ≡ earliest_place T cs asked
      → tdb_at T cs (earliest_place T cs asked) ≤ℤ (asked +ℤ pos 1)
  earliest_near j e =
      let f : j + 1 ≡ earliest_place T cs asked = omega arith in
      one_more (tdb_at T cs j) (tdb_at T cs (earliest_place T cs asked)) asked (earliest_none T cs asked j (omega arith))
      (rw f at (tdb_next T cs A j 1 (omega arith) (omega (arith, earliest_inside T cs asked))).1)

  -- the place that a delay d points to
  pointed_near : (d : ℤ) (k : ℕ) → nat_abs (d -ℤ table_delay T cs (earliest_place T cs asked)) ≤ k
      → NearEarliest T cs asked (held_inside (asked +ℤ d -ℤ S T) (last_place T)) k
  pointed_near d k h = record {
    inside = held_inside_lem (asked +ℤ d -ℤ S T) (last_place T);
    over = ⊎_elim
        (λ (l : last_place T ≤ earliest_place T cs asked). omega (arith, held_inside_lem (asked +ℤ d -ℤ S T) (last_place T)))
        (λ (l : earliest_place T cs asked < last_place T). held_low (asked +ℤ d -ℤ S T) (last_place T) (earliest_place T cs asked + k)
        (from_over (earliest_place T cs asked) k (S T) asked (table_delay T cs (earliest_place T cs asked)) d h
        (rw (tdb_at_place T cs (earliest_place T cs asked)) at (earliest_found T cs asked l))))
        (le_or_lt (last_place T) (earliest_place T cs asked));
    under = ⊎_elim
        (λ (l : earliest_place T cs asked ≤ 0). omega arith)
        (λ (l : 0 < earliest_place T cs asked). held_high (asked +ℤ d -ℤ S T) (last_place T) (earliest_place T cs asked) (k + 1) (earliest_inside T cs asked)
        (from_under (earliest_place T cs asked) k (S T) asked (table_delay T cs (earliest_place T cs asked)) d h
        (rw (tdb_at_place T cs (earliest_place T cs asked)) at (earliest_near (earliest_place T cs asked - 1) (omega arith)))))
        (le_or_lt (earliest_place T cs asked) 0);
  }

  -- at first D is taken as 0
  pub near_first : NearEarliest T cs asked (held_inside (asked +ℤ pos 0 -ℤ S T) (last_place T)) (reach_after 0)
  near_first =
      rw reach_first (pointed_near (pos 0) (2 ^ 28)
      (negated (2 ^ 28) (table_delay T cs (earliest_place T cs asked)) (delay_bounded T cs A (earliest_place T cs asked) (earliest_inside T cs asked))))
    where
      negated : (n : ℕ) (x : ℤ) → nat_abs x ≤ n → nat_abs (pos 0 -ℤ x) ≤ n
      negated n = rep _ (λ a b. simp lin (omega arith))

  closer : (i r r' : ℕ) → 3 * (r + 1) + 68608 < 65536 * (r' + 1) → NearEarliest T cs asked i r
      → NearEarliest T cs asked (held_inside (asked +ℤ table_delay T cs i -ℤ S T) (last_place T)) r'
  closer i r r' l n = pointed_near (table_delay T cs i) r' (fewer _
      (delay_moves T cs A i (earliest_place T cs asked) (r + 1) n.inside (earliest_inside T cs asked) (omega (arith, n.over)) n.under))
    where
      fewer : (m : ℕ) → 65536 * m ≤ 3 * (r + 1) + 68608 → m ≤ r'
      fewer m h = omega arith

  -- a turn
  pub near_next : (t i : ℕ) → NearEarliest T cs asked i (reach_after t)
      → NearEarliest T cs asked (held_inside (asked +ℤ table_delay T cs i -ℤ S T) (last_place T)) (reach_after (suc t))
  near_next t i n = closer i (reach_after t) (reach_after (suc t)) (less t) n

  -- ---- a place that asked + D leads back to: the earliest tick is there, or one before
  pub near_fixed : (i : ℕ) → held_inside (asked +ℤ table_delay T cs i -ℤ S T) (last_place T) ≡ i → i ≤ last_place T
      → ThisOrBefore T cs asked i
  near_fixed i e h = record { inside = h; from = from; to = to }
    where
      m : ℕ
      m = nat_abs (table_delay T cs i -ℤ table_delay T cs (earliest_place T cs asked))

      near : NearEarliest T cs asked i m
      near = rw e at (pointed_near (table_delay T cs i) m (le_refl m))

      one : m ≤ 1
      one = fewer m (delay_moves T cs A i (earliest_place T cs asked) (m + 1) h (earliest_inside T cs asked) (omega (arith, near.over)) near.under)
        where
          fewer : (m : ℕ) → 65536 * m ≤ 3 * (m + 1) + 68608 → m ≤ 1
          fewer m h = omega arith

      from : i ≤ earliest_place T cs asked + 1
      from = omega (arith, near.over, one)

      to : earliest_place T cs asked ≤ i
      to = ⊎_elim
          (λ (l : last_place T ≤ i). omega (arith, earliest_inside T cs asked))
          (λ (l : i < last_place T). earliest_least T cs asked i
          (rw (tdb_at_place T cs i) (to_reached i (S T) asked (table_delay T cs i) (held_fixed (asked +ℤ table_delay T cs i -ℤ S T) (last_place T) i e l))))
          (le_or_lt (last_place T) i)

  -- ---- and after the last turn it is at most one before, or two after
  pub near_last : (i : ℕ) → NearEarliest T cs asked i (reach_after 2) → FromHere T cs asked (i - 1)
  near_last i n = record { from = omega (arith, rw reach_last at n.over); to = omega (arith, rw reach_last at n.under) }
