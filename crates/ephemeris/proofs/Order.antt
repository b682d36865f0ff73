-- The order of TDB over an accepted table, place by place: TDB never falls from a tick to the next,
-- never rises by more than 2, and rises over any two. Assumes nothing.
use mathlib.Core.Path.{◌≡◌}
use mathlib.Core.List.{List}
use Prim.Native.Nat.{ℕ, zero, suc, ◌+◌, ◌*◌, ◌-◌, ◌≤◌}
use native.Mathlib.Omega.{arith}
use lib.IntN.{ℤ, pos, ◌+ℤ◌, ◌-ℤ◌, nat_abs}
use lib.Signed.{◌≤ℤ◌, ◌<ℤ◌, ≤ℤ_refl}
use Rattle.numbers.proofs.Differences.{rep₂, rep₃, lin}
use Rattle.numbers.proofs.Order.{≤_trans}
use Rattle.image.specs.declared.table.Table.{Table}
use Rattle.ephemeris.specs.Table.{S, last_place, table_delay, tdb_at}
use Rattle.ephemeris.specs.Accepted.{Accepted}
use Rattle.ephemeris.proofs.Ticks.{tdb_at_place}
use Rattle.ephemeris.proofs.Moves.{delay_moves}

lt_le : (x y z : ℤ) → x <ℤ y → y ≤ℤ z → x <ℤ z
lt_le = rep₃ _ (λ a b c d e f. simp lin (omega arith))

one_at_most : (n : ℕ) → 65536 * n ≤ 68614 → n ≤ 1
one_at_most n h = omega arith

module _ (T : Table) (cs : List ℤ) (A : Accepted T cs) where
  -- D by at most one tick over one tick or two
  delay_next : (i k : ℕ) → k ≤ 2 → i + k ≤ last_place T → nat_abs (table_delay T cs (i + k) -ℤ table_delay T cs i) ≤ 1
  delay_next i k few h =
      one_at_most _
      (omega (arith, delay_moves T cs A (i + k) i k h (omega arith) (omega arith) (omega arith)))

  step : (k : ℕ) (s d' d : ℤ) (i : ℕ) → nat_abs (d' -ℤ d) ≤ 1
      → (((s +ℤ pos i) -ℤ d +ℤ pos k) ≤ℤ ((s +ℤ pos (i + k)) -ℤ d' +ℤ pos 1))
      × (((s +ℤ pos (i + k)) -ℤ d') ≤ℤ ((s +ℤ pos i) -ℤ d +ℤ pos (k + 1)))
  step k s d' d i =
      rep₃ (λ s d' d. nat_abs (d' -ℤ d) ≤ 1 → (((s +ℤ pos i) -ℤ d +ℤ pos k) ≤ℤ ((s +ℤ pos (i + k)) -ℤ d' +ℤ pos 1)) ×
      (((s +ℤ pos (i + k)) -ℤ d') ≤ℤ ((s +ℤ pos i) -ℤ d +ℤ pos (k + 1))))
      (λ a b c d e f. simp lin (omega arith)) s d' d

  -- TDB over k ticks, one or two: it rises by at least k − 1 and at most k + 1
  pub tdb_next : (i k : ℕ) → k ≤ 2 → i + k ≤ last_place T
      → ((tdb_at T cs i +ℤ pos k) ≤ℤ (tdb_at T cs (i + k) +ℤ pos 1))
      × (tdb_at T cs (i + k) ≤ℤ (tdb_at T cs i +ℤ pos (k + 1)))
  tdb_next i k few h =
      rw (tdb_at_place T cs i, tdb_at_place T cs (i + k)) (step k (S T) (table_delay T cs (i + k)) (table_delay T cs i) i (delay_next i k few h))

  -- ---- over the whole table, for any two ticks
  up : (i k : ℕ) → i + k ≤ last_place T → tdb_at T cs i ≤ℤ tdb_at T cs (i + k)
  up i zero h = let e : i + 0 ≡ i = omega arith in rw e (≤ℤ_refl (tdb_at T cs i))
  up i (suc k) h =
      let e : i + suc k ≡ i + k + 1 = omega arith in
      rw e (≤_trans (tdb_at T cs i) (tdb_at T cs (i + k)) (tdb_at T cs (i + k + 1)) (up i k (omega arith))
      (less (tdb_at T cs (i + k)) (tdb_at T cs (i + k + 1)) (tdb_next (i + k) 1 (omega arith) (omega arith)).0))
    where
      less : (x y : ℤ) → (x +ℤ pos 1) ≤ℤ (y +ℤ pos 1) → x ≤ℤ y
      less = rep₂ _ (λ a b c d. simp lin (omega arith))

  pub tdb_order : (i j : ℕ) → i ≤ j → j ≤ last_place T → tdb_at T cs i ≤ℤ tdb_at T cs j
  tdb_order i j h l = let e : i + (j - i) ≡ j = omega arith in rw e at (up i (j - i) (omega arith))

  -- two ticks or more apart it has risen
  pub tdb_rises : (i j : ℕ) → i + 2 ≤ j → j ≤ last_place T → tdb_at T cs i <ℤ tdb_at T cs j
  tdb_rises i j h l =
      lt_le (tdb_at T cs i) (tdb_at T cs (i + 2)) (tdb_at T cs j) (less (tdb_at T cs i) (tdb_at T cs (i + 2)) (tdb_next i 2 (omega arith) (omega arith)).0)
      (tdb_order (i + 2) j h l)
    where
      less : (x y : ℤ) → (x +ℤ pos 2) ≤ℤ (y +ℤ pos 1) → x <ℤ y
      less = rep₂ _ (λ a b c d. simp lin (omega arith))
