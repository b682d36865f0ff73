-- How far D moves over an accepted table: over k ticks, whatever joins lie between, the exact sum
-- moves by at most 3k + 1024 units, so D by at most (3k + 68608) / 65536. Assumes nothing.
use mathlib.Core.Path.{◌≡◌, ap}
use mathlib.Core.Logic.{⊎_elim}
use mathlib.Core.List.{List}
use Prim.Native.Nat.{ℕ, zero, suc, ◌+◌, ◌*◌, ◌-◌, ◌^◌, ◌≤◌, ◌<◌}
use native.Mathlib.Nat.{mul-le-mul_right, le_of_mul-le-mul_left}
use native.Mathlib.Omega.{arith}
use lib.IntN.{ℤ, pos, ◌+ℤ◌, ◌-ℤ◌, ◌*ℤ◌, neg_ℤ, nat_abs}
use Rattle.numbers.proofs.Differences.{rep, rep₂, rep₃, lin, sizes}
use Rattle.numbers.proofs.Order.{abs-+, abs-*, abs_neg, le_or_lt}
use Rattle.numbers.proofs.Solver.{ring, quote, q_con, all₅}
use Rattle.numbers.proofs.Chebyshev.{pow_above}
use Rattle.granule.specs.Rule.{units_in_tick, exact_at}
use Rattle.granule.proofs.Neighbours.{exact_next, exact_join}
use Rattle.image.specs.declared.table.Table.{Table}
use Rattle.ephemeris.specs.Table.{H, last_place, granule_of, place_in, coefficients_of, table_delay}
use Rattle.ephemeris.specs.Table.{table_exact}
use Rattle.ephemeris.specs.Accepted.{Accepted}
use Rattle.ephemeris.proofs.Bounds.{long}
use Rattle.ephemeris.proofs.Granules.{at, granule_passed, meeting, same_degree, delay_exact}
use Rattle.ephemeris.proofs.Where.{At, next_granule, joins}

start_none : (x : ℤ) → x -ℤ x ≡ pos 0
start_none = rep _ (λ a b. simp lin (omega arith))

between : (x y z : ℤ) → nat_abs (x -ℤ z) ≤ nat_abs (x -ℤ y) + nat_abs (y -ℤ z)
between = rep₃ _ (λ a b c d e f. simp sizes (omega arith))

swapped : (x y : ℤ) → nat_abs (x -ℤ y) ≡ nat_abs (y -ℤ x)
swapped = rep₂ _ (λ a b c d. simp sizes (omega arith))

-- ---- two delays, from the exact sums that they are near
apart_id : (b d' d x' x : ℤ)
    → b *ℤ (pos 65536 *ℤ (d' -ℤ d)) ≡ (pos 65536 *ℤ d' *ℤ b -ℤ x') +ℤ (neg_ℤ (pos 65536 *ℤ d *ℤ b -ℤ x) +ℤ (x' -ℤ x))
apart_id = all₅ _ (λ ρ. simp (quote, q_con ρ) (ring ρ _ _ tt))

apart : (B k : ℕ) (d' d x' x : ℤ) → 0 < B → 64 * nat_abs (pos 65536 *ℤ d' *ℤ pos B -ℤ x') ≤ 33 * 65536 * B
    → 64 * nat_abs (pos 65536 *ℤ d *ℤ pos B -ℤ x) ≤ 33 * 65536 * B
    → nat_abs (x' -ℤ x) ≤ (3 * k + 1024) * B → 65536 * nat_abs (d' -ℤ d) ≤ 3 * k + 68608
apart B k d' d x' x h near' near far =
    let y' = pos 65536 *ℤ d' *ℤ pos B -ℤ x' in
    let y = pos 65536 *ℤ d *ℤ pos B -ℤ x in
    le_of_mul-le-mul_left {k = B}
    (omega (
      arith,
      abs-* (pos B) (pos 65536 *ℤ (d' -ℤ d)),
      ap (λ (n : ℕ). B * n) (abs-* (pos 65536) (d' -ℤ d)),
      rw (← apart_id (pos B) d' d x' x) at (abs-+ y' (neg_ℤ y +ℤ (x' -ℤ x))),
      abs-+ (neg_ℤ y) (x' -ℤ x),
      abs_neg y,
    )) h

-- H^n times the exact sum of granule g at the place i
abbrev exact_in : Table → List ℤ → ℕ → ℕ → ℤ
exact_in T cs g i = exact_at (coefficients_of T cs g) (i - g * H T) (H T)

module _ (T : Table) (cs : List ℤ) (A : Accepted T cs) where
  above : 1024 ≤ H T
  above = omega (arith, long T A.bounds)

  -- ---- the exact sum from a tick to the next: 2 units, and 1024 more at a join
  exact_inner : (i g : ℕ) → At T.count (H T) i g → At T.count (H T) (suc i) g
      → nat_abs (exact_in T cs g (suc i) -ℤ exact_in T cs g i) ≤ 2 * H T ^ T.degree
  exact_inner i g a b =
      let p = granule_passed T cs A g a.there in
      let e : suc i - g * H T ≡ suc (i - g * H T) = omega (arith, a.low) in
      rw e (rw (same_degree T cs A g a.there) at
      (exact_next (coefficients_of T cs g) (H T) p.some (omega (arith, above)) p.slow (i - g * H T) (omega (arith, a.low, b.high))))

  exact_over : (i g : ℕ) → At T.count (H T) i g → suc g < T.count → suc i ≡ g * H T + H T
      → nat_abs (exact_in T cs (suc g) (suc i) -ℤ exact_in T cs g i) ≤ 1026 * H T ^ T.degree
  exact_over i g a h e =
      let f : suc i - suc g * H T ≡ 0 = omega arith in
      rw f
      (rw (same_degree T cs A g a.there) at
      (exact_join (coefficients_of T cs g) (coefficients_of T cs (suc g)) (H T) (granule_passed T cs A g a.there) (granule_passed T cs A (suc g) h)
      (meeting T cs A g h) (i - g * H T) 0 1 (omega arith) (omega arith) (omega (arith, a.low, above))))

  exact_step : (i : ℕ) → suc i ≤ last_place T
      → nat_abs (table_exact T cs (suc i) -ℤ table_exact T cs i) + 1024 * (granule_of T i * H T ^ T.degree)
      ≤ 2 * H T ^ T.degree + 1024 * (granule_of T (suc i) * H T ^ T.degree)
  unfolding table_exact place_in
  exact_step i h = ⊎_elim same over (next_granule T.count (H T) i (granule_of T i) (granule_of T (suc i)) (omega (arith, above)) a b)
    where
      a : At T.count (H T) i (granule_of T i)
      a = at T A.bounds i (omega arith)

      b : At T.count (H T) (suc i) (granule_of T (suc i))
      b = at T A.bounds (suc i) h

      same : granule_of T (suc i) ≡ granule_of T i
          → nat_abs (exact_in T cs (granule_of T (suc i)) (suc i) -ℤ exact_in T cs (granule_of T i) i)
          + 1024 * (granule_of T i * H T ^ T.degree)
          ≤ 2 * H T ^ T.degree + 1024 * (granule_of T (suc i) * H T ^ T.degree)
      same e = rw e (omega (arith, exact_inner i (granule_of T i) a (rw e at b)))

      over : (granule_of T (suc i) ≡ suc (granule_of T i)) × (suc i ≡ granule_of T i * H T + H T)
          → nat_abs (exact_in T cs (granule_of T (suc i)) (suc i) -ℤ exact_in T cs (granule_of T i) i)
          + 1024 * (granule_of T i * H T ^ T.degree)
          ≤ 2 * H T ^ T.degree + 1024 * (granule_of T (suc i) * H T ^ T.degree)
      over e = let f = e.0 in rw f (omega (arith, exact_over i (granule_of T i) a (rw f at b.there) e.1))

  -- and over k ticks
  exact_along : (i k : ℕ) → i + k ≤ last_place T
      → nat_abs (table_exact T cs (i + k) -ℤ table_exact T cs i) + 1024 * (granule_of T i * H T ^ T.degree)
      ≤ 2 * k * H T ^ T.degree + 1024 * (granule_of T (i + k) * H T ^ T.degree)
  exact_along i zero h = let e : i + 0 ≡ i = omega arith in rw (e, start_none (table_exact T cs i)) (omega arith)
  exact_along i (suc k) h =
      let e : i + suc k ≡ suc (i + k) = omega arith in
      rw e (omega (
        arith,
        exact_along i k (omega arith),
        exact_step (i + k) (omega arith),
        between (table_exact T cs (suc (i + k))) (table_exact T cs (i + k)) (table_exact T cs i),
      ))

  exact_far : (i k : ℕ) → i + k ≤ last_place T
      → nat_abs (table_exact T cs (i + k) -ℤ table_exact T cs i) ≤ (3 * k + 1024) * H T ^ T.degree
  exact_far i k h =
      let j = joins T.count (H T) i k (granule_of T i) (granule_of T (i + k)) (omega (arith, above)) (at T A.bounds i (omega arith))
      (at T A.bounds (i + k) h) in
      omega (arith, exact_along i k h, mul-le-mul_right (H T ^ T.degree) j)

  -- ---- D
  delay_up : (i k : ℕ) → i + k ≤ last_place T
      → units_in_tick * nat_abs (table_delay T cs (i + k) -ℤ table_delay T cs i) ≤ 3 * k + 68608
  delay_up i k h = apart (H T ^ T.degree) k (table_delay T cs (i + k)) (table_delay T cs i) (table_exact T cs (i + k)) (table_exact T cs i)
      (pow_above (H T) T.degree (omega (arith, above))) (delay_exact T cs A (i + k) h) (delay_exact T cs A i (omega arith)) (exact_far i k h)

  -- D at two places at most k ticks apart
  pub delay_moves : (i j k : ℕ) → i ≤ last_place T → j ≤ last_place T → i ≤ j + k → j ≤ i + k
      → units_in_tick * nat_abs (table_delay T cs i -ℤ table_delay T cs j) ≤ 3 * k + 68608
  delay_moves i j k hi hj a b = ⊎_elim
      (λ (l : i ≤ j). let e : i + (j - i) ≡ j = omega arith in
      omega (arith, rw e at (delay_up i (j - i) (omega arith)), swapped (table_delay T cs i) (table_delay T cs j)))
      (λ (l : j < i). let e : j + (i - j) ≡ i = omega arith in omega (arith, rw e at (delay_up j (i - j) (omega arith))))
      (le_or_lt i j)
