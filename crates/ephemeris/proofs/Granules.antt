-- The granules of an accepted table: which one a tick belongs to, where its coefficients stand in
-- the list, that it has passed the tests, and what the laws of a granule say of D at a tick of the
-- table: its size, and its distance from the exact sum. Assumes nothing.
use mathlib.Core.Path.{◌≡◌, sym, ◌∙◌}
use mathlib.Core.List.{List}
use Prim.Native.Nat.{ℕ, suc, ◌+◌, ◌*◌, ◌-◌, ◌^◌, ◌≤◌, ◌<◌}
use native.Mathlib.Nat.{mul-le-mul_right}
use native.Mathlib.Omega.{arith}
use lib.ListN.{length, length-take, length-drop}
use lib.IntN.{ℤ, pos, ◌-ℤ◌, ◌*ℤ◌, nat_abs}
use Rattle.granule.specs.Rule.{units_in_tick}
use Rattle.granule.specs.Tests.{Passed, Meeting}
use Rattle.granule.specs.Asked.{Evaluable}
use Rattle.granule.proofs.Passing.{passed_of, meeting_of}
use Rattle.granule.proofs.Distance.{delay_within, delay_small}
use Rattle.image.specs.declared.table.Table.{Table}
use Rattle.image.specs.Image.{granule_in}
use Rattle.granules.proofs.Accepting.{accepted_small, accepted_light, accepted_joined}
use Rattle.ephemeris.specs.Table.{H, last_place, granule_of, place_in, coefficients_of, table_delay}
use Rattle.ephemeris.specs.Table.{table_exact}
use Rattle.ephemeris.specs.Accepted.{Bounded, Accepted}
use Rattle.ephemeris.proofs.Bounds.{long, short}
use Rattle.ephemeris.proofs.Where.{At, at_place}

-- ---- which granule
module _ (T : Table) (B : Bounded T) where
  pub at : (i : ℕ) → i ≤ last_place T → At T.count (H T) i (granule_of T i)
  unfolding last_place granule_of
  at i h = at_place T.count (H T) i (omega (arith, long T B)) B.some h

module _ (T : Table) (cs : List ℤ) (A : Accepted T cs) where
  -- ---- what the tests say of each granule
  coefficients_length : (g : ℕ) → g < T.count → length (coefficients_of T cs g) ≡ T.degree + 1
  unfolding granule_in
  coefficients_length g h = simp (length-take, length-drop) (omega (arith, A.whole, mul-le-mul_right (T.degree + 1) h))

  pub granule_passed : (g : ℕ) → g < T.count → Passed (coefficients_of T cs g) (H T)
  granule_passed g h =
      passed_of (coefficients_of T cs g) (H T) (omega (arith, coefficients_length g h)) (omega (arith, coefficients_length g h, A.bounds.few.degree))
      (long T A.bounds) (accepted_light T cs A g h)

  pub meeting : (g : ℕ) → suc g < T.count → Meeting (coefficients_of T cs g) (coefficients_of T cs (suc g))
  meeting g h =
      meeting_of (coefficients_of T cs g) (coefficients_of T cs (suc g)) (coefficients_length g (omega arith) ∙ sym (coefficients_length (suc g) h))
      (accepted_joined T cs A g h)

  pub same_degree : (g : ℕ) → g < T.count → length (coefficients_of T cs g) - 1 ≡ T.degree
  same_degree g h = omega (arith, coefficients_length g h)

  -- the place in the granule
  pub in_granule : (i : ℕ) → i ≤ last_place T → place_in T i ≤ H T
  unfolding place_in
  in_granule i h = omega (arith, (at T A.bounds i h).high)

  -- ---- D
  pub evaluable : (i : ℕ) → i ≤ last_place T → Evaluable (coefficients_of T cs (granule_of T i)) (place_in T i) (H T)
  evaluable i h =
      let a = at T A.bounds i h in
      let l = coefficients_length (granule_of T i) a.there in
      record {
        some = omega (arith, l);
        summable = record { few = omega (arith, l, A.bounds.few.degree); small = accepted_small T cs A (granule_of T i) a.there };
        placed = record { long = long T A.bounds; short = short T A.bounds; inside = in_granule i h };
      }

  pub delay_bounded : (i : ℕ) → i ≤ last_place T → nat_abs (table_delay T cs i) ≤ 2 ^ 28
  unfolding table_delay
  delay_bounded i h =
      let g = granule_of T i in
      let a = at T A.bounds i h in
      delay_small (coefficients_of T cs g) (H T) (granule_passed g a.there) (place_in T i) (in_granule i h) (accepted_small T cs A g a.there)

  -- D of every tick is within 33/64 tick of the exact sum
  pub delay_exact : (i : ℕ) → i ≤ last_place T
      → 64 * nat_abs (pos units_in_tick *ℤ table_delay T cs i *ℤ pos (H T ^ T.degree) -ℤ table_exact T cs i)
      ≤ 33 * units_in_tick * H T ^ T.degree
  unfolding table_delay table_exact
  delay_exact i h =
      let g = granule_of T i in
      let a = at T A.bounds i h in
      rw (same_degree g a.there) at (delay_within (coefficients_of T cs g) (H T) (granule_passed g a.there) (place_in T i) (in_granule i h))
