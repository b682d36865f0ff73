-- When an asked TDB is covered, by where its earliest tick lies. Assumes nothing.
use mathlib.Core.Path.{◌≡◌, refl, sym, subst, ◌∙◌}
use mathlib.Core.Bool.{Bool, true, false, ◌&&◌}
use mathlib.Core.List.{List}
use mathlib.Core.Logic.{⊎_elim}
use Prim.Native.Nat.{ℕ, ◌-◌, ◌≤◌, ◌<◌, zero-le}
use native.Mathlib.Nat.{le_refl, mul-le-mul}
use native.Mathlib.Omega.{arith}
use lib.Dec.{T, leb, le→leb, leb→le}
use lib.IntN.{ℤ, pos, ◌+ℤ◌, nat_abs}
use lib.Signed.{◌≤ℤ◌, ◌<ℤ◌, le_z}
use Rattle.numbers.proofs.Differences.{rep₃, lin}
use Rattle.numbers.proofs.Flags.{never, and_right}
use Rattle.numbers.proofs.Order.{≤_trans, ≤-total, abs_minus}
use Rattle.numbers.proofs.Machine.{yes_le, no_le, is_true, size_test}
use Rattle.image.specs.declared.table.Table.{Table}
use Rattle.ephemeris.specs.Table.{S, last_place, table_delay, tdb_at, earliest_place, is_covered}
use Rattle.ephemeris.specs.Accepted.{Accepted}
use Rattle.ephemeris.specs.Asked.{furthest_tdb, is_near}
use Rattle.ephemeris.proofs.Bounds.{long, tick_small}
use Rattle.ephemeris.proofs.Granules.{delay_bounded}
use Rattle.ephemeris.proofs.Ticks.{tdb_at_place}
use Rattle.ephemeris.proofs.Order.{tdb_order}
use Rattle.ephemeris.proofs.Search.{earliest_inside, earliest_none, earliest_found}

right_yes : (a b : Bool) → b ≡ true → a ≡ (a && b)
right_yes true b e = sym e
right_yes false b e = refl

not_after : (x y z : ℤ) → x ≤ℤ y → y <ℤ z → x ≤ℤ z
not_after = rep₃ _ (λ a b c d e f. simp lin (omega arith))

-- ---- a TDB that is near, and one that is further than any of a table
near_is : (t : ℤ) → is_near t ≡ leb (nat_abs t) furthest_tdb
unfolding is_near
near_is t = size_test furthest_tdb t

pub near_size : (t : ℤ) → is_near t ≡ true → nat_abs t ≤ furthest_tdb
near_size t e = leb→le (nat_abs t) furthest_tdb (subst lib.Dec.T (sym (sym (near_is t) ∙ e)) tt)

between_size : (n : ℕ) (x y z : ℤ) → nat_abs x ≤ n → nat_abs z ≤ n → x ≤ℤ y → y ≤ℤ z → nat_abs y ≤ n
between_size n = rep₃ _ (λ a b c d e f. simp lin (omega arith))

module _ (T : Table) (cs : List ℤ) (A : Accepted T cs) (asked : ℤ) where
  tdb_near : (i : ℕ) → i ≤ last_place T → nat_abs (tdb_at T cs i) ≤ furthest_tdb
  tdb_near i h =
      rw (tdb_at_place T cs i)
      (omega (arith, abs_minus (S T +ℤ pos i) (table_delay T cs i), tick_small T A.bounds i h, delay_bounded T cs A i h))

  pub far_uncovered : is_near asked ≡ false → is_covered T cs asked ≡ false
  unfolding is_covered
  far_uncovered e = ⊎_elim
      (λ (l : tdb_at T cs 0 ≤ℤ asked). ⊎_elim
      (λ (h : asked ≤ℤ tdb_at T cs (last_place T)). never (sym e ∙ near_is asked ∙ is_true _ (le→leb (nat_abs asked) furthest_tdb
      (between_size furthest_tdb (tdb_at T cs 0) asked (tdb_at T cs (last_place T)) (tdb_near 0 zero-le) (tdb_near (last_place T) (le_refl (last_place T))) l
      h))))
      (λ (h : tdb_at T cs (last_place T) <ℤ asked). and_right (le_z (tdb_at T cs 0) asked) (no_le asked (tdb_at T cs (last_place T)) h))
      (≤-total asked (tdb_at T cs (last_place T))))
      (λ (l : asked <ℤ tdb_at T cs 0). let x = no_le (tdb_at T cs 0) asked l in rw x)
      (≤-total (tdb_at T cs 0) asked)

  some_places : 0 < last_place T
  unfolding last_place
  some_places = omega (arith, mul-le-mul A.bounds.some (long T A.bounds))

  -- an earliest tick that is not the first has one before it whose TDB is before the asked, and one
  -- that is not the last has reached it
  from_first : 0 < earliest_place T cs asked → tdb_at T cs 0 ≤ℤ asked
  from_first l = not_after (tdb_at T cs 0) (tdb_at T cs (earliest_place T cs asked - 1)) asked
      (tdb_order T cs A 0 (earliest_place T cs asked - 1) (omega arith) (omega (arith, earliest_inside T cs asked)))
      (earliest_none T cs asked (earliest_place T cs asked - 1) (omega arith))

  to_last : earliest_place T cs asked < last_place T → asked ≤ℤ tdb_at T cs (last_place T)
  to_last l = ≤_trans asked (tdb_at T cs (earliest_place T cs asked)) (tdb_at T cs (last_place T)) (earliest_found T cs asked l)
      (tdb_order T cs A (earliest_place T cs asked) (last_place T) (earliest_inside T cs asked) (le_refl (last_place T)))

  pub covered_first : earliest_place T cs asked ≡ 0 → le_z (tdb_at T cs 0) asked ≡ is_covered T cs asked
  unfolding is_covered
  covered_first e =
      right_yes (le_z (tdb_at T cs 0) asked) (le_z asked (tdb_at T cs (last_place T)))
      (yes_le asked (tdb_at T cs (last_place T)) (to_last (omega (arith, some_places))))

  pub covered_last : earliest_place T cs asked ≡ last_place T
      → le_z asked (tdb_at T cs (last_place T)) ≡ is_covered T cs asked
  unfolding is_covered
  covered_last e = let x = yes_le (tdb_at T cs 0) asked (from_first (omega (arith, some_places))) in rw x

  pub covered_between : (earliest_place T cs asked ≡ 0 → ⊥) → (earliest_place T cs asked ≡ last_place T → ⊥)
      → true ≡ is_covered T cs asked
  unfolding is_covered
  covered_between n m =
      let x = yes_le (tdb_at T cs 0) asked (from_first (omega arith)) in
      let y = yes_le asked (tdb_at T cs (last_place T)) (to_last (omega (arith, earliest_inside T cs asked))) in
      rw (x, y)
