-- What the place of the earliest tick is, and what a search has to show to have found it. Assumes
-- nothing.
use mathlib.Core.Path.{◌≡◌, sym}
use mathlib.Core.Bool.{true, false}
use mathlib.Core.Logic.{⊎_elim}
use mathlib.Core.List.{List}
use Prim.Native.Nat.{ℕ, suc, ◌-◌, ◌≤◌, ◌<◌}
use native.Mathlib.Omega.{arith}
use lib.IntN.{ℤ}
use lib.Signed.{◌≤ℤ◌, ◌<ℤ◌, lt_z}
use Rattle.numbers.proofs.Differences.{rep₃, lin}
use Rattle.numbers.proofs.Order.{≤_trans, le_or_lt}
use Rattle.numbers.proofs.Machine.{lt_yes, lt_no, clash, yes_lt, no_lt}
use Rattle.numbers.proofs.Places.{First, first_is, lowest_first}
use Rattle.image.specs.declared.table.Table.{Table}
use Rattle.ephemeris.specs.Table.{last_place, tdb_at, earliest_place}
use Rattle.ephemeris.specs.Accepted.{Accepted}
use Rattle.ephemeris.specs.Asked.{ThisOrBefore}
use Rattle.ephemeris.proofs.Order.{tdb_order}

le_lt : (x y z : ℤ) → x ≤ℤ y → y <ℤ z → x <ℤ z
le_lt = rep₃ _ (λ a b c d e f. simp lin (omega arith))

module _ (T : Table) (cs : List ℤ) (asked : ℤ) where
  first : First (λ i. lt_z (tdb_at T cs i) asked) (last_place T) (earliest_place T cs asked)
  unfolding earliest_place
  first = lowest_first (λ i. lt_z (tdb_at T cs i) asked) (last_place T)

  pub earliest_inside : earliest_place T cs asked ≤ last_place T
  earliest_inside = first.within

  -- every tick before it is before the asked
  pub earliest_none : (i : ℕ) → i < earliest_place T cs asked → tdb_at T cs i <ℤ asked
  earliest_none i h = lt_yes (tdb_at T cs i) asked (first.before i h)

  -- and it is not, unless it is the last tick
  pub earliest_found : earliest_place T cs asked < last_place T → asked ≤ℤ tdb_at T cs (earliest_place T cs asked)
  earliest_found l = lt_no (tdb_at T cs (earliest_place T cs asked)) asked (first.found l)

  pub earliest_reached : asked ≤ℤ tdb_at T cs (last_place T) → asked ≤ℤ tdb_at T cs (earliest_place T cs asked)
  earliest_reached h = ⊎_elim
      (λ (l : last_place T ≤ earliest_place T cs asked). let e : earliest_place T cs asked ≡ last_place T = omega (arith, earliest_inside) in rw e h)
      earliest_found
      (le_or_lt (last_place T) (earliest_place T cs asked))

  -- it is no later than any tick whose TDB is at or after the asked
  pub earliest_least : (i : ℕ) → asked ≤ℤ tdb_at T cs i → earliest_place T cs asked ≤ i
  earliest_least i h =
      ⊎_elim (λ (l : earliest_place T cs asked ≤ i). l) (λ (l : i < earliest_place T cs asked). absurd (clash (tdb_at T cs i) asked (earliest_none i l) h))
      (le_or_lt (earliest_place T cs asked) i)

  -- it is later than any tick before the last whose TDB is before the asked
  pub earliest_later : Accepted T cs → (i : ℕ) → i < last_place T → tdb_at T cs i <ℤ asked
      → i < earliest_place T cs asked
  earliest_later A i l h = ⊎_elim
      (λ (k : earliest_place T cs asked ≤ i). absurd (clash (tdb_at T cs i) asked h
      (≤_trans asked (tdb_at T cs (earliest_place T cs asked)) (tdb_at T cs i) (earliest_found (omega arith))
      (tdb_order T cs A (earliest_place T cs asked) i k (omega arith)))))
      (λ (k : i < earliest_place T cs asked). k)
      (le_or_lt (earliest_place T cs asked) i)

  -- where it is at the place i or at the one before, a look at the one before decides
  pub is_this : Accepted T cs → (i : ℕ) → ThisOrBefore T cs asked i → (i ≡ 0 → ⊥)
      → lt_z (tdb_at T cs (i - 1)) asked ≡ true
      → i ≡ earliest_place T cs asked
  is_this A i w some h =
      let later = earliest_later A (i - 1) (omega (arith, w.inside)) (lt_yes _ _ h) in
      omega (arith, w.to)

  pub is_before : (i : ℕ) → ThisOrBefore T cs asked i → lt_z (tdb_at T cs (i - 1)) asked ≡ false
      → i - 1 ≡ earliest_place T cs asked
  is_before i w h = let least = earliest_least (i - 1) (lt_no _ _ h) in omega (arith, w.from)

  -- what a search has to show: it is reached here, or here is the end; and the tick before is
  -- before the asked
  module _ (A : Accepted T cs) where
    pub earliest_is : (i : ℕ) → i ≤ last_place T → (i < last_place T → asked ≤ℤ tdb_at T cs i)
        → ((j : ℕ) → suc j ≡ i → tdb_at T cs j <ℤ asked)
        → earliest_place T cs asked ≡ i
    unfolding earliest_place
    earliest_is i h r b = sym (first_is (λ i. lt_z (tdb_at T cs i) asked) (last_place T) i (record {
      within = h;
      before = λ k l. yes_lt (tdb_at T cs k) asked
          (le_lt (tdb_at T cs k) (tdb_at T cs (i - 1)) asked (tdb_order T cs A k (i - 1) (omega arith) (omega arith)) (b (i - 1) (omega arith)));
      found = λ l. no_lt (tdb_at T cs i) asked (r l);
    }))
