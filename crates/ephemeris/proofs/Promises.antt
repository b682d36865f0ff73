-- What is promised of the step over a table, for every tick: which tick the earliest one is and
-- when the step is refused, over any table; how near to the exact sum, in order, there and back,
-- over an accepted one. Assumes nothing.
use Rattle.scales.specs.declared.answer.Outside.TheVariants as Outside
use Rattle.std.specs.Prelude.{Err, Ok}
use mathlib.Core.Path.{◌≡◌, ◌∙◌, subst}
use mathlib.Core.Logic.{◌⊎◌, inl, inr, ⊎_elim, ◌↔◌}
use mathlib.Core.Bool.{Bool, true, false, cond}
use mathlib.Core.List.{List}
use Prim.Native.Nat.{ℕ, ◌+◌, ◌*◌, ◌-◌, ◌^◌, ◌≤◌, ◌<◌, zero-le}
use native.Mathlib.Nat.{le_refl}
use native.Mathlib.Omega.{arith}
use lib.Dec.{leb, le→leb}
use lib.IntN.{ℤ, pos, ◌+ℤ◌, ◌-ℤ◌, ◌*ℤ◌, neg_ℤ, nat_abs}
use lib.Signed.{◌≤ℤ◌, ◌<ℤ◌, le_z, ≤ℤ_refl}
use Rattle.numbers.proofs.Differences.{rep, rep₂, rep₃, lin, sizes}
use Rattle.numbers.proofs.Flags.{both, and_right}
use Rattle.numbers.proofs.Order.{≤_trans, ≤-antisym, ≤-total, abs_neg, le_or_lt}
use Rattle.numbers.proofs.Solver.{ring, quote, all₃, all₄}
use Rattle.numbers.proofs.Machine.{yes_le, le_yes, size_test, clash, is_true, no_le}
use Rattle.scales.specs.Tick.{furthest, is_valid}
use Rattle.scales.specs.Answers.{kept_in, stepped_number}
use Rattle.scales.specs.declared.answer.Epoch.{Epoch}
use Rattle.scales.specs.declared.scale.Scale.TheVariants.{Tdb}
use Rattle.granule.specs.Rule.{units_in_tick}
use Rattle.image.specs.declared.table.Table.{Table}
use Rattle.ephemeris.specs.Table.{S, H, last_place, tick_at, is_inside, place_of, table_delay}
use Rattle.ephemeris.specs.Table.{table_exact, tdb_of, tdb_at, earliest_place, tt_of, is_covered}
use Rattle.ephemeris.specs.Accepted.{Accepted, Earliest}
use Rattle.ephemeris.specs.Steps.{tdb_step, tt_step}
use Rattle.ephemeris.proofs.Bounds.{tick_small}
use Rattle.ephemeris.proofs.Granules.{delay_exact}
use Rattle.ephemeris.proofs.Ticks.{inside_both, inside_yes, before_no, after_no, placed}
use Rattle.ephemeris.proofs.Ticks.{tick_inside, place_of_tick, tick_of_place, tdb_of_lem}
use Rattle.ephemeris.proofs.Order.{tdb_order, tdb_rises}
use Rattle.ephemeris.proofs.Search.{earliest_inside, earliest_none, earliest_found}
use Rattle.ephemeris.proofs.Search.{earliest_reached, earliest_least}
use Rattle.ephemeris.proofs.Closing.{earliest_near}

-- ---- over plain numbers
turned : (u t d x : ℤ) → u *ℤ (t -ℤ d) -ℤ (u *ℤ t -ℤ x) ≡ neg_ℤ (u *ℤ d -ℤ x)
turned = all₄ _ (λ ρ. simp quote (ring ρ _ _ tt))

factor : (a d b : ℤ) → a *ℤ d *ℤ b ≡ (a *ℤ b) *ℤ d
factor = all₃ _ (λ ρ. simp quote (ring ρ _ _ tt))

places_order : (s t t' : ℤ) → s ≤ℤ t → t ≤ℤ t' → nat_abs (t -ℤ s) ≤ nat_abs (t' -ℤ s)
places_order = rep₃ _ (λ a b c d e f. simp sizes (omega arith))

places_less : (s t t' : ℤ) → s ≤ℤ t → t <ℤ t' → nat_abs (t -ℤ s) < nat_abs (t' -ℤ s)
places_less = rep₃ _ (λ a b c d e f. simp sizes (omega arith))

ticks_order : (s : ℤ) (i j : ℕ) → i ≤ j → (s +ℤ pos i) ≤ℤ (s +ℤ pos j)
ticks_order s i j h = rep (λ s. (s +ℤ pos i) ≤ℤ (s +ℤ pos j)) (λ a b. simp lin (omega arith)) s

next_tick : (s : ℤ) (i j : ℕ) → i ≤ j + 1 → (s +ℤ pos i) ≤ℤ ((s +ℤ pos j) +ℤ pos 1)
next_tick s i j h = rep (λ s. (s +ℤ pos i) ≤ℤ ((s +ℤ pos j) +ℤ pos 1)) (λ a b. simp lin (omega arith)) s

weaken : (x a : ℤ) → x ≤ℤ a → x ≤ℤ (a +ℤ pos 1)
weaken = rep₂ _ (λ a b c d. simp lin (omega arith))

before_place : (T : Table) (s : ℤ) (i : ℕ) → S T ≤ℤ s → s <ℤ tick_at T i → place_of T s < i
unfolding place_of
before_place T s i low l = rw (place_of_tick T i) at (places_less (S T) s (tick_at T i) low l)

-- a tick inside is not refused with 6, and a TDB that is covered is not
kept_number : (valid : Bool) (epoch : Epoch) → stepped_number (cond valid (Ok epoch) (Err Outside.Range)) ≡ 6 → ⊥
unfolding stepped_number
kept_number true epoch e = omega arith
kept_number false epoch e = omega arith

inside_number : (T : Table) (cs : List ℤ) (t : ℤ) → is_inside T t ≡ true → stepped_number (tdb_step T cs t) ≡ 6 → ⊥
unfolding tdb_step kept_in
inside_number T cs t h = rw h (kept_number (is_valid (tdb_of T cs t)) (record { scale = Tdb; tick = tdb_of T cs t }))

outside_number : (T : Table) (cs : List ℤ) (t : ℤ) → is_inside T t ≡ false → stepped_number (tdb_step T cs t) ≡ 6
unfolding tdb_step stepped_number
outside_number T cs t h = rw h

covered_number : (T : Table) (cs : List ℤ) (a : ℤ) → is_covered T cs a ≡ true → stepped_number (tt_step T cs a) ≡ 6 → ⊥
unfolding tt_step stepped_number
covered_number T cs a h = rw h (λ e. omega arith)

uncovered_number : (T : Table) (cs : List ℤ) (a : ℤ) → is_covered T cs a ≡ false → stepped_number (tt_step T cs a) ≡ 6
unfolding tt_step stepped_number
uncovered_number T cs a h = rw h

-- ---- over any table and coefficients
module _ (T : Table) (cs : List ℤ) where
  -- the asked TDB inside the ends
  covered_both : (a : ℤ) → is_covered T cs a ≡ true → (tdb_at T cs 0 ≤ℤ a) × (a ≤ℤ tdb_at T cs (last_place T))
  unfolding is_covered
  covered_both a e =
      let b = both (le_z (tdb_at T cs 0) a) (le_z a (tdb_at T cs (last_place T))) e in
      (le_yes (tdb_at T cs 0) a b.0, le_yes a (tdb_at T cs (last_place T)) b.1)

  -- inside them there is an earliest tick, and TT from TDB is it
  pub earliest_of : (a : ℤ) → is_covered T cs a ≡ true → Earliest T cs a (tt_of T cs a)
  unfolding tt_of tdb_at
  earliest_of a e =
      let i = earliest_place T cs a in
      record { inside = tick_inside T i (earliest_inside T cs a); reached = earliest_reached T cs a (covered_both a e).1; none = none }
    where
      none : (s : ℤ) → is_inside T s ≡ true → s <ℤ tick_at T (earliest_place T cs a) → tdb_of T cs s <ℤ a
      none s h l =
          let low = (inside_both T s h).0 in
          rw (tdb_of_lem T cs s low) (earliest_none T cs a (place_of T s) (before_place T s (earliest_place T cs a) low l))

  -- and there is at most one
  pub earliest_one : (a s t : ℤ) → Earliest T cs a s → Earliest T cs a t → s ≡ t
  earliest_one a s t p q = ⊎_elim
      (λ (k : s ≤ℤ t). ⊎_elim (λ (l : t ≤ℤ s). ≤-antisym s t k l) (λ (l : s <ℤ t). absurd (clash (tdb_of T cs s) a (q.none s p.inside l) p.reached))
      (≤-total t s))
      (λ (k : t <ℤ s). absurd (clash (tdb_of T cs t) a (p.none t q.inside k) q.reached))
      (≤-total s t)

  -- of two TDB ticks the earlier never goes back to a later TT
  pub order_back : (a b : ℤ) → a ≤ℤ b → tt_of T cs a ≤ℤ tt_of T cs b
  unfolding tt_of tick_at
  order_back a b l = ticks_order (S T) (earliest_place T cs a) (earliest_place T cs b) (⊎_elim
      (λ (k : earliest_place T cs a ≤ earliest_place T cs b). k)
      (λ (k : earliest_place T cs b < earliest_place T cs a).
      absurd (clash (tdb_at T cs (earliest_place T cs b)) a (earliest_none T cs a (earliest_place T cs b) k)
      (≤_trans a b (tdb_at T cs (earliest_place T cs b)) l (earliest_found T cs b (omega (arith, earliest_inside T cs a))))))
      (le_or_lt (earliest_place T cs a) (earliest_place T cs b)))

  -- refusal 6 is given exactly to a TT outside the table, and to a TDB before that of the
  -- first tick or after that of the last
  pub refused : (t : ℤ) → (stepped_number (tdb_step T cs t) ≡ 6) ↔ ((t <ℤ S T) ⊎ (tick_at T (last_place T) <ℤ t))
  refused t = (to, λ o. outside_number T cs t (⊎_elim (before_no T t) (after_no T t) o))
    where
      to : stepped_number (tdb_step T cs t) ≡ 6 → (t <ℤ S T) ⊎ (tick_at T (last_place T) <ℤ t)
      to e = ⊎_elim
          (λ (l : S T ≤ℤ t). ⊎_elim (λ (h : t ≤ℤ tick_at T (last_place T)). absurd (inside_number T cs t (inside_yes T t l h) e))
          (λ (h : tick_at T (last_place T) <ℤ t). inr h) (≤-total t (tick_at T (last_place T))))
          (λ (l : t <ℤ S T). inl l)
          (≤-total (S T) t)

  pub refused_back : (a : ℤ)
      → (stepped_number (tt_step T cs a) ≡ 6) ↔ ((a <ℤ tdb_at T cs 0) ⊎ (tdb_at T cs (last_place T) <ℤ a))
  unfolding is_covered
  refused_back a = (to, λ o. uncovered_number T cs a (⊎_elim before after o))
    where
      to : stepped_number (tt_step T cs a) ≡ 6 → (a <ℤ tdb_at T cs 0) ⊎ (tdb_at T cs (last_place T) <ℤ a)
      to e = ⊎_elim
          (λ (l : tdb_at T cs 0 ≤ℤ a). ⊎_elim (λ (h : a ≤ℤ tdb_at T cs (last_place T)). absurd (covered_number T cs a (all l h) e))
          (λ (h : tdb_at T cs (last_place T) <ℤ a). inr h) (≤-total a (tdb_at T cs (last_place T))))
          (λ (l : a <ℤ tdb_at T cs 0). inl l)
          (≤-total (tdb_at T cs 0) a)
        where
          all : tdb_at T cs 0 ≤ℤ a → a ≤ℤ tdb_at T cs (last_place T) → is_covered T cs a ≡ true
          all l h = let x = yes_le (tdb_at T cs 0) a l in let y = yes_le a (tdb_at T cs (last_place T)) h in rw (x, y)

      before : a <ℤ tdb_at T cs 0 → is_covered T cs a ≡ false
      before l = let x = no_le (tdb_at T cs 0) a l in rw x

      after : tdb_at T cs (last_place T) <ℤ a → is_covered T cs a ≡ false
      after l = and_right (le_z (tdb_at T cs 0) a) (no_le a (tdb_at T cs (last_place T)) l)

-- ---- over an accepted one
module _ (T : Table) (cs : List ℤ) (A : Accepted T cs) where
  -- 1. Each TT to TDB answer is within 33/64 tick of TT minus the exact sum, all times
  -- 65536·H^n: 64·|u·TDB − (u·TT − H^n·sum)| ≤ 33·u
  pub table_distance : (t : ℤ) → is_inside T t ≡ true
      → 64 * nat_abs
      (pos (units_in_tick * H T ^ T.degree) *ℤ tdb_of T cs t
      -ℤ (pos (units_in_tick * H T ^ T.degree) *ℤ t -ℤ table_exact T cs (place_of T t)))
      ≤ 33 * (units_in_tick * H T ^ T.degree)
  unfolding tdb_of
  table_distance t h =
      let u = pos (units_in_tick * H T ^ T.degree) in
      let i = place_of T t in
      let d = table_delay T cs i in
      rw (turned u t d (table_exact T cs i), abs_neg (u *ℤ d -ℤ table_exact T cs i), ← factor (pos units_in_tick) d (pos (H T ^ T.degree)))
      (omega (arith, delay_exact T cs A i (placed T t h)))

  -- 2. Of two TT ticks the earlier never has the later TDB
  pub order : (s t : ℤ) → is_inside T s ≡ true → is_inside T t ≡ true → s ≤ℤ t → tdb_of T cs s ≤ℤ tdb_of T cs t
  unfolding place_of
  order s t hs ht l =
      let low = (inside_both T s hs).0 in
      rw (tdb_of_lem T cs s low, tdb_of_lem T cs t (inside_both T t ht).0)
      (tdb_order T cs A (place_of T s) (place_of T t) (places_order (S T) s t low l) (placed T t ht))

  -- TT from TDB is a valid epoch, so that no 4 can come of it
  pub tt_valid : (a : ℤ) → is_valid (tt_of T cs a) ≡ true
  unfolding tt_of tick_at is_valid
  tt_valid a =
      let t = S T +ℤ pos (earliest_place T cs a) in
      size_test furthest t
      ∙ is_true (leb (nat_abs t) furthest) (le→leb (nat_abs t) furthest (tick_small T A.bounds (earliest_place T cs a) (earliest_inside T cs a)))

  -- 3. TT to TDB to TT lands within one tick, and so does TDB to TT to TDB
  back_place : (i : ℕ) → i ≤ last_place T → let j = earliest_place T cs (tdb_at T cs i) in (j ≤ i) × (i ≤ j + 1)
  back_place i h =
      let a = tdb_at T cs i in
      let j = earliest_place T cs a in (
        earliest_least T cs a i (≤ℤ_refl a),
        ⊎_elim (λ (l : i ≤ j + 1). l)
            (λ (l : j + 1 < i). absurd
            (clash (tdb_at T cs j) a (tdb_rises T cs A j i (omega arith) h)
            (earliest_reached T cs a (tdb_order T cs A i (last_place T) h (le_refl (last_place T))))))
            (le_or_lt i (j + 1)),
      )

  pub table_there_and_back : (t : ℤ) → is_inside T t ≡ true
      → (tt_of T cs (tdb_of T cs t) ≤ℤ t) × (t ≤ℤ (tt_of T cs (tdb_of T cs t) +ℤ pos 1))
  unfolding tt_of tick_at
  table_there_and_back t h =
      let low = (inside_both T t h).0 in
      let i = place_of T t in
      let p = back_place i (placed T t h) in
      let e = tdb_of_lem T cs t low in
      subst (λ (x : ℤ). (tt_of T cs (tdb_of T cs t) ≤ℤ x) × (x ≤ℤ (tt_of T cs (tdb_of T cs t) +ℤ pos 1))) (tick_of_place T t low)
      (rw e (near_tick i (earliest_place T cs (tdb_at T cs i)) p))
    where
      near_tick : (i j : ℕ) → (j ≤ i) × (i ≤ j + 1) → (tick_at T j ≤ℤ tick_at T i)
          × (tick_at T i ≤ℤ (tick_at T j +ℤ pos 1))
      near_tick i j p = (ticks_order (S T) j i p.0, next_tick (S T) i j p.1)

  pub back_and_there : (a : ℤ) → is_covered T cs a ≡ true
      → (a ≤ℤ tdb_of T cs (tt_of T cs a)) × (tdb_of T cs (tt_of T cs a) ≤ℤ (a +ℤ pos 1))
  unfolding tt_of tdb_at
  back_and_there a e = (
    (earliest_of T cs a e).reached,
    ⊎_elim
        (λ (l : earliest_place T cs a ≤ 0). let z : earliest_place T cs a ≡ 0 = omega arith in rw z (weaken (tdb_at T cs 0) a (covered_both T cs a e).0))
        (λ (l : 0 < earliest_place T cs a). earliest_near T cs A a (earliest_place T cs a - 1) (omega arith))
        (le_or_lt (earliest_place T cs a) 0),
  )

  -- the TDB of a tick inside is never refused on the way back
  pub tdb_covered : (t : ℤ) → is_inside T t ≡ true → is_covered T cs (tdb_of T cs t) ≡ true
  unfolding is_covered
  tdb_covered t h =
      let i = place_of T t in
      let low = yes_le (tdb_at T cs 0) (tdb_at T cs i) (tdb_order T cs A 0 i zero-le (placed T t h)) in
      let high = yes_le (tdb_at T cs i) (tdb_at T cs (last_place T)) (tdb_order T cs A i (last_place T) (placed T t h) (le_refl (last_place T))) in
      rw (tdb_of_lem T cs t (inside_both T t h).0, low, high)
