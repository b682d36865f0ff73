-- The way back over a step that was taken from a valid tick: over a line it is always taken, over
-- the table from TDB always, and from TT unless the TDB there is past the range. Assumes nothing.
use Rattle.image.specs.declared.table.Table.{Table}
use Rattle.std.specs.Prelude.{None, Ok, Option, Some}
use mathlib.Core.Path.{◌≡◌, refl, ◌∙◌}
use mathlib.Core.Bool.{Bool, true, cond}
use mathlib.Core.Logic.{◌⊎◌, inl, inr, ⊎_elim}
use mathlib.Core.List.{List}
use Prim.Native.Nat.{◌≤◌, ◌<◌}
use native.Mathlib.Nat.{eq-or-lt_of_le}
use native.Mathlib.Omega.{arith}
use lib.Dec.{leb, le→leb}
use lib.IntN.{ℤ, pos, negsuc, neg_ℤ, nat_abs, ◌+ℤ◌, ◌-ℤ◌}
use lib.Signed.{◌≤ℤ◌}
use Rattle.numbers.proofs.Differences.{rep₂, sizes}
use Rattle.numbers.proofs.Machine.{is_true, size_test}
use Rattle.numbers.specs.Rounding.{floor_div, nearest}
use Rattle.scales.specs.declared.answer.Epoch.{Epoch}
use Rattle.scales.specs.declared.path.Line.{Line}
use Rattle.scales.specs.declared.path.Edge.TheVariants as Edge
use Rattle.scales.specs.declared.path.Step.{Step}
use Rattle.scales.specs.declared.path.Step.TheVariants.{Back}
use Rattle.scales.specs.Linear.{Linear, inverse, exact, nearest_tick}
use Rattle.scales.specs.Rows.{line_row, turned, line_step, opposite}
use Rattle.scales.specs.Tick.{furthest, is_valid}
use Rattle.scales.proofs.Every.{every_line, each_step}
use Rattle.scales.proofs.Range.{valid_size}
use Rattle.scales.proofs.Reached.{nowhere, same_tick}
use Rattle.linear.proofs.Promises.{proper, proper_inverse, nearest_back, took, line_taken}
use Rattle.linear.proofs.Promises.{turned_twice}
use Rattle.ephemeris.specs.Table.{tdb_of, tt_of}
use Rattle.ephemeris.proofs.Promises.{earliest_of, back_and_there, tdb_covered}
use Rattle.walk.specs.Inner.{Held}
use Rattle.walk.specs.Walk.{to_tdb, to_tt, step_of}
use Rattle.walk.proofs.OneStep.{Comes, tdb_reached, tt_reached, tdb_comes, tt_comes}

-- ---- the range
size_valid : (t : ℤ) → nat_abs t ≤ furthest → is_valid t ≡ true
unfolding is_valid
size_valid t h = size_test furthest t ∙ is_true (leb (nat_abs t) furthest) (le→leb (nat_abs t) furthest h)

one_off : (v t : ℤ) → nat_abs (v -ℤ t) ≤ 1 → nat_abs t < furthest → nat_abs v ≤ furthest
one_off = rep₂ _ (λ a b c d. simp sizes (omega arith))

which_end : (t : ℤ) → nat_abs t ≡ furthest → (t ≡ pos furthest) ⊎ (t ≡ neg_ℤ (pos furthest))
which_end (pos n) e = inl (rw e)
which_end (negsuc n) e = inr (let f : n ≡ 5999999999999999999 = omega arith in rw f)

-- ---- over a line: from within the range it comes back within one tick; from an end it is computed
abbrev back_from : Linear → ℤ → Bool
back_from s t = cond (is_valid (nearest_tick s t)) (is_valid (nearest_tick (inverse s) (nearest_tick s t))) true

abbrev along : Line → Linear
along line = (line_row line).by

ends_return : (t : ℤ) → (t ≡ pos furthest) ⊎ (t ≡ neg_ℤ (pos furthest)) → (line : Line)
    → (back_from (along line) t ≡ true) × (back_from (inverse (along line)) t ≡ true)
unfolding is_valid nearest_tick exact nearest floor_div
ends_return t (inl e) line =
    rw e (
      every_line (λ line. back_from (along line) (pos furthest)) (λ line. true) refl line,
      every_line (λ line. back_from (inverse (along line)) (pos furthest)) (λ line. true) refl line,
    )
ends_return t (inr e) line =
    rw e (
      every_line (λ line. back_from (along line) (neg_ℤ (pos furthest))) (λ line. true) refl line,
      every_line (λ line. back_from (inverse (along line)) (neg_ℤ (pos furthest))) (λ line. true) refl line,
    )

returns_by : (s : Linear) (t : ℤ) → nat_abs (nearest_tick (inverse s) (nearest_tick s t) -ℤ t) ≤ 1 → is_valid t ≡ true
    → is_valid (nearest_tick s t) ≡ true
    → ((t ≡ pos furthest) ⊎ (t ≡ neg_ℤ (pos furthest)) → back_from s t ≡ true)
    → is_valid (nearest_tick (inverse s) (nearest_tick s t)) ≡ true
returns_by s t near from to at_end =
    let back = nearest_tick (inverse s) (nearest_tick s t) in
    ⊎_elim
    (λ (e : nat_abs t ≡ furthest). rw to at (at_end (which_end t e)))
    (λ (h : nat_abs t < furthest). size_valid back (one_off back t near h))
    (eq-or-lt_of_le (valid_size t from))

line_returns : (line : Line) (t : ℤ) (u : Epoch) → line_step (line_row line) t ≡ Ok u
    → Comes (line_step (turned (line_row line)) u.tick)
line_returns line t u e =
    let row = line_row line in
    let a = took row t u e in
    let back = returns_by row.by t (nearest_back row.by (proper line) t) a.from a.to (λ end. (ends_return t end line).0) in
    rw (← same_tick a.is) (_, line_taken (turned row) (nearest_tick row.by t) a.to back)

line_returns_back : (line : Line) (t : ℤ) (u : Epoch) → line_step (turned (line_row line)) t ≡ Ok u
    → Comes (line_step (line_row line) u.tick)
line_returns_back line t u e =
    let row = turned (line_row line) in
    let a = took row t u e in
    let s = row.by in
    let back = returns_by s t (nearest_back s (proper_inverse (line_row line).by (proper line)) t) a.from a.to (λ end. (ends_return t end line).1) in
    rw (← turned_twice (line_row line), ← same_tick a.is) (_, line_taken (turned row) (nearest_tick s t) a.to back)

-- ---- over whatever is kept
module _ (cs : List ℤ) where
  tdb_returns : (kept : Option Table) → Held kept cs → (t : ℤ) (u : Epoch) → to_tdb kept cs t ≡ Ok u
      → Comes (to_tt kept cs u.tick)
  tdb_returns None h t u e = nowhere e
  tdb_returns (Some T) h t u e =
      let a = tdb_reached T cs t u e in
      rw (← same_tick a.is) (tt_comes T cs (tdb_of T cs t) (tdb_covered T cs (h.accepted T refl) t a.inside))

  after_asked : (v t : ℤ) → t ≤ℤ v → v ≤ℤ (t +ℤ pos 1) → nat_abs t ≤ furthest → nat_abs (t +ℤ pos 1) ≤ furthest
      → nat_abs v ≤ furthest
  after_asked = rep₂ _ (λ a b c d. simp sizes (omega arith))

  tt_returns : (kept : Option Table) → Held kept cs → (t : ℤ) (u : Epoch) → is_valid t ≡ true
      → is_valid (t +ℤ pos 1) ≡ true
      → to_tt kept cs t ≡ Ok u → Comes (to_tdb kept cs u.tick)
  tt_returns None h t u v w e = nowhere e
  tt_returns (Some T) h t u v w e =
      let a = tt_reached T cs t u e in
      let A = h.accepted T refl in
      let b = back_and_there T cs A t a.covered in
      let tdb = tdb_of T cs (tt_of T cs t) in
      let valid = size_valid tdb (after_asked tdb t b.0 b.1 (valid_size t v) (valid_size (t +ℤ pos 1) w)) in
      rw (← same_tick a.is) (tdb_comes T cs (tt_of T cs t) (earliest_of T cs t a.covered).inside valid)

-- ---- each step
pub step_returns : (kept : Option Table) (cs : List ℤ) → Held kept cs → (t : ℤ) (u : Epoch) → is_valid t ≡ true
    → (step : Step)
    → (step ≡ Back Edge.Table → is_valid (t +ℤ pos 1) ≡ true) → step_of kept cs step t ≡ Ok u
    → Comes (step_of kept cs (opposite step) u.tick)
step_returns kept cs h t u v = each_step _
    (λ line _ e. line_returns line t u e)
    (λ line _ e. line_returns_back line t u e)
    (λ _ e. tdb_returns cs kept h t u e)
    (λ end e. tt_returns cs kept h t u v (end refl) e)
