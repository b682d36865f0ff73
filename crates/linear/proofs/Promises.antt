-- What holds of every linear step, stated once over its row: its answer is within half a tick of
-- the exact value, the earlier never comes out later, and there and back lands within one tick; a
-- mere shift comes back exactly. Assumes nothing.
use Rattle.scales.specs.declared.answer.Outside.TheVariants as Outside
use Rattle.std.specs.Prelude.{Err, Ok}
use mathlib.Core.Path.{◌≡◌, refl, sym, ◌∙◌, ap, subst}
use mathlib.Core.Bool.{Bool, true, false, cond}
use mathlib.Core.List.{map}
use Prim.Native.Nat.{ℕ, ◌+◌, ◌*◌, ◌≤◌, ◌<◌}
use native.Mathlib.Omega.{arith}
use native.Mathlib.Nat.{mul-le-mul_left}
use borrow.Author.Tests.{ltb-true}
use lib.Dec.{ltb}
use lib.IntN.{ℤ, pos, neg_ℤ, neg_ℤ-neg_ℤ, nat_abs, ◌+ℤ◌, ◌-ℤ◌, ◌*ℤ◌}
use lib.Signed.{◌≤ℤ◌}
use Rattle.numbers.proofs.Differences.{rep₂, rep₃, rep₄, lin}
use Rattle.numbers.proofs.Order.{*-mono, abs-*}
use Rattle.numbers.proofs.Rounding.{nearest_order, within_half}
use Rattle.scales.specs.declared.answer.Epoch.{Epoch}
use Rattle.scales.specs.declared.path.Line.{Line}
use Rattle.scales.specs.declared.scale.Scale.{Scale}
use Rattle.scales.specs.Answers.{kept_in}
use Rattle.scales.specs.Linear.{Linear, inverse, exact, nearest_tick}
use Rattle.scales.specs.Rows.{LineRow, line_row, turned, line_step}
use Rattle.scales.specs.Tick.{is_valid}
use Rattle.scales.proofs.Every.{lines, every_line}
use Rattle.scales.proofs.Reached.{out_of_range, same_tick, kept_reached, valid_kept, kept_inside}
use Rattle.linear.proofs.Fractions.{shifted}

-- ---- what makes a fraction a step: neither part is 0, and neither clock runs three times as fast
-- as the other
pub record Proper (s : Linear) : Type 0 where
  pub times_above : 0 < s.times
  pub over_above : 0 < s.over
  pub not_slow : s.over < 3 * s.times
  pub not_fast : s.times < 3 * s.over

-- every line
less : (f g : Line → ℕ) → map (λ line. ltb (f line) (g line)) lines ≡ map (λ line. true) lines → (line : Line)
    → f line < g line
less f g all line = ltb-true (f line) (g line) (every_line (λ line. ltb (f line) (g line)) (λ line. true) all line)

pub proper : (line : Line) → Proper (line_row line).by
proper line = record {
  times_above = less (λ line. 0) (λ line. (line_row line).by.times) refl line;
  over_above = less (λ line. 0) (λ line. (line_row line).by.over) refl line;
  not_slow = less (λ line. (line_row line).by.over) (λ line. 3 * (line_row line).by.times) refl line;
  not_fast = less (λ line. (line_row line).by.times) (λ line. 3 * (line_row line).by.over) refl line;
}

-- and their inverses
pub proper_inverse : (s : Linear) → Proper s → Proper (inverse s)
proper_inverse s p =
    record { times_above = p.over_above; over_above = p.times_above; not_slow = p.not_fast; not_fast = p.not_slow }

module _ (s : Linear) (p : Proper s) where
  -- within half a tick of the exact value: |2·(over·answer − exact)| ≤ over
  nearest_half : (t : ℤ) → nat_abs (pos 2 *ℤ (pos s.over *ℤ nearest_tick s t -ℤ exact s t)) ≤ s.over
  unfolding nearest_tick
  nearest_half t = within_half (exact s t) s.over p.over_above

  -- the earlier never comes out later
  pub nearest_in_order : (t u : ℤ) → t ≤ℤ u → nearest_tick s t ≤ℤ nearest_tick s u
  unfolding nearest_tick exact
  nearest_in_order t u h =
      nearest_order (pos s.times *ℤ t +ℤ s.plus) (pos s.times *ℤ u +ℤ s.plus) s.over p.over_above
      (moved (pos s.times *ℤ t) (pos s.times *ℤ u) s.plus (*-mono s.times t u h))
    where
      moved : (x y z : ℤ) → x ≤ℤ y → (x +ℤ z) ≤ℤ (y +ℤ z)
      moved = rep₃ _ (λ a b c d e f. simp lin (omega arith))

-- ---- there and back: over·u is within over/2 of times·t + plus, and times·v within times/2 of
-- over·u − plus
close : (m n : ℕ) (x y z w : ℤ) → nat_abs (pos 2 *ℤ (y -ℤ (x +ℤ z))) ≤ n → nat_abs (pos 2 *ℤ (w -ℤ (y +ℤ neg_ℤ z))) ≤ m
    → nat_abs (pos 2 *ℤ (w -ℤ x)) ≤ n + m
close m n = rep₄ _ (λ a b c d e f g h. simp lin (omega arith))

factored : (n : ℕ) (v t : ℤ) → pos 2 *ℤ (pos n *ℤ v -ℤ pos n *ℤ t) ≡ pos (2 * n) *ℤ (v -ℤ t)
factored n = rep₂ _ (λ a b c d. simp lin (omega arith))

at_most_one : (m n k : ℕ) → n < 3 * m → 2 * m * k ≤ n + m → k ≤ 1
at_most_one m n k h l = below k (λ (b : 2 ≤ k). let z : ⊥ = omega (arith, mul-le-mul_left m b) in z)
  where
    below : (k : ℕ) → (2 ≤ k → ⊥) → k ≤ 1
    below k never = omega (arith, never)

pub nearest_back : (s : Linear) → Proper s → (t : ℤ) → nat_abs (nearest_tick (inverse s) (nearest_tick s t) -ℤ t) ≤ 1
unfolding nearest_tick exact
nearest_back s p t =
    let u = nearest_tick s t in
    let v = nearest_tick (inverse s) u in
    let there = within_half (pos s.times *ℤ t +ℤ s.plus) s.over p.over_above in
    let back = within_half (pos s.over *ℤ u +ℤ neg_ℤ s.plus) s.times p.times_above in
    let both = close s.times s.over (pos s.times *ℤ t) (pos s.over *ℤ u) s.plus (pos s.times *ℤ v) there back in
    at_most_one s.times s.over (nat_abs (v -ℤ t)) p.not_slow
    (subst (λ (n : ℕ). n ≤ s.over + s.times) (ap nat_abs (factored s.times v t) ∙ abs-* (pos (2 * s.times)) (v -ℤ t)) both)

-- ---- the same of a step that reaches an epoch
module _ (row : LineRow) (t : ℤ) where
  pub record Took (e : Epoch) : Type 0 where
    pub from : is_valid t ≡ true
    pub to : is_valid (nearest_tick row.by t) ≡ true
    pub is : record { scale = row.to; tick = nearest_tick row.by t } ≡ e

  pub took : (e : Epoch) → line_step row t ≡ Ok e → Took e
  unfolding line_step
  took e there = by (is_valid t) refl there
    where
      by : (valid : Bool) → is_valid t ≡ valid
          → cond valid (kept_in row.to (nearest_tick row.by t)) (Err Outside.Range) ≡ Ok e → Took e
      by true v there =
          let k = kept_reached row.to (nearest_tick row.by t) e there in
          record { from = v; to = k.0; is = k.1 }
      by false v there = out_of_range there

  tick_took : (e : Epoch) → line_step row t ≡ Ok e → nearest_tick row.by t ≡ e.tick
  tick_took e there = same_tick (took e there).is

  -- from a valid tick, whose nearest is valid, it is taken
  pub line_taken : is_valid t ≡ true → is_valid (nearest_tick row.by t) ≡ true
      → line_step row t ≡ Ok (record { scale = row.to; tick = nearest_tick row.by t })
  unfolding line_step
  line_taken from to = rw from (valid_kept row.to (nearest_tick row.by t) to)

-- outside the table is no linear step
pub never_table : {A : Type 0} (row : LineRow) (t : ℤ) → line_step row t ≡ (Err Outside.Table) → A
unfolding line_step
never_table {A} row t e = by (is_valid t) e
  where
    by : (valid : Bool) → cond valid (kept_in row.to (nearest_tick row.by t)) (Err Outside.Range)
        ≡ (Err Outside.Table) → A
    by true e = kept_inside row.to (nearest_tick row.by t) e
    by false e = let z : ◌≡◌ {A = ℕ} 0 1 = cc in let no : ⊥ = omega arith in absurd no

-- back and back again is the row itself
pub turned_twice : (row : LineRow) → turned (turned row) ≡ row
turned_twice row = ap (with_plus row) (neg_ℤ-neg_ℤ row.by.plus)
  where
    with_plus : LineRow → ℤ → LineRow
    with_plus row plus =
        let by : Linear = record { times = row.by.times; over = row.by.over; plus = plus } in
        record { from = row.from; to = row.to; by = by }

module _ (row : LineRow) (p : Proper row.by) (t : ℤ) (e : Epoch) (there : line_step row t ≡ Ok e) where
  pub line_half : nat_abs (pos 2 *ℤ (pos row.by.over *ℤ e.tick -ℤ exact row.by t)) ≤ row.by.over
  line_half = rw (← tick_took row t e there) (nearest_half row.by p t)

  pub line_in_order : (u : ℤ) (f : Epoch) → line_step row u ≡ Ok f → t ≤ℤ u → e.tick ≤ℤ f.tick
  line_in_order u f later h = rw (← tick_took row t e there, ← tick_took row u f later) (nearest_in_order row.by p t u h)

  pub line_back : (f : Epoch) → line_step (turned row) e.tick ≡ Ok f → nat_abs (f.tick -ℤ t) ≤ 1
  line_back f again = rw (← tick_took (turned row) e.tick f again, ← tick_took row t e there) (nearest_back row.by p t)

-- GPS–TAI and TAI–TT come back exactly
abbrev shift : Scale → Scale → ℤ → LineRow
shift from to by = record { from = from; to = to; by = record { times = 1; over = 1; plus = by } }

pub shift_back : (from to : Scale) (by t : ℤ) (e f : Epoch) → line_step (shift from to by) t ≡ Ok e
    → line_step (turned (shift from to by)) e.tick ≡ Ok f → f.tick ≡ t
shift_back from to by t e f there again =
    let row = shift from to by in
    sym (tick_took (turned row) e.tick f again)
    ∙ sym (shifted e.tick (neg_ℤ by))
    ∙ ap (λ (z : ℤ). z +ℤ neg_ℤ by) (sym (tick_took row t e there) ∙ sym (shifted t by))
    ∙ undone t by
  where
    undone : (x y : ℤ) → x +ℤ y +ℤ neg_ℤ y ≡ x
    undone = rep₂ _ (λ a b c d. simp lin (omega arith))
