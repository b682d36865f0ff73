-- `form::Shape::free_from` meets its contract: the rest of a granule's coefficients is free as a
-- whole. Assumes nothing.
use Prim.Native.Nat.{ℕ, ◌+◌, ◌-◌, ◌≤◌, ◌<◌}
use Rattle.form.proofs.FreeBytes.{Slot, slot_told, slot_is, free_more, rest_at, rest_slot}
use Rattle.form.specs.Asked.{FreeRun}
use Rattle.granule.specs.Bounds.{most_degree}
use Rattle.form.specs.Form.{is_free}
use mathlib.Core.Bool.{true, false}
use mathlib.Core.Path.{◌≡◌, sym, ◌∙◌, ap}
use native.Mathlib.Nat.{not-suc-le-zero}
use native.Mathlib.Omega.{arith}
use Rattle.form.proofs.Shape.free_from.Goals as goal
use Rattle.form.proofs.Shape.free_from.Goals.{Else-k-eq0, Start}

none : (G n k j : ℕ) → is_free G n k j ≡ false → j < 508 → FreeRun G n k j 0
none G n k j e h = record { free = λ i l. absurd (not-suc-le-zero l); fixed = λ _. e; inside = omega arith }

one : (G n k j : ℕ) → is_free G n k j ≡ true → j < 508 → FreeRun G n k j 1
one G n k j e h = record {
  free = λ i l. let z : j + i ≡ j = omega arith in ap (is_free G n k) z ∙ e;
  fixed = λ z. let w : ⊥ = omega arith in absurd w;
  inside = omega arith;
}

rest : (G n k j : ℕ) → Slot G n k j → (k ≡ 0 → ⊥) → n ≤ most_degree → FreeRun G n k j (rest_at n j)
rest G n k j s o few =
    let last = (rest_slot G n k j (rest_at n j - 1) (omega arith) few s).high in
    record {
      free = λ i l. free_more G n k (j + i) o ∙ slot_is G n k (j + i) (rest_slot G n k j i l few s);
      fixed = λ z. let w : ⊥ = omega arith in absurd w;
      inside = within j (rest_at n j) last;
    }
  where
    within : (j r : ℕ) → j + (r - 1) < 392 → j + r ≤ 508
    within j r h = omega arith

-- past both tests the byte is a coefficient's
abbrev start : Else-k-eq0 → Start
start c = c.before.before.before

slot : (c : Else-k-eq0) → Slot (start c).args.self.count (start c).args.self.degree (start c).args.k (start c).args.j
slot c =
    slot_told c.args.self.count c.args.self.degree c.args.k c.args.j
    (sym (free_more c.args.self.count c.args.self.degree c.args.k c.args.j c.if-k-eq0.false) ∙ sym c.is_free.ensures ∙ c.if-not-is_free.false)

pub returns-then-not-is_free : goal.returns-then-not-is_free
returns-then-not-is_free c = none c.args.self.count c.args.self.degree c.args.k c.args.j (sym c.is_free.ensures ∙ c.if-not-is_free.true) c.requires.place

pub returns-then-k-eq0 : goal.returns-then-k-eq0
returns-then-k-eq0 c = one c.args.self.count c.args.self.degree c.args.k c.args.j (sym c.is_free.ensures ∙ c.if-not-is_free.false) c.requires.place

pub overflow_sub-result : goal.overflow_sub-result
overflow_sub-result c = (slot c).low

pub overflow_sub-result-2 : goal.overflow_sub-result-2
overflow_sub-result-2 c = (slot (goal.at.overflow_sub-result-2 c).Else-k-eq0).which

pub returns : goal.returns
returns c =
    rest c.args.self.count c.args.self.degree c.args.k c.args.j (slot (goal.at.returns c).Else-k-eq0) c.if-k-eq0.false c.args.self.few.degree
