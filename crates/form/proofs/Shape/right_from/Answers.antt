-- `form::Shape::right_from` meets its contract. Assumes nothing.
use Prim.Native.Nat.{ℕ, ◌+◌, ◌*◌, ◌-◌, ◌≤◌, ◌<◌}
use Rattle.form.proofs.FreeBytes.{right_free, right_fixed, wrong_fixed, right_zero}
use Rattle.form.specs.Asked.{FreeRun, ZeroRun, RightRun}
use Rattle.form.specs.Form.{fixed_byte, is_right}
use Rattle.words.specs.Words.{from, block}
use Rattle.numbers.proofs.Places.{every_at}
use Rattle.numbers.specs.Lowest.{every}
use borrow.Author.Tests.{eqb-true}
use lib.Dec.{eqb}
use lib.ListN.{get_or}
use mathlib.Core.Bool.{true, false}
use mathlib.Core.List.{List}
use mathlib.Core.Path.{◌≡◌, refl, sym, ◌∙◌, ap}
use native.Mathlib.Nat.{not-suc-le-zero}
use native.Mathlib.Omega.{arith}
use Rattle.form.proofs.Shape.right_from.Goals as goal

module _ (G n k : ℕ) (f : ℕ → ℕ) (j : ℕ) where
  free_run : (r : ℕ) → FreeRun G n k j r → (r ≡ 0 → ⊥) → RightRun G n k f j r
  free_run r run some = record { right = λ i h. right_free G n k f (j + i) (run.free i h); wrong = λ z. absurd (some z); inside = run.inside }

  none : is_right G n k f j ≡ false → j < 508 → RightRun G n k f j 0
  none e h = record { right = λ i l. absurd (not-suc-le-zero l); wrong = λ _. e; inside = omega arith }

  one : is_right G n k f j ≡ true → j < 508 → RightRun G n k f j 1
  one e h = record {
    right = λ i l. let z : j + i ≡ j = omega arith in ap (is_right G n k f) z ∙ e;
    wrong = λ z. let w : ⊥ = omega arith in absurd w;
    inside = omega arith;
  }

zero_run : (G n k : ℕ) (b : List ℕ) (j r : ℕ) → 8 ≤ j → j < 508 → ZeroRun (from b (k * 512 + j)) (508 - j) r
    → (r ≡ 0 → ⊥) → RightRun G n k (block b k) j r
zero_run G n k b j r l h run some = record {
  right = λ i d. right_zero G n k (block b k) (j + i) (omega arith) (ap (λ x. get_or b x 0) (apart (k * 512) j i) ∙ run.zero i d);
  wrong = λ z. absurd (some z);
  inside = omega (arith, run.inside);
}
  where
    apart : (a j i : ℕ) → a + (j + i) ≡ a + j + i
    apart a j i = omega arith

-- the head of a block above 0
head_run : (G n k : ℕ) (f : ℕ → ℕ) (j : ℕ) → j ≡ 0 → every (λ i. eqb (f i) (fixed_byte G k i)) 8 ≡ true
    → RightRun G n k f j 8
head_run G n k f j e h = record {
  right =
      λ i l. let z : j + i ≡ i = omega arith in ap (is_right G n k f) z
      ∙ right_fixed G n k f i (fixed_byte G k i) (eqb-true (f i) (fixed_byte G k i) (every_at (λ i. eqb (f i) (fixed_byte G k i)) 8 i h l)) refl;
  wrong = λ z. let w : ⊥ = omega arith in absurd w;
  inside = omega arith;
}

above : (k : ℕ) → (k ≡ 0 → ⊥) → 1 ≤ k
above k n = omega arith

pub head_right-requires : goal.head_right-requires
head_right-requires c =
    let i = c.requires in
    let z = c.if-k-ne0.true in
    record { block = record { other = above _ z; full = i.within.full }; long = i.long }

pub returns-then-head_right : goal.returns-then-head_right
returns-then-head_right c =
    head_run c.args.self.count c.args.self.degree c.args.k (block c.args.bytes.now c.args.k) c.args.j c.if-j-eq0.true
    (sym c.head_right.ensures ∙ c.if-head_right.true)

pub free_from-free-requires : goal.free_from-free-requires
free_from-free-requires c = c.requires.within

pub returns-then-free-ne0 : goal.returns-then-free-ne0
returns-then-free-ne0 c =
    free_run c.args.self.count c.args.self.degree c.args.k (block c.args.bytes.now c.args.k) c.args.j _ c.free_from-free.ensures
    c.if-free-ne0.true

pub zeros_from-zeros-requires : goal.zeros_from-zeros-requires
zeros_from-zeros-requires c = let i = c.requires in omega (arith, i.long, i.within.place)

pub returns-then-zeros-ne0 : goal.returns-then-zeros-ne0
returns-then-zeros-ne0 c =
    zero_run c.args.self.count c.args.self.degree c.args.k c.args.bytes.now c.args.j _ c.if-j-ge8.true c.requires.within.place
    c.zeros_from-zeros.ensures c.if-zeros-ne0.true

pub returns-then-bytes-k : goal.returns-then-bytes-k
returns-then-bytes-k c =
    none c.args.self.count c.args.self.degree c.args.k (block c.args.bytes.now c.args.k) c.args.j
    (wrong_fixed c.args.self.count c.args.self.degree c.args.k (block c.args.bytes.now c.args.k) c.args.j _
    (c.free_from-free.ensures.fixed c.if-free-ne0.false) c.if-bytes-k.true c.fixed_byte.ensures) c.requires.within.place

pub returns : goal.returns
returns c =
    one c.args.self.count c.args.self.degree c.args.k (block c.args.bytes.now c.args.k) c.args.j
    (right_fixed c.args.self.count c.args.self.degree c.args.k (block c.args.bytes.now c.args.k) c.args.j _ c.if-bytes-k.false
    c.fixed_byte.ensures) c.requires.within.place
