use Prim.Native.Nat.{ℕ, ◌+◌, ◌-◌, ◌<◌, zero-le}
use Rattle.numbers.proofs.Places.{found_some, found_none, every_is, every_not}
use Rattle.form.specs.Asked.{RightRun}
use Rattle.form.specs.Form.{is_formed, is_right}
use Rattle.words.specs.Words.{block}
use borrow.Author.Count.{below_none, below_more}
use mathlib.Core.Bool.{true, false}
use mathlib.Core.Path.{◌≡◌, refl, ◌∙◌, subst}
use native.Mathlib.Decide.{dec_lt}
use native.Mathlib.Omega.{arith}
use Rattle.form.proofs.Shape.lowest_unformed.Goals as goal

-- past a run of right bytes
over_run : (G n k : ℕ) (f : ℕ → ℕ) (j r : ℕ) → ((i : ℕ) → i < j → is_right G n k f i ≡ true) → RightRun G n k f j r
    → (i : ℕ) → i < j + r
    → is_right G n k f i ≡ true
over_run G n k f j r h run i l = go (dec_lt i j)
  where
    go : Dec (i < j) → is_right G n k f i ≡ true
    go (yes d) = h i d
    go (no d) =
        let e : j + (i - j) ≡ i = omega arith in
        subst (λ (x : ℕ). is_right G n k f x ≡ true) e (run.right (i - j) (omega arith))

formed_is : (G n k : ℕ) (f : ℕ → ℕ) → ((j : ℕ) → j < 508 → is_right G n k f j ≡ true) → is_formed G n k f ≡ true
unfolding is_formed
formed_is G n k f h = every_is (is_right G n k f) 508 h

unformed : (G n k : ℕ) (f : ℕ → ℕ) (j : ℕ) → j < 508 → is_right G n k f j ≡ false → is_formed G n k f ≡ false
unfolding is_formed
unformed G n k f j h e = every_not (is_right G n k f) 508 j h e

pub blocks-2-init : goal.blocks-2-init
blocks-2-init c = (refl, c.requires.before)

pub loop-j-init : goal.loop-j-init
loop-j-init c = (c.blocks-2.invariant.0, zero-le, below_none _)

pub overflow_add-j : goal.overflow_add-j
overflow_add-j c = let i = c.right_from-right.ensures.inside in omega arith

pub loop-j-smaller : goal.loop-j-smaller
loop-j-smaller c = let i = c.right_from-right.ensures.inside in omega (arith, c.if-right-eq0.false)

pub loop-j-preserved : goal.loop-j-preserved
loop-j-preserved c =
    let l = c.loop-j in
    let k = c.blocks-2.k in (
      l.invariant.0,
      c.right_from-right.ensures.inside,
      over_run c.args.self.count c.args.self.degree k (block c.args.bytes.now k) l.j _ l.invariant.2
          c.right_from-right.ensures,
    )

pub blocks-2-preserved : goal.blocks-2-preserved
blocks-2-preserved c =
    let o = c.blocks-2 in (
      c.loop-j.invariant.0,
      below_more _ _ o.invariant.1
          (formed_is c.args.self.count c.args.self.degree o.k (block c.args.bytes.now o.k) (λ j h. c.loop-j.invariant.2 j (omega arith))),
    )

pub returns-after-blocks-2 : goal.returns-after-blocks-2
returns-after-blocks-2 c =
    let o = c.blocks-2 in
    o.invariant.0
    ∙ found_none (λ k. is_formed c.args.self.count c.args.self.degree k (block c.args.bytes.now k)) c.args.blocks
    (λ k h. o.invariant.1 k (omega (arith, c.requires.start)))

pub returns-then-right-eq0 : goal.returns-then-right-eq0
returns-then-right-eq0 c =
    let o = c.blocks-2 in
    found_some (λ k. is_formed c.args.self.count c.args.self.degree k (block c.args.bytes.now k)) c.args.blocks o.k c.blocks-2-test.true o.invariant.1
    (unformed c.args.self.count c.args.self.degree o.k (block c.args.bytes.now o.k) c.loop-j.j c.loop-j-test.true
    (c.right_from-right.ensures.wrong c.if-right-eq0.true))
