use mathlib.Core.Path.{◌≡◌, sym, ◌∙◌, ap}
use mathlib.Core.List.{List, [], ◌∷◌, ◌++◌}
use Prim.Native.Nat.{ℕ, ◌+◌, ◌-◌, ◌≤◌, ◌<◌}
use native.Mathlib.Numerals.{add-one}
use native.Mathlib.Omega.{arith}
use lib.ListN.{length, get_or, set, take, drop, length-drop}
use lib.Seq.{length-take-le, take-suc, take_all, get_or-take, get_or-drop, get_or-append-add}
use Rattle.printing.specs.Buffers.{with_text, TextPut}
use Rattle.printing.proofs.Filling.{length_kept, then_byte}
use Rattle.lines.specs.Buffers.{Moving}
use Rattle.lines.proofs.Parts.{put_nothing}
use Rattle.lines.proofs.keep.Invariants.{Moved, part}
use Rattle.lines.proofs.keep.Goals as goal

module _ {text₀ : List ℕ} {start end : ℕ} (moving : Moving text₀ start end) where
  long : length (part text₀ start end) ≡ end - start
  long = length-drop start (take end text₀) ∙ ap (λ (n : ℕ). n - start) (length-take-le end text₀ moving.inside)

  at_first : Moved text₀ start end text₀ 0
  at_first = record { few = omega arith; inside = omega (arith, moving.ordered); put = put_nothing text₀ }

  module _ {text : List ℕ} {kept : ℕ} (moved : Moved text₀ start end text kept) where
    size : length (take kept (part text₀ start end)) ≡ kept
    size = length-take-le kept (part text₀ start end) (omega (arith, long, moved.inside))

    same : length text ≡ length text₀
    same = length_kept moved.put (omega (arith, size, moved.inside, moving.inside))

    -- as it was
    still : get_or text (start + kept) 0 ≡ get_or text₀ (start + kept) 0
    unfolding with_text
    still =
        let front = take kept (part text₀ start end) in
        let e : start + kept ≡ length front + start = omega (arith, size) in
        let f : 0 + length front + start ≡ start + kept = omega (arith, size) in
        ap (λ (l : List ℕ). get_or l (start + kept) 0) moved.put.holds
        ∙ ap (λ (n : ℕ). get_or (front ++ drop (0 + length front) text₀) n 0) e
        ∙ get_or-append-add front (drop (0 + length front) text₀) start 0
        ∙ get_or-drop (0 + length front) text₀ start 0
        ∙ ap (λ (n : ℕ). get_or text₀ n 0) f

    -- one more
    module _ (more : start + kept < end) where
      byte_is : get_or text (start + kept) 0 ≡ get_or (part text₀ start end) kept 0
      byte_is = still ∙ sym (get_or-drop start (take end text₀) kept 0 ∙ get_or-take end text₀ (start + kept) 0 more)

      next : kept < 65 → Moved text₀ start end (set text kept (get_or text (start + kept) 0)) (kept + 1)
      next less =
          let e : take (kept + 1) (part text₀ start end) ≡ take kept (part text₀ start end) ++ (get_or text (start + kept) 0 ∷ []) =
          rw (add-one kept, byte_is) (take-suc (part text₀ start end) kept 0 (omega (arith, long))) in
          record {
            few = omega arith;
            inside = omega arith;
            put = rw e (then_byte moved.put (get_or text (start + kept) 0) (omega (arith, size, moving.inside)));
          }

    -- all there are
    ended : end ≤ start + kept → TextPut text₀ 0 (take 65 (part text₀ start end)) text kept
    ended h =
        let l = long in
        let e : take 65 (part text₀ start end) ≡ take kept (part text₀ start end) =
        take_all 65 (part text₀ start end) (omega (arith, moved.few)) ∙ sym (take_all kept (part text₀ start end) (omega arith)) in
        rw e moved.put

    full : 65 ≤ kept → TextPut text₀ 0 (take 65 (part text₀ start end)) text 65
    full h = let e : kept ≡ 65 = omega (arith, moved.few) in rw e at moved.put

pub loop-kept-init : goal.loop-kept-init
loop-kept-init c = at_first c.requires

pub shape_of-text-then-start-kept : goal.shape_of-text-then-start-kept
shape_of-text-then-start-kept c = same c.requires c.loop-kept.invariant

pub returns-then-start-kept : goal.returns-then-start-kept
returns-then-start-kept c = ended c.requires c.loop-kept.invariant c.if-start-kept.true

pub loop-kept-preserved : goal.loop-kept-preserved
loop-kept-preserved c = next c.requires c.loop-kept.invariant c.if-start-kept.false c.loop-kept-test.true

pub shape_of-text : goal.shape_of-text
shape_of-text c = same c.requires c.loop-kept.invariant

pub returns : goal.returns
returns c = full c.requires c.loop-kept.invariant c.loop-kept-test.false
