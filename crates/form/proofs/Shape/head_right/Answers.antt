-- `form::Shape::head_right` meets its contract: eight bytes are a number's, each its own, exactly
-- where they make it up. Assumes nothing.
use Prim.Native.Nat.{◌*◌}
use Rattle.form.specs.Form.{fixed_byte}
use Rattle.numbers.proofs.Places.{every_same, up_to_at}
use Rattle.words.proofs.Digits.{same_word}
use Rattle.words.specs.Words.{block}
use borrow.Author.Rules.{rules}
use lib.Dec.{eqb}
use lib.ListN.{get_or}
use mathlib.Core.Path.{◌∙◌, ap}
use Rattle.form.proofs.Shape.head_right.Goals as goal

pub returns : goal.returns
returns c =
    let b = c.args.bytes.now in
    same_word b (c.args.k * 512) c.other_head.result (λ i. (c.type_inv.bytes i).fits) (λ i. search rules) _ _ c.word_at.ensures c.from_le_bytes.ensures
    ∙ every_same (λ j. eqb (block b c.args.k j) (get_or c.other_head.result j 0)) (λ j. eqb (block b c.args.k j) (fixed_byte c.args.self.count c.args.k j)) 8
    (λ j h. ap (λ l. eqb (block b c.args.k j) (get_or l j 0)) c.other_head.ensures
    ∙ ap (eqb (block b c.args.k j)) (up_to_at (fixed_byte c.args.self.count c.args.k) 8 j 0 h))
