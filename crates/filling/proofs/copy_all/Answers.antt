use mathlib.Core.Path.{◌∙◌}
use native.Mathlib.Omega.{arith}
use borrow.Author.Rules.{rules}
use lib.IntN.{pos}
use lib.ListN.{get_or}
use lib.Seq.{ext_get_or}
use mir.Syntax.{w64}
use mir.ValLaws.{to_z-of_z}
use Rattle.numbers.proofs.Places.{written_more}
use Rattle.filling.proofs.copy_all.Goals as goal

pub bounds-answers-i : goal.bounds-answers-i
bounds-answers-i c = omega (arith, c.requires, c.loop-i.auto.answers)

pub loop-i-preserved : goal.loop-i-preserved
loop-i-preserved c =
    let l = c.loop-i in
    written_more l.answers l.i _ (pos 0) (λ j. get_or c.args.ticks.now j (pos 0)) (bounds-answers-i c) l.invariant
    (to_z-of_z w64 (get_or c.args.ticks.now l.i (pos 0)) (record { sfits = search rules }))

pub returns : goal.returns
returns c =
    let l = c.loop-i in
    let long = l.auto.answers ∙ c.requires in
    ext_get_or (pos 0) _ _ long (λ i h. l.invariant i (omega (arith, long, h, c.loop-i-test.false)))
