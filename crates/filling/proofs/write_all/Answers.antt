use mathlib.Core.Path.{sym, ◌∙◌}
use native.Mathlib.Omega.{arith}
use Rattle.filling.proofs.Writing.{walked_none, walked_more, walked_here, walked_all}
use Rattle.filling.proofs.write_all.Goals as goal

pub copy_all-requires : goal.copy_all-requires
copy_all-requires c = c.requires.long

pub loop-done-init : goal.loop-done-init
loop-done-init c = rw c.copy_all.ensures (walked_none _ _ _ _ _ c.requires.steps c.requires.accepted)

pub shape_of-answers-in_default : goal.shape_of-answers-in_default
shape_of-answers-in_default c = c.loop-done.invariant.long ∙ sym c.requires.long

pub returns-in_default : goal.returns-in_default
returns-in_default c = walked_here _ _ _ _ _ _ _ _ c.loop-done.invariant c.loop-done-test.true (sym c.next_step.ensures ∙ c.in_default.is)

pub loop-done-preserved : goal.loop-done-preserved
loop-done-preserved c =
    rw (c.end_of-scale.ensures, c.step_all.ensures)
    (walked_more _ _ _ _ _ c.requires.steps c.requires.accepted _ _ _ _ c.loop-done-test.true (sym c.next_step.ensures ∙ c.in-Some.is) c.loop-done.invariant)

pub shape_of-answers : goal.shape_of-answers
shape_of-answers c = c.loop-done.invariant.long ∙ sym c.requires.long

pub returns : goal.returns
returns c = walked_all _ _ _ _ _ _ _ _ c.loop-done.invariant c.loop-done-test.false
