use Rattle.scales.specs.Answers.{Answer, converted_to}
use Rattle.std.specs.Prelude.{Some, Err}
use mathlib.Core.Path.{◌≡◌, refl, sym, ◌∙◌, ap}
use Prim.Native.Nat.{ℕ, ◌+◌}
use lib.IntN.{ℤ}
use native.Mathlib.Omega.{arith}
use Rattle.numbers.proofs.Machine.{read_is}
use Rattle.scales.specs.Path.{next}
use Rattle.walk.specs.Walk.{answer_refused, walk_between}
use Rattle.walk.proofs.Walking.{walk_left, whole_left, no_walk_left, at_end, further, outside_table}
use Rattle.walk.proofs.Walking.{outside_range}
use Rattle.walk.proofs.walk.walk.Goals as goal
use Rattle.walk.proofs.walk.walk.Goals.{After-take_step, At-loop-steps}

-- what is left at the head of the loop is the whole walk
whole : (c : At-loop-steps) → let s = c.args in
    walk_left s.kept.table s.kept.coefficients.now s.to c.loop-steps.steps c.loop-steps.epoch
    ≡ walk_between s.kept.table s.kept.coefficients.now s.from s.to s.start
whole c =
    let s = c.args in
    let at : ℤ → Answer = λ tick. walk_left s.kept.table s.kept.coefficients.now s.to 0 (record { scale = s.from; tick = tick }) in
    c.loop-steps.invariant ∙ ap at (read_is _ c.ranges.start) ∙ whole_left s.kept.table s.kept.coefficients.now s.to s.from s.start

-- the step that is taken is the next one
by : (c : After-take_step) → next c.loop-steps.epoch.scale c.args.to
    ≡ Some c.in-Some.step
by c = sym c.next_step.ensures ∙ c.in-Some.is

pub loop-steps-init : goal.loop-steps-init
loop-steps-init c = refl

pub returns-in_default : goal.returns-in_default
returns-in_default c =
    let here = sym c.next_step.ensures ∙ c.in_default.is in
    sym (at_end _ _ _ c.loop-steps.steps c.loop-steps.epoch c.loop-steps-test.true here) ∙ whole (goal.at.returns-in_default c).At-loop-steps

pub returns-in-Err-Table : goal.returns-in-Err-Table
returns-in-Err-Table c =
    let no = sym c.take_step.ensures ∙ c.in-Err-Table.is ∙ ap Err c.in-Err-Table.field-0-is in
    c.refused.ensures
    ∙ ap (answer_refused 6) c.from.ensures
    ∙ sym (outside_table _ _ _ c.loop-steps.steps c.loop-steps.epoch c.loop-steps-test.true _ (by (goal.at.returns-in-Err-Table c).After-take_step) no)
    ∙ whole (goal.at.returns-in-Err-Table c).At-loop-steps

pub returns-in-Err-Range : goal.returns-in-Err-Range
returns-in-Err-Range c =
    let no = sym c.take_step.ensures ∙ c.in-Err-Range.is ∙ ap Err c.in-Err-Range.field-0-is in
    c.refused-in-Err-Range.ensures
    ∙ ap (λ (n : ℕ). answer_refused 4 (n + 1)) c.from-in-Err-Range.ensures
    ∙ sym (outside_range _ _ _ c.loop-steps.steps c.loop-steps.epoch c.loop-steps-test.true _ (by (goal.at.returns-in-Err-Range c).After-take_step) no)
    ∙ whole (goal.at.returns-in-Err-Range c).At-loop-steps

pub loop-steps-preserved : goal.loop-steps-preserved
loop-steps-preserved c =
    let yes = sym c.take_step.ensures ∙ c.in-Ok.is in
    sym (further _ _ _ c.loop-steps.steps c.loop-steps.epoch c.loop-steps-test.true _ (by (goal.at.loop-steps-preserved c).After-take_step) _ yes)
    ∙ c.loop-steps.invariant

pub returns : goal.returns
returns c =
    let done : c.loop-steps.steps ≡ 4 = omega (arith, c.loop-steps.auto) in
    ap (converted_to c.loop-steps.epoch) (sym done)
    ∙ sym (no_walk_left _ _ _ c.loop-steps.steps c.loop-steps.epoch c.loop-steps-test.false)
    ∙ whole (goal.at.returns c).At-loop-steps
