use mathlib.Core.Path.{◌≡◌, refl, sym, ◌∙◌, ap}
use Prim.Native.Nat.{ℕ, suc, ◌+◌, ◌-◌, ◌≤◌, ◌<◌}
use native.Mathlib.Omega.{arith}
use lib.ListN.{length}
use Rattle.scales.specs.declared.scale.Scale.{Scale}
use Rattle.scales.specs.declared.path.Step.{Step}
use Rattle.std.specs.Prelude.{Some, None}
use Rattle.scales.specs.Path.{next, step_and_rest, path_within, longest_path, steps}
use Rattle.scales.specs.Rows.{end}
use Rattle.scales.proofs.path.steps_between.Invariants.{left}
use Rattle.scales.proofs.path.steps_between.Goals as goal

module _ (n : ℕ) (at to : Scale) (h : n < longest_path) where
  opened : left n at to ≡ length (step_and_rest (λ scale. path_within (longest_path - (n + 1)) scale to) (next at to))
  unfolding left
  opened = let e : longest_path - n ≡ suc (longest_path - (n + 1)) = omega arith in ap (λ (k : ℕ). length (path_within k at to)) e

  ended : next at to ≡ None → left n at to ≡ 0
  ended e = opened ∙ rw e

  onward : (step : Step) → next at to ≡ Some step → left n at to ≡ suc (left (n + 1) (end step) to)
  unfolding left
  onward step e = opened ∙ rw e

none_left : (n : ℕ) (at to : Scale) → longest_path ≤ n → left n at to ≡ 0
unfolding left
none_left n at to h = let e : longest_path - n ≡ 0 = omega arith in ap (λ (k : ℕ). length (path_within k at to)) e

all_left : (from to : Scale) → left 0 from to ≡ steps from to
unfolding left
all_left from to = refl

pub loop-walked-init : goal.loop-walked-init
loop-walked-init c = omega (arith, all_left c.args.from c.args.to)

pub returns-in_default : goal.returns-in_default
returns-in_default c =
    let here = sym c.next_step.ensures ∙ c.in_default.is in
    let e = ended c.loop-walked.walked c.loop-walked.at c.args.to c.loop-walked-test.true here in
    omega (arith, c.loop-walked.invariant, e)

pub loop-walked-preserved : goal.loop-walked-preserved
loop-walked-preserved c =
    let by = sym c.next_step.ensures ∙ c.in-Some.is in
    let e = onward c.loop-walked.walked c.loop-walked.at c.args.to c.loop-walked-test.true _ by in
    rw c.end_of-at.ensures (omega (arith, c.loop-walked.invariant, e))

pub returns : goal.returns
returns c =
    omega (arith, c.loop-walked.invariant, c.loop-walked.auto, none_left c.loop-walked.walked c.loop-walked.at c.args.to c.loop-walked-test.false)
