-- `filling::steps::each` meets its contract: each place written so far holds where the step came
-- to, by whatever rule it goes, and the others hold what they held. Assumes nothing.
use lib.IntN.{ℤ, pos}
use Rattle.numbers.proofs.Places.{Mapped}
use Rattle.scales.specs.Answers.{Stepped, stepped_tick}
use Rattle.filling.specs.Inner.{Steps}
use Rattle.filling.proofs.steps.each.Given as goal

abbrev pub invariant-loop-tick : goal.invariant-loop-tick
invariant-loop-tick g l =
    (rule : ℤ → Stepped) → Steps (goal.F-post g l.step) rule
    → Mapped (λ (tick : ℤ). stepped_tick (rule tick)) (pos 0) l.initial.answers l.answers l.tick-index
