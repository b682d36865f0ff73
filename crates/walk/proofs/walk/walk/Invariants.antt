-- `walk::walk::walk` meets its contract. The walk that is left from where it stands is the whole
-- walk. Assumes nothing.
use mathlib.Core.Path.{◌≡◌}
use Rattle.walk.proofs.Walking.{walk_left}
use Rattle.walk.proofs.walk.walk.Given as goal

abbrev pub invariant-loop-steps : goal.invariant-loop-steps
invariant-loop-steps l =
    walk_left l.kept.table l.kept.coefficients.now l.to l.steps l.epoch
    ≡ walk_left l.kept.table l.kept.coefficients.now l.to 0 l.initial.epoch
