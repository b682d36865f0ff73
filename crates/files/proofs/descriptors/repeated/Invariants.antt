-- What `files::descriptors::repeated` keeps from turn to turn: the call may be made again, and what
-- it answers at most stays.
use Rattle.std.proofs.Common.{◌≡◌}
use Rattle.files.specs.Repeating.{Within}
use Rattle.files.proofs.descriptors.repeated.Given as goal

abbrev pub invariant-loop-turn : goal.invariant-loop-turn
invariant-loop-turn g l =
    goal.F-IsAlwaysCallable g l.call
    × ((most : _) → Within (goal.F-step g) most → most l.call ≡ most l.fn.call)
