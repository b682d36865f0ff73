-- What `files::descriptors::write_whole` keeps from turn to turn: no more is written than there is.
use Rattle.std.proofs.Common.{length, ◌≤◌}
use Rattle.files.proofs.descriptors.write_whole.Given as goal

abbrev pub invariant-loop-turn : goal.invariant-loop-turn
invariant-loop-turn g l = l.done ≤ length l.text
