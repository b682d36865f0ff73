-- What `turns::run` keeps from turn to turn: an unfinished line is at the front of the text.
use Rattle.turns.specs.Buffers.{Waiting}
use Rattle.turns.proofs.run.Given as goal

abbrev pub invariant-loop-turn : goal.invariant-loop-turn
invariant-loop-turn g l = Waiting l.text l.kept l.line l.out
