-- `filling::write_all` meets its contract: what is left of each entry's walk, from where
-- the list stands, is that entry's conversion. Assumes nothing.
use Rattle.filling.proofs.Writing.{Walked}
use Rattle.filling.proofs.write_all.Given as goal

abbrev pub invariant-loop-done : goal.invariant-loop-done
invariant-loop-done l = Walked l.kept.table l.kept.coefficients.now l.initial.scale l.to l.ticks l.done l.scale l.answers
