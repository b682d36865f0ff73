-- What `line::number::size_in` keeps from digit to digit: what is read of them is the size so far.
use Rattle.std.proofs.Common.{drop}
use Rattle.line.proofs.Digits.{Sized}
use Rattle.line.proofs.number.size_in.Given as goal

abbrev pub invariant-loop-digit : goal.invariant-loop-digit
invariant-loop-digit l = Sized l.digits (drop l.digit-index l.digits) l.size
