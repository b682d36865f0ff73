-- `lines::next_line` meets its contract. Assumes nothing.
use native.Mathlib.Omega.{arith}
use Rattle.lines.proofs.Numbering.{next_is, next_stays}
use Rattle.lines.proofs.next_line.Goals as goal

pub returns-then-line-lt18446744073709551615 : goal.returns-then-line-lt18446744073709551615
returns-then-line-lt18446744073709551615 c = omega (arith, next_is c.args.line (omega arith))

pub returns : goal.returns
returns c = omega (arith, next_stays c.args.line (omega arith))
