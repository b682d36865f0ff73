-- `lines::answer_last` meets its contract. Assumes nothing.
use Prim.Native.Nat.{◌≤◌}
use native.Mathlib.Omega.{arith}
use lib.ListN.{length}
use Rattle.lines.proofs.Pieces.{output_last}
use Rattle.lines.proofs.answer_last.Goals as goal

pub returns : goal.returns
returns c =
    let some : 1 ≤ length c.args.text.now = omega arith in
    rw (output_last c.args.over.judged c.args.over.coefficients.now c.args.line c.args.text.now c.requires.plain some) c.answer_line.ensures.put
