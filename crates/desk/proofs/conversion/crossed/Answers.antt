-- `desk::conversion::crossed` meets its contract. Assumes nothing.
use Rattle.scales.proofs.PassedOn.{passed_on}
use Rattle.walk.proofs.Holding.{accepted_held}
use Rattle.desk.proofs.conversion.crossed.Goals as goal

pub invariant_of-between : goal.invariant_of-between
invariant_of-between c = record { held = accepted_held _ _ (c.requires.accepted _ c.in_ok-judged.was) }

pub returns-in_err-judged : goal.returns-in_err-judged
returns-in_err-judged c = rw (passed_on _ _ c.from_residual.ensures, c.in_err-judged.was)

pub returns : goal.returns
returns c = rw c.in_ok-judged.was c.between.ensures
