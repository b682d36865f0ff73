-- `granule::value` meets its contract. The loop's invariant: with c_1, .., c_k left, b1 and b2 are
-- b_(k+1) and b_(k+2), which stay below 2^60 since test 14 has passed; a turn is the page's
-- recurrence, and after the turns down to k = 1 the last call makes v. The measure is k. Assumes
-- nothing.
use lib.ListN.{length}
use Rattle.granule.proofs.Turns.{Left}
use Rattle.granule.proofs.value.Given as goal

abbrev pub invariant-loop-left : goal.invariant-loop-left
invariant-loop-left l = Left l.coefficients l.place l.length l.left l.b1.0 l.b2.0

abbrev pub decreases-loop-left : goal.decreases-loop-left
decreases-loop-left l = length l.left
