-- `ephemeris::places::Opened::climb` meets its contract. The loop's invariant: the place is not
-- after the earliest tick. Assumes nothing.
use Prim.Native.Nat.{◌≤◌}
use Rattle.ephemeris.specs.Table.{earliest_place}
use Rattle.ephemeris.proofs.places.Opened.climb.Given as goal

abbrev pub invariant-loop-place : goal.invariant-loop-place
invariant-loop-place l = l.place ≤ earliest_place l.self.table l.self.coefficients.now l.asked.0
