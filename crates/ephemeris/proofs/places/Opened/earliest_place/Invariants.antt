-- `ephemeris::places::Opened::earliest_place` meets its contract. The loop's invariant: after each
-- turn the place is as near to the earliest tick as `Closing` says. Assumes nothing.
use Prim.Native.Nat.{◌≤◌}
use Rattle.ephemeris.proofs.Closing.{NearEarliest, reach_after}
use Rattle.ephemeris.proofs.places.Opened.earliest_place.Given as goal

abbrev pub invariant-loop : goal.invariant-loop
invariant-loop l = (l.counter ≤ 2) × NearEarliest l.self.table l.self.coefficients.now l.asked.0 l.place (reach_after l.counter)
