-- `ephemeris::tick::near` meets its contract. Assumes nothing.
use lib.IntN.{pos, neg_ℤ}
use Rattle.ephemeris.specs.Asked.{furthest_tdb, is_near}
use Rattle.ephemeris.proofs.Ticks.{at_most_is}
use Rattle.ephemeris.proofs.tick.near.Goals as goal

pub returns : goal.returns
unfolding is_near
returns c =
    let start = c.new.ensures.start in
    let end = c.new.ensures.end in
    let left = c.new.ensures.exhausted in
    let tick = c.args.tick.0 in
    rw (c.contains.ensures.value, start, end, left, at_most_is (neg_ℤ (pos furthest_tdb)) tick, at_most_is tick (pos furthest_tdb))
