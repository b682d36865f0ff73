-- `ephemeris::places::Opened::granule_of` meets its contract. Assumes nothing.
use Rattle.ephemeris.specs.Table.{granule_of}
use Rattle.ephemeris.proofs.Bounds.{length_is}
use Rattle.ephemeris.proofs.places.Opened.granule_of.Goals as goal

pub returns : goal.returns
unfolding granule_of
returns c =
    let least = c.min.ensures in
    rw (length_is c.args.self.now.table c.args.self.now.accepted.bounds) at least
