-- `ephemeris::places::Opened::last_place` meets its contract: 360 granules of 2^50 ticks fit.
-- Assumes nothing.
use mathlib.Core.Path.{◌≡◌}
use Prim.Native.Nat.{◌*◌}
use lib.IntN.{nat_abs}
use Rattle.numbers.proofs.Machine.{read}
use Rattle.image.specs.declared.table.Table.{Table}
use Rattle.ephemeris.specs.Table.{last_place}
use Rattle.ephemeris.specs.Accepted.{Bounded}
use Rattle.ephemeris.proofs.Bounds.{length_is}
use Rattle.ephemeris.proofs.places.Opened.last_place.Goals as goal

is : (T : Table) → Bounded T → T.count * nat_abs (read T.length) ≡ last_place T
unfolding last_place
is T B = rw (length_is T B)

pub returns : goal.returns
returns c = is c.args.self.now.table c.args.self.now.accepted.bounds
