-- `pieces::signed::above` meets its contract: >> is a floor. Assumes nothing.
use Rattle.numbers.specs.Rounding.{floor_div}
use Rattle.numbers.proofs.Machine.{read_is, shr_floor, floor_fits}
use Rattle.pieces.specs.Pieces.{base}
use Rattle.pieces.proofs.signed.above.Goals as goal

pub returns : goal.returns
returns c = let z = c.args.z in rw (read_is z c.ranges.z, shr_floor z base) (read_is (floor_div z base) (floor_fits z base c.ranges.z))
