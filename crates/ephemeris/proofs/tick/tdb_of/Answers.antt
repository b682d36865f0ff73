-- `ephemeris::tick::tdb_of` meets its contract. Assumes nothing.
use lib.IntN.{◌-ℤ◌}
use Rattle.numbers.proofs.Order.{abs_minus}
use Rattle.ephemeris.proofs.Delays.{DelayedFits, delayed_fits}
use Rattle.ephemeris.proofs.tick.tdb_of.Goals as goal
use Rattle.ephemeris.proofs.tick.tdb_of.Goals.{Start}

all : (s : Start) → DelayedFits ◌-ℤ◌ s.args.tick.0 s.args.delay
all s = delayed_fits ◌-ℤ◌ abs_minus s.args.tick.0 s.args.delay s.requires

pub overflow_sub-result : goal.overflow_sub-result
overflow_sub-result c = (all (goal.at.overflow_sub-result c).Start).fits

pub returns : goal.returns
returns c = (all (goal.at.returns c).Start).is
