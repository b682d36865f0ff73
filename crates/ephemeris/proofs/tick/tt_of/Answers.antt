-- `ephemeris::tick::tt_of` meets its contract. Assumes nothing.
use lib.IntN.{◌+ℤ◌}
use Rattle.numbers.proofs.Order.{abs-+}
use Rattle.ephemeris.proofs.Delays.{DelayedFits, delayed_fits}
use Rattle.ephemeris.proofs.tick.tt_of.Goals as goal
use Rattle.ephemeris.proofs.tick.tt_of.Goals.{Start}

all : (s : Start) → DelayedFits ◌+ℤ◌ s.args.tick.0 s.args.delay
all s = delayed_fits ◌+ℤ◌ abs-+ s.args.tick.0 s.args.delay s.requires

pub overflow_add-result : goal.overflow_add-result
overflow_add-result c = (all (goal.at.overflow_add-result c).Start).fits

pub returns : goal.returns
returns c = (all (goal.at.returns c).Start).is
