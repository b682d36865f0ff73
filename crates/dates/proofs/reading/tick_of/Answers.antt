-- `dates::reading::tick_of` meets its contract: each arm is its own function's. Assumes nothing.
use mathlib.Core.Path.{ap, ap₂, ◌∙◌}
use native.Mathlib.Omega.{arith}
use Rattle.std.proofs.lemmas.Int.{ints}
use Rattle.utc.specs.Readings.{utc_read}
use Rattle.dates.specs.Readings.{in_range, read_of, purpose_of}
use Rattle.dates.proofs.reading.tick_of.Goals as goal

pub read-requires : goal.read-requires
read-requires c = c.requires.right (ap purpose_of c.in-Utc.is)

pub returns-in-TwoPart : goal.returns-in-TwoPart
unfolding read_of
returns-in-TwoPart c = rw c.in-TwoPart.is c.two_part.ensures

pub returns-in-SinceJ2000 : goal.returns-in-SinceJ2000
unfolding read_of
returns-in-SinceJ2000 c = rw c.in-SinceJ2000.is c.since_j2000.ensures

pub returns-in-Ticks : goal.returns-in-Ticks
unfolding read_of
returns-in-Ticks c = rw c.in-Ticks.is (c.ranged.ensures ∙ ap in_range (omega (arith, ints)))

pub returns-in-Utc : goal.returns-in-Utc
unfolding read_of
returns-in-Utc c = rw c.in-Utc.is (c.read.ensures ∙ ap₂ (utc_read c.args.leaps.now) (omega (arith, ints)) (omega (arith, ints)))
