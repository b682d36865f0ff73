-- `dates::reading::purpose_of` meets its contract. Assumes nothing.
use Rattle.dates.proofs.reading.purpose_of.Goals as goal

pub returns-in-TwoPart : goal.returns-in-TwoPart
returns-in-TwoPart c = rw c.in-TwoPart.is

pub returns-in-SinceJ2000 : goal.returns-in-SinceJ2000
returns-in-SinceJ2000 c = rw c.in-SinceJ2000.is

pub returns-in-Ticks : goal.returns-in-Ticks
returns-in-Ticks c = rw c.in-Ticks.is

pub returns-in-Utc : goal.returns-in-Utc
returns-in-Utc c = rw c.in-Utc.is
