-- `entries::trying::ends_of` meets its contract: the ends of what is left are the ends of all.
-- Assumes nothing.
use mathlib.Core.Path.{◌≡◌}
use lib.ListN.{drop}
use Rattle.entries.specs.Inner.{ends_of}
use Rattle.entries.proofs.trying.ends_of.Given as goal

abbrev pub invariant-loop-tick : goal.invariant-loop-tick
invariant-loop-tick l = ends_of l.earliest l.latest (drop l.tick-index l.ticks) ≡ ends_of l.first l.first l.ticks
