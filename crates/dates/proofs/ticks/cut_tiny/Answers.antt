-- `dates::ticks::cut_tiny` meets its contract: a double below 0.0 has a negative value. Assumes
-- nothing.
use mathlib.Core.Path.{sym}
use native.Mathlib.Nat.{le_of_lt}
use lib.Ieee.{of_bits}
use Rattle.numbers.proofs.Rounding.{floor_below, floor_none}
use Rattle.dates.proofs.Comparisons.{below_zero, not_below_zero}
use Rattle.dates.proofs.ticks.cut_tiny.Goals as goal

pub returns-then-x : goal.returns-then-x
unfolding of_bits
returns-then-x c = sym (floor_below _ _ (below_zero c.args.x c.requires.finitely c.if-x.true) (le_of_lt c.requires.small))

pub returns : goal.returns
unfolding of_bits
returns c = sym (floor_none _ _ (not_below_zero c.args.x c.requires.finitely c.if-x.false) c.requires.small)
