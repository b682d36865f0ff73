-- `dates::limits::passes_days` meets its contract: 5,000,000.0 is 78125·2^6. Assumes nothing.
use mathlib.Core.Path.{◌∙◌}
use lib.Dec.{lit<}
use lib.Ieee.{of_bits, neg}
use Rattle.dates.proofs.Comparisons.{passes_above, passes_below}
use Rattle.dates.proofs.limits.passes_days.Goals as goal

pub returns-then-x : goal.returns-then-x
unfolding of_bits neg
returns-then-x c = passes_below 78125 6 (lit< tt) c.args.x c.if-x.true

pub returns-else-x : goal.returns-else-x
unfolding of_bits neg
returns-else-x c = c.if-x.false ∙ passes_above 78125 6 (lit< tt) c.args.x c.if-x.false
