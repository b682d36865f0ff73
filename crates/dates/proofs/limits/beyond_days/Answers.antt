-- `dates::limits::beyond_days` meets its contract: 5,000,000.0 is 78125·2^6. Assumes nothing.
use mathlib.Core.Path.{◌∙◌}
use lib.Ieee.{of_bits, neg}
use Rattle.dates.proofs.Comparisons.{above, not_above}
use Rattle.dates.proofs.limits.beyond_days.Goals as goal

pub returns-then-x : goal.returns-then-x
unfolding of_bits neg
returns-then-x c = c.if-x.true ∙ above 78125 6 c.args.x c.if-x.true

pub returns-else-x : goal.returns-else-x
unfolding of_bits neg
returns-else-x c = not_above 78125 6 c.args.x c.if-x.false
