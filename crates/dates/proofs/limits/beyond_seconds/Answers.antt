-- `dates::limits::beyond_seconds` meets its contract: 10^10 is 9765625·2^10. Assumes nothing.
use mathlib.Core.Path.{◌∙◌}
use lib.Ieee.{of_bits, neg}
use Rattle.dates.proofs.Comparisons.{above, not_above}
use Rattle.dates.proofs.limits.beyond_seconds.Goals as goal

pub returns-then-x : goal.returns-then-x
unfolding of_bits neg
returns-then-x c = c.if-x.true ∙ above 9765625 10 c.args.x c.if-x.true

pub returns-else-x : goal.returns-else-x
unfolding of_bits neg
returns-else-x c = not_above 9765625 10 c.args.x c.if-x.false
