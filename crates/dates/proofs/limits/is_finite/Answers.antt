-- `dates::limits::is_finite` meets its contract: the quotients are the infinities. Assumes nothing.
use mathlib.Core.Path.{◌∙◌}
use lib.Ieee.{div, of_bits, neg}
use Rattle.dates.proofs.Comparisons.{below_inf, not_below_inf}
use Rattle.dates.proofs.limits.is_finite.Goals as goal

pub returns-then-x : goal.returns-then-x
unfolding div of_bits neg
returns-then-x c = below_inf c.args.x c.if-x.true

pub returns-else-x : goal.returns-else-x
unfolding div of_bits neg
returns-else-x c = c.if-x.false ∙ not_below_inf c.args.x c.if-x.false
