-- `dates::ticks::Unit::cut_product` meets its contract: it is the cut product of `Pieces`. Assumes
-- nothing.
use Rattle.dates.proofs.Pieces.{CutSafe, cut_safe}
use Rattle.dates.proofs.ticks.Unit.cut_product.Goals as goal
use Rattle.dates.proofs.ticks.Unit.cut_product.Goals.{Start}

all : (c : Start) → CutSafe c.args.self.odd c.args.part c.args.by
all c = cut_safe c.args.self.odd c.args.part c.args.by c.ranges.part (record { small = c.args.self.factored.small; few = c.requires })

pub overflow_mul-low : goal.overflow_mul-low
overflow_mul-low c = (all (goal.at.overflow_mul-low c).Start).taken

pub overflow_sub-low : goal.overflow_sub-low
overflow_sub-low c = (all (goal.at.overflow_sub-low c).Start).low

pub overflow_mul-result : goal.overflow_mul-result
overflow_mul-result c = (all (goal.at.overflow_mul-result c).Start).coarse

pub overflow_mul-result-2 : goal.overflow_mul-result-2
overflow_mul-result-2 c = (all (goal.at.overflow_mul-result-2 c).Start).rest

pub overflow_add-result : goal.overflow_add-result
overflow_add-result c = (all (goal.at.overflow_add-result c).Start).product

pub returns : goal.returns
returns c = (all (goal.at.returns c).Start).is
