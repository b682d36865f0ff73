-- `desk::conversion::taken_over` meets its contract: the front of the room is lent, which is the
-- table's coefficients. Assumes nothing.
use borrow.Author.Rules.{rules}
use mathlib.Core.Path.{sym}
use lib.Seq.{length-take-le}
use Rattle.walk.proofs.Holding.{table_held}
use Rattle.desk.proofs.conversion.taken_over.Goals as goal
use Rattle.desk.proofs.conversion.taken_over.Goals.{After-how_many-many}

pub slice_bounds-coefficients-end : goal.slice_bounds-coefficients-end
slice_bounds-coefficients-end c = search rules

pub slice_bounds-between-end : goal.slice_bounds-between-end
slice_bounds-between-end c = sym (length-take-le _ _ (slice_bounds-coefficients-end (goal.at.slice_bounds-between-end c).After-how_many-many))

pub invariant_of-between : goal.invariant_of-between
invariant_of-between c =
    record { held = rw (c.how_many-many.ensures, c.take.ensures.front) (table_held _ _ c.requires.accepted) }

pub returns : goal.returns
returns c = rw (c.how_many-many.ensures, c.take.ensures.front) at c.between.ensures
