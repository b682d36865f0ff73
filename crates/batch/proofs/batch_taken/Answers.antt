-- `batch::batch_taken` meets its contract: the front of the room is lent, which is the table's
-- coefficients. Assumes nothing.
use borrow.Author.Rules.{rules}
use mathlib.Core.Path.{sym}
use lib.Seq.{length-take-le}
use Rattle.walk.proofs.Holding.{table_held}
use Rattle.batch.proofs.batch_taken.Goals as goal

pub slice_bounds-batch_over-end : goal.slice_bounds-batch_over-end
slice_bounds-batch_over-end c = sym (length-take-le _ _ (search rules))

pub invariant_of-batch_over : goal.invariant_of-batch_over
invariant_of-batch_over c =
    record { held = rw (c.how_many-many.ensures, c.take.ensures.front) (table_held _ _ c.requires.opened.accepted) }

pub batch_over-requires : goal.batch_over-requires
batch_over-requires c = c.requires.long

pub returns : goal.returns
returns c = rw (c.how_many-many.ensures, c.take.ensures.front) at c.batch_over.ensures
