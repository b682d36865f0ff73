-- `opened::how_many` meets its contract. Assumes nothing.
use borrow.Author.Rules.{rules}
use Rattle.blocks.proofs.Putting.{product}
use Rattle.opened.proofs.how_many.Goals as goal

pub overflow_mul-result : goal.overflow_mul-result
overflow_mul-result c = record { fits = product _ _ (search rules) (search rules) }
