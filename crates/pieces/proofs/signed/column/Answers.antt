-- `pieces::signed::column` meets its contract: a column's sizes. Assumes nothing.
use Rattle.numbers.proofs.Machine.{Sum}
use Rattle.pieces.proofs.Machine.{column_sum}
use Rattle.pieces.proofs.signed.column.Goals as goal
use Rattle.pieces.proofs.signed.column.Goals.{Start}

all : (c : Start) → Sum c.args.x c.args.y c.args.more
all c = column_sum c.args.x c.args.y c.args.more c.requires.narrow c.requires.piece c.requires.little

pub overflow_mul-result : goal.overflow_mul-result
overflow_mul-result c = (all c).product_fits

pub overflow_add-result : goal.overflow_add-result
overflow_add-result c = (all c).sum_fits

pub returns : goal.returns
returns c = (all c).is
