-- `desk::conversion::convert` meets its contract. Assumes nothing.
use Rattle.desk.proofs.conversion.convert.Goals as goal

pub returns : goal.returns
returns c = c.convert_into.ensures
