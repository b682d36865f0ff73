-- `dates::reading::read_date` meets its contract. Assumes nothing.
use Rattle.dates.proofs.reading.read_date.Goals as goal

pub returns : goal.returns
returns c = c.two_part.ensures
