-- `walk::kept::Kept::to_tdb` meets its contract: a table that is kept was accepted, and the step
-- over it is the ephemeris'. Assumes nothing.
use borrow.Author.Rules.{rules}
use Rattle.numbers.proofs.Machine.{read_is}
use Rattle.walk.proofs.kept.Kept.to_tdb.Goals as goal

pub to_tdb-requires : goal.to_tdb-requires
to_tdb-requires c = c.args.self.held.accepted _ c.in-Some.is

pub returns-in-Some : goal.returns-in-Some
returns-in-Some c = rw c.in-Some.is (rw (read_is c.args.epoch.tick (search rules)) at c.to_tdb.ensures)
