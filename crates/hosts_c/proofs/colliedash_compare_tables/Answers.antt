-- `hosts_c::colliedash_compare_tables` meets its contract: by its namesake's, with the tables in
-- their order. Assumes nothing.
use Rattle.hosts_c.proofs.colliedash_compare_tables.Goals as goal

pub returns : goal.returns
returns c = c.colliedash_compare_tables.ensures
