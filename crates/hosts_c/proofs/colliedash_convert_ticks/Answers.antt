-- `hosts_c::colliedash_convert_ticks` meets its contract: by its namesake's, with the arguments in
-- their order. Assumes nothing.
use mir.Syntax.{w64}
use mir.ValLaws.{to_z-of_z}
use Rattle.hosts_c.proofs.colliedash_convert_ticks.Goals as goal

pub returns : goal.returns
returns c = rw (to_z-of_z w64 _ c.ranges.tick) at c.colliedash_convert_ticks.ensures
