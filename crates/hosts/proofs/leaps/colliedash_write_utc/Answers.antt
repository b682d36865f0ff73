-- `hosts::leaps::colliedash_write_utc` meets its contract. Assumes nothing.
use mathlib.Core.Path.{◌∙◌, ap}
use mir.Syntax.{w64}
use mir.ValLaws.{to_z-of_z}
use Rattle.hosts.specs.Utc.{utc_answer}
use Rattle.hosts.proofs.leaps.colliedash_write_utc.Goals as goal

pub returns : goal.returns
returns c = c.utc_answer.ensures ∙ ap utc_answer (rw (to_z-of_z w64 _ c.ranges.tick) at c.write_utc.ensures)
