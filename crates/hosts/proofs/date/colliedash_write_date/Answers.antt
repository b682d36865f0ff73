-- `hosts::date::colliedash_write_date` meets its contract. Assumes nothing.
use mathlib.Core.Path.{◌∙◌, ap}
use mir.Syntax.{w64}
use mir.ValLaws.{to_z-of_z}
use Rattle.hosts.specs.Dates.{date_answer}
use Rattle.hosts.proofs.date.colliedash_write_date.Goals as goal

pub returns : goal.returns
returns c = c.date_answer.ensures ∙ ap date_answer (rw (to_z-of_z w64 _ c.ranges.tick) at c.write_date.ensures)
