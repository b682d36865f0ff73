-- `hosts::conversions::colliedash_convert_ticks` meets its contract. Assumes nothing.
use mathlib.Core.Path.{◌∙◌, ap}
use mir.Syntax.{w64}
use mir.ValLaws.{to_z-of_z}
use Rattle.hosts.specs.Conversions.{converted_answer}
use Rattle.hosts.proofs.conversions.colliedash_convert_ticks.Goals as goal

pub returns : goal.returns
returns c = c.converted_answer.ensures ∙ ap converted_answer (rw (to_z-of_z w64 _ c.ranges.tick) at c.convert.ensures)
