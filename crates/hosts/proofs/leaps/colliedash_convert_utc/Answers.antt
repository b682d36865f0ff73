-- `hosts::leaps::colliedash_convert_utc` meets its contract. Assumes nothing.
use mathlib.Core.Path.{◌∙◌, ap}
use mir.Syntax.{w64}
use mir.ValLaws.{to_z-of_z}
use Rattle.hosts.specs.Conversions.{converted_answer}
use Rattle.hosts.proofs.leaps.colliedash_convert_utc.Goals as goal

pub returns : goal.returns
returns c =
    let fits = c.ranges in
    c.converted_answer.ensures
    ∙ ap converted_answer (rw (to_z-of_z w64 _ fits.day, to_z-of_z w64 _ fits.ticks) at c.convert.ensures)
