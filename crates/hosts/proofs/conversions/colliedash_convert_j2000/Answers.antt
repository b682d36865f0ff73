-- `hosts::conversions::colliedash_convert_j2000` meets its contract. Assumes nothing.
use mathlib.Core.Path.{◌∙◌, ap}
use Rattle.hosts.specs.Conversions.{converted_answer}
use Rattle.hosts.proofs.conversions.colliedash_convert_j2000.Goals as goal

pub returns : goal.returns
returns c = c.converted_answer.ensures ∙ ap converted_answer c.convert.ensures
