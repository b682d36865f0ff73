-- `form::Shape::held_in` meets its contract. Assumes nothing.
use Rattle.form.proofs.FreeBytes.{held_is}
use mathlib.Core.Path.{◌∙◌}
use Rattle.form.proofs.Shape.held_in.Goals as goal

pub returns : goal.returns
returns c = c.min.ensures ∙ held_is _ _ c.requires
