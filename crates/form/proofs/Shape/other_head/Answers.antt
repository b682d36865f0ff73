-- `form::Shape::other_head` meets its contract. Assumes nothing.
use Rattle.form.proofs.FreeBytes.{other_head_is}
use mathlib.Core.Path.{◌∙◌}
use Rattle.form.proofs.Shape.other_head.Goals as goal

pub returns : goal.returns
returns c = c.head.ensures ∙ other_head_is _ _ _ c.requires.other c.held_in.ensures
