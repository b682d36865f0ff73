-- `form::Shape::is_free` meets its contract. Assumes nothing.
use Rattle.form.proofs.FreeBytes.{free_zero, free_more}
use mathlib.Core.Path.{sym, ◌∙◌}
use Rattle.form.proofs.Shape.is_free.Goals as goal

pub returns-then-k-eq0 : goal.returns-then-k-eq0
returns-then-k-eq0 c = c.is_number.ensures ∙ sym (free_zero c.args.self.count c.args.self.degree _ _ c.if-k-eq0.true)

pub returns : goal.returns
returns c = c.is_coefficient.ensures ∙ sym (free_more _ _ _ _ c.if-k-eq0.false)
