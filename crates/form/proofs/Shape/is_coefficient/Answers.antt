-- `form::Shape::is_coefficient` meets its contract. Assumes nothing.
use Rattle.form.proofs.FreeBytes.{in_range, coefficient_out, coefficient_in, coefficient_past}
use mathlib.Core.Path.{sym, ◌∙◌}
use Rattle.form.proofs.Shape.is_coefficient.Goals as goal

pub returns-then-not-contains : goal.returns-then-not-contains
returns-then-not-contains c =
    coefficient_out c.args.self.count c.args.self.degree c.args.k c.args.j
    (sym (in_range 8 392 c.args.j) ∙ sym c.contains.ensures.value ∙ c.if-not-contains.true)

pub returns-then-k-number : goal.returns-then-k-number
returns-then-k-number c =
    coefficient_in c.args.self.count c.args.self.degree c.args.k c.args.j
    (sym (in_range 8 392 c.args.j) ∙ sym c.contains.ensures.value ∙ c.if-not-contains.false) c.if-k-number.true

pub returns-else-k-number : goal.returns-else-k-number
returns-else-k-number c =
    coefficient_past c.args.self.count c.args.self.degree c.args.k c.args.j
    (sym (in_range 8 392 c.args.j) ∙ sym c.contains.ensures.value ∙ c.if-not-contains.false) c.if-k-number.false
