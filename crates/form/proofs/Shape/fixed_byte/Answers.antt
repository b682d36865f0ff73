-- `form::Shape::fixed_byte` meets its contract. Assumes nothing.
use Rattle.form.proofs.FreeBytes.{fixed_zero, fixed_first}
use Rattle.numbers.proofs.Places.{up_to_at}
use lib.ListN.{get_or}
use mathlib.Core.Path.{◌∙◌, ap}
use Rattle.form.proofs.Shape.fixed_byte.Goals as goal

pub returns-then-j-ge8 : goal.returns-then-j-ge8
returns-then-j-ge8 c = fixed_zero _ _ _ c.if-j-ge8.true

pub returns-then-k-eq0 : goal.returns-then-k-eq0
returns-then-k-eq0 c =
    ap (λ l. get_or l c.args.j 0) c.head.ensures ∙ up_to_at _ 8 c.args.j 0 c.if-j-ge8.false ∙ fixed_first _ _ _ c.if-j-ge8.false c.if-k-eq0.true

pub returns : goal.returns
returns c = ap (λ l. get_or l c.args.j 0) c.other_head.ensures ∙ up_to_at _ 8 c.args.j 0 c.if-j-ge8.false
