-- `scales::scale::scale_of` meets its contract. Assumes nothing.
use mathlib.Core.Path.{sym, ◌∙◌, ap}
use Rattle.std.specs.Prelude.{Ok}
use Rattle.scales.proofs.scale.scale_of.Goals as goal

pub returns-then-is_code : goal.returns-then-is_code
returns-then-is_code c = rw (sym c.is_code.ensures ∙ c.if-is_code.true) (ap Ok c.scale_named.ensures)

pub returns : goal.returns
returns c = rw (sym c.is_code.ensures ∙ c.if-is_code.false)
