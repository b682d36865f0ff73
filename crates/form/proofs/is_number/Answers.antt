-- `form::is_number` meets its contract. Assumes nothing.
use Rattle.form.proofs.FreeBytes.{number_is, number_in}
use Rattle.form.proofs.is_number.Goals as goal
use mathlib.Core.Path.{◌∙◌}

pub returns-then-j-eq2 : goal.returns-then-j-eq2
returns-then-j-eq2 c = number_is _ c.if-j-eq2.true

pub returns-else-j-eq2 : goal.returns-else-j-eq2
returns-else-j-eq2 c = c.contains.ensures.value ∙ number_in _ c.if-j-eq2.false
