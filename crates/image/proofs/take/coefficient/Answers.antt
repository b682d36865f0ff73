-- `image::take::coefficient` meets its contract. Assumes nothing.
use Rattle.numbers.proofs.Machine.{read_is}
use Rattle.image.specs.Image.{coefficient_at}
use mathlib.Core.Path.{◌∙◌}
use Rattle.image.proofs.take.coefficient.Goals as goal

pub returns : goal.returns
unfolding coefficient_at
returns c = read_is c.number_at.result (record { sfits = c.number_at.type_inv }) ∙ c.number_at.ensures
