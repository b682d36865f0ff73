-- `comparing::differing::Granules::coefficient_or_zero` meets its contract. Assumes nothing.
use mathlib.Core.Path.{◌∙◌}
use Rattle.numbers.proofs.Machine.{read_is}
use Rattle.comparing.proofs.Reading.{coefficient_there, coefficient_missing}
use Rattle.comparing.proofs.differing.Granules.coefficient_or_zero.Goals as goal

pub returns-then-self-k : goal.returns-then-self-k
returns-then-self-k c = coefficient_missing _ _ _ _ c.if-self-k.true

pub returns : goal.returns
returns c =
    read_is c.coefficient.result (record { sfits = c.coefficient.type_inv })
    ∙ c.coefficient.ensures
    ∙ coefficient_there _ _ _ _ c.if-self-k.false
