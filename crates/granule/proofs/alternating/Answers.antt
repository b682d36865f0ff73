-- `granule::alternating` meets its contract: its closure is what `Folds` asks. Assumes nothing.
use borrow.Author.Rules.{rules}
use mathlib.Core.Path.{◌∙◌}
use lib.IntN.{◌-ℤ◌}
use Rattle.numbers.proofs.Machine.{read_is}
use Rattle.granule.specs.Tests.{alternating_sum}
use Rattle.granule.proofs.Sums.{alternating_joins}
use Rattle.granule.proofs.Folds.{folds, callable}
use Rattle.granule.proofs.alternating.Goals as goal

pub fold-requires-clause-callable : goal.fold-requires-clause-callable
fold-requires-clause-callable c =
    callable alternating_sum ◌-ℤ◌ alternating_joins _ _ (λ s x h. search rules) (λ s x r f k. search rules)
    c.args.coefficients.now c.requires c.rev.result (search rules)

pub returns : goal.returns
returns c =
    read_is c.fold.result (search rules)
    ∙ folds alternating_sum ◌-ℤ◌ alternating_joins _ _ (λ s x h. search rules) (λ s x r f k. search rules)
    c.args.coefficients.now c.requires c.rev.result (search rules) c.fold.result c.fold.ensures.ran
