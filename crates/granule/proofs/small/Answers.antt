-- `granule::small` meets its contract: std's word for `all` is the page's test. Assumes nothing.
use borrow.Author.Rules.{rules}
use borrow.Author.Tests.{tests}
use mathlib.Core.Path.{◌∙◌}
use Rattle.std.proofs.lemmas.Iterator.{YieldsList-from_slice}
use Rattle.std.proofs.lemmas.Iterator.Search.{all_from_yields_List}
use Rattle.granule.specs.Tests.{is_within}
use Rattle.granule.proofs.Passing.{small_all}
use Rattle.granule.proofs.small.Goals as goal

pub returns : goal.returns
returns c =
    all_from_yields_List is_within _ _ _ c.all.ensures.ran (YieldsList-from_slice c.args.coefficients.now cc) (λ x b q k. search (rules, tests))
    ∙ small_all c.args.coefficients.now
