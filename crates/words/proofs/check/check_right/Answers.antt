-- `words::check::check_right` meets its contract. Assumes nothing.
use Rattle.words.proofs.Sums.{is_checked_as}
use mathlib.Core.Path.{◌∙◌}
use Rattle.words.proofs.check.check_right.Goals as goal

pub returns : goal.returns
returns c = c.eq.ensures ∙ is_checked_as c.args.bytes.now c.args.at _ _ _ _ c.pair_at.ensures c.pair_at-2.ensures c.check_of.ensures.0 c.check_of.ensures.1
