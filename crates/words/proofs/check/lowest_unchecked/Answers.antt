use Rattle.numbers.proofs.Places.{found_some, found_none}
use borrow.Author.Count.{below_more}
use mathlib.Core.Path.{sym, ◌∙◌}
use native.Mathlib.Omega.{arith}
use Rattle.words.proofs.check.lowest_unchecked.Goals as goal

pub loop-k-preserved : goal.loop-k-preserved
loop-k-preserved c = below_more _ _ c.loop-k.invariant (sym c.check_right.ensures ∙ c.if-not-check_right.false)

pub returns-then-not-check_right : goal.returns-then-not-check_right
returns-then-not-check_right c = found_some _ _ _ c.loop-k-test.true c.loop-k.invariant (sym c.check_right.ensures ∙ c.if-not-check_right.true)

pub returns : goal.returns
returns c = found_none _ _ (λ k h. c.loop-k.invariant k (omega arith))
