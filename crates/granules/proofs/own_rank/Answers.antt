-- `granules::own_rank` meets its contract: each return is a search along the list of rules, with
-- bounds that leave room for more of them. Assumes nothing.
use Prim.Native.Nat.{ℕ, ◌+◌, ◌≤◌}
use Rattle.granule.specs.Asked.{Summable}
use Rattle.granule.specs.Bounds.{most_degree}
use Rattle.granule.specs.Tests.{is_small, is_light}
use Rattle.numbers.proofs.Ranks.{ranks}
use borrow.Author.Tests.{not-false}
use lib.IntN.{ℤ}
use lib.ListN.{length}
use mathlib.Core.Bool.{Bool, false, not}
use mathlib.Core.List.{List}
use mathlib.Core.Path.{◌≡◌, sym, ◌∙◌, ap}
use Rattle.granules.proofs.own_rank.Goals as goal

-- test 14 has passed
summable : {cs : List ℤ} (answer : Bool) → answer ≡ is_small cs → length cs ≤ most_degree + 1
    → not answer ≡ false → Summable cs
summable answer e few n = record { few = few; small = sym e ∙ not-false answer n }

-- 15 is asked of the weight that was summed
of_weight : (sum weight H : ℕ) (answer : Bool) → answer ≡ is_light sum H → sum ≡ weight → answer ≡ is_light weight H
of_weight sum weight H answer e same = e ∙ ap (λ (w : ℕ). is_light w H) same

ruleset ranked = (ranks, of_weight)

pub returns-then-not-small : goal.returns-then-not-small
returns-then-not-small c = search ranked depth 9 fits 9000

pub weight-requires : goal.weight-requires
weight-requires c = search summable

pub returns-then-not-light : goal.returns-then-not-light
returns-then-not-light c = search ranked depth 9 fits 9000

pub returns : goal.returns
returns c = search ranked depth 9 fits 9000
