-- `granules::told` meets its contract: its numbers are those of the rules. Assumes nothing.
use Rattle.std.specs.Prelude.{Ok}
use Prim.Native.Nat.{ℕ, ◌≤◌, ◌<◌}
use Rattle.granules.specs.Answers.{tested_refused}
use Rattle.granules.specs.Pass.{RankTold}
use Rattle.granules.specs.Tests.{none_rank, granule_rules}
use Rattle.numbers.proofs.Verdicts.{told_rule, told_none}
use Rattle.numbers.specs.Tests.{numbers_of, over}
use borrow.Author.Rules.{rules}
use lib.ListN.{get_or}
use mathlib.Core.List.{List, []}
use Rattle.granules.proofs.told.Goals as goal

-- the same whatever the rules are over
abbrev numbers : List ℕ
numbers = numbers_of (over 0 (granule_rules 0 (λ _. [])))

is_passed : (r place : ℕ) → none_rank ≤ r → RankTold r place (Ok tt)
is_passed r place h = record { is = λ H granule. told_none tested_refused (Ok tt) (granule_rules H granule) r place h }

is_refused : (r place : ℕ) → r < none_rank → RankTold r place (tested_refused (get_or numbers r 0) place)
is_refused r place h = record { is = λ H granule. told_rule tested_refused (Ok tt) (granule_rules H granule) r place h }

pub returns-then-rank-ge-NONE : goal.returns-then-rank-ge-NONE
returns-then-rank-ge-NONE c = is_passed _ _ c.if-rank-ge-NONE.true

pub returns : goal.returns
returns c = is_refused _ _ (search rules)
