-- `comparing::differing::Tables::count_changes` meets its contract. Assumes nothing.
use mathlib.Core.Path.{◌≡◌, ◌∙◌}
use mathlib.Core.List.{List}
use Prim.Native.Nat.{ℕ, ◌-◌}
use native.Mathlib.Omega.{arith}
use lib.Dec.{ltb}
use lib.IntN.{ℤ}
use Rattle.std.proofs.Common.{rules, tests}
use Rattle.std.proofs.lemmas.Iterator.{YieldsList-from_range}
use Rattle.std.proofs.lemmas.Iterator.Consumers.{YieldsList-from_filter, count_from_yields_List}
use Rattle.image.specs.Image.{granule_stored}
use Rattle.comparing.specs.Changes.{sum_of}
use Rattle.comparing.proofs.Entries.{counted}
use Rattle.comparing.proofs.differing.Tables.count_changes.Goals as goal
use Rattle.comparing.proofs.differing.Tables.count_changes.Goals.{Start}

-- the granules of the two tables
abbrev firsts : Start → ℕ → List ℤ
firsts s = granule_stored s.args.self.now.first.bytes.now s.args.self.now.first.degree

abbrev seconds : Start → ℕ → List ℤ
seconds s = granule_stored s.args.self.now.second.bytes.now s.args.self.now.second.degree

pub returns : goal.returns
returns c =
    let s = (goal.at.returns c).Start in
    let all : c.args.self.now.count - 0 ≡ c.args.self.now.count = omega arith in
    count_from_yields_List c.filter.result c.count.result c.count.ensures.ran
    (YieldsList-from_filter _ (λ g. ltb 0 (sum_of (firsts s g) (seconds s g)))
    (YieldsList-from_range 0 c.args.self.now.count _ (cc) all) c.filter.ensures.closure (λ x b q k. search (rules, tests)))
    ∙ counted (firsts s) (seconds s) c.args.self.now.count
