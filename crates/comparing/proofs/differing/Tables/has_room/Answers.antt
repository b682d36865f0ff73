-- `comparing::differing::Tables::has_room` meets its contract: no more granules differ than there
-- are. Assumes nothing.
use borrow.Author.Tests.{le-leb}
use mathlib.Core.Path.{sym, ◌∙◌}
use mathlib.Core.List.{List}
use Prim.Native.Nat.{ℕ, ◌≤◌}
use native.Mathlib.Omega.{arith}
use lib.ListN.{length}
use Rattle.image.specs.Image.{granule_stored}
use Rattle.comparing.specs.Asked.{Pairs}
use Rattle.comparing.specs.Changes.{changes_to}
use Rattle.comparing.proofs.Entries.{at_most, within}
use Rattle.comparing.proofs.differing.Tables.has_room.Goals as goal

-- so 3 times as many fit
few_found : (b : List ℕ) (n : ℕ) (d : List ℕ) (m G : ℕ) → Pairs b n d m G
    → length (changes_to (granule_stored b n) (granule_stored d m) G) ≤ 360
few_found b n d m G p = omega (arith, at_most (granule_stored b n) (granule_stored d m) G, p.few)

pub returns-then-self-many : goal.returns-then-self-many
returns-then-self-many c =
    let t = c.args.self.now in
    let fits = within (granule_stored t.first.bytes.now t.first.degree) (granule_stored t.second.bytes.now t.second.degree) _ _ c.if-self-many.true in
    le-leb _ _ c.if-self-many.true ∙ sym (le-leb _ _ fits)

pub overflow_mul-result : goal.overflow_mul-result
overflow_mul-result c =
    let t = c.args.self.now in
    let most = few_found t.first.bytes.now t.first.degree t.second.bytes.now t.second.degree t.count t.pairs in
    record { fits = omega (arith, c.count_changes.ensures) }

pub returns-else-self-many : goal.returns-else-self-many
returns-else-self-many c = rw c.count_changes.ensures
