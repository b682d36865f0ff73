-- `comparing::compare_accepted` meets its contract. Assumes nothing.
use borrow.Author.Tests.{leb-true}
use mathlib.Core.Path.{◌≡◌, sym, ◌∙◌}
use mathlib.Core.Bool.{true}
use mathlib.Core.List.{List}
use Prim.Native.Nat.{ℕ, ◌*◌}
use lib.Dec.{leb}
use lib.IntN.{ℤ}
use lib.ListN.{length}
use Rattle.image.specs.Image.{granule_stored}
use Rattle.comparing.specs.Asked.{Pairs}
use Rattle.comparing.specs.Changes.{changes_to}
use Rattle.comparing.specs.Comparing.{is_alike}
use Rattle.comparing.proofs.Deciding.{pairs, unlike, too_short, put_all}
use Rattle.comparing.proofs.compare_accepted.Goals as goal
use Rattle.comparing.proofs.compare_accepted.Goals.{Else-not-alike, Else-not-has_room, Start}

abbrev firsts : Start → ℕ → List ℤ
firsts s = granule_stored s.args.first.now s.args.table.degree

abbrev seconds : Start → ℕ → List ℤ
seconds s = granule_stored s.args.second.now s.args.other.degree

same : (c : Else-not-alike) → is_alike c.args.table c.args.other ≡ true
same c = sym c.alike.ensures ∙ c.if-not-alike.false

ready : (c : Else-not-alike)
    → Pairs c.args.first.now c.args.table.degree c.args.second.now c.args.other.degree c.args.table.count
ready c = pairs _ _ _ _ c.requires (same c)

pub returns-then-not-alike : goal.returns-then-not-alike
returns-then-not-alike c = rw c.refused.ensures (unlike _ _ _ _ c.requires _ (sym c.alike.ensures ∙ c.if-not-alike.true))

-- and past 8
roomy : (c : Else-not-has_room)
    → leb (3 * length
    (changes_to (firsts (goal.at.Else-not-has_room c).Start) (seconds (goal.at.Else-not-has_room c).Start)
    c.args.table.count)) (length c.args.entries.now) ≡ true
roomy c = sym c.has_room.ensures ∙ c.if-not-has_room.false

pub invariant_of-tables : goal.invariant_of-tables
invariant_of-tables c = record { pairs = ready (goal.at.invariant_of-tables c).Else-not-alike }

pub returns-then-not-has_room : goal.returns-then-not-has_room
returns-then-not-has_room c =
    rw c.refused-then-not-has_room.ensures
    (too_short _ _ _ _ c.requires _ (same (goal.at.returns-then-not-has_room c).Else-not-alike) (sym c.has_room.ensures ∙ c.if-not-has_room.true))

pub put_changes-changes-requires : goal.put_changes-changes-requires
put_changes-changes-requires c =
    leb-true _ _ (roomy (goal.at.put_changes-changes-requires c).Else-not-has_room)

pub returns : goal.returns
returns c =
    put_all _ _ _ _ c.requires _ (same (goal.at.returns c).Else-not-alike) (roomy (goal.at.returns c).Else-not-has_room) _ _
    c.put_changes-changes.ensures
