-- `comparing::differing::Tables::put_changes` meets its contract. Assumes nothing.
use mathlib.Core.Path.{◌≡◌, refl, sym, ◌∙◌, ap}
use mathlib.Core.List.{List}
use Prim.Native.Nat.{ℕ, ◌+◌, ◌*◌, ◌<◌, ◌≤◌, zero-le}
use native.Mathlib.Omega.{arith}
use lib.IntN.{ℤ}
use lib.ListN.{length}
use Rattle.image.specs.Image.{granule_stored}
use Rattle.comparing.specs.Changes.{Entry, changes_to}
use Rattle.comparing.specs.Comparing.{list_put}
use Rattle.comparing.proofs.Entries.{changes_none, grows, entry_added, length_added, none_added}
use Rattle.comparing.proofs.Entries.{put_none, put_more, put_length}
use Rattle.comparing.proofs.Reading.{change_small}
use Rattle.comparing.proofs.differing.Tables.put_changes.Goals as goal
use Rattle.comparing.proofs.differing.Tables.put_changes.Goals.{After-change_of-change, At-loop-g, Start}
use Rattle.comparing.proofs.differing.Tables.put_changes.Goals.{then-change-gt0, else-change-gt0}

-- the granules of the two tables
abbrev firsts : Start → ℕ → List ℤ
firsts s = granule_stored s.args.self.now.first.bytes.now s.args.self.now.first.degree

abbrev seconds : Start → ℕ → List ℤ
seconds s = granule_stored s.args.self.now.second.bytes.now s.args.self.now.second.degree

-- a granule that differs has its room, for no granule behind it takes an entry away
room : (c : After-change_of-change) → 0 < c.change_of-change.result.sum
    → c.loop-g.at + 3 ≤ length c.args.entries.now
room c differs =
    let l = c.loop-g in
    let s = (goal.at.After-change_of-change c).Start in
    let change = c.change_of-change in
    let one = length_added (firsts s) (seconds s) l.g change.result change.ensures differs in
    omega (arith, one, grows (firsts s) (seconds s) (l.g + 1) c.args.self.now.count (omega (arith, c.loop-g-test.true)), c.requires)

-- the list is as long as it was
long : (c : At-loop-g)
    → length c.loop-g.entries ≡ length c.args.entries.now
long c =
    rw c.loop-g.invariant.2
    (put_length _ _
    (omega (
      arith,
      grows (firsts (goal.at.At-loop-g c).Start) (seconds (goal.at.At-loop-g c).Start) c.loop-g.g c.args.self.now.count c.loop-g.invariant.0,
      c.requires,
    )))

pub loop-g-init : goal.loop-g-init
loop-g-init c = rw (changes_none (firsts (goal.at.loop-g-init c).Start) (seconds (goal.at.loop-g-init c).Start)) (zero-le, refl, sym (put_none _))

pub put_entry-requires : goal.put_entry-requires
put_entry-requires c =
    let pair = c.args.self.now.pairs.each c.loop-g.g c.loop-g-test.true in
    let change = c.change_of-change in
    let small = change_small _ _ _ _ _ pair change.result change.ensures in
    record {
      room = omega (arith, room (goal.at.put_entry-requires c).After-change_of-change c.if-change-gt0.true, long (goal.at.put_entry-requires c).At-loop-g);
      granule = omega (arith, c.loop-g-test.true, c.args.self.now.pairs.few);
      largest = omega (arith, small.0);
      sum = omega (arith, small.1);
    }

pub overflow_add-at : goal.overflow_add-at
overflow_add-at c = record { fits = omega (arith, room (goal.at.overflow_add-at c).After-change_of-change c.if-change-gt0.true) }

pub loop-g-preserved : goal.loop-g-preserved
loop-g-preserved c =
    let l = c.loop-g in
    let s = (goal.at.loop-g-preserved c).Start in
    let change = c.change_of-change in
    let stays = none_added (firsts s) (seconds s) l.g change.result change.ensures in
    let one_more = length_added (firsts s) (seconds s) l.g change.result change.ensures in
    let more = entry_added (firsts s) (seconds s) l.g change.result change.ensures in (
      omega arith,
      elim c.if-change-gt0.branch [
        | then-change-gt0 w ↦ w.at-is ∙ omega (arith, l.invariant.1, one_more w.if-change-gt0.true)
        | else-change-gt0 w ↦ w.at-is ∙ l.invariant.1 ∙ ap (λ (e : List Entry). 3 * length e) (sym (stays w.if-change-gt0.false))
      ],
      elim c.if-change-gt0.branch [
        | then-change-gt0 w ↦ w.entries-is ∙ w.put_entry.ensures ∙ rw (l.invariant.2, more w.if-change-gt0.true)
            (put_more (changes_to (firsts s) (seconds s) l.g) c.args.entries.now l.at l.g change.result l.invariant.1
            (room (goal.at.loop-g-preserved c).After-change_of-change w.if-change-gt0.true))
        | else-change-gt0 w ↦ w.entries-is ∙ l.invariant.2 ∙ ap (λ (e : List Entry). list_put e c.args.entries.now) (sym (stays w.if-change-gt0.false))
      ],
    )

pub shape_of-entries : goal.shape_of-entries
shape_of-entries c = long (goal.at.shape_of-entries c).At-loop-g

pub returns : goal.returns
returns c =
    let l = c.loop-g in
    let all : l.g ≡ c.args.self.now.count = omega arith in
    let three = rw all at l.invariant.1 in
    record { answer = omega arith; list = rw all at l.invariant.2 }
