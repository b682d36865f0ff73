-- At the front of the list are the entries of the first g granules.
use mathlib.Core.Path.{◌≡◌}
use Prim.Native.Nat.{◌*◌, ◌≤◌}
use lib.ListN.{length}
use Rattle.image.specs.Image.{granule_stored}
use Rattle.comparing.specs.Changes.{changes_to}
use Rattle.comparing.specs.Comparing.{list_put}
use Rattle.comparing.proofs.differing.Tables.put_changes.Given as goal

abbrev pub invariant-loop-g : goal.invariant-loop-g
invariant-loop-g l =
    let changes = changes_to (granule_stored l.self.first.bytes.now l.self.first.degree) (granule_stored l.self.second.bytes.now l.self.second.degree) l.g in
    (l.g ≤ l.self.count) × (l.at ≡ 3 * length changes) × (l.entries ≡ list_put changes l.initial.entries)
