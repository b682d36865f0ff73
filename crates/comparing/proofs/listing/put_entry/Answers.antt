-- `comparing::listing::put_entry` meets its contract: three numbers in a row are the three put one
-- by one. Assumes nothing.
use mathlib.Core.Path.{◌≡◌, sym, ◌∙◌}
use mathlib.Core.List.{List, [], ◌∷◌, ◌++◌, append_assoc}
use Prim.Native.Nat.{ℕ, suc, ◌+◌, ◌-◌, ◌≤◌}
use native.Mathlib.Omega.{arith}
use lib.IntN.{ℤ, pos}
use lib.ListN.{length, take, drop, set}
use lib.Seq.{drop-drop, sets-eq}
use mir.Syntax.{w64}
use mir.ValLaws.{to_z_pos}
use Rattle.comparing.proofs.listing.put_entry.Goals as goal

in_a_row : (l : List ℤ) (at : ℕ) (x y z : ℤ) → at + 3 ≤ length l
    → take at l ++ x ∷ y ∷ z ∷ drop 3 (drop at l) ≡ set (set (set l at x) (suc at) y) (suc (suc at)) z
in_a_row l at x y z h =
    let row = x ∷ y ∷ z ∷ [] in
    rw (drop-drop 3 at l) (sym (sets-eq row l at h ∙ append_assoc (take at l) row (drop (at + 3) l)))

pub returns : goal.returns
returns c =
    let change = c.args.change in
    let at = c.args.at in
    let three : at + 3 - at ≡ 3 = omega arith in
    let one : at + 1 ≡ suc at = omega arith in
    let two : at + 2 ≡ suc (suc at) = omega arith in
    let granule = to_z_pos w64 c.args.granule c.requires.granule in
    let largest = to_z_pos w64 change.largest c.requires.largest in
    let sum = to_z_pos w64 change.sum c.requires.sum in
    rw (c.copy_from_slice.ensures.after, three, one, two, granule, largest, sum)
    (in_a_row c.args.entries.now at (pos c.args.granule) (pos change.largest) (pos change.sum) c.requires.room)
