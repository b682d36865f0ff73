-- `granules::test_listed` meets its contract: what is looked at is the part of the list that is the
-- granule's own. Assumes nothing.
use borrow.Author.Rules.{rules}
use lib.IntN.{ℤ, nat_abs}
use lib.ListN.{take, drop}
use mathlib.Core.List.{List}
use mathlib.Core.Path.{◌≡◌, ◌∙◌, ap}
use mir.Syntax.{w64}
use mir.Val.{to_z, of_z}
use mir.ValLaws.{to_z-of_z}
use native.Mathlib.Omega.{arith}
use Prim.Native.Nat.{ℕ, ◌+◌, ◌*◌, ◌-◌}
use Rattle.image.specs.Image.{granule_in}
use Rattle.granules.specs.Answers.{tested_listed}
use Rattle.granules.specs.Pass.{scan_next}
use Rattle.granules.proofs.test_listed.Goals as goal

own : (l : List ℤ) (n g : ℕ) → take (g * (n + 1) + (n + 1) - g * (n + 1)) (drop (g * (n + 1)) l) ≡ granule_in l n g
unfolding granule_in
own l n g = ap (λ (k : ℕ). take k (drop (g * (n + 1)) l)) (width (g * (n + 1)) n)
  where
    width : (a n : ℕ) → a + (n + 1) - a ≡ n + 1
    width a n = omega arith

pub returns : goal.returns
unfolding tested_listed
returns c =
    let l = c.args.coefficients.now in
    let t = c.args.table in
    let n = t.degree in
    c.pass_over.ensures (granule_in l n)
    (λ scan g next h k.
    let e : next ≡ scan_next scan g (take (g * (n + 1) + (n + 1) - g * (n + 1)) (drop (g * (n + 1)) l)) (nat_abs (to_z w64 (of_z w64 t.length))) =
    search rules in
    e ∙ (λ i. scan_next scan g (own l n g i) (nat_abs (to_z-of_z w64 t.length (search rules) i))))
