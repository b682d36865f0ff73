-- `granules::test_stored` meets its contract: the sixteen pass as the granule's own do. Assumes
-- nothing.
use borrow.Author.Rules.{rules}
use lib.IntN.{nat_abs}
use mathlib.Core.Path.{◌≡◌, ◌∙◌}
use mir.Syntax.{w64}
use mir.Val.{to_z, of_z}
use mir.ValLaws.{to_z-of_z}
use Rattle.image.specs.Image.{stored_of, granule_stored}
use Rattle.granules.specs.Answers.{tested_stored}
use Rattle.granules.specs.Pass.{scan_next}
use Rattle.granules.proofs.Alike.{stored_alike}
use Rattle.granules.proofs.Scanning.{scan_alike}
use Rattle.granules.proofs.test_stored.Goals as goal

pub returns : goal.returns
unfolding tested_stored
returns c =
    let b = c.args.bytes.now in
    let t = c.args.table in
    c.pass_over.ensures (granule_stored b t.degree)
    (λ scan g next h k.
    let e : next ≡ scan_next scan g (stored_of b g) (nat_abs (to_z w64 (of_z w64 t.length))) = search rules in
    e
    ∙ (λ i. scan_next scan g (stored_of b g) (nat_abs (to_z-of_z w64 t.length (search rules) i)))
    ∙ scan_alike scan g (nat_abs t.length) (stored_alike b t c.requires g h))
