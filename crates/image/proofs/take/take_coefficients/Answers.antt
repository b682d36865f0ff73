use Prim.Native.Nat.{◌+◌, ◌/◌, ◌%◌}
use Rattle.numbers.proofs.Places.{is_up_to, written_more}
use Rattle.image.proofs.Slots.{listed_stored}
use Rattle.image.specs.Image.{coefficient_at, coefficients_stored}
use lib.IntN.{pos}
use mathlib.Core.Path.{◌∙◌}
use mir.Syntax.{w64}
use mir.ValLaws.{to_z-of_z}
use native.Mathlib.Omega.{arith}
use Rattle.image.proofs.take.take_coefficients.Goals as goal

pub coefficient-requires : goal.coefficient-requires
coefficient-requires c = listed_stored _ c.args.count c.args.degree c.loop-i.i c.requires.bounds c.requires.blocks (omega arith)

pub loop-i-preserved : goal.loop-i-preserved
loop-i-preserved c =
    let l = c.loop-i in
    let z = c.coefficient.result in
    let at = coefficient_at c.args.bytes.now in
    written_more l.coefficients l.i _ (pos 0) (λ j. at (j / (c.args.degree + 1)) (j % (c.args.degree + 1))) (omega arith) l.invariant
    (to_z-of_z w64 z (record { sfits = c.coefficient.type_inv }) ∙ c.coefficient.ensures)

pub returns : goal.returns
unfolding coefficients_stored
returns c =
    let l = c.loop-i in
    is_up_to _ _ (pos 0) _ (l.auto.coefficients ∙ c.requires.long) (λ i h. l.invariant i (omega (arith, l.auto.coefficients)))
