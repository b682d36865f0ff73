use Rattle.numbers.proofs.Places.{is_up_to}
use Rattle.image.proofs.Stores.{image_more}
use Rattle.image.specs.Image.{image_of}
use mathlib.Core.Path.{◌∙◌}
use native.Mathlib.Omega.{arith}
use Rattle.image.proofs.put.put_image.Goals as goal

pub put_block-requires : goal.put_block-requires
put_block-requires c = (record { table = c.requires.table; long = c.loop-k.auto.image ∙ c.requires.long }, omega arith)

pub loop-k-preserved : goal.loop-k-preserved
loop-k-preserved c =
    let l = c.loop-k in
    image_more c.args.table c.args.coefficients.now l.k l.image _ l.invariant c.put_block.ensures

pub returns : goal.returns
unfolding image_of
returns c =
    let l = c.loop-k in
    is_up_to _ _ 0 _ (l.auto.image ∙ c.requires.long) (λ i h. l.invariant i (omega arith))
