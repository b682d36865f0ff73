use Prim.Native.Nat.{◌+◌, ◌*◌, ◌≤◌}
use Rattle.image.proofs.Stores.{put_part, part_long}
use Rattle.image.specs.Image.{body_byte}
use Rattle.numbers.proofs.Places.{written_more}
use lib.ListN.{length}
use mathlib.Core.Path.{◌∙◌}
use native.Mathlib.Omega.{arith}
use Rattle.image.proofs.put.put_body.Goals as goal

pub loop-j-preserved : goal.loop-j-preserved
loop-j-preserved c =
    let l = c.loop-j in
    written_more l.byte-items l.j _ 0 (body_byte c.args.table c.args.coefficients.now c.args.k) (omega arith) l.invariant c.body_byte.ensures

pub returns : goal.returns
returns c =
    let b = c.args.image.now in
    let r : c.args.k * 512 + 508 ≤ length b = omega (arith, c.requires.0.long) in
    put_part (body_byte c.args.table c.args.coefficients.now c.args.k) (c.args.k * 512) b c.loop-j.byte-items r
    (c.loop-j.auto.byte-items ∙ part_long (c.args.k * 512) b r) (λ j h. c.loop-j.invariant j (omega (arith, part_long (c.args.k * 512) b r)))
