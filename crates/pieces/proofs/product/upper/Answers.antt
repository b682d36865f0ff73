-- `pieces::product::upper` meets its contract: nothing stands above four pieces. Assumes nothing.
use borrow.Kind.Array.{good_length, e_int}
use mathlib.Core.Path.{sym, ◌∙◌}
use native.Mathlib.Omega.{arith}
use mir.Syntax.{w32}
use Rattle.numbers.proofs.Arrays.{array_fits}
use Rattle.pieces.proofs.Values.{dropped, next, past}
use Rattle.pieces.proofs.product.upper.Goals as goal

pub returns : goal.returns
returns c =
    let p = c.args.p in
    omega (arith, c.joined.ensures, next 2 p, next 3 p, past 4 p (omega (arith, good_length (e_int w32) 4 p _ c.well_formed.0)))
    ∙ sym (dropped 2 p (array_fits w32 4 p _ c.well_formed.0))
