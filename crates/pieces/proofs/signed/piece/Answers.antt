-- `pieces::signed::piece` meets its contract: what the floor leaves is a piece. Assumes nothing.
use mathlib.Core.Path.{◌≡◌}
use Prim.Native.Nat.{◌%◌}
use native.Mathlib.Omega.{arith}
use lib.IntN.{ℤ, pos, negsuc, ◌-ℤ◌, ◌*ℤ◌}
use mir.Syntax.{w64}
use mir.Val.{SFits, of_z}
use Rattle.numbers.specs.Rounding.{floor_div}
use Rattle.numbers.proofs.Differences.{lin}
use Rattle.numbers.proofs.Machine.{read_is}
use Rattle.pieces.specs.Pieces.{base}
use Rattle.pieces.proofs.signed.piece.Goals as goal

low_of : (z : ℤ) → SFits w64 z → pos (of_z w64 z % base) ≡ z -ℤ pos base *ℤ floor_div z base
unfolding floor_div
low_of (pos n) k = simp lin (omega arith)
low_of (negsuc n) k = let h = k.sfits in simp lin (omega arith)

pub returns : goal.returns
returns c =
    rw (c.halves.ensures.low, c.cast_unsigned.ensures, read_is c.args.z c.ranges.z) (low_of c.args.z c.ranges.z)
