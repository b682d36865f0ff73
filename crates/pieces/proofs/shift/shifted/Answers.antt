-- `pieces::shift::shifted` meets its contract: the third piece, with its sign, is all that stands
-- above the second, and a floor of a floor is one. Assumes nothing.
use borrow.Kind.Array.{good_length, e_int}
use mathlib.Core.Path.{◌≡◌, sym, ◌∙◌, ap}
use Prim.Native.Nat.{◌^◌}
use native.Mathlib.Omega.{arith}
use lib.Dec.{lit<}
use lib.IntN.{ℤ, pos, ◌+ℤ◌, ◌*ℤ◌}
use lib.ListN.{length, get_or}
use lib.Pow.{pow_pos, pow-add}
use mir.Syntax.{w32, w64}
use mir.Val.{SFits, to_z}
use Rattle.numbers.specs.Rounding.{floor_div}
use Rattle.numbers.proofs.Arrays.{array_fits}
use Rattle.numbers.proofs.Machine.{floor_fits, shr_floor, read_is}
use Rattle.numbers.proofs.Rounding.{floor_of_floor}
use Rattle.pieces.specs.Pieces.{base, signed}
use Rattle.pieces.proofs.Values.{Small}
use Rattle.pieces.proofs.Signs.{within, next, dropped, all_from, with_sign}
use Rattle.pieces.proofs.shift.shifted.Goals as goal
use Rattle.pieces.proofs.shift.shifted.Goals.{After-cast_signed}

-- the middle two pieces
middle : (c : After-cast_signed) → c.cast_signed.result ≡ floor_div (signed c.args.p) base
middle c =
    let ps = c.args.p in
    let small : Small ps = array_fits w32 4 ps _ c.well_formed.0 in
    let many : length ps ≡ 4 = good_length (e_int w32) 4 ps _ c.well_formed.0 in
    let third = all_from 2 ps small (omega arith) (within (2 ^ 95) (signed ps) c.requires.small) in
    c.cast_signed.ensures
    ∙ ap (to_z w64) c.joined.ensures
    ∙ with_sign (get_or ps 1 0) (get_or ps 2 0) (small 1) (small 2)
    ∙ ap (λ (z : ℤ). pos (get_or ps 1 0) +ℤ pos base *ℤ z) third
    ∙ sym (next 1 ps (omega arith))
    ∙ sym (dropped 0 ps small (omega arith))

pub returns : goal.returns
returns c =
    let z = signed c.args.p in
    let by = c.args.by in
    let m = floor_div z base in
    let m_fits : SFits w64 m = rw (← middle c) (record { sfits = c.cast_signed.type_inv }) in
    rw (middle c, read_is m m_fits, shr_floor m (2 ^ by), read_is (floor_div m (2 ^ by)) (floor_fits m (2 ^ by) m_fits))
    (floor_of_floor z base (2 ^ by) (lit< tt) (pow_pos by) ∙ ap (floor_div z) (sym (pow-add 2 32 by)))
