-- Numbers of 64 bits and their low piece: what stands above it is small, and a column fits. Assumes
-- nothing.
use mathlib.Core.Path.{◌≡◌, refl, ◌∙◌, ap}
use Prim.Native.Nat.{ℕ, ◌+◌, ◌^◌, ◌≤◌}
use native.Mathlib.Omega.{arith}
use lib.Dec.{T, lit<, ltb→lt}
use lib.IntN.{ℤ, pos, negsuc, nat_abs, ◌+ℤ◌, ◌-ℤ◌, ◌*ℤ◌}
use lib.Signed.{◌≤ℤ◌, ◌<ℤ◌, non_neg}
use mir.Syntax.{w32, w64}
use mir.Val.{SFits, Fits}
use Rattle.numbers.specs.Rounding.{floor_div}
use Rattle.numbers.proofs.Order.{size-*, size-+}
use Rattle.numbers.proofs.Machine.{read, read_is, fits_size, fits_small, Sum, summed}
use Rattle.numbers.proofs.Rounding.{floor_small}
use Rattle.pieces.specs.Pieces.{base}

-- what the caller of a function has read is as small as it was
pub read_small : (z : ℤ) (m : ℕ) → SFits w64 z → nat_abs z ≤ m → nat_abs (read z) ≤ m
read_small z m k h = rw (read_is z k) h

pub above_small : (z : ℤ) → SFits w64 z → nat_abs (floor_div z base) ≤ 2 ^ 31
above_small z k = floor_small z base (2 ^ 31) (lit< tt) (omega (arith, fits_size z k))

-- the contracts of `above` and `piece`, of a number that the caller has read
pub above_of : (z r : ℤ) → SFits w64 z → r ≡ floor_div (read z) base → r ≡ floor_div z base
above_of z r k e = e ∙ ap (λ (y : ℤ). floor_div y base) (read_is z k)

pub piece_of : (z p : ℤ) → SFits w64 z → p ≡ read z -ℤ pos base *ℤ floor_div (read z) base
    → p ≡ z -ℤ pos base *ℤ floor_div z base
piece_of z p k e = e ∙ ap (λ (y : ℤ). y -ℤ pos base *ℤ floor_div y base) (read_is z k)

-- a column: x of at most 30 bits, times a piece, signed or not, and little more
pub column_sum : (x y z : ℤ) → nat_abs x ≤ 2 ^ 30 → nat_abs y ≤ 2 ^ 32 → nat_abs z ≤ 2 ^ 32 → Sum x y z
column_sum x y z kx ky kz =
    let p = size-* x y kx ky in
    summed x y z (fits_small x (2 ^ 30) kx (lit< tt)) (fits_small y (2 ^ 32) ky (lit< tt)) (fits_small z (2 ^ 32) kz (lit< tt))
    (fits_small (x *ℤ y) (2 ^ 62) p (lit< tt)) (fits_small (x *ℤ y +ℤ z) (2 ^ 62 + 2 ^ 32) (size-+ (x *ℤ y) z p kz) (lit< tt))

-- ---- a number that is a piece, as the code casts it
pub record Piece (w : ℤ) : Type 0 where
  pub fits : SFits w64 w
  pub cast : T (non_neg w) × Fits w32 (nat_abs w)
  pub is : pos (nat_abs w) ≡ w

pub a_piece : (w : ℤ) → pos 0 ≤ℤ w → w <ℤ pos base → Piece w
a_piece (pos n) l h =
    let k = ltb→lt n base h.lt in
    record { fits = record { sfits = omega arith }; cast = (tt, record { fits = k }); is = refl }
a_piece (negsuc n) l h = absurd l.le
