-- That a signed number of the code fits, and what a test of two numbers leaves. Assumes nothing.
use mathlib.Core.Path.{◌≡◌, sym, ◌∙◌}
use mathlib.Core.Bool.{false}
use mathlib.Core.Logic.{⊎_elim}
use Prim.Native.Nat.{◌^◌, ◌≤◌}
use native.Mathlib.Omega.{arith}
use lib.IntN.{ℤ, pos, negsuc, nat_abs, ◌-ℤ◌}
use lib.Signed.{◌≤ℤ◌, ◌<ℤ◌, le_z}
use mir.Syntax.{w64}
use mir.Val.{SFits}
use Rattle.numbers.proofs.Differences.{rep₂, lin}
use Rattle.utc.proofs.Beside.{before, under, weak}
use Rattle.numbers.proofs.Machine.{fits_range, fits_size, fits_under, yes_le}
use Rattle.numbers.proofs.Flags.{never}
use Rattle.numbers.proofs.Order.{≤-total}

low : (x z : ℤ) → x ≤ℤ z → nat_abs x ≤ 2 ^ 63 → negsuc 9223372036854775807 ≤ℤ z
low = rep₂ _ (λ a b c d. simp lin (omega arith))

high : (z y : ℤ) → z ≤ℤ y → y <ℤ pos (2 ^ 63) → z <ℤ pos (2 ^ 63)
high = rep₂ _ (λ a b c d. simp lin (omega arith))

-- what lies between two numbers that fit
fits_between : (x z y : ℤ) → SFits w64 x → SFits w64 y → x ≤ℤ z → z ≤ℤ y → SFits w64 z
fits_between x z y f g l h = fits_range z (low x z l (fits_size x f)) (high z y h (fits_under y g))

-- one less than the greater of two
pub one_less_fits : (x y : ℤ) → SFits w64 x → SFits w64 y → x <ℤ y → SFits w64 (y -ℤ pos 1)
one_less_fits x y f g l = fits_between x (y -ℤ pos 1) y f g (before x y l) (weak (y -ℤ pos 1) y (under y))

-- what a `<=` that failed leaves
pub le_no : (x y : ℤ) → le_z x y ≡ false → y <ℤ x
le_no x y e = ⊎_elim (λ (h : x ≤ℤ y). never (sym e ∙ yes_le x y h)) (λ (h : y <ℤ x). h) (≤-total x y)
