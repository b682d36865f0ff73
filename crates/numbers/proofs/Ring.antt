-- ℤ as a commutative ring: the laws that the kit's `lib.IntN` lacks. For an identity of polynomials
-- reach for the solver instead. Assumes nothing.
use mathlib.Core.Path.{◌≡◌}
use native.Mathlib.Omega.{arith}
use lib.IntN.{ℤ, pos, ◌+ℤ◌, ◌*ℤ◌, neg_ℤ}
use Rattle.numbers.proofs.Differences.{rep, rep₂, rep₃, lin}

pub *-assoc : (x y z : ℤ) → (x *ℤ y) *ℤ z ≡ x *ℤ (y *ℤ z)
*-assoc = rep₃ _ (λ a b c d e f. simp lin (omega arith))

pub *-left-comm : (x y z : ℤ) → x *ℤ (y *ℤ z) ≡ y *ℤ (x *ℤ z)
*-left-comm = rep₃ _ (λ a b c d e f. simp lin (omega arith))

pub *-dist : (x y z : ℤ) → x *ℤ (y +ℤ z) ≡ x *ℤ y +ℤ x *ℤ z
*-dist = rep₃ _ (λ a b c d e f. simp lin (omega arith))

pub dist-* : (x y z : ℤ) → (x +ℤ y) *ℤ z ≡ x *ℤ z +ℤ y *ℤ z
dist-* = rep₃ _ (λ a b c d e f. simp lin (omega arith))

pub neg-* : (x y : ℤ) → neg_ℤ x *ℤ y ≡ neg_ℤ (x *ℤ y)
neg-* = rep₂ _ (λ a b c d. simp lin (omega arith))

pub one-* : (x : ℤ) → pos 1 *ℤ x ≡ x
one-* = rep _ (λ a b. simp lin (omega arith))

pub +-left-comm : (x y z : ℤ) → x +ℤ (y +ℤ z) ≡ y +ℤ (x +ℤ z)
+-left-comm = rep₃ _ (λ a b c d e f. simp lin (omega arith))
