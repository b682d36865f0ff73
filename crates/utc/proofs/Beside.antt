-- Linear laws of numbers beside each other, as a day, the one before and the one after. Assumes
-- nothing.
use mathlib.Core.Path.{◌≡◌}
use native.Mathlib.Omega.{arith}
use lib.IntN.{ℤ, pos, ◌+ℤ◌, ◌-ℤ◌}
use lib.Signed.{◌≤ℤ◌, ◌<ℤ◌}
use Rattle.numbers.proofs.Differences.{rep, rep₂, rep₃, lin}

pub weak : (x y : ℤ) → x <ℤ y → x ≤ℤ y
weak = rep₂ _ (λ a b c d. simp lin (omega arith))

pub <-trans : (x y z : ℤ) → x <ℤ y → y <ℤ z → x <ℤ z
<-trans = rep₃ _ (λ a b c d e f. simp lin (omega arith))

-- the one after
pub up : (x y : ℤ) → x ≤ℤ y → x ≤ℤ (y +ℤ pos 1)
up = rep₂ _ (λ a b c d. simp lin (omega arith))

pub is_next : (x y : ℤ) → x <ℤ y → y ≤ℤ (x +ℤ pos 1) → y ≡ x +ℤ pos 1
is_next = rep₂ _ (λ a b c d. simp lin (omega arith))

-- the one before
pub before : (x y : ℤ) → x <ℤ y → x ≤ℤ (y -ℤ pos 1)
before = rep₂ _ (λ a b c d. simp lin (omega arith))

pub under : (x : ℤ) → (x -ℤ pos 1) <ℤ x
under = rep _ (λ a b. simp lin (omega arith))

pub and_on : (x : ℤ) → x -ℤ pos 1 +ℤ pos 1 ≡ x
and_on = rep _ (λ a b. simp lin (omega arith))
