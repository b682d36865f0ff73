-- u by digits: 2^31·place / H is divided out in three steps, of 13, 13 and 5 bits, and the last
-- digit is rounded. Every number on the way fits 64 bits, and the sum of the digits, less 2^30, is
-- u. Assumes nothing.
use mathlib.Core.Path.{◌≡◌}
use Prim.Native.Nat.{ℕ, ◌+◌, ◌*◌, ◌/◌, ◌%◌, ◌^◌, ◌≤◌, ◌<◌}
use native.Mathlib.Nat.{div-add-mod', mod-lt, mul_comm, le_of_mul-le-mul_left}
use native.Mathlib.Omega.{arith}
use lib.IntN.{ℤ, pos, ◌+ℤ◌, ◌-ℤ◌, ◌*ℤ◌}
use lib.Signed.{◌≤ℤ◌, ◌<ℤ◌}
use Rattle.numbers.proofs.Differences.{rep, lin}
use Rattle.numbers.proofs.Order.{le_pos, lt_pos}
use Rattle.numbers.proofs.Rounding.{nearest_is}
use Rattle.granule.specs.Rule.{scale, p_of, u_of}

-- ---- the digits
abbrev pub first_digit : ℕ → ℕ
first_digit place = place * 8192

abbrev pub second_digit : ℕ → ℕ → ℕ
second_digit place H = first_digit place % H * 8192

abbrev pub third_digit : ℕ → ℕ → ℕ
third_digit place H = second_digit place H % H * 64 + H

abbrev pub digit_sum : ℕ → ℕ → ℕ
digit_sum place H = first_digit place / H * 262144 + second_digit place H / H * 32 + third_digit place H / (2 * H)

-- n / d of a number up to d·m
quotient : (n d m : ℕ) → 0 < d → n ≤ d * m → n / d ≤ m
quotient n d m h k = le_of_mul-le-mul_left {k = d} (omega (arith, div-add-mod' n d, mul_comm d (n / d))) h

pub record DigitsSized (place H : ℕ) : Type 0 where
  pub second : second_digit place H ≤ H * 8192
  pub third : third_digit place H ≤ 2 * H * 33
  pub one : first_digit place / H ≤ 8192
  pub two : second_digit place H / H ≤ 8192
  pub three : third_digit place H / (2 * H) ≤ 33

pub digits_sized : (place H : ℕ) → 0 < H → place ≤ H → DigitsSized place H
digits_sized place H h i =
    let r₁ = mod-lt (first_digit place) h in
    let r₂ = mod-lt (second_digit place H) h in
    let second : second_digit place H ≤ H * 8192 = omega arith in
    let third : third_digit place H ≤ 2 * H * 33 = omega arith in
    record {
      second = second;
      third = third;
      one = quotient (first_digit place) H 8192 h (omega arith);
      two = quotient (second_digit place H) H 8192 h second;
      three = quotient (third_digit place H) (2 * H) 33 (omega arith) third;
    }

-- ---- their sum is 2^31·place / H, rounded
record Divided (place H : ℕ) : Type 0 where
  under : 2 * (H * digit_sum place H) ≤ 2 ^ 32 * place + H
  above : 2 ^ 32 * place + H < 2 * (H * digit_sum place H) + 2 * H

divided : (place H : ℕ) → 0 < H → Divided place H
divided place H h =
    let k : 0 < 2 * H = omega arith in
    let e₁ = div-add-mod' (first_digit place) H in
    let e₂ = div-add-mod' (second_digit place H) H in
    let e₃ = div-add-mod' (third_digit place H) (2 * H) in
    let r₃ = mod-lt (third_digit place H) k in
    record { under = omega arith; above = omega arith }

-- ---- and 2^30 less of it is u (over x, since a difference of two `pos` computes too early)
under_u : (H place : ℕ) (x : ℤ) → (pos 2 *ℤ (pos H *ℤ x)) ≤ℤ pos (2 ^ 32 * place + H)
    → (pos 2 *ℤ (pos H *ℤ (x -ℤ pos scale))) ≤ℤ (pos 2 *ℤ (pos scale *ℤ (pos 2 *ℤ pos place -ℤ pos H)) +ℤ pos H)
under_u H place = rep _ (λ a b. simp lin (omega arith))

above_u : (H place : ℕ) (x : ℤ) → pos (2 ^ 32 * place + H) <ℤ (pos 2 *ℤ (pos H *ℤ x) +ℤ pos 2 *ℤ pos H)
    → (pos 2 *ℤ (pos scale *ℤ (pos 2 *ℤ pos place -ℤ pos H)) +ℤ pos H)
    <ℤ (pos 2 *ℤ (pos H *ℤ (x -ℤ pos scale)) +ℤ pos 2 *ℤ pos H)
above_u H place = rep _ (λ a b. simp lin (omega arith))

pub u_is : (place H : ℕ) → 0 < H → u_of (p_of place H) H ≡ pos (digit_sum place H) -ℤ pos scale
unfolding u_of p_of
u_is place H h =
    let d = divided place H h in
    let q = digit_sum place H in
    nearest_is (pos scale *ℤ (pos 2 *ℤ pos place -ℤ pos H)) (pos q -ℤ pos scale) H h (record {
      under = under_u H place (pos q) (le_pos (2 * (H * q)) (2 ^ 32 * place + H) d.under);
      above = above_u H place (pos q) (lt_pos (2 ^ 32 * place + H) (2 * (H * q) + 2 * H) d.above);
    })
