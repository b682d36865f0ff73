-- `pieces::share::share` meets its contract: the half fits above the low product, m1 is so narrow
-- that the high one has no sign, and the low one's lower half is less than any unit of the shift.
-- Assumes nothing.
use borrow.Kind.Array.{good_length, e_int}
use mathlib.Core.Path.{◌≡◌, ◌∙◌, ap, subst}
use Prim.Native.Nat.{ℕ, suc, ◌+◌, ◌*◌, ◌/◌, ◌%◌, ◌^◌, ◌<◌, ◌≤◌, zero-le}
use native.Mathlib.Nat.{le_of_lt, lt_trans, lt_of_le_of_lt, mod-eq_of_lt, div-div-eq-div-mul}
use native.Mathlib.Nat.{mul-le-mul, mul-le-mul_right, mul-lt-mul_of_pos_left}
use native.Mathlib.Omega.{arith}
use lib.Dec.{lit<}
use lib.IntN.{ℤ, pos}
use lib.ListN.{length}
use mir.Syntax.{w32}
use Rattle.numbers.specs.Rounding.{floor_div}
use Rattle.numbers.proofs.Arrays.{array_fits}
use Rattle.numbers.proofs.Order.{le_pos}
use Rattle.numbers.proofs.Machine.{read, read_is, natural_cast}
use Rattle.pieces.specs.Pieces.{base, value, signed}
use Rattle.pieces.specs.Rows.{factor, half_unit, share_of}
use Rattle.pieces.proofs.Values.{Small}
use Rattle.pieces.proofs.Signs.{plain}
use Rattle.pieces.proofs.Rows.{above_64}
use Rattle.pieces.proofs.share.share.Goals as goal
use Rattle.pieces.proofs.share.share.Goals.{After-add-low, After-multiply-high, After-shifted, Start}

-- the low product and half of a unit
abbrev low : Start → ℕ
low s = s.args.b * s.args.row.m0 + half_unit s.args.row

-- what is shifted: the upper half of b·M and half of a unit
abbrev sum : Start → ℕ
sum s = s.args.b * s.args.row.m1 + low s / 2 ^ 64

nothing_more : (n : ℕ) → n + 0 ≡ n
nothing_more n = omega arith

low_fits : (b m h : ℕ) → b < 2 ^ 64 → m + h < 2 ^ 64 → b * m + 2 ^ 64 * h < base ^ 4
low_fits b m h kb k = lt_of_le_of_lt (above (mul-le-mul_right m (le_of_lt kb))) (mul-lt-mul_of_pos_left k (lit< tt))
  where
    above : b * m ≤ 2 ^ 64 * m → b * m + 2 ^ 64 * h ≤ 2 ^ 64 * (m + h)
    above p = omega arith

low_is : (c : After-add-low) → value c.add-low.result ≡ low c.before.before.before
low_is c =
    let row = c.args.row in
    let b = c.args.b in
    let half = above_64 31 row.by in
    let whole = subst (λ (n : ℕ). b * row.m0 + n < base ^ 4) half
    (low_fits b row.m0 (2 ^ (31 + row.by)) c.ranges.b.fits c.requires.room) in
    c.add-low.ensures
    ∙ (λ i. ((c.multiply.ensures ∙ nothing_more _) i + c.half_unit.ensures i) % base ^ 4)
    ∙ mod-eq_of_lt whole

sum_is : (c : After-multiply-high) → value c.multiply-high.result ≡ sum c.before.before.before.before.before
sum_is c =
    c.multiply-high.ensures
    ∙ ap (λ (n : ℕ). c.args.b * c.args.row.m1 + n) (c.upper.ensures ∙ ap (λ (n : ℕ). n / 2 ^ 64) (low_is c.before.before))

high_fits : (b m u : ℕ) → b < 2 ^ 64 → m < 2 ^ 30 → u < 2 ^ 64 → b * m + u < 2 ^ 95
high_fits b m u kb km ku = sums (mul-le-mul kb km) ku
  where
    sums : suc b * suc m ≤ 2 ^ 64 * 2 ^ 30 → u < 2 ^ 64 → b * m + u < 2 ^ 95
    sums p k = omega arith

high_small : (c : After-multiply-high) → value c.multiply-high.result < 2 ^ 95
high_small c =
    rw c.multiply-high.ensures (high_fits c.args.b c.args.row.m1 c.upper.result c.ranges.b.fits c.requires.narrow c.upper.type_inv)

small : (c : After-multiply-high) → Small c.multiply-high.result
small c = array_fits w32 4 c.multiply-high.result _ c.multiply-high.type_inv

many : (c : After-multiply-high) → length c.multiply-high.result ≡ 4
many c = good_length (e_int w32) 4 c.multiply-high.result _ c.multiply-high.type_inv

-- it has no sign
plain_sum : (c : After-multiply-high) → signed c.multiply-high.result ≡ pos (value c.multiply-high.result)
plain_sum c = plain c.multiply-high.result (small c) (rw (many c) (twice (high_small c)))
  where
    twice : {n : ℕ} → n < 2 ^ 95 → 2 * n < base ^ 4
    twice h = lt_trans (mul-lt-mul_of_pos_left h (lit< tt)) (lit< tt)

abbrev shifted_sum : Start → ℕ
shifted_sum s = sum s / 2 ^ (32 + s.args.row.by)

share_is : (c : After-shifted)
    → c.shifted.result ≡ pos (shifted_sum c.before.before.before.before.before.before)
unfolding floor_div
share_is c =
    let by = c.args.row.by in
    c.shifted.ensures ∙ ap (λ (z : ℤ). floor_div z (2 ^ (32 + by))) (plain_sum c.before ∙ ap pos (sum_is c.before))

read_share : (c : After-shifted) → read c.shifted.result ≡ c.shifted.result
read_share c = read_is c.shifted.result (record { sfits = c.shifted.type_inv })

-- the low half of b·M is dropped, then the shift's bits
parts : (b m₁ m₀ h d : ℕ) → (b * m₁ + (b * m₀ + h) / 2 ^ 64) / d ≡ (b * (m₁ * 2 ^ 64 + m₀) + h) / (2 ^ 64 * d)
parts b m₁ m₀ h d = ap (λ (n : ℕ). n / d) (omega arith) ∙ div-div-eq-div-mul (b * (m₁ * 2 ^ 64 + m₀) + h) (2 ^ 64) d

pub shifted-requires : goal.shifted-requires
shifted-requires c = record { small = rw (plain_sum c) (high_small c); few = c.requires.few }

pub overflow_cast-result : goal.overflow_cast-result
overflow_cast-result c = rw (read_share c) (natural_cast c.shifted.result (record { sfits = c.shifted.type_inv }) (rw (share_is c) (le_pos 0 _ zero-le)))

pub returns : goal.returns
unfolding share_of
returns c =
    let row = c.args.row in
    rw (read_share c, share_is c)
    (parts c.args.b row.m1 row.m0 (half_unit row) (2 ^ (32 + row.by))
    ∙ ap (λ (n : ℕ). (c.args.b * factor row + half_unit row) / n) (above_64 32 row.by))
