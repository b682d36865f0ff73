-- Shares are rounded to ticks as the exact value is; and the shares of a date's two parts, each cut
-- down, are those of the exact sum wherever the sum is a valid epoch. Assumes nothing.
use mathlib.Core.Path.{◌≡◌, refl, sym, ap, ap₂, ◌∙◌}
use mathlib.Core.Logic.{inl, inr}
use mathlib.Core.Bool.{◌&&◌}
use Prim.Native.Nat.{ℕ, zero, suc, ◌+◌, ◌-◌, ◌*◌, ◌%◌, ◌^◌, ◌≤◌, ◌<◌}
use native.Mathlib.Nat.{le_of_lt, le_trans, le_of_eq, lt_of_le_of_lt, lt_irrefl, lt_of_not-le}
use native.Mathlib.Nat.{mul_comm, mul-one, mul-pos}
use native.Mathlib.Omega.{arith}
use lib.Dec.{T, eqb, leb, ltb, lit≤, lit<, ltb→lt}
use lib.IntN.{ℤ, pos, negsuc, nat_abs, ◌+ℤ◌, ◌-ℤ◌, ◌*ℤ◌, +ℤ_comm}
use lib.Pow.{pow-add, pow_pos, pow_mono}
use lib.Ieee.{Float, nan, inf, fin, binary64, fits}
use lib.Ieee.Fits.{and_l, and_r}
use Rattle.numbers.specs.Rounding.{floor_div, nearest}
use Rattle.numbers.proofs.Differences.{rep, rep₂, rep₃, lin, sizes}
use Rattle.numbers.proofs.Order.{le_or_lt, size-*, size-+}
use Rattle.numbers.proofs.Ring.{*-assoc, *-left-comm, one-*}
use Rattle.numbers.proofs.Rounding.{floor_exact, floor_small, floor_sum, nearest_even}
use Rattle.numbers.proofs.Rounding.{nearest_of_floor, nearest_plus, nearest_small, nearest_sum}
use Rattle.numbers.specs.Signs.{signed}
use Rattle.dates.specs.Doubles.{numerator, denominator}
use Rattle.dates.specs.Ticks.{day_ticks, origin, sum_numerator, sum_denominator, ticks_rounded}
use Rattle.dates.specs.Ticks.{tick_of_sum, tick_of_date}
use Rattle.dates.specs.Readings.{in_range, refused_with}
use Rattle.dates.specs.Inner.{FarPieces, left_by, shares_of}
use Rattle.scales.specs.Tick.{furthest}
use Rattle.dates.proofs.Spans.{outside}
use Rattle.dates.proofs.Values.{den_pos, signed_size}

-- ---- one double
pub ticks_of_shares : (per : ℕ) (x : Float) → ticks_rounded per x ≡ nearest (shares_of per x) 65536
unfolding ticks_rounded shares_of
ticks_of_shares per x =
    nearest_of_floor (pos per *ℤ numerator x) (denominator x) 32768 (den_pos x) (lit< tt)
    ∙ ap (λ (z : ℤ). nearest (floor_div z (denominator x)) 65536) (sym (*-assoc (pos 65536) (pos per) (numerator x)))

-- ---- a part of whole pieces, which 2^20 days or more are, either way: m·2^e has fewer than 54
-- digits
abbrev Whole : Float → Type 0
Whole x = pos (denominator x) *ℤ shares_of day_ticks x ≡ pos (65536 * day_ticks) *ℤ numerator x

whole_of : (x : Float) (w : ℤ) → pos (65536 * day_ticks) *ℤ numerator x ≡ pos (denominator x) *ℤ w → Whole x
unfolding shares_of
whole_of x w e = ap (λ (z : ℤ). pos (denominator x) *ℤ z) (ap (λ (z : ℤ). floor_div z (denominator x)) e ∙ floor_exact w (denominator x) (den_pos x)) ∙ sym e

far_whole : (x : Float) → T (fits binary64 x) → 2 ^ 20 * denominator x ≤ nat_abs (numerator x) → Whole x
unfolding numerator denominator fits
far_whole nan f h = let no : ⊥ = omega arith in absurd no
far_whole (inf s) f h = let no : ⊥ = omega arith in absurd no
far_whole (fin s m (pos k)) f h =
    let x = fin s m (pos k) in
    let w = pos (65536 * day_ticks) *ℤ numerator x in whole_of x w (sym (one-* w))
far_whole (fin s zero (negsuc k)) f h =
    let no : ⊥ = omega (arith, h, signed_size s (0 * 1), pow_pos (suc k)) in absurd no
far_whole (fin s (suc m) (negsuc k)) f h =
    whole_of (fin s (suc m) (negsuc k)) (pos (2 ^ (32 - suc k) * 1318359375) *ℤ signed s (suc m * 1))
    (turn (2 ^ suc k) (2 ^ (32 - suc k)) powers (signed s (suc m * 1)))
  where
    digits : suc m < 2 ^ 53
    digits =
        let p = eqb (suc m % 2) 1 in
        let q = ltb (suc m) (2 ^ 53) in
        let r = leb (2 ^ suc k) (2 ^ 1074) in
        ltb→lt (suc m) (2 ^ 53) (and_r p q (and_l (p && q) r (and_l (p && q && r) (ltb (suc m * 1) (2 ^ 1024 * 2 ^ suc k)) f)))

    few : suc k ≤ 32
    few = go (suc k) (lt_of_not-le (λ (g : 53 ≤ 20 + suc k). lt_irrefl (2 ^ 53) (lt_of_le_of_lt (pow_mono g) (lt_of_le_of_lt least digits))))
      where
        least : 2 ^ (20 + suc k) ≤ suc m
        least = le_trans (le_of_eq (pow-add 2 20 (suc k))) (le_trans h (le_of_eq (signed_size s (suc m * 1) ∙ mul-one (suc m))))

        go : (k : ℕ) → 20 + k < 53 → k ≤ 32
        go k h = omega arith

    powers : 2 ^ suc k * 2 ^ (32 - suc k) ≡ 2 ^ 32
    powers = sym (pow-add 2 (suc k) (32 - suc k)) ∙ ap (λ (n : ℕ). 2 ^ n) (go (suc k) few)
      where
        go : (k : ℕ) → k ≤ 32 → k + (32 - k) ≡ 32
        go k h = omega arith

    turn : (d c : ℕ) → d * c ≡ 4294967296 → (z : ℤ) → pos (65536 * day_ticks) *ℤ z
        ≡ pos d *ℤ (pos (c * 1318359375) *ℤ z)
    turn d c e = rep _ (λ a b. simp lin (omega (arith, ap (λ (n : ℕ). n * a) e, ap (λ (n : ℕ). n * b) e)))

-- a far part's pieces
pub far_shares : (x : Float) (pieces : ℤ) → FarPieces x pieces → shares_of day_ticks x ≡ pos 1318359375 *ℤ pieces
unfolding shares_of
far_shares x pieces p =
    ap (λ (z : ℤ). floor_div z (denominator x))
    (*-assoc (pos 1318359375) (pos 4294967296) (numerator x)
    ∙ ap (λ (z : ℤ). pos 1318359375 *ℤ z) (sym p.is)
    ∙ *-left-comm (pos 1318359375) (pos (denominator x)) pieces)
    ∙ floor_exact (pos 1318359375 *ℤ pieces) (denominator x) (den_pos x)

-- ---- beside it the other part is cut where the sum is
sum_shares : (x y : Float) → Whole x
    → floor_div (pos 65536 *ℤ (pos day_ticks *ℤ sum_numerator x y)) (sum_denominator x y)
    ≡ shares_of day_ticks x +ℤ shares_of day_ticks y
unfolding sum_numerator sum_denominator shares_of
sum_shares x y w =
    let b = denominator x in
    let d = denominator y in
    ap (λ (z : ℤ). floor_div z (b * d)) (turn b d (numerator x) (numerator y))
    ∙ floor_sum (pos (65536 * day_ticks) *ℤ numerator x) (pos (65536 * day_ticks) *ℤ numerator y) (shares_of day_ticks x) b d (den_pos x) (den_pos y) (sym w)
  where
    turn : (b d : ℕ) (m n : ℤ)
        → pos 65536 *ℤ (pos day_ticks *ℤ (pos d *ℤ m +ℤ pos b *ℤ n))
        ≡ pos d *ℤ (pos (65536 * day_ticks) *ℤ m) +ℤ pos b *ℤ (pos (65536 * day_ticks) *ℤ n)
    turn b d = rep₂ _ (λ a c e f. simp lin (omega arith))

pub sum_pos : (x y : Float) → 0 < sum_denominator x y
unfolding sum_denominator
sum_pos x y = mul-pos (den_pos x) (den_pos y)

-- a first part of whole ticks is added as it is
pub whole_ticks : (x y : Float) (w : ℤ) → pos day_ticks *ℤ numerator x ≡ pos (denominator x) *ℤ w
    → tick_of_date x y ≡ w +ℤ ticks_rounded day_ticks y -ℤ pos origin
unfolding tick_of_date tick_of_sum sum_numerator sum_denominator ticks_rounded
whole_ticks x y w e =
    let b = denominator x in
    let d = denominator y in
    ap (λ (z : ℤ). nearest z (b * d) -ℤ pos origin) (turn b d (numerator x) (numerator y))
    ∙ ap (λ (z : ℤ). z -ℤ pos origin) (nearest_sum (pos day_ticks *ℤ numerator x) (pos day_ticks *ℤ numerator y) w b d (den_pos x) (den_pos y) e)
  where
    turn : (b d : ℕ) (m n : ℤ)
        → pos day_ticks *ℤ (pos d *ℤ m +ℤ pos b *ℤ n) ≡ pos d *ℤ (pos day_ticks *ℤ m) +ℤ pos b *ℤ (pos day_ticks *ℤ n)
    turn b d = rep₂ _ (λ a c e f. simp lin (omega arith))

-- the tick that the code makes of both
abbrev tick_of_shares : Float → Float → ℤ
tick_of_shares x y = nearest (shares_of day_ticks x +ℤ shares_of day_ticks y) 65536 -ℤ pos origin

exact : (x y : Float) → Whole x → tick_of_shares x y ≡ tick_of_date x y
unfolding tick_of_date tick_of_sum
exact x y w =
    sym (ap (λ (z : ℤ). z -ℤ pos origin)
    (nearest_of_floor (pos day_ticks *ℤ sum_numerator x y) (sum_denominator x y) 32768 (sum_pos x y) (lit< tt)
    ∙ ap (λ (z : ℤ). nearest z 65536) (sum_shares x y w)))

pub swapped_tick : (x y : Float) → tick_of_date y x ≡ tick_of_date x y
unfolding tick_of_date sum_numerator sum_denominator
swapped_tick x y =
    ap₂ tick_of_sum (+ℤ_comm (pos (denominator x) *ℤ numerator y) (pos (denominator y) *ℤ numerator x)) (mul_comm (denominator y) (denominator x))

swapped_shares : (x y : Float) → tick_of_shares x y ≡ tick_of_shares y x
swapped_shares x y = ap (λ (z : ℤ). nearest z 65536 -ℤ pos origin) (+ℤ_comm (shares_of day_ticks x) (shares_of day_ticks y))

-- ---- less than 2^20 days in both are before the range, by either rule
before_range : (z : ℤ) → nat_abs z ≤ 2097152 * day_ticks → in_range (z -ℤ pos origin) ≡ refused_with 4 0
before_range z h = outside (z -ℤ pos origin) (go z h)
  where
    go : (z : ℤ) → nat_abs z ≤ 2097152 * day_ticks → furthest < nat_abs (z -ℤ pos origin)
    go = rep _ (λ a b. simp sizes (omega arith))

abbrev Near : Float → Type 0
Near x = nat_abs (numerator x) ≤ 2 ^ 20 * denominator x

near_shares : (x : Float) → Near x → nat_abs (shares_of day_ticks x) ≤ 65536 * day_ticks * 1048576
unfolding shares_of
near_shares x h =
    floor_small (pos (65536 * day_ticks) *ℤ numerator x) (denominator x) (65536 * day_ticks * 1048576) (den_pos x)
    (le_trans (size-* (pos (65536 * day_ticks)) (numerator x) (le_of_eq refl) h) (le_of_eq (go (denominator x))))
  where
    go : (d : ℕ) → 65536 * day_ticks * (1048576 * d) ≡ d * (65536 * day_ticks * 1048576)
    go d = omega arith

near_sum : (x y : Float) → Near x → Near y
    → nat_abs (pos day_ticks *ℤ sum_numerator x y) ≤ sum_denominator x y * (2097152 * day_ticks)
unfolding sum_numerator sum_denominator
near_sum x y h k =
    let b = denominator x in
    let d = denominator y in
    le_trans
    (size-* (pos day_ticks) (pos d *ℤ numerator x +ℤ pos b *ℤ numerator y) (le_of_eq refl)
    (size-+ (pos d *ℤ numerator x) (pos b *ℤ numerator y) (size-* (pos d) (numerator x) (le_of_eq refl) h) (size-* (pos b) (numerator y) (le_of_eq refl) k)))
    (le_of_eq (go b d))
  where
    go : (b d : ℕ) → day_ticks * (d * (1048576 * b) + b * (1048576 * d)) ≡ b * d * (2097152 * day_ticks)
    go b d = omega (arith, mul_comm b d)

both_before : (x y : Float) → Near x → Near y → in_range (tick_of_shares x y) ≡ in_range (tick_of_date x y)
unfolding tick_of_date tick_of_sum
both_before x y h k =
    before_range (nearest (shares_of day_ticks x +ℤ shares_of day_ticks y) 65536)
    (nearest_small _ 65536 (2097152 * day_ticks) (lit< tt)
    (le_trans (size-+ (shares_of day_ticks x) (shares_of day_ticks y) (near_shares x h) (near_shares y k)) (lit≤ tt)))
    ∙ sym (before_range (nearest (pos day_ticks *ℤ sum_numerator x y) (sum_denominator x y))
    (nearest_small _ (sum_denominator x y) (2097152 * day_ticks) (sum_pos x y) (near_sum x y h k)))

-- ---- so the shares decide as the exact sum does
pub shares_decide : (x y : Float) → T (fits binary64 x) → T (fits binary64 y)
    → in_range (tick_of_shares x y) ≡ in_range (tick_of_date x y)
shares_decide x y f g = elim (le_or_lt (2 ^ 20 * denominator x) (nat_abs (numerator x))) [
  | inl h ↦ ap in_range (exact x y (far_whole x f h))
  | inr h ↦ elim (le_or_lt (2 ^ 20 * denominator y) (nat_abs (numerator y))) [
    | inl k ↦ ap in_range (swapped_shares x y ∙ exact y x (far_whole y g k) ∙ swapped_tick x y)
    | inr k ↦ both_before x y (le_of_lt h) (le_of_lt k)
  ]
]

-- ---- pieces and shares to the nearest tick: whole units are whole ticks, and half a tick is added
-- to the rest
pub rounded_are : (odd twos : ℕ) (pieces rest : ℤ)
    → nearest (pos odd *ℤ pieces +ℤ rest) 65536
    ≡ pos (odd * 2 ^ twos) *ℤ floor_div pieces (2 ^ (16 + twos))
    +ℤ floor_div (pos odd *ℤ left_by (2 ^ (16 + twos)) pieces +ℤ rest +ℤ pos 32768) 65536
rounded_are odd twos pieces rest =
    let d = 2 ^ (16 + twos) in
    let units = floor_div pieces d in
    let left = pos odd *ℤ left_by d pieces +ℤ rest in
    ap (λ (z : ℤ). nearest z 65536) (turn odd (2 ^ twos) d (pow-add 2 16 twos) pieces rest units)
    ∙ nearest_plus left (pos (odd * 2 ^ twos) *ℤ units) 65536 (lit< tt)
    ∙ +ℤ_comm (nearest left 65536) (pos (odd * 2 ^ twos) *ℤ units)
    ∙ ap (λ (z : ℤ). pos (odd * 2 ^ twos) *ℤ units +ℤ z) (nearest_even left 32768 (lit< tt))
  where
    turn : (o a d : ℕ) → d ≡ 65536 * a → (p r u : ℤ)
        → pos o *ℤ p +ℤ r ≡ pos o *ℤ (p -ℤ pos d *ℤ u) +ℤ r +ℤ pos 65536 *ℤ (pos (o * a) *ℤ u)
    turn o a d e = rep₃ _ (λ b c f g i j. simp lin (omega (arith, ap (λ (n : ℕ). o * i * n) e, ap (λ (n : ℕ). o * j * n) e)))
