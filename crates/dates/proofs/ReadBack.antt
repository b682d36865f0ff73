-- 'Reading it back gives the same tick': of every valid tick's date. And the two parts are what the
-- page says: the first exact, the second in [0, 1). Assumes nothing.
use Rattle.std.specs.Prelude.{Ok}
use mathlib.Core.Path.{◌≡◌, refl, sym, ap, ◌∙◌, subst}
use mathlib.Core.Bool.{Bool, true, false, true≢false}
use Prim.Native.Nat.{ℕ, ◌+◌, ◌*◌, ◌/◌, ◌%◌, ◌^◌, ◌≤◌, ◌<◌, zero-le}
use native.Mathlib.Nat.{mul_comm, mod-lt, le_of_lt, le_trans, le_of_eq, mul_right_comm}
use native.Mathlib.Nat.{mul-le-mul_right, mul-lt-mul_of_pos_right, le_of_mul-le-mul_right}
use native.Mathlib.Nat.{lt_of_mul-lt-mul_right}
use native.Mathlib.Omega.{arith}
use lib.Arith.{le→nltb}
use lib.Dec.{ltb, lit≤, lit<}
use lib.Pow.{pow_pos}
use lib.IntN.{ℤ, pos, nat_abs, ◌+ℤ◌, ◌-ℤ◌, ◌*ℤ◌, *ℤ_comm}
use lib.Signed.{◌≤ℤ◌, ◌<ℤ◌}
use lib.Ieee.{Float, nan, inf, fin, up, down, binary64}
use lib.Ieee.Bits.{is_false}
use lib.Ieee.Exact.{HasValue}
use lib.Ieee.Fits.{down_pos}
use lib.Ieee.Scale.{finite, grid}
use Rattle.numbers.proofs.Differences.{rep₂, lin}
use Rattle.numbers.proofs.Order.{le_pos, lt_pos}
use Rattle.numbers.proofs.Ring.{*-assoc, *-left-comm}
use Rattle.numbers.proofs.Rounding.{Floored, floored}
use Rattle.scales.specs.Tick.{is_valid}
use Rattle.scales.proofs.Range.{valid_size}
use Rattle.dates.specs.Doubles.{numerator, denominator, beyond}
use Rattle.dates.specs.Ticks.{day_ticks, origin, ticks_rounded, tick_of_date}
use Rattle.dates.specs.Readings.{in_range, read_of_date, most_days, read_of_parts}
use Rattle.dates.specs.Written.{since_half, day_of, since_day, first_part, second_part, date_of}
use Rattle.dates.specs.Written.{written_of}
use Rattle.scales.specs.Answers.{Accepts, read_number, read_tick}
use Rattle.dates.specs.Answers.{written_number, written_first, written_second}
use Rattle.dates.specs.Inner.{Since}
use Rattle.dates.proofs.Days.{days_counted, days_few, first_half_is, ticks_of_day_is}
use Rattle.dates.proofs.Division.{part_under, part_value, part_ticks, half_value}
use Rattle.dates.proofs.Sums.{whole_ticks}
use Rattle.dates.proofs.Values.{value_of}

-- ---- what a value says
finite_of : (x : Float) (s : Bool) (a c : ℕ) → HasValue x s a c → finite x ≡ true
finite_of nan s a c v = absurd v
finite_of (inf t) s a c v = absurd v
finite_of (fin t m e) s a c v = refl

not_beyond : (x : Float) (s : Bool) (a c most : ℕ) → 0 < c → HasValue x s a c → a ≤ most * c → beyond most x ≡ false
unfolding beyond
not_beyond nan s a c most C v h = absurd v
not_beyond (inf t) s a c most C v h = absurd v
not_beyond (fin t m e) s a c most C v h =
    is_false (ltb (most * down e) (m * up e)) (le→nltb (most * down e) (m * up e)
    (le_of_mul-le-mul_right (le_trans (le_of_eq v.1) (le_trans (mul-le-mul_right (down e) h) (le_of_eq (mul_right_comm most c (down e))))) C))

-- below one
below_one : (x : Float) (a c : ℕ) → 0 < c → HasValue x false a c → a < c
    → (pos 0 ≤ℤ numerator x) × (numerator x <ℤ pos (denominator x))
unfolding numerator denominator
below_one nan a c C v h = absurd v
below_one (inf t) a c C v h = absurd v
below_one (fin true m e) a c C v h = absurd (true≢false v.0)
below_one (fin false m e) a c C v h = (
  le_pos 0 (m * up e) zero-le,
  lt_pos (m * up e) (down e)
      (lt_of_mul-lt-mul_right c
      (subst (λ (z : ℕ). z < down e * c) (sym v.1)
      (subst (λ (z : ℕ). a * down e < z) (mul_comm c (down e)) (mul-lt-mul_of_pos_right h (down_pos e))))),
)

-- ---- a valid tick's two parts
abbrev halves : ℤ → ℤ
halves tick = pos 2 *ℤ day_of tick +ℤ pos 1

day_sum : (t d : ℤ)
    → pos 43200000000000 *ℤ (pos 2 *ℤ d +ℤ pos 1)
    +ℤ (t +ℤ pos origin -ℤ pos 43200000000000 -ℤ pos 86400000000000 *ℤ d)
    -ℤ pos origin
    ≡ t
day_sum = rep₂ _ (λ a b c d. simp lin (omega arith))

module _ (tick : ℤ) (v : is_valid tick ≡ true) where
  since : ℕ
  since = nat_abs (tick +ℤ pos 6048000032184000000)

  is_since : Since tick since
  unfolding since
  is_since = days_counted tick (valid_size tick v)

  n : ℕ
  n = 2 * (since / day_ticks) + 4746289

  n_is : pos n ≡ halves tick
  unfolding n
  n_is = sym (first_half_is tick since is_since)

  n_small : n ≤ 5026289
  unfolding n
  n_small = omega (arith, days_few tick since is_since)

  first_value : HasValue (first_part tick) false n 2
  unfolding first_part
  first_value = rw (sym n_is) (half_value n (omega (arith, n_small)))

  first_ticks : pos day_ticks *ℤ numerator (first_part tick)
      ≡ pos (denominator (first_part tick)) *ℤ (pos 43200000000000 *ℤ halves tick)
  first_ticks =
      *-assoc (pos 43200000000000) (pos 2) (numerator (first_part tick))
      ∙ ap (λ (z : ℤ). pos 43200000000000 *ℤ z) (value_of (first_part tick) false n 2 first_value)
      ∙ *-left-comm (pos 43200000000000) (pos (denominator (first_part tick))) (pos n)
      ∙ ap (λ (z : ℤ). pos (denominator (first_part tick)) *ℤ (pos 43200000000000 *ℤ z)) n_is

  r : ℕ
  r = since % day_ticks

  r_is : pos r ≡ since_day tick
  unfolding r
  r_is = sym (ticks_of_day_is tick since is_since)

  r_small : r < day_ticks
  unfolding r
  r_small = mod-lt since (lit< tt)

  second_value : HasValue (second_part tick) false (grid binary64 r day_ticks) (2 ^ 1074)
  unfolding second_part
  second_value = rw (sym r_is) (part_value r r_small)

  second_ticks : ticks_rounded day_ticks (second_part tick) ≡ since_day tick
  unfolding second_part
  second_ticks = rw (sym r_is) (part_ticks r r_small)

  sum : tick_of_date (first_part tick) (second_part tick) ≡ tick
  unfolding since_day since_half
  sum =
      whole_ticks (first_part tick) (second_part tick) (pos 43200000000000 *ℤ halves tick) first_ticks
      ∙ ap (λ (z : ℤ). pos 43200000000000 *ℤ halves tick +ℤ z -ℤ pos origin) second_ticks
      ∙ day_sum tick (day_of tick)

  first_finite : finite (first_part tick) ≡ true
  first_finite = finite_of (first_part tick) false n 2 first_value

  second_finite : finite (second_part tick) ≡ true
  second_finite = finite_of (second_part tick) false (grid binary64 r day_ticks) (2 ^ 1074) second_value

  first_within : beyond most_days (first_part tick) ≡ false
  first_within = not_beyond (first_part tick) false n 2 most_days (lit< tt) first_value (omega (arith, n_small))

  second_within : beyond most_days (second_part tick) ≡ false
  second_within =
      not_beyond (second_part tick) false (grid binary64 r day_ticks) (2 ^ 1074) most_days (pow_pos 1074) second_value
      (le_trans (le_of_lt (part_under r r_small)) (lit≤ tt))

  back : read_of_date (date_of tick) ≡ Ok tick
  unfolding read_of_parts in_range date_of
  back = rw (first_finite, second_finite, first_within, second_within, sum, v)

  -- 'the first part is .. exact': its value is the day's n + 1/2
  pub first_exact : (finite (first_part tick) ≡ true)
      × (pos 2 *ℤ numerator (first_part tick) ≡ (pos 2 *ℤ day_of tick +ℤ pos 1) *ℤ pos (denominator (first_part tick)))
  first_exact = (
    first_finite,
    value_of (first_part tick) false n 2 first_value
        ∙ *ℤ_comm (pos (denominator (first_part tick))) (pos n)
        ∙ ap (λ (z : ℤ). z *ℤ pos (denominator (first_part tick))) n_is,
  )

  -- the second part lies in [0, 1)
  pub second_in_day : (finite (second_part tick) ≡ true)
      × ((pos 0 ≤ℤ numerator (second_part tick))
      × (numerator (second_part tick) <ℤ pos (denominator (second_part tick))))
  second_in_day = (second_finite, below_one (second_part tick) (grid binary64 r day_ticks) (2 ^ 1074) (pow_pos 1074) second_value (part_under r r_small))

-- 'the last Julian date ending in .5 not after it': the day is at or before the tick, and the next
-- one after it
pub last_day : (tick : ℤ) → Floored (since_half tick) day_ticks (day_of tick)
unfolding day_of
last_day tick = floored (since_half tick) day_ticks (lit< tt)

-- ---- 'Reading it back gives the same tick': every valid tick is written, and its date is read as
-- that tick
pub read_back : (tick : ℤ) → is_valid tick ≡ true
    → (written_number (written_of tick) ≡ 0)
    × Accepts (read_of_parts (written_first (written_of tick)) (written_second (written_of tick))) tick
unfolding written_of written_number written_first written_second date_of read_number read_tick
read_back tick v = rw v (refl, rw (back tick v) (refl, refl))
