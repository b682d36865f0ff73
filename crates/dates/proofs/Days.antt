-- The day of a tick, counted from 70,000 days before JD 2443144.5, which is JD 2373144.5. Assumes
-- nothing.
use mathlib.Core.Path.{◌≡◌, ap}
use Prim.Native.Nat.{ℕ, ◌+◌, ◌*◌, ◌/◌, ◌%◌, ◌^◌, ◌≤◌}
use native.Mathlib.Nat.{div-add-mod'}
use native.Mathlib.Omega.{arith}
use lib.Dec.{T, le→leb, lit≤}
use lib.Ieee.{binary64, in_float}
use lib.IntN.{ℤ, pos, nat_abs, ◌+ℤ◌, ◌-ℤ◌, ◌*ℤ◌}
use lib.Signed.{◌≤ℤ◌, pos-nat_abs, yes_non_neg}
use Rattle.numbers.specs.Rounding.{floor_div}
use Rattle.numbers.proofs.Differences.{rep, lin}
use Rattle.scales.specs.Tick.{furthest}
use Rattle.dates.specs.Ticks.{day_ticks, origin}
use Rattle.dates.specs.Written.{since_half, day_of, since_day}
use Rattle.dates.specs.Inner.{Since}

-- ---- every valid tick has such a count
pub ahead : (k : ℕ) → furthest ≤ k → (t : ℤ) → nat_abs t ≤ furthest → pos 0 ≤ℤ (t +ℤ pos k)
ahead k enough = rep _ (λ a b. simp lin (omega arith))

near : (t : ℤ) → nat_abs t ≤ furthest → nat_abs (t +ℤ pos 6048000032184000000) ≤ 12048000032184000000
near = rep _ (λ a b. simp lin (omega arith))

pub days_counted : (tick : ℤ) → nat_abs tick ≤ furthest → Since tick (nat_abs (tick +ℤ pos 6048000032184000000))
days_counted tick h = record { is = pos-nat_abs _ (yes_non_neg (ahead _ (lit≤ tt) tick h)); few = near tick h }

-- ---- its day and the ticks of the day, by one division
shift : (n : ℕ) (t : ℤ) → pos n ≡ t +ℤ pos 6048000032184000000
    → t +ℤ pos origin -ℤ pos 43200000000000 ≡ pos (n + 2373144 * 86400000000000)
shift n = rep _ (λ a b. simp lin (omega arith))

module _ (tick : ℤ) (since : ℕ) (s : Since tick since) where
  half_is : since_half tick ≡ pos (since + 2373144 * day_ticks)
  unfolding since_half
  half_is = shift since tick s.is

  day_is : day_of tick ≡ pos (since / day_ticks + 2373144)
  unfolding day_of floor_div
  day_is = rw half_is (ap pos (go since))
    where
      go : (n : ℕ) → (n + 2373144 * 86400000000000) / 86400000000000 ≡ n / 86400000000000 + 2373144
      go n = omega arith

  pub first_half_is : pos 2 *ℤ day_of tick +ℤ pos 1 ≡ pos (2 * (since / day_ticks) + 4746289)
  first_half_is = rw day_is (ap pos (go (since / day_ticks)))
    where
      go : (q : ℕ) → 2 * (q + 2373144) + 1 ≡ 2 * q + 4746289
      go q = omega arith

  pub ticks_of_day_is : since_day tick ≡ pos (since % day_ticks)
  unfolding since_day
  ticks_of_day_is = rw (half_is, day_is) (go since (since / day_ticks) (since % day_ticks) (div-add-mod' since day_ticks))
    where
      go : (n q r : ℕ) → q * 86400000000000 + r ≡ n
          → pos (n + 2373144 * 86400000000000) -ℤ pos 86400000000000 *ℤ pos (q + 2373144) ≡ pos r
      go n q r e = simp lin (omega arith)

  pub days_few : since / day_ticks ≤ 140000
  days_few = go since s.few
    where
      go : (n : ℕ) → n ≤ 12048000032184000000 → n / 86400000000000 ≤ 140000
      go n h = omega arith

-- a whole number up to 2^53 is cast exactly
pub castable : (n : ℕ) → n ≤ 2 ^ 53 → T (in_float binary64 (pos n))
unfolding in_float
castable n h = le→leb n (2 ^ 53) h
