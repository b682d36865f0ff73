-- `utc::tai::tai_by` meets its contract: each sum and product stays below 2^63. Assumes nothing.
use mathlib.Core.Path.{◌≡◌}
use Prim.Native.Nat.{◌+◌, ◌*◌, ◌≤◌}
use native.Mathlib.Nat.{le_refl}
use native.Mathlib.Omega.{arith}
use lib.Dec.{lit<}
use lib.IntN.{ℤ, pos, nat_abs, ◌+ℤ◌, ◌-ℤ◌, ◌*ℤ◌}
use mir.Syntax.{w64}
use mir.Val.{SFits}
use Rattle.numbers.proofs.Machine.{fits_small, read, read_is}
use Rattle.numbers.proofs.Order.{abs_minus, size-*, size-+}
use Rattle.utc.specs.Days.{day_ticks, second_ticks, tai_by}
use Rattle.utc.specs.Asked.{NearReading}
use Rattle.utc.proofs.tai.tai_by.Goals as goal
use Rattle.utc.proofs.tai.tai_by.Goals.{Start}

-- sizes, and that they fit
module _ (seconds day ticks : ℤ) (n : NearReading seconds day ticks) where
  days : SFits w64 (day -ℤ pos 43144)
  days = fits_small _ 100000 n.near (lit< tt)

  product_size : nat_abs ((day -ℤ pos 43144) *ℤ pos day_ticks) ≤ 100000 * day_ticks
  product_size = size-* (day -ℤ pos 43144) (pos day_ticks) n.near (le_refl day_ticks)

  product : SFits w64 ((day -ℤ pos 43144) *ℤ pos day_ticks)
  product = fits_small _ _ product_size (lit< tt)

  sum_size : nat_abs ((day -ℤ pos 43144) *ℤ pos day_ticks +ℤ ticks) ≤ 100000 * day_ticks + 2 * day_ticks
  sum_size = size-+ ((day -ℤ pos 43144) *ℤ pos day_ticks) ticks product_size n.short

  sum : SFits w64 ((day -ℤ pos 43144) *ℤ pos day_ticks +ℤ ticks)
  sum = fits_small _ _ sum_size (lit< tt)

  leap_size : nat_abs (seconds *ℤ pos second_ticks) ≤ 100 * second_ticks
  leap_size = size-* seconds (pos second_ticks) n.few (le_refl second_ticks)

  leap : SFits w64 (seconds *ℤ pos second_ticks)
  leap = fits_small _ _ leap_size (lit< tt)

  with_leap_size : nat_abs ((day -ℤ pos 43144) *ℤ pos day_ticks +ℤ ticks +ℤ seconds *ℤ pos second_ticks)
      ≤ 100000 * day_ticks + 2 * day_ticks + 100 * second_ticks
  with_leap_size = size-+ ((day -ℤ pos 43144) *ℤ pos day_ticks +ℤ ticks) (seconds *ℤ pos second_ticks) sum_size leap_size

  with_leap : SFits w64 ((day -ℤ pos 43144) *ℤ pos day_ticks +ℤ ticks +ℤ seconds *ℤ pos second_ticks)
  with_leap = fits_small _ _ with_leap_size (lit< tt)

  tick : SFits w64 (tai_by seconds day ticks)
  unfolding tai_by
  tick =
      fits_small _ (100000 * day_ticks + 2 * day_ticks + 100 * second_ticks + 32184000000)
      (omega (arith, abs_minus ((day -ℤ pos 43144) *ℤ pos day_ticks +ℤ ticks +ℤ seconds *ℤ pos second_ticks) (pos 32184000000), with_leap_size)) (lit< tt)

-- what the code holds after each operation is the number itself
module _ (c : Start) where
  near : NearReading c.args.seconds c.args.day c.args.ticks
  near = c.requires

  day_is : read c.args.day ≡ c.args.day
  day_is = read_is c.args.day c.ranges.day

  days_are : read (read c.args.day -ℤ pos 43144) ≡ c.args.day -ℤ pos 43144
  days_are = rw day_is (read_is _ (days _ _ _ near))

  product_is : read (read (read c.args.day -ℤ pos 43144) *ℤ pos day_ticks)
      ≡ (c.args.day -ℤ pos 43144) *ℤ pos day_ticks
  product_is = rw days_are (read_is _ (product _ _ _ near))

  ticks_are : read c.args.ticks ≡ c.args.ticks
  ticks_are = read_is c.args.ticks c.ranges.ticks

  sum_is : read (read (read (read c.args.day -ℤ pos 43144) *ℤ pos day_ticks) +ℤ read c.args.ticks)
      ≡ (c.args.day -ℤ pos 43144) *ℤ pos day_ticks +ℤ c.args.ticks
  sum_is = rw (product_is, ticks_are) (read_is _ (sum _ _ _ near))

  seconds_are : read c.args.seconds ≡ c.args.seconds
  seconds_are = read_is c.args.seconds c.ranges.seconds

  leap_is : read (read c.args.seconds *ℤ pos second_ticks) ≡ c.args.seconds *ℤ pos second_ticks
  leap_is = rw seconds_are (read_is _ (leap _ _ _ near))

pub overflow_sub-result : goal.overflow_sub-result
overflow_sub-result c = rw (day_is c) (days _ _ _ (near c))

pub overflow_mul-result : goal.overflow_mul-result
overflow_mul-result c = rw (days_are c) (product _ _ _ (near c))

pub overflow_add-result : goal.overflow_add-result
overflow_add-result c = rw (product_is c, ticks_are c) (sum _ _ _ (near c))

pub overflow_mul-result-2 : goal.overflow_mul-result-2
overflow_mul-result-2 c = rw (seconds_are c) (leap _ _ _ (near c))

pub overflow_add-result-2 : goal.overflow_add-result-2
overflow_add-result-2 c = rw (sum_is c, leap_is c) (with_leap _ _ _ (near c))

pub overflow_sub-result-2 : goal.overflow_sub-result-2
unfolding tai_by
overflow_sub-result-2 c = rw (sum_is c, leap_is c, read_is _ (with_leap _ _ _ (near c))) (tick _ _ _ (near c))

pub returns : goal.returns
unfolding tai_by
returns c = rw (sum_is c, leap_is c, read_is _ (with_leap _ _ _ (near c)), read_is _ (tick _ _ _ (near c)))
