-- `dates::writing::since_first` meets its contract: the sum fits 63 bits where the tick is
-- negative, and 64 where it is not. Assumes nothing.
use mathlib.Core.Path.{◌≡◌, refl}
use Prim.Native.Nat.{ℕ, ◌+◌, ◌^◌, ◌≤◌, ◌<◌}
use native.Mathlib.Omega.{arith}
use lib.Dec.{T, lit≤, lit<}
use lib.IntN.{ℤ, pos, negsuc, nat_abs, ◌+ℤ◌}
use lib.Signed.{◌≤ℤ◌, ◌<ℤ◌, non_neg, yes_non_neg}
use mir.Syntax.{w64}
use mir.Val.{SFits, Fits, to_z, of_z}
use mir.ValLaws.{to_z-of_z}
use Rattle.numbers.proofs.Differences.{rep, lin}
use Rattle.numbers.proofs.Machine.{fits, lt_yes, lt_no}
use Rattle.scales.specs.Tick.{furthest}
use Rattle.dates.specs.Inner.{Since}
use Rattle.dates.proofs.Days.{ahead, days_counted}
use Rattle.dates.proofs.writing.since_first.Goals as goal
use Rattle.dates.proofs.writing.since_first.Goals.{Else-tick-lt0, Start, Then-tick-lt0}

-- a negative tick, counted from the tick −k
module _ (k : ℕ) (enough : furthest ≤ k) (small : k < 2 ^ 63) where
  near : (t : ℤ) → nat_abs t ≤ furthest → t <ℤ pos 0 → nat_abs (t +ℤ pos k) ≤ k
  near = rep _ (λ a b. simp lin (omega arith))

  sum : (t : ℤ) → nat_abs t ≤ furthest → t <ℤ pos 0 → SFits w64 (t +ℤ pos k)
  sum t b h = fits (t +ℤ pos k) (omega (arith, near t b h))

  cast : (t : ℤ) → nat_abs t ≤ furthest → t <ℤ pos 0 → T (non_neg (t +ℤ pos k)) × Fits w64 (nat_abs (t +ℤ pos k))
  cast t b h = (yes_non_neg (ahead k enough t b), record { fits = omega (arith, near t b h) })

-- a tick that is not negative is its size
record Above (t : ℤ) : Type 0 where
  cast : T (non_neg t) × Fits w64 (nat_abs t)
  sum : Fits w64 (nat_abs t + 6048000032184000000)
  is : Since t (nat_abs t + 6048000032184000000)

above : (t : ℤ) → nat_abs t ≤ furthest → pos 0 ≤ℤ t → Above t
above (negsuc n) b h = absurd h.le
above (pos n) b h = record { cast = (tt, record { fits = omega arith }); sum = record { fits = omega arith }; is = record { is = refl; few = omega arith } }

back : (c : Start) → to_z w64 (of_z w64 c.args.tick) ≡ c.args.tick
back c = to_z-of_z w64 c.args.tick c.ranges.tick

before_it : (c : Then-tick-lt0) → c.args.tick <ℤ pos 0
before_it c = lt_yes _ _ (rw (back (goal.at.Then-tick-lt0 c).Start) at c.if-tick-lt0.true)

other : (c : Else-tick-lt0) → Above c.args.tick
other c = above _ c.requires (lt_no _ _ (rw (back (goal.at.Else-tick-lt0 c).Start) at c.if-tick-lt0.false))

pub overflow_add-result : goal.overflow_add-result
overflow_add-result c = rw (back (goal.at.overflow_add-result c).Start) (sum _ (lit≤ tt) (lit< tt) _ c.requires (before_it c))

pub overflow_cast-result : goal.overflow_cast-result
overflow_cast-result c =
    rw (to_z-of_z w64 _ (overflow_add-result c), back (goal.at.overflow_cast-result c).Start) (cast _ (lit≤ tt) (lit< tt) _ c.requires (before_it c))

pub returns-then-tick-lt0 : goal.returns-then-tick-lt0
returns-then-tick-lt0 c = rw (to_z-of_z w64 _ (overflow_add-result c), back (goal.at.returns-then-tick-lt0 c).Start) (days_counted c.args.tick c.requires)

pub overflow_cast-result-2 : goal.overflow_cast-result-2
overflow_cast-result-2 c = rw (back (goal.at.overflow_cast-result-2 c).Start) (other c).cast

pub overflow_add-result-2 : goal.overflow_add-result-2
overflow_add-result-2 c = rw (back (goal.at.overflow_add-result-2 c).Start) (other c).sum

pub returns : goal.returns
returns c = rw (back (goal.at.returns c).Start) (other c).is
