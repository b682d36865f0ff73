-- `utc::leaps::is_right` meets its contract. The loop's invariant: each entry before `entry` is
-- followed as it should be, and the seconds of `entry` are at most 10 + `entry` from 0. The measure
-- is how many are left. Assumes nothing.
use mathlib.Core.Path.{◌≡◌}
use mathlib.Core.Bool.{true}
use mathlib.Core.List.{List}
use Prim.Native.Nat.{ℕ, ◌+◌, ◌-◌, ◌≤◌, ◌<◌}
use lib.IntN.{ℤ, nat_abs}
use Rattle.utc.specs.Leaps.{entries, seconds, is_next_right}
use Rattle.utc.proofs.leaps.is_right.Given as goal

pub record Judged (leaps : List ℤ) (n : ℕ) : Type 0 where
  pub within : n < entries leaps
  pub near : nat_abs (seconds leaps n) ≤ 10 + n
  pub each : (k : ℕ) → k < n → is_next_right leaps k ≡ true

abbrev pub invariant-loop-entry : goal.invariant-loop-entry
invariant-loop-entry l = Judged l.leaps.0.now l.entry

abbrev pub decreases-loop-entry : goal.decreases-loop-entry
decreases-loop-entry l = l.count - l.entry
