-- `utc::judged::Judged::entry_on` meets its contract. The loop's invariant: entry `low` has begun,
-- the one `left` after it, if there is one, has not, and `left` is at most 2 to the power of the
-- turns that are left, which are the measure. Assumes nothing.
use mathlib.Core.List.{List}
use Prim.Native.Nat.{ℕ, ◌+◌, ◌-◌, ◌^◌, ◌≤◌, ◌<◌}
use lib.IntN.{ℤ}
use lib.Signed.{◌≤ℤ◌, ◌<ℤ◌}
use Rattle.utc.specs.Leaps.{entries, first_day}
use Rattle.utc.proofs.judged.Judged.entry_on.Given as goal

pub record Halved (leaps : List ℤ) (day : ℤ) (low left turns : ℕ) : Type 0 where
  pub some : 1 ≤ left
  pub within : low + left ≤ entries leaps
  pub few : left ≤ 2 ^ turns
  pub begun : first_day leaps low ≤ℤ day
  pub after : low + left < entries leaps → day <ℤ first_day leaps (low + left)

abbrev pub invariant-loop-turn : goal.invariant-loop-turn
invariant-loop-turn l = Halved l.self.leaps.0.now l.day l.low l.left (6 - l._turn)

abbrev pub decreases-loop-turn : goal.decreases-loop-turn
decreases-loop-turn l = 6 - l._turn
