-- What two clocks drift apart, and what is asked of a drift and of the tick up to which it is told.
use Rattle.std.specs.Prelude.{ℕ, ◌≤◌, ℤ, pos, nat_abs, ◌+ℤ◌, ◌-ℤ◌}
use Rattle.pieces.specs.Asked.{Narrow}
use Rattle.pieces.specs.Rows.{share_of}
use Rattle.scales.specs.Tick.{furthest}
use Rattle.linear.specs.declared.drift.Drift.{Drift}

-- a valid tick, and a bias that makes every valid tick a number from 0 up which fits 64 bits
pub record Biased (tick : ℤ) (bias : ℕ) : Type 0 where
  pub near : nat_abs tick ≤ furthest
  pub enough : furthest ≤ bias
  pub not_too_much : bias ≤ 10000000000000000000

-- a drift whose row's product fits, and whose share of so many ticks, as what is known of it, is
-- at most 10^12
pub record Little (d : Drift) : Type 0 where
  pub narrow : Narrow d.row
  pub share_little : share_of d.row 16000000000000000000 ≤ 1000000000000
  pub known_little : nat_abs d.known ≤ 1000000000000

-- what is lost or gained up to t: the share of the ticks since the bias, less what is known
abbrev pub drift_at : Drift → ℤ → ℤ
drift_at d t = pos (share_of d.row (nat_abs (t +ℤ pos d.bias))) -ℤ d.known
