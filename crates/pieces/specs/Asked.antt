-- What the inner functions ask of their callers, so that no number is wider than 64 bits.
use Rattle.std.specs.Prelude.{List, ℕ, ◌+◌, ◌^◌, ◌<◌, ◌≤◌, ℤ, nat_abs}
use Rattle.pieces.specs.Pieces.{signed}
use Rattle.pieces.specs.declared.share.Row.{Row}

-- one column of a signed product: a factor of 30 bits, a piece, and what the column below hands on
pub record SignedColumn (x y more : ℤ) : Type 0 where
  pub narrow : nat_abs x ≤ 2 ^ 30
  pub piece : nat_abs y ≤ 2 ^ 32
  pub little : nat_abs more ≤ 2 ^ 32

-- a signed product's factors, of 30 bits and of 64, the latter's upper piece, and its addend
pub record Factors (x high addend : ℤ) : Type 0 where
  pub narrow : nat_abs x ≤ 2 ^ 30
  pub wide : nat_abs high ≤ 2 ^ 31
  pub little : nat_abs addend ≤ 2 ^ 32

-- a number of which the middle two pieces hold all that a shift leaves
pub record Shiftable (p : List ℕ) (by : ℕ) : Type 0 where
  pub small : nat_abs (signed p) < 2 ^ 95
  pub few : by ≤ 32

-- an M whose high product, of m1 and 64 bits, is no wider than three pieces, and whose low one has
-- room for half of 2^s
pub record Narrow (row : Row) : Type 0 where
  pub narrow : row.m1 < 2 ^ 30
  pub room : row.m0 + 2 ^ (31 + row.by) < 2 ^ 64
  pub few : row.by ≤ 32
