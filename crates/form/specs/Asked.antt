-- What the inner functions ask of their callers, and what they give. A table is its count G and
-- degree n here, few as `Few` says.
use Rattle.std.specs.Prelude.{◌≡◌, true, false, List, ℕ, ◌+◌, ◌*◌, ◌≤◌, ◌<◌, length}
use Rattle.words.specs.Words.{block}
use Rattle.form.specs.Form.{blocks_of, is_free, is_right, is_formed}

-- ---- what is asked
-- a block above 0 that the table has
pub record OtherBlock (G k : ℕ) : Type 0 where
  pub other : 1 ≤ k
  pub full : 3 * k < G + 3

-- and bytes that have it
pub record Headed (b : List ℕ) (G k : ℕ) : Type 0 where
  pub block : OtherBlock G k
  pub long : k * 512 + 512 ≤ length b

-- a byte of a block that the table has, below its check
pub record BodyPlace (G k j : ℕ) : Type 0 where
  pub full : 3 * k < G + 3
  pub place : j < 508

-- such a byte, in bytes that have its block
pub record Inside (b : List ℕ) (G k j : ℕ) : Type 0 where
  pub within : BodyPlace G k j
  pub long : k * 512 + 512 ≤ length b

-- what a search for a wrong fixed byte starts from: the blocks below the first are right
pub record Search (b : List ℕ) (G n first blocks : ℕ) : Type 0 where
  pub long : blocks * 512 ≤ length b
  pub within : blocks ≤ blocks_of G
  pub start : first ≤ blocks
  pub before : (k : ℕ) → k < first → is_formed G n k (block b k) ≡ true

-- ---- what is given
-- r bytes from byte j on are free, and r is 0 only where that byte is fixed
pub record FreeRun (G n k j r : ℕ) : Type 0 where
  pub free : (i : ℕ) → i < r → is_free G n k (j + i) ≡ true
  pub fixed : r ≡ 0 → is_free G n k j ≡ false
  pub inside : j + r ≤ 508

-- the first r of the bytes f are zero, of so many that are left
pub record ZeroRun (f : ℕ → ℕ) (left r : ℕ) : Type 0 where
  pub zero : (i : ℕ) → i < r → f i ≡ 0
  pub inside : r ≤ left

-- r bytes from byte j on are right in the block whose bytes are f, and r is 0 only where that byte
-- is wrong
pub record RightRun (G n k : ℕ) (f : ℕ → ℕ) (j r : ℕ) : Type 0 where
  pub right : (i : ℕ) → i < r → is_right G n k f (j + i) ≡ true
  pub wrong : r ≡ 0 → is_right G n k f j ≡ false
  pub inside : j + r ≤ 508
