-- A table that bytes hold, opened: 'G·(n+1) coefficients granule by granule', taken out of the
-- bytes.
use Rattle.blocks.specs.Answers.{Judged}
use Rattle.std.specs.Prelude.{Ok, ◌≡◌, List, ℕ, ◌≤◌, ℤ, pos, length, take, drop, replicate}
use Rattle.image.specs.declared.table.Table.{Table}
use Rattle.image.specs.Bounds.{most_coefficients}
use Rattle.image.specs.Image.{table_of, how_many, coefficients_stored}
use Rattle.granules.specs.Accepted.{Accepted}
use Rattle.blocks.specs.Judging.{judged}

-- the coefficients that table bytes hold, granule by granule
unfoldable pub coefficients_in : List ℕ → List ℤ
coefficients_in bytes = coefficients_stored bytes (table_of bytes).count (table_of bytes).degree

-- bytes that were judged to hold the table
pub record Opened (bytes : List ℕ) (table : Table) : Type 0 where
  pub accepted : judged bytes ≡ Ok table

-- the coefficients at the front of a room for the largest table, and zeros behind
pub record Taken (bytes : List ℕ) (table : Table) (room : List ℤ) : Type 0 where
  pub long : how_many table ≤ length room
  pub front : take (how_many table) room ≡ coefficients_stored bytes table.count table.degree
  pub behind : drop (how_many table) room
      ≡ drop (how_many table) (replicate most_coefficients (pos 0))

-- the coefficients of bytes that were judged, if they were accepted
pub record Lent (table : Judged) (coefficients : List ℤ) : Type 0 where
  pub accepted : (numbers : Table) → table ≡ Ok numbers → Accepted numbers coefficients
