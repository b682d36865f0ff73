-- What the inner functions ask of their callers, and what they give and leave.
use Rattle.std.specs.Prelude.{Ok, ◌≡◌, true, List, ℕ, ◌+◌, ◌≤◌, ◌<◌, ℤ, pos, length}
use Rattle.std.specs.Prelude.{set}
use Rattle.granule.specs.Bounds.{most_degree}
use Rattle.granule.specs.Tests.{is_small}
use Rattle.form.specs.Few.{most_granules}
use Rattle.image.specs.Asked.{Stored}
use Rattle.image.specs.Image.{granule_stored}
use Rattle.image.specs.declared.table.Table.{Table}
use Rattle.blocks.specs.Judging.{judged}
use Rattle.comparing.specs.declared.differing.Change.{Change}
use Rattle.comparing.specs.Changes.{Entry, largest_of, sum_of}
use Rattle.comparing.specs.Comparing.{list_put}

-- ---- what is asked
-- two tables that were judged and accepted
pub record BothAccepted (b : List ℕ) (t : Table) (d : List ℕ) (u : Table) : Type 0 where
  pub first : judged b ≡ Ok t
  pub second : judged d ≡ Ok u

-- a granule whose coefficients are in the bytes, of a degree within its bound, and pass test 14
pub record Readable (b : List ℕ) (n g : ℕ) : Type 0 where
  pub degree : n ≤ most_degree
  pub stored : Stored b g
  pub small : is_small (granule_stored b n g) ≡ true

-- such granules of two tables, of degrees n and m
pub record Pair (b : List ℕ) (n : ℕ) (d : List ℕ) (m g : ℕ) : Type 0 where
  pub first : Readable b n g
  pub second : Readable d m g

-- all granules of two tables that have G of them each
pub record Pairs (b : List ℕ) (n : ℕ) (d : List ℕ) (m G : ℕ) : Type 0 where
  pub few : G ≤ most_granules
  pub each : (g : ℕ) → g < G → Pair b n d m g

-- room for an entry, whose numbers fit 64 bits with a sign
pub record EntryFits (entries : List ℤ) (at g : ℕ) (change : Change) : Type 0 where
  pub room : at + 3 ≤ length entries
  pub granule : g < 9223372036854775808
  pub largest : change.largest < 9223372036854775808
  pub sum : change.sum < 9223372036854775808

-- ---- what is given
pub record IsChange (cs ds : List ℤ) (change : Change) : Type 0 where
  pub largest : change.largest ≡ largest_of cs ds
  pub sum : change.sum ≡ sum_of cs ds

-- ---- what is left
-- the three numbers of an entry, put at a place
abbrev pub entry_put : List ℤ → ℕ → ℕ → Change → List ℤ
entry_put entries at g change =
    set (set (set entries at (pos g)) (at + 1) (pos change.largest)) (at + 2)
    (pos change.sum)

-- the entries put to the front of a list, and how many they are
pub record HasPut (changes : List Entry) (entries entries' : List ℤ) (r : ℕ) : Type 0 where
  pub answer : r ≡ length changes
  pub list : entries' ≡ list_put changes entries
