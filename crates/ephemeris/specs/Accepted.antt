-- What the inner functions and the theorems ask of a table: that it has been judged and accepted
-- (`Bounded`, `Accepted`), and what 'the earliest tick' says.
use Rattle.std.specs.Prelude.{◌≡◌, true, List, ℤ, ◌≤ℤ◌, ◌<ℤ◌}
use Rattle.image.specs.declared.table.Table.{Table}
use Rattle.ephemeris.specs.Table.{is_inside, tdb_of}
pub use Rattle.image.specs.Bounds.{Bounded}
pub use Rattle.granules.specs.Accepted.{Accepted}

-- 'the earliest tick of the table whose TDB is at or after the one asked': it is in the table, its
-- TDB is at or after, no earlier tick's is
pub record Earliest (T : Table) (cs : List ℤ) (asked t : ℤ) : Type 0 where
  pub inside : is_inside T t ≡ true
  pub reached : asked ≤ℤ tdb_of T cs t
  pub none : (s : ℤ) → is_inside T s ≡ true → s <ℤ t → tdb_of T cs s <ℤ asked
