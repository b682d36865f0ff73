-- A table that was judged and accepted, with its coefficients: what the layers above ask of it.
use Rattle.std.specs.Prelude.{Ok, ◌≡◌, List, ℤ, length}
use Rattle.image.specs.declared.table.Table.{Table}
use Rattle.image.specs.Bounds.{Bounded}
use Rattle.image.specs.Image.{how_many}
use Rattle.granules.specs.Answers.{tested_listed}

-- the bounds, 'G·(n+1) coefficients granule by granule', and that they pass their tests, from 14 to
-- 16
pub record Accepted (T : Table) (cs : List ℤ) : Type 0 where
  pub bounds : Bounded T
  pub whole : length cs ≡ how_many T
  pub passed : tested_listed cs T ≡ (Ok tt)
