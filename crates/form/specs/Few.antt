-- 'Bounds: .. G 1..360': with that of n it keeps every place of a table in small numbers. Block 0's
-- form is looked at before its numbers are known, so both are asked of a bare count and degree.
use Rattle.std.specs.Prelude.{ℕ, ◌≤◌}
use Rattle.granule.specs.Bounds.{most_degree}

abbrev pub most_granules : ℕ
most_granules = 360

pub record Few (G n : ℕ) : Type 0 where
  pub granules : G ≤ most_granules
  pub degree : n ≤ most_degree
