-- 'Bounds: n 0..15, H from 10^9 to 2^50, G 1..360, S and S+GH valid epochs.' The numbers of n and H
-- are the granule's, that of G stands in `Few`.
use Rattle.std.specs.Prelude.{◌≡◌, Bool, true, ◌&&◌, ℕ, ◌+◌, ◌*◌, ◌≤◌, leb, ℤ, pos, ◌+ℤ◌, ◌*ℤ◌}
use Rattle.std.specs.Prelude.{◌≤ℤ◌}
use Rattle.std.specs.Int.Signed.{le_z}
use Rattle.scales.specs.Tick.{is_valid}
use Rattle.granule.specs.Bounds.{most_degree, shortest_length, longest_length}
use Rattle.form.specs.Few.{most_granules, Few}
use Rattle.image.specs.declared.table.Table.{Table}

-- the most coefficients that a table has
abbrev pub most_coefficients : ℕ
most_coefficients = most_granules * (most_degree + 1)

-- S+GH
abbrev pub end_of : Table → ℤ
end_of T = T.start.0 +ℤ pos T.count *ℤ T.length

-- 13: no 'bound broken'
unfoldable pub is_bounded : Table → Bool
is_bounded T =
    leb T.degree most_degree
    && le_z (pos shortest_length) T.length && le_z T.length (pos longest_length)
    && leb 1 T.count && leb T.count most_granules
    && is_valid T.start.0 && is_valid (end_of T)

-- and what that says of the table
pub record Bounded (T : Table) : Type 0 where
  pub few : Few T.count T.degree
  pub some : 1 ≤ T.count
  pub long : pos shortest_length ≤ℤ T.length
  pub short : T.length ≤ℤ pos longest_length
  pub first : is_valid T.start.0 ≡ true
  pub last : is_valid (end_of T) ≡ true
