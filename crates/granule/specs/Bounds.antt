-- 'Bounds: n 0..15, H from 10^9 to 2^50': those of one granule. How many granules a table may have,
-- and where it may lie, are bounds of the layers above.
use Rattle.std.specs.Prelude.{ℕ, ◌^◌}

abbrev pub most_degree : ℕ
most_degree = 15

abbrev pub shortest_length : ℕ
shortest_length = 10 ^ 9

abbrev pub longest_length : ℕ
longest_length = 2 ^ 50
