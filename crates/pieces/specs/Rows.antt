-- The rounded product of a row of numbers: b·M / 2^s to the nearest, a half to the greater.
use Rattle.std.specs.Prelude.{ℕ, ◌+◌, ◌*◌, ◌/◌, ◌^◌}
use Rattle.pieces.specs.declared.share.Row.{Row}

-- M
abbrev pub factor : Row → ℕ
factor row = row.m1 * 2 ^ 64 + row.m0

-- 2^s, and its half
abbrev pub unit : Row → ℕ
unit row = 2 ^ (96 + row.by)

abbrev pub half_unit : Row → ℕ
half_unit row = 2 ^ (95 + row.by)

unfoldable pub share_of : Row → ℕ → ℕ
share_of row b = (b * factor row + half_unit row) / unit row
