-- The two roundings of the page. Every 'nearest' of it, and every 'rounded', is `nearest`.
use Rattle.std.specs.Prelude.{ℕ, ◌*◌, ◌/◌, ℤ, pos, negsuc, ◌+ℤ◌, ◌*ℤ◌}

-- z / d, rounded down
unfoldable pub floor_div : ℤ → ℕ → ℤ
floor_div (pos n) d = pos (n / d)
floor_div (negsuc n) d = negsuc (n / d)

-- the whole number nearest to z / d: 'an exact half goes to the greater'. It is z / d + 1/2,
-- rounded down
unfoldable pub nearest : ℤ → ℕ → ℤ
nearest z d = floor_div (pos 2 *ℤ z +ℤ pos d) (2 * d)
