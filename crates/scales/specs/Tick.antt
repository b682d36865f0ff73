-- 'A tick is one nanosecond. An epoch is a signed 64-bit count of ticks past Julian date
-- 2443144.5003725 as that scale reads it.'
use Rattle.std.specs.Prelude.{Bool, ◌&&◌, ℕ, ℤ, pos, neg_ℤ}
use Rattle.std.specs.Int.Signed.{le_z}

-- 6·10^18
abbrev pub furthest : ℕ
furthest = 6000000000000000000

-- 'It must lie from -6·10^18 to 6·10^18, ends included.'
unfoldable pub is_valid : ℤ → Bool
is_valid t = le_z (neg_ℤ (pos furthest)) t && le_z t (pos furthest)
