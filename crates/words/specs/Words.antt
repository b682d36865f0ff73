-- 'Blocks of 512 bytes, little-endian.' Bytes are a list of numbers.
use Rattle.std.specs.Prelude.{List, ℕ, ◌+◌, ◌*◌, ◌/◌, ◌%◌, ◌^◌, ℤ, get_or}
use Rattle.std.specs.Int.{w64}
use Rattle.std.proofs.Common.{to_z}

-- byte j of the number n, the low one first
abbrev pub byte_of : ℕ → ℕ → ℕ
byte_of n j = n / 256 ^ j % 256

-- the number in two, four and eight bytes from a place on
abbrev pub pair_at : List ℕ → ℕ → ℕ
pair_at b at = get_or b at 0 + 256 * get_or b (at + 1) 0

abbrev pub quad_at : List ℕ → ℕ → ℕ
quad_at b at =
    get_or b at 0 + 256 * get_or b (at + 1) 0 + 65536 * get_or b (at + 2) 0 + 16777216 * get_or b
    (at + 3) 0

abbrev pub word_at : List ℕ → ℕ → ℕ
word_at b at =
    get_or b at 0 + 256 * get_or b (at + 1) 0 + 65536 * get_or b (at + 2) 0 + 16777216 * get_or b
    (at + 3) 0
    + 4294967296 * get_or b (at + 4) 0 + 1099511627776 * get_or b (at + 5) 0
    + 281474976710656 * get_or b (at + 6) 0 + 72057594037927936 * get_or b (at + 7) 0

-- the signed number in eight bytes
abbrev pub number_at : List ℕ → ℕ → ℤ
number_at b at = to_z w64 (word_at b at)

-- the bytes from a place on, by their index
abbrev pub from : List ℕ → ℕ → ℕ → ℕ
from b at j = get_or b (at + j) 0

-- the bytes of block k
abbrev pub block : List ℕ → ℕ → ℕ → ℕ
block b k = from b (k * 512)

-- 'not 2 to 121 whole blocks'
abbrev pub most_blocks : ℕ
most_blocks = 121
