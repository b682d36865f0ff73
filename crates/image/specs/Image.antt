-- The bytes of a table, and the table in bytes.
use Rattle.std.specs.Prelude.{cond, List, ℕ, ◌+◌, ◌*◌, ◌-◌, ◌/◌, ◌%◌, ltb, eqb, ℤ, pos, get_or}
use Rattle.std.specs.Prelude.{take, drop}
use Rattle.std.specs.Int.{w64}
use Rattle.std.proofs.Common.{of_z}
use Rattle.numbers.specs.Lowest.{up_to}
use Rattle.words.specs.Words.{byte_of, quad_at, number_at}
use Rattle.words.specs.Check.{check_a, check_b}
use Rattle.form.specs.Form.{blocks_of, granule_at, which_at, is_free, fixed_byte}
use Rattle.image.specs.declared.table.Table.{Table}

-- ---- the bytes of a table, whose coefficients are a list, 'G·(n+1) coefficients granule by
-- granule'
abbrev pub how_many : Table → ℕ
how_many t = t.count * (t.degree + 1)

-- c_0..c_n of granule g
unfoldable pub granule_in : List ℤ → ℕ → ℕ → List ℤ
granule_in c n g = take (n + 1) (drop (g * (n + 1)) c)

-- the 64 bits of coefficient i
abbrev pub bits_of : List ℤ → ℕ → ℕ
bits_of c i = of_z w64 (get_or c i (pos 0))

-- 'byte 2 degree; 8..15 S; 16..23 H; 24..27 G'
unfoldable pub number_byte : Table → ℕ → ℕ
number_byte t j =
    cond (eqb j 2) t.degree
    (cond (ltb j 16) (byte_of (of_z w64 t.start.0) (j - 8))
    (cond (ltb j 24) (byte_of (of_z w64 t.length) (j - 16)) (byte_of t.count (j - 24))))

-- 'sixteen 8-byte coefficients' to a granule, of which n + 1 are the list's
unfoldable pub coefficient_byte : ℕ → (ℕ → ℕ) → ℕ → ℕ → ℕ
coefficient_byte n bits k j = byte_of (bits (granule_at k j * (n + 1) + which_at j)) ((j - 8) % 8)

-- byte j of block k, j below 508
unfoldable pub body_byte : Table → List ℤ → ℕ → ℕ → ℕ
body_byte t c k j =
    cond (is_free t.count t.degree k j)
    (cond (eqb k 0) (number_byte t j) (coefficient_byte t.degree (bits_of c) k j))
    (fixed_byte t.count k j)

-- a block whose bytes 0 to 507 are f: 'Bytes 508..509 hold A, 510..511 hold B.'
unfoldable pub block_byte : (ℕ → ℕ) → ℕ → ℕ
block_byte f j =
    cond (ltb j 508) (f j)
    (cond (ltb j 510) (byte_of (check_a f) (j - 508)) (byte_of (check_b f) (j - 510)))

-- byte i of the whole
unfoldable pub image_byte : Table → List ℤ → ℕ → ℕ
image_byte t c i = block_byte (body_byte t c (i / 512)) (i % 512)

unfoldable pub image_of : Table → List ℤ → List ℕ
image_of t c = up_to (image_byte t c) (blocks_of t.count * 512)

-- ---- the table in bytes
-- 'Block 0: .. byte 2 degree; 8..15 S; 16..23 H; 24..27 G.'
unfoldable pub table_of : List ℕ → Table
table_of b =
    record {
      start = record { 0 = number_at b 8 };
      length = number_at b 16;
      count = quad_at b 24;
      degree = get_or b 2 0;
    }

-- where coefficient m of granule g stands: three granules a block from block 1 on, 'from byte 8,
-- 128 bytes a granule, sixteen 8-byte coefficients'
abbrev pub stored_at : ℕ → ℕ → ℕ
stored_at g m = (1 + g / 3) * 512 + (8 + 128 * (g % 3) + 8 * m)

unfoldable pub coefficient_at : List ℕ → ℕ → ℕ → ℤ
coefficient_at b g m = number_at b (stored_at g m)

-- the sixteen that are stored for granule g, and c_0..c_n
unfoldable pub stored_of : List ℕ → ℕ → List ℤ
stored_of b g = up_to (coefficient_at b g) 16

unfoldable pub granule_stored : List ℕ → ℕ → ℕ → List ℤ
granule_stored b n g = up_to (coefficient_at b g) (n + 1)

-- 'G·(n+1) coefficients granule by granule'
unfoldable pub coefficients_stored : List ℕ → ℕ → ℕ → List ℤ
coefficients_stored b G n = up_to (λ i. coefficient_at b (i / (n + 1)) (i % (n + 1))) (G * (n + 1))
