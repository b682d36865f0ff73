-- The form of a block: 'Bytes 0 kind, 1 edition (1, the same in every block), 4..7 block number
-- from 0, 508..511 check. Bytes not named are zero.' Each of bytes 0 to 507 is free, a part of one
-- of the table's values, or it is fixed. The table has G granules and is of degree n.
use Rattle.std.specs.Prelude.{Bool, cond, ◌&&◌, ◌||◌, ℕ, ◌+◌, ◌*◌, ◌-◌, ◌/◌, ◌%◌, ltb, leb, eqb}
use Rattle.words.specs.Words.{byte_of}
use Rattle.numbers.specs.Lowest.{every}

-- bytes 0 to 7 of block k, of the given kind and with the given byte 2
unfoldable pub head_byte : ℕ → ℕ → ℕ → ℕ → ℕ
head_byte kind second k j =
    cond (eqb j 0) kind
    (cond (eqb j 1) 1
    (cond (eqb j 2) second
    (cond (eqb j 3) 0 (byte_of k (j - 4)))))

-- ---- 'Block 0: kind 1; byte 2 degree; 8..15 S; 16..23 H; 24..27 G.'
-- byte j is one of the table's numbers
unfoldable pub is_number : ℕ → Bool
is_number j = eqb j 2 || (leb 8 j && ltb j 28)

-- ---- 'Others: kind 2; byte 2 how many granules (3, in the last block what is left, 1 to 3)'
unfoldable pub granules_in : ℕ → ℕ → ℕ
granules_in G k = cond (ltb (3 * k) G) 3 (G - (3 * k - 3))

-- 'the blocks [are] 1 plus G/3 rounded up'
abbrev pub blocks_of : ℕ → ℕ
blocks_of G = 1 + (G + 2) / 3

-- 'from byte 8, 128 bytes a granule, sixteen 8-byte coefficients': the granule, and which of its
-- coefficients, that byte j of block k is for
abbrev pub granule_at : ℕ → ℕ → ℕ
granule_at k j = 3 * (k - 1) + (j - 8) / 8 / 16

abbrev pub which_at : ℕ → ℕ
which_at j = (j - 8) / 8 % 16

-- byte j of block k is one of a coefficient: 'those above the degree zero'
unfoldable pub is_coefficient : ℕ → ℕ → ℕ → ℕ → Bool
is_coefficient G n k j = leb 8 j && ltb j 392 && ltb (granule_at k j) G && leb (which_at j) n

-- ---- every block
-- byte j of block k is free
unfoldable pub is_free : ℕ → ℕ → ℕ → ℕ → Bool
is_free G n k j = cond (eqb k 0) (is_number j) (is_coefficient G n k j)

-- and what it is where it is not
unfoldable pub fixed_byte : ℕ → ℕ → ℕ → ℕ
fixed_byte G k j =
    cond (ltb j 8) (cond (eqb k 0) (head_byte 1 0 0 j) (head_byte 2 (granules_in G k) k j)) 0

-- byte j of block k, whose bytes are f, is right
abbrev pub is_right : ℕ → ℕ → ℕ → (ℕ → ℕ) → ℕ → Bool
is_right G n k f j = is_free G n k j || eqb (f j) (fixed_byte G k j)

-- 12: no 'kind, edition, number, count or zero byte wrong'
unfoldable pub is_formed : ℕ → ℕ → ℕ → (ℕ → ℕ) → Bool
is_formed G n k f = every (is_right G n k f) 508
