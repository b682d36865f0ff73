-- 'Check: bytes 0..507 as 254 words of 16 bits, w_0 first.' A block is a function of the byte's
-- index.
use Rattle.std.specs.Prelude.{Bool, ◌&&◌, ℕ, zero, suc, ◌+◌, ◌*◌, ◌-◌, ◌%◌, eqb}

-- w_i
abbrev pub word_of : (ℕ → ℕ) → ℕ → ℕ
word_of f i = f (2 * i) + 256 * f (2 * i + 1)

-- the sums of w_i and of (254−i)·w_i over the first n words
unfoldable pub sum_a : (ℕ → ℕ) → ℕ → ℕ
sum_a f zero = 0
sum_a f (suc i) = sum_a f i + word_of f i

unfoldable pub sum_b : (ℕ → ℕ) → ℕ → ℕ
sum_b f zero = 0
sum_b f (suc i) = sum_b f i + (254 - i) * word_of f i

-- 'A = sum of w_i mod 65535, B = sum of (254−i)·w_i mod 65535'
abbrev pub check_a : (ℕ → ℕ) → ℕ
check_a f = sum_a f 254 % 65535

abbrev pub check_b : (ℕ → ℕ) → ℕ
check_b f = sum_b f 254 % 65535

-- 'Bytes 508..509 hold A, 510..511 hold B.'
unfoldable pub is_checked : (ℕ → ℕ) → Bool
is_checked f = eqb (f 508 + 256 * f 509) (check_a f) && eqb (f 510 + 256 * f 511) (check_b f)
