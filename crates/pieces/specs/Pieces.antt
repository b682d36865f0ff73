-- Wide numbers as lists of 32-bit pieces, the low piece first, over any number of pieces.
use Rattle.std.specs.Prelude.{List, [], ◌∷◌, ℕ, ◌+◌, ◌*◌, ℤ, pos, ◌+ℤ◌, ◌*ℤ◌}
use Rattle.std.specs.Int.{w32}
use Rattle.std.proofs.Common.{to_z}

-- one more than the largest piece, 2^32
abbrev pub base : ℕ
base = 4294967296

-- the number that pieces stand for
unfoldable pub value : List ℕ → ℕ
value [] = 0
value (p ∷ ps) = p + base * value ps

-- the same in two's complement: the top piece counts with its sign
unfoldable pub signed : List ℕ → ℤ
signed [] = pos 0
signed (p ∷ []) = to_z w32 p
signed (p ∷ q ∷ ps) = pos p +ℤ pos base *ℤ signed (q ∷ ps)
