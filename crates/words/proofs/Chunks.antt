-- Bytes in chunks of n: byte j of chunk i is byte n·i + j. Assumes nothing.
use mathlib.Core.Path.{◌≡◌, ◌∙◌, ap}
use mathlib.Core.List.{List, []}
use Prim.Native.Nat.{ℕ, zero, suc, ◌+◌, ◌*◌, ◌<◌}
use native.Mathlib.Nat.{le_of_suc-le-suc, not-suc-le-zero, mul-suc}
use native.Mathlib.Omega.{arith}
use lib.ListN.{get_or, drop}
use lib.Seq.{get_or-take, get_or-drop}
use Rattle.std.specs.Simd.{first_chunks}

pub chunk_byte : (n k i j : ℕ) (l : List ℕ) → i < k → j < n
    → get_or (get_or (first_chunks n k l) i []) j 0 ≡ get_or l (n * i + j) 0
chunk_byte n zero i j l h d = absurd (not-suc-le-zero h)
chunk_byte n (suc k) zero j l h d = get_or-take n l j 0 d ∙ (let e : j ≡ n * 0 + j = omega arith in ap (λ x. get_or l x 0) e)
chunk_byte n (suc k) (suc i) j l h d =
    let e : n + (n * i + j) ≡ n * suc i + j = rw mul-suc (omega arith) in
    chunk_byte n k i j (drop n l) (le_of_suc-le-suc h) d ∙ get_or-drop n l (n * i + j) 0 ∙ ap (λ x. get_or l x 0) e
