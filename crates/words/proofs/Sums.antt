-- The sums of the check, a word more, and of bytes that agree. Assumes nothing.
use mathlib.Core.Path.{◌≡◌, refl, ◌∙◌, ap}
use mathlib.Core.Bool.{true, ◌&&◌}
use mathlib.Core.List.{List, []}
use Prim.Native.Nat.{ℕ, zero, suc, ◌+◌, ◌*◌, ◌-◌, ◌/◌, ◌%◌, ◌≤◌, ◌<◌}
use native.Mathlib.Nat.{add-zero}
use native.Mathlib.Numerals.{add-one}
use native.Mathlib.Omega.{arith}
use borrow.Author.Tests.{eq-eqb}
use lib.Dec.{eqb}
use lib.ListN.{length, get_or, take, drop}
use lib.Seq.{get_or-take, get_or-drop}
use Rattle.std.specs.Int.{w32, from_le_bytes}
use Rattle.std.specs.Simd.{first_chunks}
use Rattle.words.proofs.Chunks.{chunk_byte}
use Rattle.words.specs.Words.{pair_at, quad_at, from}
use Rattle.words.specs.Check.{word_of, sum_a, sum_b, check_a, check_b, is_checked}

-- ---- the code goes over four bytes at a time
-- the number in them
module _ (b : List ℕ) (at i : ℕ) (rows : List (List ℕ)) (h : i < 127) (l : i < length rows)
    (many : length rows ≡ length (take (at + 508 - at) (drop at b)) / 4)
    (e : rows ≡ first_chunks 4 (length (take (at + 508 - at) (drop at b)) / 4) (take (at + 508 - at) (drop at b))) where
  row_byte : (j : ℕ) → j < 4 → get_or (get_or rows i []) j 0 ≡ get_or b (at + 4 * i + j) 0
  row_byte j d =
      let p : at + (4 * i + j) ≡ at + 4 * i + j = omega arith in
      ap (λ r. get_or (get_or r i []) j 0) e
      ∙ chunk_byte 4 (length (take (at + 508 - at) (drop at b)) / 4) i j (take (at + 508 - at) (drop at b)) (rw many at l) d
      ∙ get_or-take (at + 508 - at) (drop at b) (4 * i + j) 0 (omega arith)
      ∙ get_or-drop at b (4 * i + j) 0
      ∙ ap (λ x. get_or b x 0) p

  pub row_quad : from_le_bytes w32 (get_or rows i []) ≡ quad_at b (at + 4 * i)
  row_quad =
      let z = row_byte 0 (omega arith) ∙ ap (λ x. get_or b x 0) (add-zero (at + 4 * i)) in
      rw (z, row_byte 1 (omega arith), row_byte 2 (omega arith), row_byte 3 (omega arith)) (omega arith)

-- words 2i and 2i + 1, as the code finds them in four bytes
module _ (b : List ℕ) (at i q : ℕ) (small : (j : ℕ) → get_or b j 0 < 256) (e : q ≡ quad_at b (at + 4 * i)) where
  pub two_words : (q % 65536 ≡ word_of (from b at) (2 * i)) × (q / 65536 ≡ word_of (from b at) (2 * i + 1))
  two_words = rw (← p0, ← p1, ← p2, ← p3) (halves _ _ _ _ q (small (at + 4 * i)) (small (at + 4 * i + 1)) e)
    where
      p0 : at + 4 * i ≡ at + 2 * (2 * i)
      p0 = omega arith

      p1 : at + 4 * i + 1 ≡ at + (2 * (2 * i) + 1)
      p1 = omega arith

      p2 : at + 4 * i + 2 ≡ at + 2 * (2 * i + 1)
      p2 = omega arith

      p3 : at + 4 * i + 3 ≡ at + (2 * (2 * i + 1) + 1)
      p3 = omega arith

      halves : (b0 b1 b2 b3 q : ℕ) → b0 < 256 → b1 < 256 → q ≡ b0 + 256 * b1 + 65536 * b2 + 16777216 * b3
          → (q % 65536 ≡ b0 + 256 * b1) × (q / 65536 ≡ b2 + 256 * b3)
      halves b0 b1 b2 b3 q h k e = omega arith

sum_a_more : (f : ℕ → ℕ) (i p x : ℕ) → p ≡ sum_a f i → x ≡ word_of f i → p + x ≡ sum_a f (i + 1)
unfolding sum_a
sum_a_more f i p x e d = rw add-one (cc)

sum_b_more : (f : ℕ → ℕ) (i p x : ℕ) → p ≡ sum_b f i → x ≡ word_of f i → p + (254 - i) * x ≡ sum_b f (i + 1)
unfolding sum_b
sum_b_more f i p x e d = rw add-one (cc)

-- two words more
pub sum_a_two : (f : ℕ → ℕ) (i p x y : ℕ) → p ≡ sum_a f (2 * i) → x ≡ word_of f (2 * i) → y ≡ word_of f (2 * i + 1)
    → p + (x + y) ≡ sum_a f (2 * (i + 1))
sum_a_two f i p x y e d h =
    let n : 2 * i + 1 + 1 ≡ 2 * (i + 1) = omega arith in
    let t : p + (x + y) ≡ p + x + y = omega arith in
    t ∙ sum_a_more f (2 * i + 1) (p + x) y (sum_a_more f (2 * i) p x e d) h ∙ ap (sum_a f) n

-- both with the weight w of the first, so that p is more by the second words
pub sum_b_two : (f : ℕ → ℕ) (i p s w x y : ℕ) → i < 127 → w + 2 * i ≡ 254 → p ≡ sum_b f (2 * i) + s
    → x ≡ word_of f (2 * i) → y ≡ word_of f (2 * i + 1) → p + w * (x + y) ≡ sum_b f (2 * (i + 1)) + (s + y)
sum_b_two f i p s w x y l t e d h =
    let n : 2 * i + 1 + 1 ≡ 2 * (i + 1) = omega arith in
    let a : w ≡ 254 - 2 * i = omega arith in
    let b : w ≡ 254 - (2 * i + 1) + 1 = omega arith in
    apart (sum_b f (2 * i)) p s w (254 - (2 * i + 1)) x y b e
    ∙ ap (λ (v : ℕ). sum_b f (2 * i) + v * x + (254 - (2 * i + 1)) * y + (s + y)) a
    ∙ ap (λ (v : ℕ). v + (s + y))
    (sum_b_more f (2 * i + 1) (sum_b f (2 * i) + (254 - 2 * i) * x) y (sum_b_more f (2 * i) _ x refl d) h ∙ ap (sum_b f) n)
  where
    apart : (q p s w v x y : ℕ) → w ≡ v + 1 → p ≡ q + s → p + w * (x + y) ≡ q + w * x + v * y + (s + y)
    apart q p s w v x y e d = rw (e, d) (omega arith)

-- ---- bytes that agree have one check
sum_a_same : (f g : ℕ → ℕ) (n m : ℕ) → 2 * n ≤ m → ((j : ℕ) → j < m → f j ≡ g j) → sum_a f n ≡ sum_a g n
unfolding sum_a
sum_a_same f g zero m h e = refl
sum_a_same f g (suc n) m h e =
    let p = e (2 * n) (omega arith) in let q = e (2 * n + 1) (omega arith) in let r = sum_a_same f g n m (omega arith) e in omega arith

sum_b_same : (f g : ℕ → ℕ) (n m : ℕ) → 2 * n ≤ m → ((j : ℕ) → j < m → f j ≡ g j) → sum_b f n ≡ sum_b g n
unfolding sum_b
sum_b_same f g zero m h e = refl
sum_b_same f g (suc n) m h e =
    let p = e (2 * n) (omega arith) in let q = e (2 * n + 1) (omega arith) in let r = sum_b_same f g n m (omega arith) e in
    rw (p, q, r)

pub check_a_same : (f g : ℕ → ℕ) → ((j : ℕ) → j < 508 → f j ≡ g j) → check_a f ≡ check_a g
check_a_same f g e = ap (λ (n : ℕ). n % 65535) (sum_a_same f g 254 508 (omega arith) e)

pub check_b_same : (f g : ℕ → ℕ) → ((j : ℕ) → j < 508 → f j ≡ g j) → check_b f ≡ check_b g
check_b_same f g e = ap (λ (n : ℕ). n % 65535) (sum_b_same f g 254 508 (omega arith) e)

-- ---- the check words held are those of the bytes, as one test
pub is_checked_as : (b : List ℕ) (at x y a c : ℕ) → x ≡ pair_at b (at + 508) → y ≡ pair_at b (at + 510)
    → a ≡ check_a (from b at) → c ≡ check_b (from b at)
    → (eqb x a && eqb y c) ≡ is_checked (from b at)
unfolding is_checked
is_checked_as b at x y a c ex ey ea ec =
    let p : at + 508 + 1 ≡ at + 509 = omega arith in
    let q : at + 510 + 1 ≡ at + 511 = omega arith in
    rw (ex, ey, ea, ec, p, q)

pub right_ab : (f : ℕ → ℕ) → f 508 + 256 * f 509 ≡ check_a f → f 510 + 256 * f 511 ≡ check_b f → true ≡ is_checked f
unfolding is_checked
right_ab f a b = rw (eq-eqb _ _ a, eq-eqb _ _ b)
