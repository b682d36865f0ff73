-- Stores that fill a buffer from the front: its body, its check, the next block. Assumes nothing.
use mathlib.Core.Path.{◌≡◌, sym, ◌∙◌, ap}
use mathlib.Core.List.{List, ◌++◌}
use Prim.Native.Nat.{ℕ, ◌+◌, ◌*◌, ◌-◌, ◌/◌, ◌%◌, ◌≤◌, ◌<◌}
use native.Mathlib.Decide.{dec_lt}
use native.Mathlib.Omega.{arith}
use borrow.Author.Tests.{lt-ltb}
use lib.IntN.{ℤ}
use borrow.Rule.Slice.PartMut.{put_mid, same_len_mid}
use lib.ListN.{length, get_or, get_or-append, take, drop, set, length-set, length-drop}
use lib.Seq.{get_or-set_same, get_or-set_other, get_or-take, length-take-le}
use Rattle.std.proofs.lemmas.List.{get_or-append-add}
use Rattle.image.specs.declared.table.Table.{Table}
use Rattle.words.specs.Words.{byte_of, from}
use Rattle.words.specs.Check.{check_a, check_b}
use Rattle.image.specs.Image.{body_byte, block_byte, image_byte}
use Rattle.image.specs.Asked.{Stores, Sealed}
use Rattle.words.proofs.Sums.{check_a_same, check_b_same}
use Rattle.numbers.proofs.Places.{not_same}

-- a part that is put whole
pub part_long : (at : ℕ) (b : List ℕ) → at + 508 ≤ length b → length (take (at + 508 - at) (drop at b)) ≡ 508
part_long at b h = let e : at + 508 - at ≡ 508 = omega arith in rw e (length-take-le 508 (drop at b) (rw length-drop (omega arith)))

module _ (f : ℕ → ℕ) (at : ℕ) (b l : List ℕ) (h : at + 508 ≤ length b) (long : length l ≡ 508) where
  abbrev part : List ℕ
  part = put_mid at (at + 508 - at) b l

  abbrev rest : List ℕ
  rest = drop (at + 508 - at) (drop at b)

  before : length (take at b) ≡ at
  before = length-take-le at b (omega arith)

  pub put_part : ((j : ℕ) → j < 508 → get_or l j 0 ≡ f j) → Stores f at 508 b part
  put_part e =
      record {
        long = same_len_mid at (at + 508 - at) b l (long ∙ sym (part_long at b h));
        below = λ i g. get_or-append (take at b) (l ++ rest) 0 i (rw before g) ∙ get_or-take at b i 0 g;
        each =
            λ j g. ap (λ n. get_or part (n + j) 0) (sym before) ∙ get_or-append-add (take at b) (l ++ rest) j 0
            ∙ get_or-append l rest 0 j (rw long g) ∙ e j g;
      }

-- ---- four stores
module _ (b : List ℕ) (at x y : ℕ) (h : at + 512 ≤ length b) (ex : x ≡ check_a (from b at))
    (ey : y ≡ check_b (from b at)) where
  abbrev l1 : List ℕ
  l1 = set b (at + 508) (x % 256)

  abbrev l2 : List ℕ
  l2 = set l1 (at + 509) (x / 256 % 256)

  abbrev l3 : List ℕ
  l3 = set l2 (at + 510) (y % 256)

  abbrev l4 : List ℕ
  l4 = set l3 (at + 511) (y / 256 % 256)

  off : (l : List ℕ) (i j v : ℕ) → i < j → get_or (set l j v) i 0 ≡ get_or l i 0
  off l i j v g = get_or-set_other l j i v 0 (not_same g)

  low : (n : ℕ) → n % 256 ≡ byte_of n 0
  low n = omega arith

  pub seal_is : Sealed at b l4
  seal_is =
      record {
        long = simp length-set;
        below =
            λ i g. off l3 i (at + 511) _ (omega arith) ∙ off l2 i (at + 510) _ (omega arith) ∙ off l1 i (at + 509) _ (omega arith)
            ∙ off b i (at + 508) _ (omega arith);
        a0 =
            off l3 (at + 508) (at + 511) _ (omega arith)
            ∙ off l2 (at + 508) (at + 510) _ (omega arith)
            ∙ off l1 (at + 508) (at + 509) _ (omega arith)
            ∙ get_or-set_same b (at + 508) _ 0 (omega arith)
            ∙ low x
            ∙ ap (λ n. byte_of n 0) ex;
        a1 =
            off l3 (at + 509) (at + 511) _ (omega arith)
            ∙ off l2 (at + 509) (at + 510) _ (omega arith)
            ∙ get_or-set_same l1 (at + 509) _ 0 (simp length-set (omega arith))
            ∙ ap (λ n. byte_of n 1) ex;
        b0 = off l3 (at + 510) (at + 511) _ (omega arith) ∙ get_or-set_same l2 (at + 510) _ 0 (simp length-set (omega arith)) ∙ low y
            ∙ ap (λ n. byte_of n 0) ey;
        b1 = get_or-set_same l3 (at + 511) _ 0 (simp length-set (omega arith)) ∙ ap (λ n. byte_of n 1) ey;
      }

-- ---- a block: its 508 bytes, then its check words
pub four : (f : ℕ → ℕ) (b : List ℕ) (at : ℕ) → ((j : ℕ) → j < 508 → get_or b (at + j) 0 ≡ f j)
    → get_or b (at + 508) 0 ≡ byte_of (check_a f) 0
    → get_or b (at + 509) 0 ≡ byte_of (check_a f) 1 → get_or b (at + 510) 0 ≡ byte_of (check_b f) 0
    → get_or b (at + 511) 0 ≡ byte_of (check_b f) 1 → (j : ℕ) → j < 512
    → get_or b (at + j) 0 ≡ block_byte f j
unfolding block_byte
four f b at e p q r s j h = go (dec_lt j 508) (dec_lt j 509) (dec_lt j 510) (dec_lt j 511)
  where
    go : Dec (j < 508) → Dec (j < 509) → Dec (j < 510) → Dec (j < 511) → get_or b (at + j) 0 ≡ block_byte f j
    go (yes a) _ _ _ = rw (lt-ltb j 508 a) (e j a)
    go (no a) (yes c) _ _ = let x : j ≡ 508 = omega arith in rw x p
    go (no a) (no c) (yes d) _ = let x : j ≡ 509 = omega arith in rw x q
    go (no a) (no c) (no d) (yes g) = let x : j ≡ 510 = omega arith in rw x r
    go (no a) (no c) (no d) (no g) = let x : j ≡ 511 = omega arith in rw x s

pub put_sealed : (f : ℕ → ℕ) (at : ℕ) (b₀ b₁ b₂ : List ℕ) → Stores f at 508 b₀ b₁ → Sealed at b₁ b₂
    → Stores (block_byte f) at 512 b₀ b₂
put_sealed f at b₀ b₁ b₂ p s =
    let a = check_a_same (from b₁ at) f p.each in
    let b = check_b_same (from b₁ at) f p.each in
    record {
      long = s.long ∙ p.long;
      below = λ i h. s.below i (omega arith) ∙ p.below i h;
      each =
          four f b₂ at (λ j h. s.below (at + j) (omega arith) ∙ p.each j h) (s.a0 ∙ ap (λ n. byte_of n 0) a) (s.a1 ∙ ap (λ n. byte_of n 1) a)
          (s.b0 ∙ ap (λ n. byte_of n 0) b) (s.b1 ∙ ap (λ n. byte_of n 1) b);
    }

-- ---- the image, a block more
pub image_more : (t : Table) (c : List ℤ) (k : ℕ) (b b' : List ℕ)
    → ((i : ℕ) → i < k * 512 → get_or b i 0 ≡ image_byte t c i)
    → Stores (block_byte (body_byte t c k)) (k * 512) 512 b b' → (i : ℕ) → i < (k + 1) * 512
    → get_or b' i 0 ≡ image_byte t c i
unfolding image_byte
image_more t c k b b' e p i h = go (dec_lt i (k * 512))
  where
    go : Dec (i < k * 512) → get_or b' i 0 ≡ image_byte t c i
    go (yes l) = p.below i l ∙ e i l
    go (no l) =
        let j = i - k * 512 in
        let x : k * 512 + j ≡ i = omega arith in
        let y : i / 512 ≡ k = omega arith in
        let z : i % 512 ≡ j = omega arith in
        rw (y, z) (ap (λ m. get_or b' m 0) (sym x) ∙ p.each j (omega arith))
