-- A number in bytes, and back. Assumes nothing.
use mathlib.Core.Path.{◌≡◌, refl, sym, ◌∙◌, ap}
use mathlib.Core.Bool.{Bool, true, false}
use mathlib.Core.List.{List}
use Prim.Native.Nat.{ℕ, zero, suc, ◌+◌, ◌*◌, ◌-◌, ◌/◌, ◌%◌, ◌^◌, ◌≤◌, ◌<◌}
use native.Mathlib.Nat.{div-one, add-zero, zero-add, div-div-eq-div-mul}
use native.Mathlib.Decide.{dec_lt}
use native.Mathlib.Omega.{arith}
use borrow.Author.Tests.{eqb-true, eqb-false, eq-eqb}
use lib.Dec.{eqb}
use lib.ListN.{get_or}
use Rattle.std.specs.Int.{w64, from_le_bytes}
use Rattle.numbers.specs.Lowest.{every}
use Rattle.numbers.proofs.Places.{every_is, every_at}
use Rattle.words.specs.Words.{byte_of, quad_at, word_at, from}

-- ---- the bytes of a number make it up: two bytes at a time
pair : (n : ℕ) → n % 256 + 256 * (n / 256 % 256) ≡ n % 65536
pair n = omega arith

two : (n : ℕ) → n % 65536 + 65536 * (n / 65536 % 65536) ≡ n % 4294967296
two n = omega arith

halves : (n : ℕ) → n % 4294967296 + 4294967296 * (n / 4294967296 % 4294967296) ≡ n % 18446744073709551616
halves n = omega arith

-- eight bytes, the low one first
abbrev eight : ℕ → ℕ → ℕ → ℕ → ℕ → ℕ → ℕ → ℕ → ℕ
eight a b c d e f g h =
    a + 256 * b + 65536 * c + 16777216 * d
    + 4294967296 * e + 1099511627776 * f + 281474976710656 * g + 72057594037927936 * h

-- the bytes of n above the lowest, behind a
abbrev from_byte : ℕ → ℕ → ℕ
from_byte n a =
    eight a (n / 256 % 256) (n / 65536 % 256) (n / 16777216 % 256)
    (n / 4294967296 % 256) (n / 1099511627776 % 256) (n / 281474976710656 % 256) (n / 72057594037927936 % 256)

-- a quotient's quotient
again : (n : ℕ)
    → (n / 65536 / 256 ≡ n / 16777216) × (n / 4294967296 / 256 ≡ n / 1099511627776)
    × (n / 281474976710656 / 256 ≡ n / 72057594037927936) × (n / 4294967296 / 65536 ≡ n / 281474976710656)
again n = (
  div-div-eq-div-mul n 65536 256,
  div-div-eq-div-mul n 4294967296 256,
  div-div-eq-div-mul n 281474976710656 256,
  div-div-eq-div-mul n 4294967296 65536,
)

sum8 : (a b c d e f g k p q r s x y z n : ℕ) → a + 256 * b ≡ p → c + 256 * d ≡ q → e + 256 * f ≡ r → g + 256 * k ≡ s
    → p + 65536 * q ≡ x → r + 65536 * s ≡ y → x + 4294967296 * y ≡ z → z ≡ n → eight a b c d e f g k ≡ n
sum8 a b c d e f g k p q r s x y z n e1 e2 e3 e4 e5 e6 e7 e8 = omega arith

bytes : (n : ℕ) → n < 2 ^ 64 → from_byte n (n % 256) ≡ n
bytes n h =
    let g = again n in
    let m = n / 4294967296 in
    sum8 _ _ _ _ _ _ _ _ _ _ _ _ _ _ _ n (pair n) (rw g.0 at (pair (n / 65536))) (rw g.1 at (pair m)) (rw g.2 at (pair (n / 281474976710656)))
    (two n) (rw g.3 at (two m)) (halves n) (omega arith)

join4 : (p q r s x y z : ℕ) → p + 256 * q ≡ x → r + 256 * s ≡ y → x + 65536 * y ≡ z
    → p + 256 * q + 65536 * r + 16777216 * s ≡ z
join4 p q r s x y z e f g = omega arith

-- four bytes, and eight, that are a number's are that number
pub quad_back : (n p q r s : ℕ) → p ≡ n / 1 % 256 → q ≡ n / 256 % 256 → r ≡ n / 65536 % 256 → s ≡ n / 16777216 % 256
    → p + 256 * q + 65536 * r + 16777216 * s ≡ n % 4294967296
quad_back n p q r s hp hq hr hs =
    rw (hp, hq, hr, hs, div-one n) (join4 _ _ _ _ _ _ _ (pair n) (rw (div-div-eq-div-mul n 65536 256) at (pair (n / 65536))) (two n))

pub word_back : (b : List ℕ) (at n : ℕ) → n < 2 ^ 64 → get_or b at 0 ≡ byte_of n 0
    → ((u : ℕ) → u < 8 → get_or b (at + u) 0 ≡ byte_of n u) → word_at b at ≡ n
word_back b at n h z e =
    rw (z, e 1 (omega arith), e 2 (omega arith), e 3 (omega arith), e 4 (omega arith), e 5 (omega arith), e 6 (omega arith), e 7 (omega arith))
    (first n (bytes n h))
  where
    first : (n : ℕ) → from_byte n (n % 256) ≡ n → from_byte n (n / 1 % 256) ≡ n
    first n e = rw (div-one n) e

-- ---- a number's bytes are what it was made of
low4 : (a b c d x : ℕ) → a < 256 → b < 256 → c < 256 → d < 256 → x ≡ a + 256 * b + 65536 * c + 16777216 * d
    → (x < 4294967296) × (a ≡ x / 1 % 256) × (b ≡ x / 256 % 256) × (c ≡ x / 65536 % 256) × (d ≡ x / 16777216 % 256)
low4 a b c d x ha hb hc hd e = omega arith

parted : (x y w : ℕ) → x < 4294967296 → w ≡ x + 4294967296 * y → (w / 4294967296 ≡ y) × (w % 4294967296 ≡ x)
parted x y w h e = omega arith

lows : (w : ℕ)
    → (w % 4294967296 / 1 % 256 ≡ w / 1 % 256) × (w % 4294967296 / 256 % 256 ≡ w / 256 % 256)
    × (w % 4294967296 / 65536 % 256 ≡ w / 65536 % 256) × (w % 4294967296 / 16777216 % 256 ≡ w / 16777216 % 256)
lows w = (omega arith, omega arith, omega arith, omega arith)

pub pick8 : (P : ℕ → Type 0) → P 0 → P 1 → P 2 → P 3 → P 4 → P 5 → P 6 → P 7 → (u : ℕ) → u < 8 → P u
pick8 P a b c d e f g h zero l = a
pick8 P a b c d e f g h (suc zero) l = b
pick8 P a b c d e f g h (suc (suc zero)) l = c
pick8 P a b c d e f g h (suc (suc (suc zero))) l = d
pick8 P a b c d e f g h (suc (suc (suc (suc zero)))) l = e
pick8 P a b c d e f g h (suc (suc (suc (suc (suc zero))))) l = f
pick8 P a b c d e f g h (suc (suc (suc (suc (suc (suc zero)))))) l = g
pick8 P a b c d e f g h (suc (suc (suc (suc (suc (suc (suc zero))))))) l = h
pick8 P a b c d e f g h (suc (suc (suc (suc (suc (suc (suc (suc u)))))))) l = let z : ⊥ = omega arith in absurd z

-- a number's bytes, from its digits
module _ (a0 a1 a2 a3 a4 a5 a6 a7 w : ℕ) (h0 : a0 < 256) (h1 : a1 < 256) (h2 : a2 < 256) (h3 : a3 < 256)
    (h4 : a4 < 256) (h5 : a5 < 256) (h6 : a6 < 256) (h7 : a7 < 256) (e : w ≡ eight a0 a1 a2 a3 a4 a5 a6 a7) where
  abbrev lo : ℕ
  lo = a0 + 256 * a1 + 65536 * a2 + 16777216 * a3

  abbrev hi : ℕ
  hi = a4 + 256 * a5 + 65536 * a6 + 16777216 * a7

  pub digits : (a0 ≡ byte_of w 0) × (a1 ≡ byte_of w 1) × (a2 ≡ byte_of w 2) × (a3 ≡ byte_of w 3) × (a4 ≡ byte_of w 4)
      × (a5 ≡ byte_of w 5) × (a6 ≡ byte_of w 6) × (a7 ≡ byte_of w 7)
  digits =
      let x = low4 a0 a1 a2 a3 lo h0 h1 h2 h3 refl in
      let y = low4 a4 a5 a6 a7 hi h4 h5 h6 h7 refl in
      let v = parted lo hi w x.0 (e ∙ regroup a0 a1 a2 a3 a4 a5 a6 a7) in
      let k = lows w in (
        x.1 ∙ ap (λ n. n / 1 % 256) (sym v.1) ∙ k.0,
        x.2 ∙ ap (λ n. n / 256 % 256) (sym v.1) ∙ k.1,
        x.3 ∙ ap (λ n. n / 65536 % 256) (sym v.1) ∙ k.2,
        x.4 ∙ ap (λ n. n / 16777216 % 256) (sym v.1) ∙ k.3,
        y.1 ∙ ap (λ n. n / 1 % 256) (sym v.0) ∙ ap (λ n. n % 256) (div-div-eq-div-mul w 4294967296 1),
        y.2 ∙ ap (λ n. n / 256 % 256) (sym v.0) ∙ ap (λ n. n % 256) (div-div-eq-div-mul w 4294967296 256),
        y.3 ∙ ap (λ n. n / 65536 % 256) (sym v.0) ∙ ap (λ n. n % 256) (div-div-eq-div-mul w 4294967296 65536),
        y.4 ∙ ap (λ n. n / 16777216 % 256) (sym v.0) ∙ ap (λ n. n % 256) (div-div-eq-div-mul w 4294967296 16777216),
      )
    where
      regroup : (a0 a1 a2 a3 a4 a5 a6 a7 : ℕ)
          → eight a0 a1 a2 a3 a4 a5 a6 a7
          ≡ a0 + 256 * a1 + 65536 * a2 + 16777216 * a3 + 4294967296 * (a4 + 256 * a5 + 65536 * a6 + 16777216 * a7)
      regroup a0 a1 a2 a3 a4 a5 a6 a7 = omega arith

module _ (b : List ℕ) (small : (i : ℕ) → get_or b i 0 < 256) where
  pub word_byte : (at u : ℕ) → u < 8 → get_or b (at + u) 0 ≡ byte_of (word_at b at) u
  word_byte at =
      let d =
      digits (get_or b at 0) (get_or b (at + 1) 0) (get_or b (at + 2) 0) (get_or b (at + 3) 0) (get_or b (at + 4) 0) (get_or b (at + 5) 0) (get_or b (at + 6) 0)
      (get_or b (at + 7) 0) (word_at b at) (small at) (small (at + 1)) (small (at + 2)) (small (at + 3)) (small (at + 4)) (small (at + 5)) (small (at + 6))
      (small (at + 7)) refl in
      pick8 (λ u. get_or b (at + u) 0 ≡ byte_of (word_at b at) u) (ap (λ x. get_or b x 0) (add-zero at) ∙ d.0) d.1 d.2 d.3 d.4 d.5 d.6 d.7

  pub word_fits : (at : ℕ) → word_at b at < 2 ^ 64
  word_fits at =
      fits8 _ _ _ _ _ _ _ _ (small at) (small (at + 1)) (small (at + 2)) (small (at + 3)) (small (at + 4)) (small (at + 5)) (small (at + 6))
      (small (at + 7))
    where
      fits8 : (a0 a1 a2 a3 a4 a5 a6 a7 : ℕ) → a0 < 256 → a1 < 256 → a2 < 256 → a3 < 256 → a4 < 256 → a5 < 256
          → a6 < 256 → a7 < 256 → eight a0 a1 a2 a3 a4 a5 a6 a7 < 2 ^ 64
      fits8 a0 a1 a2 a3 a4 a5 a6 a7 h0 h1 h2 h3 h4 h5 h6 h7 = omega arith

  pub quad_byte : (at u : ℕ) → u < 4 → get_or b (at + u) 0 ≡ byte_of (quad_at b at) u
  quad_byte at u h =
      let d =
      low4 (get_or b at 0) (get_or b (at + 1) 0) (get_or b (at + 2) 0) (get_or b (at + 3) 0) (quad_at b at) (small at) (small (at + 1)) (small (at + 2))
      (small (at + 3)) refl in
      pick8 (λ u. u < 4 → get_or b (at + u) 0 ≡ byte_of (quad_at b at) u) (λ _. ap (λ x. get_or b x 0) (add-zero at) ∙ d.1) (λ _. d.2) (λ _. d.3) (λ _. d.4)
      (λ l. no 4 l (omega arith)) (λ l. no 5 l (omega arith)) (λ l. no 6 l (omega arith)) (λ l. no 7 l (omega arith)) u (omega arith) h
    where
      no : (n : ℕ) {A : Type 0} → n < 4 → 4 ≤ n → A
      no n l h = let z : ⊥ = omega arith in absurd z

-- ---- eight bytes are those of a list exactly where both make up one number
module _ (b : List ℕ) (at : ℕ) (l : List ℕ) (small : (i : ℕ) → get_or b i 0 < 256)
    (few : (i : ℕ) → get_or l i 0 < 256) where
  abbrev is_same : ℕ → Bool
  is_same j = eqb (get_or b (at + j) 0) (get_or l j 0)

  pub same_word : (x y : ℕ) → x ≡ word_at b at → y ≡ from_le_bytes w64 l → eqb x y ≡ every is_same 8
  same_word x y p q = go (eqb x y) refl (every is_same 8) refl
    where
      z : y ≡ word_at l 0
      z = q ∙ regroup (get_or l 0 0) (get_or l 1 0) (get_or l 2 0) (get_or l 3 0) (get_or l 4 0) (get_or l 5 0) (get_or l 6 0) (get_or l 7 0)
        where
          regroup : (a c d e f g h i : ℕ)
              → a + c * 256 + d * 65536 + e * 16777216 + f * 4294967296
              + g * 1099511627776 + h * 281474976710656 + i * 72057594037927936
              ≡ a + 256 * c + 65536 * d + 16777216 * e + 4294967296 * f
              + 1099511627776 * g + 281474976710656 * h + 72057594037927936 * i
          regroup a c d e f g h i = omega arith

      each : every is_same 8 ≡ true → (u : ℕ) → u < 8 → get_or b (at + u) 0 ≡ get_or l u 0
      each e u h = eqb-true _ _ (every_at is_same 8 u e h)

      whole : every is_same 8 ≡ true → word_at b at ≡ word_at l 0
      whole e =
          let f = ap (λ i. get_or b i 0) (sym (add-zero at)) ∙ each e 0 (omega arith) in
          rw (
            f,
            each e 1 (omega arith),
            each e 2 (omega arith),
            each e 3 (omega arith),
            each e 4 (omega arith),
            each e 5 (omega arith),
            each e 6 (omega arith),
            each e 7 (omega arith),
          )

      go : (v : Bool) → eqb x y ≡ v → (r : Bool) → every is_same 8 ≡ r → v ≡ every is_same 8
      go true e r d =
          sym
          (every_is is_same 8
          (λ u h.
          eq-eqb _ _
          (word_byte b small at u h ∙ ap (λ n. byte_of n u) (sym p ∙ eqb-true x y e ∙ z) ∙ sym (word_byte l few 0 u h)
          ∙ ap (λ i. get_or l i 0) (zero-add u))))
      go false e true d = absurd (eqb-false x y e (p ∙ whole d ∙ sym z))
      go false e false d = sym d

-- past m bytes that are 0, n more
pub zero_more : (b : List ℕ) (at m n : ℕ) → ((u : ℕ) → u < m → from b at u ≡ 0)
    → ((u : ℕ) → u < n → from b (at + m) u ≡ 0) → (u : ℕ) → u < m + n
    → from b at u ≡ 0
zero_more b at m n h k u l = go (dec_lt u m)
  where
    go : Dec (u < m) → from b at u ≡ 0
    go (yes d) = h u d
    go (no d) = let x : at + u ≡ at + m + (u - m) = omega arith in ap (λ x. get_or b x 0) x ∙ k (u - m) (omega arith)
