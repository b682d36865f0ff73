-- Pieces by their places: to drop n pieces is to divide by base^n, a sum piece by piece is the sum
-- modulo base^n, and a product row by row is the product. Over any number of pieces, from any place
-- on. Assumes nothing.
use mathlib.Core.Path.{◌≡◌, refl, sym, ◌∙◌, ap}
use mathlib.Core.List.{List, [], ◌∷◌}
use Prim.Native.Nat.{ℕ, zero, suc, ◌+◌, ◌*◌, ◌/◌, ◌%◌, ◌^◌, ◌<◌, ◌≤◌}
use native.Mathlib.Nat.{div-one, zero-div, pow-succ', one-le-pow, div-div-eq-div-mul, mul_comm}
use native.Mathlib.Omega.{arith}
use lib.Arith.{mod-mul}
use lib.Dec.{lit<, lit≤}
use lib.ListN.{length, drop, get_or, drop_of_length-le, length-drop}
use Rattle.pieces.specs.Pieces.{base, value}

-- each is a piece
abbrev pub Small : List ℕ → Type 0
Small ps = (i : ℕ) → get_or ps i 0 < base

pub dropped : (n : ℕ) (ps : List ℕ) → Small ps → value ps / base ^ n ≡ value (drop n ps)
unfolding value
dropped zero ps h = div-one (value ps)
dropped (suc n) [] h = zero-div (base ^ suc n)
dropped (suc n) (p ∷ ps) h =
    ap (λ (d : ℕ). (p + base * value ps) / d) (pow-succ' base n)
    ∙ sym (div-div-eq-div-mul (p + base * value ps) base (base ^ n))
    ∙ ap (λ (v : ℕ). v / base ^ n) (rest (h 0))
    ∙ dropped n ps (λ i. h (suc i))
  where
    rest : p < base → (p + base * value ps) / base ≡ value ps
    rest h = omega arith

pub next : (n : ℕ) (ps : List ℕ) → value (drop n ps) ≡ get_or ps n 0 + base * value (drop (suc n) ps)
unfolding value
next zero [] = refl
next zero (p ∷ ps) = refl
next (suc n) [] = refl
next (suc n) (p ∷ ps) = next n ps

-- nothing stands past the end
pub past : (n : ℕ) (ps : List ℕ) → length ps ≤ n → value (drop n ps) ≡ 0
unfolding value
past n ps h = ap value (drop_of_length-le ps h)

-- a number of two pieces
pub two_pieces : (n : ℕ) → value (n % base ∷ n / base ∷ []) ≡ n
unfolding value
two_pieces n = omega arith

-- the low piece of a number and what is left above it, by what both stand for
pub record Split (l h s : ℕ) : Type 0 where
  pub low : l ≡ s % base
  pub high : h ≡ s / base

pub split : (l h s : ℕ) → l < base → l + h * base ≡ s → Split l h s
split l h s k e = record { low = omega arith; high = omega arith }

-- ---- a sum of n pieces from the i-th on, with the carry of those below
unfoldable pub sum_from : ℕ → ℕ → ℕ → List ℕ → List ℕ → List ℕ
sum_from zero i carry ps qs = []
sum_from (suc n) i carry ps qs =
    (get_or ps i 0 + get_or qs i 0 + carry) % base ∷ sum_from n (suc i) ((get_or ps i 0 + get_or qs i 0 + carry) / base) ps qs

-- a number modulo base·m, by its low piece and what stands above it
low_piece : (m s v w : ℕ) → 0 < m → (s + base * v + base * w) % (base * m) ≡ s % base + base * ((s / base + v + w) % m)
low_piece m s v w h =
    ap (λ (d : ℕ). (s + base * v + base * w) % d) (mul_comm base m)
    ∙ mod-mul (s + base * v + base * w) {m = m} {c = base} h (lit< tt)
    ∙ ap (λ (q : ℕ). q % m * base + (s + base * v + base * w) % base) above
    ∙ omega arith
  where
    above : (s + base * v + base * w) / base ≡ s / base + v + w
    above = omega arith

pub sum_is : (n i carry : ℕ) (ps qs : List ℕ)
    → value (sum_from n i carry ps qs) ≡ (carry + value (drop i ps) + value (drop i qs)) % base ^ n
unfolding value sum_from
sum_is zero i carry ps qs = omega arith
sum_is (suc n) i carry ps qs =
    let s = get_or ps i 0 + get_or qs i 0 + carry in
    let v = value (drop (suc i) ps) in
    let w = value (drop (suc i) qs) in
    ap (λ (x : ℕ). s % base + base * x) (sum_is n (suc i) (s / base) ps qs)
    ∙ sym (low_piece (base ^ n) s v w (one-le-pow n base (lit≤ tt)))
    ∙ ap (λ (d : ℕ). (s + base * v + base * w) % d) (sym (pow-succ' base n))
    ∙ ap (λ (x : ℕ). x % base ^ suc n) (regrouped (get_or ps i 0) (get_or qs i 0) carry v w (next i ps) (next i qs))
  where
    regrouped : {x y : ℕ} (p q c v w : ℕ) → x ≡ p + base * v → y ≡ q + base * w
        → p + q + c + base * v + base * w ≡ c + x + y
    regrouped p q c v w e f = omega arith

-- ---- a row of a product: n pieces from the i-th on, times y, and as many added, with the carry of
-- those below; the last carry stands on top, so that nothing is lost
unfoldable pub row_from : ℕ → ℕ → ℕ → ℕ → List ℕ → List ℕ → List ℕ
row_from zero i carry y ps qs = carry ∷ []
row_from (suc n) i carry y ps qs =
    (get_or ps i 0 * y + get_or qs i 0 + carry) % base ∷ row_from n (suc i) ((get_or ps i 0 * y + get_or qs i 0 + carry) / base) y ps qs

row_long : (n i carry y : ℕ) (ps qs : List ℕ) → length (row_from n i carry y ps qs) ≡ suc n
unfolding row_from
row_long zero i carry y ps qs = refl
row_long (suc n) i carry y ps qs = ap suc (row_long n (suc i) ((get_or ps i 0 * y + get_or qs i 0 + carry) / base) y ps qs)

pub row_is : (n i carry y : ℕ) (ps qs : List ℕ) → length ps ≤ i + n → length qs ≤ i + n
    → value (row_from n i carry y ps qs) ≡ value (drop i ps) * y + value (drop i qs) + carry
unfolding value row_from
row_is zero i carry y ps qs h k =
    let p = past i ps (omega arith) in
    let q = past i qs (omega arith) in
    sym (ap (λ (v : ℕ). v * y + value (drop i qs) + carry) p ∙ ap (λ (w : ℕ). 0 * y + w + carry) q ∙ omega arith)
row_is (suc n) i carry y ps qs h k =
    let s = get_or ps i 0 * y + get_or qs i 0 + carry in
    ap (λ (v : ℕ). s % base + base * v) (row_is n (suc i) (s / base) y ps qs (omega arith) (omega arith))
    ∙ joined (get_or ps i 0) (get_or qs i 0) carry (value (drop (suc i) ps)) (value (drop (suc i) qs)) (next i ps) (next i qs)
  where
    joined : {x z : ℕ} (p q c v w : ℕ) → x ≡ p + base * v → z ≡ q + base * w
        → (p * y + q + c) % base + base * (v * y + w + (p * y + q + c) / base) ≡ x * y + z + c
    joined p q c v w e f = omega (arith, ap (λ (n : ℕ). n * y) e)

-- ---- a product of n pieces by any number of them, and n added: a row for each, whose low piece
-- stays and whose rest is added to the next
unfoldable pub product_of : ℕ → List ℕ → List ℕ → List ℕ → List ℕ
product_of n ps [] added = added
product_of n ps (q ∷ qs) added =
    get_or (row_from n 0 0 q ps added) 0 0 ∷ product_of n ps qs (drop 1 (row_from n 0 0 q ps added))

pub product_is : (n : ℕ) (ps qs added : List ℕ) → length ps ≤ n → length added ≤ n
    → value (product_of n ps qs added) ≡ value ps * value qs + value added
unfolding value product_of
product_is n ps [] added h k = omega arith
product_is n ps (q ∷ qs) added h k =
    let r = row_from n 0 0 q ps added in
    let few : length (drop 1 r) ≤ n = simp length-drop (omega (arith, row_long n 0 0 q ps added)) in
    ap (λ (v : ℕ). get_or r 0 0 + base * v) (product_is n ps qs (drop 1 r) h few)
    ∙ joined (get_or r 0 0) (value ps) (value qs) (value (drop 1 r)) (value added) (next 0 r) (row_is n 0 0 q ps added (omega arith) (omega arith))
  where
    joined : {x : ℕ} (l v w t a : ℕ) → x ≡ l + base * t → x ≡ v * q + a + 0
        → l + base * (v * w + t) ≡ v * (q + base * w) + a
    joined l v w t a e f = omega arith
