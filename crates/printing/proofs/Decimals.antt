-- Plain decimals: one digit at a time, how long they are, and that they say their number. Assumes
-- nothing.
use borrow.Author.Tests.{lt-ltb, le-ltb}
use mathlib.Core.Path.{◌≡◌, refl, ◌∙◌, ap}
use mathlib.Core.Bool.{true}
use mathlib.Core.List.{List, [], ◌∷◌, ◌++◌}
use Prim.Native.Nat.{ℕ, zero, suc, ◌+◌, ◌*◌, ◌-◌, ◌/◌, ◌%◌, ◌^◌, ◌≤◌, ◌<◌}
use native.Mathlib.Decide.{dec_lt}
use native.Mathlib.Omega.{arith}
use lib.ListN.{length, length-append}
use Rattle.line.specs.Numbers.{is_digit, all_digits, value_from, value_of}
use Rattle.printing.specs.Texts.{decimal, decimal_within}
use Rattle.numbers.proofs.Flags.{both}
use Rattle.line.proofs.Digits.{is_digit_lem}

-- ---- how many digits are allowed does not matter, once they are enough
enough : (most least n : ℕ) → n < most → n < least → decimal_within most n ≡ decimal_within least n
unfolding decimal_within
enough zero least n h k = let z : ⊥ = omega arith in absurd z
enough (suc most) zero n h k = let z : ⊥ = omega arith in absurd z
enough (suc most) (suc least) n h k = elim (dec_lt n 10) [
  | yes l ↦ rw (lt-ltb n 10 l)
  | no l ↦ let g : 10 ≤ n = omega (arith, l) in
      rw (le-ltb n 10 g) (ap (λ (s : List ℕ). s ++ ((48 + n % 10) ∷ [])) (enough most least (n / 10) (omega arith) (omega arith)))
]

pub decimal_one : (n : ℕ) → n < 10 → decimal n ≡ (48 + n) ∷ []
unfolding decimal decimal_within
decimal_one n h = rw (lt-ltb n 10 h)

pub decimal_more : (n : ℕ) → 10 ≤ n → decimal n ≡ decimal (n / 10) ++ ((48 + n % 10) ∷ [])
unfolding decimal decimal_within
decimal_more n h = rw (le-ltb n 10 h) (ap (λ (s : List ℕ). s ++ ((48 + n % 10) ∷ [])) (enough n (suc (n / 10)) (n / 10) (omega arith) (omega arith)))

-- so a number below a power of ten may be computed with as many digits
pub decimal_within_lem : (k n : ℕ) → n < 10 ^ suc k → decimal n ≡ decimal_within (suc k) n
unfolding decimal_within
decimal_within_lem zero n h = let l : n < 10 = omega arith in rw (decimal_one n l, lt-ltb n 10 l)
decimal_within_lem (suc k) n h = elim (dec_lt n 10) [
  | yes l ↦ rw (decimal_one n l, lt-ltb n 10 l)
  | no l ↦ let g : 10 ≤ n = omega (arith, l) in
      rw (decimal_more n g, le-ltb n 10 g) (ap (λ (s : List ℕ). s ++ ((48 + n % 10) ∷ [])) (decimal_within_lem k (n / 10) (omega arith)))
]

-- ---- so what holds of one digit, and of one digit more, holds of every number
module _ (P : ℕ → Type 0) (one : (n : ℕ) → n < 10 → P n) (more : (n : ℕ) → 10 ≤ n → P (n / 10) → P n) where
  up_to : (most n : ℕ) → n < most → P n
  up_to zero n h = let z : ⊥ = omega arith in absurd z
  up_to (suc most) n h = elim (dec_lt n 10) [
    | yes l ↦ one n l
    | no l ↦ let g : 10 ≤ n = omega (arith, l) in more n g (up_to most (n / 10) (omega arith))
  ]

  by_digits : (n : ℕ) → P n
  by_digits n = up_to (suc n) n (omega arith)

-- ---- length
pub length_one : (n : ℕ) → n < 10 → length (decimal n) ≡ 1
length_one n h = rw (decimal_one n h)

pub length_more : (n : ℕ) → 10 ≤ n → length (decimal n) ≡ length (decimal (n / 10)) + 1
length_more n h = rw (decimal_more n h) (length-append (decimal (n / 10)) ((48 + n % 10) ∷ []))

pub some_length : (n : ℕ) → 1 ≤ length (decimal n)
some_length = by_digits (λ n. 1 ≤ length (decimal n)) (λ n h. omega (arith, length_one n h)) (λ n h p. omega (arith, length_more n h))

-- a number below a power of ten has at most so many digits
pub few_digits : (k n : ℕ) → n < 10 ^ suc k → length (decimal n) ≤ suc k
few_digits zero n h = omega (arith, length_one n (omega arith))
few_digits (suc k) n h = elim (dec_lt n 10) [
  | yes l ↦ omega (arith, length_one n l)
  | no l ↦ let g : 10 ≤ n = omega (arith, l) in omega (arith, length_more n g, few_digits k (n / 10) (omega arith))
]

-- ---- every byte is a digit
no_digits : all_digits [] ≡ true
unfolding all_digits
no_digits = refl

digits_snoc : (text : List ℕ) (byte : ℕ) → all_digits text ≡ true → is_digit byte ≡ true
    → all_digits (text ++ (byte ∷ [])) ≡ true
unfolding all_digits
digits_snoc [] byte e d = rw d
digits_snoc (first ∷ more) byte e d = let b = both (is_digit first) (all_digits more) e in rw b.0 (digits_snoc more byte b.1 d)

pub all_digits_lem : (n : ℕ) → all_digits (decimal n) ≡ true
all_digits_lem = by_digits (λ n. all_digits (decimal n) ≡ true)
    (λ n h. rw (decimal_one n h) (digits_snoc [] (48 + n) no_digits (is_digit_lem (48 + n) (omega arith) (omega arith))))
    (λ n h p. rw (decimal_more n h) (digits_snoc (decimal (n / 10)) (48 + n % 10) p (is_digit_lem (48 + n % 10) (omega arith) (omega arith))))

-- ---- and they say their number
value_snoc : (m : ℕ) (text : List ℕ) (byte : ℕ)
    → value_from m (text ++ (byte ∷ [])) ≡ 10 * value_from m text + (byte - 48)
unfolding value_from
value_snoc m [] byte = refl
value_snoc m (first ∷ more) byte = value_snoc (10 * m + (first - 48)) more byte

pub value_decimal : (n : ℕ) → value_of (decimal n) ≡ n
unfolding value_of value_from
value_decimal = by_digits (λ n. value_from 0 (decimal n) ≡ n)
    (λ n h. rw (decimal_one n h) (value_snoc 0 [] (48 + n) ∙ omega arith))
    (λ n h p. rw (decimal_more n h) (value_snoc 0 (decimal (n / 10)) (48 + n % 10) ∙ omega arith))
