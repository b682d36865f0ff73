-- Pieces in two's complement, over any number of them. A piece p and what stands above it, t, are p
-- + base·t; where that is small, t is but the sign of p. Assumes nothing.
use mathlib.Core.Path.{◌≡◌, refl, sym, ◌∙◌, ap, subst}
use mathlib.Core.List.{List, [], ◌∷◌}
use Prim.Native.Nat.{ℕ, zero, suc, ◌+◌, ◌*◌, ◌-◌, ◌%◌, ◌^◌, ◌<◌, ◌≤◌}
use native.Mathlib.Nat.{le_of_suc-le-suc, div-eq_of_lt, mul_assoc, pow-succ'}
use native.Mathlib.Decide.{dec_le}
use native.Mathlib.Omega.{arith}
use lib.Dec.{lit<}
use lib.ListN.{length, drop, get_or}
use lib.IntN.{ℤ, pos, negsuc, nat_abs, ◌+ℤ◌, ◌-ℤ◌, ◌*ℤ◌, +ℤ_idl}
use lib.Signed.{◌≤ℤ◌, ◌<ℤ◌}
use mir.Syntax.{w32, w64}
use mir.Val.{to_z}
use mir.ValLaws.{to_z_pos, to_z-neg}
use Rattle.numbers.specs.Rounding.{floor_div}
use Rattle.numbers.proofs.Differences.{rep, rep₂, rep₃, lin, sizes}
use Rattle.numbers.proofs.Rounding.{floor_plus}
use Rattle.pieces.specs.Pieces.{base, value, signed}
use Rattle.pieces.proofs.Values.{Small}

-- ---- by their places
pub next : (n : ℕ) (ps : List ℕ) → suc n < length ps
    → signed (drop n ps) ≡ pos (get_or ps n 0) +ℤ pos base *ℤ signed (drop (suc n) ps)
unfolding signed
next n [] h = let z : ⊥ = omega arith in absurd z
next zero (p ∷ []) h = let z : ⊥ = omega arith in absurd z
next zero (p ∷ q ∷ ps) h = refl
next (suc n) (p ∷ ps) h = next n ps (le_of_suc-le-suc h)

-- the pieces above a place are what stands above it
floor_above : (p : ℕ) (t : ℤ) → p < base → floor_div (pos p +ℤ pos base *ℤ t) base ≡ t
unfolding floor_div
floor_above p t h = floor_plus (pos p) t base (lit< tt) ∙ ap (λ (n : ℕ). pos n +ℤ t) (div-eq_of_lt h) ∙ +ℤ_idl t

pub dropped : (n : ℕ) (ps : List ℕ) → Small ps → suc n < length ps
    → floor_div (signed (drop n ps)) base ≡ signed (drop (suc n) ps)
dropped n ps s h = ap (λ (z : ℤ). floor_div z base) (next n ps h) ∙ floor_above (get_or ps n 0) (signed (drop (suc n) ps)) (s n)

-- ---- the sign
abbrev pub half : ℕ
half = 2147483648

lowered : (n h : ℕ) (z : ℤ) → z +ℤ pos h ≡ pos n → z ≡ pos n -ℤ pos h
lowered n h = rep _ (λ a b. simp lin (omega arith))

kept : (p : ℕ) (z : ℤ) → p < half → z ≡ pos p → z +ℤ pos half ≡ pos ((p + half) % base)
kept p = rep _ (λ a b. simp lin (omega arith))

taken_off : (p k : ℕ) (z : ℤ) → half ≤ p → p + suc k ≡ base → z ≡ negsuc k → z +ℤ pos half ≡ pos ((p + half) % base)
taken_off p k = rep _ (λ a b. simp lin (omega arith))

raised : (p : ℕ) → p < base → to_z w32 p +ℤ pos half ≡ pos ((p + half) % base)
raised p h = elim (dec_le half p) [
  | yes k ↦
      let e : base - suc (base - suc p) ≡ p = omega arith in
      taken_off p (base - suc p) (to_z w32 p) k (omega arith) (ap (to_z w32) (sym e) ∙ to_z-neg w32 (base - suc p) (omega arith))
  | no k ↦
      let l : p < half = omega arith in
      kept p (to_z w32 p) l (to_z_pos w32 p l)
]

pub top_is : (p : ℕ) → p < base → to_z w32 p ≡ pos ((p + half) % base) -ℤ pos half
top_is p h = lowered ((p + half) % base) half (to_z w32 p) (raised p h)

-- from −m up to m
pub record Within (m : ℕ) (z : ℤ) : Type 0 where
  pub from : pos 0 ≤ℤ (z +ℤ pos m)
  pub to : z <ℤ pos m

pub within : (m : ℕ) (z : ℤ) → nat_abs z < m → Within m z
within m z h = record { from = low z h; to = high z h }
  where
    low : (z : ℤ) → nat_abs z < m → pos 0 ≤ℤ (z +ℤ pos m)
    low = rep _ (λ a b. simp sizes (omega arith))

    high : (z : ℤ) → nat_abs z < m → z <ℤ pos m
    high = rep _ (λ a b. simp sizes (omega arith))

-- a number of 31 bits and a sign
abbrev pub Short : ℤ → Type 0
Short = Within half

sole : (p : ℕ) (z t : ℤ) → p < base → pos 0 ≤ℤ (z +ℤ pos half) → z <ℤ pos half → pos p ≡ z -ℤ pos base *ℤ t
    → z +ℤ pos half ≡ pos ((p + half) % base)
sole p = rep₂ _ (λ a b c d. simp lin (omega arith))

-- the low piece of a short number is the number
sign_is : (p : ℕ) (z t : ℤ) → p < base → Short z → pos p ≡ z -ℤ pos base *ℤ t → to_z w32 p ≡ z
sign_is p z t h s e = top_is p h ∙ sym (lowered ((p + half) % base) half z (sole p z t h s.from s.to e))

-- two pieces as one number of 64 bits: the upper one counts with the sign
upper_sign : (p q k m : ℕ) → p < base → q + suc k ≡ base → p + base * q + suc m ≡ base * base
    → negsuc m ≡ pos p +ℤ pos base *ℤ negsuc k
upper_sign p q k m h e f = simp lin (omega arith)

pub with_sign : (p q : ℕ) → p < base → q < base
    → to_z w64 (p + base * q) ≡ pos p +ℤ pos base *ℤ to_z w32 q
with_sign p q h l = elim (dec_le half q) [
  | yes k ↦
      let j = base - suc q in
      let m = base * base - suc (p + base * q) in
      let e : base - suc j ≡ q = omega arith in
      let f : base * base - suc m ≡ p + base * q = omega arith in
      let below = ap (to_z w32) (sym e) ∙ to_z-neg w32 j (omega arith) in
      ap (to_z w64) (sym f)
      ∙ to_z-neg w64 m (omega arith)
      ∙ upper_sign p q j m h (omega arith) (omega arith)
      ∙ ap (λ (z : ℤ). pos p +ℤ pos base *ℤ z) (sym below)
  | no k ↦
      let u : q < half = omega arith in
      to_z_pos w64 (p + base * q) (omega arith) ∙ simp lin (omega arith) ∙ ap (λ (z : ℤ). pos p +ℤ pos base *ℤ z) (sym (to_z_pos w32 q u))
]

-- ---- where the top bit is 0 there is no sign: the pieces stand for the same number
pub plain : (ps : List ℕ) → Small ps → 2 * value ps < base ^ length ps → signed ps ≡ pos (value ps)
unfolding signed value
plain [] s h = refl
plain (p ∷ []) s h = to_z_pos w32 p (omega (arith, h)) ∙ ap pos (omega arith)
plain (p ∷ q ∷ ps) s h =
    let v = value (q ∷ ps) in
    let room = rw (pow-succ' base (length (q ∷ ps))) at h in
    ap (λ (z : ℤ). pos p +ℤ pos base *ℤ z) (plain (q ∷ ps) (λ i. s (suc i)) (above p v (base ^ length (q ∷ ps)) room))
  where
    above : (p v m : ℕ) → 2 * (p + base * v) < base * m → 2 * v < m
    above p v m h = omega arith

-- ---- pieces put on top of each other
back : (z t p : ℤ) → p ≡ z -ℤ pos base *ℤ t → p +ℤ pos base *ℤ t ≡ z
back = rep₃ _ (λ a b c d e f. simp lin (omega arith))

pub placed : (p q : ℕ) (ps : List ℕ) (z t : ℤ) → pos p ≡ z -ℤ pos base *ℤ t → signed (q ∷ ps) ≡ t
    → signed (p ∷ q ∷ ps) ≡ z
unfolding signed
placed p q ps z t e f = ap (λ (s : ℤ). pos p +ℤ pos base *ℤ s) f ∙ back z t (pos p) e

pub alone : (p : ℕ) (z t : ℤ) → p < base → Short z → pos p ≡ z -ℤ pos base *ℤ t → signed (p ∷ []) ≡ z
unfolding signed
alone = sign_is

-- ---- where the number is small, a piece with its sign is all from its place on
fore : (z t p : ℤ) → z ≡ p +ℤ pos base *ℤ t → p ≡ z -ℤ pos base *ℤ t
fore = rep₃ _ (λ a b c d e f. simp lin (omega arith))

above_within : (m p : ℕ) (t : ℤ) → p < base → Within (base * m) (pos p +ℤ pos base *ℤ t) → Within m t
above_within m p t h w = record { from = low t h w.from; to = high t w.to }
  where
    low : (t : ℤ) → p < base → pos 0 ≤ℤ (pos p +ℤ pos base *ℤ t +ℤ pos (base * m)) → pos 0 ≤ℤ (t +ℤ pos m)
    low = rep _ (λ a b. simp lin (omega arith))

    high : (t : ℤ) → (pos p +ℤ pos base *ℤ t) <ℤ pos (base * m) → t <ℤ pos m
    high = rep _ (λ a b. simp lin (omega arith))

pub all_from : (n : ℕ) (ps : List ℕ) → Small ps → suc n < length ps → Within (base ^ n * half) (signed ps)
    → to_z w32 (get_or ps n 0) ≡ signed (drop n ps)
unfolding signed
all_from n [] s l w = let z : ⊥ = omega arith in absurd z
all_from n (p ∷ []) s l w = let z : ⊥ = omega arith in absurd z
all_from zero (p ∷ q ∷ ps) s l w =
    let z = signed (p ∷ q ∷ ps) in
    let t = signed (q ∷ ps) in
    sign_is p z t (s 0) w (fore z t (pos p) refl)
all_from (suc n) (p ∷ q ∷ ps) s l w =
    all_from n (q ∷ ps) (λ i. s (suc i)) (le_of_suc-le-suc l)
    (above_within (base ^ n * half) p (signed (q ∷ ps)) (s 0) (subst (λ (m : ℕ). Within m (signed (p ∷ q ∷ ps))) (wider n) w))
  where
    wider : (n : ℕ) → base ^ suc n * half ≡ base * (base ^ n * half)
    wider n = ap (λ (m : ℕ). m * half) (pow-succ' base n) ∙ mul_assoc base (base ^ n) half
