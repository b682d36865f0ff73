-- ℤ as an ordered ring: orders, products and absolute values. A fact that is linear in its
-- variables needs no law: `rep` and `lin` prove it in place. Assumes nothing.
use mathlib.Core.Path.{◌≡◌, refl, sym, subst}
use mathlib.Core.Logic.{◌⊎◌, inl, inr, ⊎_map, ⊎_elim}
use native.Mathlib.Decide.{dec_le}
use Prim.Native.Nat.{ℕ, suc, ◌+◌, ◌*◌, ◌≤◌, ◌<◌, zero-le}
use native.Mathlib.Nat.{mul-le-mul_right, mul-le-mul}
use native.Mathlib.Omega.{arith}
use lib.Dec.{le→leb, leb→le, lt→ltb}
use lib.IntN.{ℤ, pos, negsuc, ◌+ℤ◌, ◌-ℤ◌, ◌*ℤ◌, neg_ℤ, nat_abs}
use lib.Signed.{◌≤ℤ◌, ◌<ℤ◌}
use Rattle.numbers.specs.Signs.{gap}
use Rattle.numbers.proofs.Differences.{rep, rep₂, rep₃, rep₄, lin, sizes, diff_le, diff_lt}

-- ---- orders
pub le_pos : (m n : ℕ) → m ≤ n → pos m ≤ℤ pos n
le_pos m n h = record { le = le→leb m n h }

pub lt_pos : (m n : ℕ) → m < n → pos m <ℤ pos n
lt_pos m n h = record { lt = lt→ltb m n h }

pub pos_le : (m n : ℕ) → pos m ≤ℤ pos n → m ≤ n
pos_le m n h = leb→le m n h.le

pub ≤_trans : (x y z : ℤ) → x ≤ℤ y → y ≤ℤ z → x ≤ℤ z
≤_trans = rep₃ _ (λ a b c d e f. simp lin (omega arith))

pub ≤-antisym : (x y : ℤ) → x ≤ℤ y → y ≤ℤ x → x ≡ y
≤-antisym = rep₂ _ (λ a b c d. simp lin (omega arith))

pub le_or_lt : (m n : ℕ) → (m ≤ n) ⊎ (n < m)
le_or_lt m n = elim (dec_le m n) [ yes h ↦ inl h | no h ↦ inr (omega arith) ]

pub ≤-total : (x y : ℤ) → (x ≤ℤ y) ⊎ (y <ℤ x)
≤-total = rep₂ _ (λ a b c d. ⊎_map (diff_le a b c d).1 (diff_lt c d a b).1 (le_or_lt (a + d) (c + b)))

pub +-mono : (x y z w : ℤ) → x ≤ℤ y → z ≤ℤ w → (x +ℤ z) ≤ℤ (y +ℤ w)
+-mono = rep₄ _ (λ a b c d e f g h. simp lin (omega arith))

-- a summand that is not negative may be left out
pub drop_r : (x y z : ℤ) → pos 0 ≤ℤ y → (x +ℤ y) ≤ℤ z → x ≤ℤ z
drop_r = rep₃ _ (λ a b c d e f. simp lin (omega arith))

pub 0≤- : (x y : ℤ) → x ≤ℤ y → pos 0 ≤ℤ (y -ℤ x)
0≤- = rep₂ _ (λ a b c d. simp lin (omega arith))

-- ---- products
pub 0≤* : (x y : ℤ) → pos 0 ≤ℤ x → pos 0 ≤ℤ y → pos 0 ≤ℤ (x *ℤ y)
0≤* (pos a) (pos b) h k = le_pos 0 (a * b) zero-le
0≤* (pos a) (negsuc b) h k = absurd k.le
0≤* (negsuc a) y h k = absurd h.le

pub 0≤sq : (x : ℤ) → pos 0 ≤ℤ (x *ℤ x)
0≤sq (pos a) = le_pos 0 (a * a) zero-le
0≤sq (negsuc a) = le_pos 0 (suc a * suc a) zero-le

-- a natural factor keeps the order
pub *-mono : (n : ℕ) (x y : ℤ) → x ≤ℤ y → (pos n *ℤ x) ≤ℤ (pos n *ℤ y)
*-mono n = rep₂ _ (λ a b c d. simp lin (λ h. omega (arith, mul-le-mul_right n h)))

-- ---- absolute values
pub abs_neg : (x : ℤ) → nat_abs (neg_ℤ x) ≡ nat_abs x
abs_neg = rep _ (λ a b. simp sizes (omega arith))

-- numbers that are none apart are the same, and back
pub gap_none : (x y : ℤ) → gap x y ≡ 0 → x ≡ y
gap_none = rep₂ _ (λ a b c d. simp sizes (omega arith))

pub none_gap : (x y : ℤ) → x ≡ y → gap x y ≡ 0
none_gap = rep₂ _ (λ a b c d. simp sizes (omega arith))

pub gap_turned : (x y : ℤ) → gap x y ≡ gap y x
gap_turned = rep₂ _ (λ a b c d. simp sizes (omega arith))

pub abs-+ : (x y : ℤ) → nat_abs (x +ℤ y) ≤ nat_abs x + nat_abs y
abs-+ = rep₂ _ (λ a b c d. simp sizes (omega arith))

pub abs_minus : (x y : ℤ) → nat_abs (x -ℤ y) ≤ nat_abs x + nat_abs y
abs_minus = rep₂ _ (λ a b c d. simp sizes (omega arith))

pub abs-* : (x y : ℤ) → nat_abs (x *ℤ y) ≡ nat_abs x * nat_abs y
abs-* (pos a) (pos b) = refl
abs-* (pos a) (negsuc b) = abs_neg (pos (a * suc b))
abs-* (negsuc a) (pos b) = abs_neg (pos (suc a * b))
abs-* (negsuc a) (negsuc b) = refl

-- sizes of a sum and of a product, by the sizes of the parts
pub size-+ : (x y : ℤ) {m n : ℕ} → nat_abs x ≤ m → nat_abs y ≤ n → nat_abs (x +ℤ y) ≤ m + n
size-+ x y p q = omega (arith, abs-+ x y)

pub size-* : (x y : ℤ) {m n : ℕ} → nat_abs x ≤ m → nat_abs y ≤ n → nat_abs (x *ℤ y) ≤ m * n
size-* x y p q = omega (arith, abs-* x y, mul-le-mul p q)

-- a number is at most its size
pub ≤abs : (x : ℤ) (n : ℕ) → nat_abs x ≤ n → x ≤ℤ pos n
≤abs (pos a) n h = le_pos a n h
≤abs (negsuc a) n h = record { le = tt }

-- a square at most m² is that of a number of size at most m, and back
sq_abs : (x : ℤ) → x *ℤ x ≡ pos (nat_abs x * nat_abs x)
sq_abs (pos a) = refl
sq_abs (negsuc a) = refl

root : (a b : ℕ) → a * a ≤ b * b → a ≤ b
root a b h = ⊎_elim (λ (k : a ≤ b). k) (λ (k : b < a). let z : ⊥ = omega (arith, mul-le-mul k k) in absurd z) (le_or_lt a b)

pub sq→abs : (x : ℤ) (m : ℕ) → (x *ℤ x) ≤ℤ pos (m * m) → nat_abs x ≤ m
sq→abs x m h = root (nat_abs x) m (pos_le _ _ (subst (λ (z : ℤ). z ≤ℤ pos (m * m)) (sq_abs x) h))

pub abs→sq : (x : ℤ) (m : ℕ) → nat_abs x ≤ m → (x *ℤ x) ≤ℤ pos (m * m)
abs→sq x m h = subst (λ (z : ℤ). z ≤ℤ pos (m * m)) (sym (sq_abs x)) (le_pos _ _ (mul-le-mul h h))
