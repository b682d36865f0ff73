-- The bridge from ℤ to `omega`. Each integer is a difference of naturals, `diff a b` for a − b, and
-- `diff` is shut, so that `simp lin` carries a linear statement over ℤ to one over ℕ, which `omega
-- arith` proves:
--
--     law : (x y : ℤ) → x ≤ℤ y → (x +ℤ pos 1) ≤ℤ (y +ℤ pos 1)
--     law = rep₂ _ (λ a b c d. simp lin (omega arith))
--
-- Where the statement has an absolute value that is not simply bounded above (`nat_abs x ≤ n`),
-- write `sizes` for `lin`. Assumes nothing.
use mathlib.Core.Path.{◌≡◌, refl, sym, ◌∙◌, ap, subst}
use mathlib.Core.Logic.{◌↔◌}
use mathlib.Core.Bool.{Bool, true, false, not, cond}
use Prim.Native.Nat.{ℕ, zero, suc, ◌+◌, ◌*◌, ◌-◌, ◌≤◌, ◌<◌}
use native.Mathlib.Omega.{arith}
use lib.Dec.{T, ltb, ltb→lt, nltb→le, leb→le, le→leb, lt→ltb}
use lib.IntN.{ℤ, pos, negsuc, sub_ℕ, ◌+ℤ◌, ◌*ℤ◌, neg_ℤ, nat_abs}
use lib.Signed.{◌≤ℤ◌, ◌<ℤ◌}

pub diff : ℕ → ℕ → ℤ
diff a b = sub_ℕ a b

sub_diff : (a b : ℕ) → sub_ℕ a b ≡ diff a b
unfolding diff
sub_diff a b = refl

cond_ind : (c : Bool) (x y : ℤ) (P : ℤ → Type 0) → (T c → P x) → (T (not c) → P y) → P (cond c x y)
cond_ind true x y P f g = f tt
cond_ind false x y P f g = g tt

-- a difference is one of the two constructors
module _ (P : ℕ → ℕ → ℤ → Type 0) (f : (b k : ℕ) → P (b + k) b (pos k))
    (g : (a k : ℕ) → P a (a + suc k) (negsuc k)) where
  cases : (a b : ℕ) → P a b (diff a b)
  unfolding diff
  cases a b = cond_ind (ltb a b) (negsuc (b - suc a)) (pos (a - b)) (P a b)
      (λ t. let h = ltb→lt a b t in let e : a + suc (b - suc a) ≡ b = omega arith in subst (λ (n : ℕ). P a n (negsuc (b - suc a))) e (g a (b - suc a)))
      (λ t. let h = nltb→le a b t in let e : b + (a - b) ≡ a = omega arith in subst (λ (n : ℕ). P n b (pos (a - b))) e (f b (a - b)))

diff_pos : (k a b : ℕ) → a ≡ b + k → diff a b ≡ pos k
diff_pos k a b = cases (λ a b z. a ≡ b + k → z ≡ pos k) (λ b j e. ap pos (omega arith)) (λ a j e. absurd (omega arith)) a b

diff_neg : (k a b : ℕ) → b ≡ a + suc k → diff a b ≡ negsuc k
diff_neg k a b = cases (λ a b z. b ≡ a + suc k → z ≡ negsuc k) (λ b j e. absurd (omega arith)) (λ a j e. ap negsuc (omega arith)) a b

pub pos_diff : (k : ℕ) → pos k ≡ diff k 0
pos_diff k = sym (diff_pos k k 0 (omega arith))

pub negsuc_diff : (k : ℕ) → negsuc k ≡ diff 0 (suc k)
negsuc_diff k = sym (diff_neg k 0 (suc k) (omega arith))

pub neg_pos : (k : ℕ) → neg_ℤ (pos k) ≡ diff 0 k
neg_pos zero = pos_diff 0
neg_pos (suc k) = negsuc_diff k

pub diff_same : (a b c d : ℕ) → a + d ≡ c + b → diff a b ≡ diff c d
diff_same a b c d = cases (λ a b z. a + d ≡ c + b → z ≡ diff c d)
    (λ b k e. sym (diff_pos k c d (omega arith))) (λ a k e. sym (diff_neg k c d (omega arith))) a b

-- ---- a law over differences is a law over ℤ
pub rep : (P : ℤ → Type 0) → ((a b : ℕ) → P (diff a b)) → (x : ℤ) → P x
rep P f (pos n) = subst P (sym (pos_diff n)) (f n 0)
rep P f (negsuc n) = subst P (sym (negsuc_diff n)) (f 0 (suc n))

pub rep₂ : (P : ℤ → ℤ → Type 0) → ((a b c d : ℕ) → P (diff a b) (diff c d)) → (x y : ℤ) → P x y
rep₂ P f = rep (λ x. (y : ℤ) → P x y) (λ a b. rep (P (diff a b)) (f a b))

pub rep₃ : (P : ℤ → ℤ → ℤ → Type 0) → ((a b c d e f : ℕ) → P (diff a b) (diff c d) (diff e f)) → (x y z : ℤ) → P x y z
rep₃ P f = rep (λ x. (y z : ℤ) → P x y z) (λ a b. rep₂ (P (diff a b)) (f a b))

pub rep₄ : (P : ℤ → ℤ → ℤ → ℤ → Type 0) → ((a b c d e f g h : ℕ) → P (diff a b) (diff c d) (diff e f) (diff g h))
    → (x y z w : ℤ) → P x y z w
rep₄ P f = rep (λ x. (y z w : ℤ) → P x y z w) (λ a b. rep₃ (P (diff a b)) (f a b))

-- ---- what the operations and the orders do to differences
pub diff-negℤ : (a b : ℕ) → neg_ℤ (diff a b) ≡ diff b a
diff-negℤ = cases (λ a b z. neg_ℤ z ≡ diff b a) (λ b k. neg_pos k ∙ diff_same _ _ _ _ (omega arith)) (λ a k. pos_diff (suc k) ∙ diff_same _ _ _ _ (omega arith))

pub diff_add : (a b c d : ℕ) → diff a b +ℤ diff c d ≡ diff (a + c) (b + d)
diff_add a b c d = cases (λ a b x. x +ℤ diff c d ≡ diff (a + c) (b + d))
    (λ b k. cases (λ c d y. pos k +ℤ y ≡ diff (b + k + c) (b + d)) (λ d l. pos_diff (k + l) ∙ diff_same _ _ _ _ (omega arith))
    (λ c l. sub_diff k (suc l) ∙ diff_same _ _ _ _ (omega arith)) c d)
    (λ a k. cases (λ c d y. negsuc k +ℤ y ≡ diff (a + c) (a + suc k + d)) (λ d l. sub_diff l (suc k) ∙ diff_same _ _ _ _ (omega arith))
    (λ c l. negsuc_diff (suc (k + l)) ∙ diff_same _ _ _ _ (omega arith)) c d)
    a b

pub diff_mul : (a b c d : ℕ) → diff a b *ℤ diff c d ≡ diff (a * c + b * d) (a * d + b * c)
diff_mul a b c d = cases (λ a b x. x *ℤ diff c d ≡ diff (a * c + b * d) (a * d + b * c))
    (λ b k. cases (λ c d y. pos k *ℤ y ≡ diff ((b + k) * c + b * d) ((b + k) * d + b * c)) (λ d l. pos_diff (k * l) ∙ diff_same _ _ _ _ (omega arith))
    (λ c l. neg_pos (k * suc l) ∙ diff_same _ _ _ _ (omega arith)) c d)
    (λ a k. cases (λ c d y. negsuc k *ℤ y ≡ diff (a * c + (a + suc k) * d) (a * d + (a + suc k) * c))
    (λ d l. neg_pos (suc k * l) ∙ diff_same _ _ _ _ (omega arith)) (λ c l. pos_diff (suc k * suc l) ∙ diff_same _ _ _ _ (omega arith)) c d)
    a b

pub diff_abs : (a b : ℕ) → nat_abs (diff a b) ≡ (a - b) + (b - a)
diff_abs = cases (λ a b z. nat_abs z ≡ (a - b) + (b - a)) (λ b k. omega arith) (λ a k. omega arith)

pub diff_le : (a b c d : ℕ) → (diff a b ≤ℤ diff c d) ↔ (a + d ≤ c + b)
diff_le a b c d = cases (λ a b x. (x ≤ℤ diff c d) ↔ (a + d ≤ c + b))
    (λ b k. cases (λ c d y. (pos k ≤ℤ y) ↔ (b + k + d ≤ c + b))
    (λ d l. ((λ h. let e = leb→le k l h.le in omega arith), (λ h. record { le = le→leb k l (omega arith) })))
    (λ c l. ((λ h. absurd h.le), (λ h. absurd (omega arith)))) c d)
    (λ a k. cases (λ c d y. (negsuc k ≤ℤ y) ↔ (a + d ≤ c + (a + suc k)))
    (λ d l. ((λ h. omega arith), (λ h. record { le = tt })))
    (λ c l. ((λ h. let e = leb→le l k h.le in omega arith), (λ h. record { le = le→leb l k (omega arith) }))) c d)
    a b

pub diff_lt : (a b c d : ℕ) → (diff a b <ℤ diff c d) ↔ (a + d < c + b)
diff_lt a b c d = cases (λ a b x. (x <ℤ diff c d) ↔ (a + d < c + b))
    (λ b k. cases (λ c d y. (pos k <ℤ y) ↔ (b + k + d < c + b))
    (λ d l. ((λ h. let e = ltb→lt k l h.lt in omega arith), (λ h. record { lt = lt→ltb k l (omega arith) })))
    (λ c l. ((λ h. absurd h.lt), (λ h. absurd (omega arith)))) c d)
    (λ a k. cases (λ c d y. (negsuc k <ℤ y) ↔ (a + d < c + (a + suc k)))
    (λ d l. ((λ h. omega arith), (λ h. record { lt = tt })))
    (λ c l. ((λ h. let e = ltb→lt l k h.lt in omega arith), (λ h. record { lt = lt→ltb l k (omega arith) }))) c d)
    a b

pub diff_eq : (a b c d : ℕ) → (diff a b ≡ diff c d) ↔ (a + d ≡ c + b)
diff_eq a b c d = (
  (λ h. let p = (diff_le a b c d).0 (subst (λ (z : ℤ). diff a b ≤ℤ z) h ((diff_le a b a b).1 (omega arith))) in
      let q = (diff_le c d a b).0 (subst (λ (z : ℤ). z ≤ℤ diff a b) h ((diff_le a b a b).1 (omega arith))) in omega arith),
  diff_same a b c d,
)

-- a bound of an absolute value is two orders, which split no case
pub diff_abs_le : (a b n : ℕ) → (nat_abs (diff a b) ≤ n) ↔ ((a ≤ b + n) × (b ≤ a + n))
diff_abs_le a b n = ((λ h. let e = diff_abs a b in omega arith), (λ h. let e = diff_abs a b in omega arith))

-- what the two rulesets share: the operations, the orders, equations and literals
pub ruleset plain = (diff_add, diff_mul, diff-negℤ, diff_le, diff_lt, diff_eq, neg_pos, pos_diff, negsuc_diff)

pub ruleset lin = (plain, diff_abs_le)

pub ruleset sizes = (plain, diff_abs)
