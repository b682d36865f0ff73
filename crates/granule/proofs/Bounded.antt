-- No b_k of coefficients within 2^40 comes near 2^60: each is at most 2^40, twice the one before
-- and once the one before that. Assumes nothing.
use mathlib.Core.Path.{◌≡◌}
use mathlib.Core.Logic.{⊎_elim}
use mathlib.Core.List.{List, [], ◌∷◌}
use Prim.Native.Nat.{ℕ, zero, suc, ◌+◌, ◌*◌, ◌^◌, ◌≤◌}
use native.Mathlib.Nat.{le_trans, le_refl, eq-or-lt_of_le, le_of_suc-le-suc}
use native.Mathlib.Omega.{arith}
use lib.Dec.{lit<, lit≤}
use lib.IntN.{ℤ, pos, ◌+ℤ◌, ◌-ℤ◌, ◌*ℤ◌, neg_ℤ, nat_abs}
use lib.ListN.{length, get_or, drop, length-drop}
use mathlib.Core.Bool.{true}
use Rattle.numbers.specs.Rounding.{nearest}
use Rattle.numbers.proofs.Order.{abs_neg, size-*, size-+}
use Rattle.numbers.proofs.Rounding.{nearest_small}
use Rattle.granule.specs.Bounds.{most_degree}
use Rattle.granule.specs.Rule.{scale, p_of, u_of, b_from, b_at}
use Rattle.granule.specs.Tests.{largest, is_small}
use Rattle.granule.specs.Asked.{Terms, Evaluable}
use Rattle.granule.proofs.Passing.{small_cons, small_drop, small_at}
use Rattle.granule.proofs.Distance.{p_small, u_small}

-- one turn
turned : (u c b₁ b₂ : ℤ) (x y : ℕ) → nat_abs u ≤ scale → nat_abs c ≤ largest → nat_abs b₁ ≤ x → nat_abs b₂ ≤ y
    → nat_abs (c +ℤ nearest (u *ℤ b₁) (2 ^ 29) -ℤ b₂) ≤ largest + 2 * x + y
turned u c b₁ b₂ x y hu hc h₁ h₂ =
    let q = nearest (u *ℤ b₁) (2 ^ 29) in
    let hq : nat_abs q ≤ 2 * x = nearest_small (u *ℤ b₁) (2 ^ 29) (2 * x) (lit< tt) (omega (arith, size-* u b₁ hu h₁)) in
    let h : nat_abs (neg_ℤ b₂) ≤ y = rw (abs_neg b₂) h₂ in
    size-+ (c +ℤ q) (neg_ℤ b₂) (size-+ c q hc hq) h

-- what m turns cannot pass, and what the one before cannot
unfoldable top : ℕ → ℕ × ℕ
top zero = (0, 0)
top (suc m) = (largest + 2 * (top m).0 + (top m).1, (top m).0)

below : (u : ℤ) → nat_abs u ≤ scale → (cs : List ℤ) → is_small cs ≡ true
    → (nat_abs (b_from u cs).0 ≤ (top (length cs)).0) × (nat_abs (b_from u cs).1 ≤ (top (length cs)).1)
unfolding b_from top
below u hu [] e = (lit≤ tt, lit≤ tt)
below u hu (c ∷ cs) e =
    let s = small_cons c cs e in
    let r = below u hu cs s.1 in
    (turned u c (b_from u cs).0 (b_from u cs).1 (top (length cs)).0 (top (length cs)).1 hu s.0 r.0 r.1, r.0)

grows : (k m : ℕ) → m ≤ k → (top m).0 ≤ (top k).0
unfolding top
grows zero m h = let e : m ≡ 0 = omega arith in rw e (lit≤ tt)
grows (suc k) m h = ⊎_elim (λ e. rw e (le_refl (top (suc k)).0)) (λ l. more (grows k m (le_of_suc-le-suc l))) (eq-or-lt_of_le h)
  where
    more : {a : ℕ} → a ≤ (top k).0 → a ≤ largest + 2 * (top k).0 + (top k).1
    more l = omega arith

last : (top most_degree).0 ≤ 2 ^ 60
unfolding top
last = lit≤ tt

b_bounded : (u : ℤ) (cs : List ℤ) (k : ℕ) → nat_abs u ≤ scale → is_small cs ≡ true → length cs ≤ most_degree + 1
    → 1 ≤ k → nat_abs (b_at u cs k) ≤ 2 ^ 60
unfolding b_at
b_bounded u cs k hu e few h =
    let l : length (drop k cs) ≤ most_degree = simp length-drop (omega arith) in
    le_trans (below u hu (drop k cs) (small_drop cs k e)).0 (le_trans (grows most_degree (length (drop k cs)) l) last)

-- ---- what b_k and v are made of, at the turn k
pub terms : (cs : List ℤ) (place H k : ℕ) → Evaluable cs place H
    → Terms (u_of (p_of place H) H) (get_or cs k (pos 0)) (b_at (u_of (p_of place H) H) cs (suc k))
    (b_at (u_of (p_of place H) H) cs (suc (suc k)))
terms cs place H k e =
    let long = e.placed.long in
    let u = u_of (p_of place H) H in
    let hu = u_small (p_of place H) H (omega arith) (p_small place H e.placed.inside) in
    let small = e.summable.small in
    let few = e.summable.few in
    record {
      factors = record { argument = hu; bounded = b_bounded u cs (suc k) hu small few (omega arith) };
      coefficient = small_at cs k small;
      bounded = b_bounded u cs (suc (suc k)) hu small few (omega arith);
    }
