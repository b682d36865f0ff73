-- The exact sum as its argument and its denominator change: over a common denominator, R·|Σ at a −
-- Σ at b| ≤ weight·R^n·|a − b|, and at the two ends of a granule, where it is the plain and the
-- alternating sum. Each goes by the terms from c_k on, with n for the last place. Assumes nothing.
use mathlib.Core.Path.{◌≡◌, sym, ◌∙◌}
use mathlib.Core.Bool.{true}
use mathlib.Core.List.{List, [], ◌∷◌}
use Prim.Native.Nat.{ℕ, suc, ◌+◌, ◌*◌, ◌^◌, ◌≤◌, zero-le}
use native.Mathlib.Nat.{mul-le-mul_left, le_refl}
use native.Mathlib.Omega.{arith}
use lib.Pow.{pow-add}
use lib.ListN.{length}
use lib.IntN.{ℤ, pos, ◌+ℤ◌, ◌-ℤ◌, ◌*ℤ◌, neg_ℤ, nat_abs, *ℤ-zero}
use Rattle.numbers.specs.Chebyshev.{E}
use Rattle.numbers.proofs.Ring.{one-*}
use Rattle.numbers.proofs.Order.{size-*, size-+}
use Rattle.numbers.proofs.Solver.{ring, quote, q_con, all₂, all₄, all₅, all₆}
use Rattle.numbers.proofs.Chebyshev.{pow_mul, E_bound, E_scale, E_end, E_start, sign, sign_zero, sign_suc}
use Rattle.numbers.proofs.Slope.{E_moves}
use Rattle.granule.specs.Rule.{exact_from, exact_sum}
use Rattle.granule.specs.Tests.{largest, is_small, weight_from, plain_sum, alternating_sum}
use Rattle.granule.proofs.Clauses.{exact_nil, exact_cons, exact_is, weight_cons, plain_nil, plain_cons, alternating_nil, alternating_cons}
use Rattle.granule.proofs.Passing.{small_cons}

-- ---- another denominator: G^n times
term_id : (c w x y e s : ℤ) → c *ℤ (w *ℤ x) *ℤ (y *ℤ e) +ℤ x *ℤ y *ℤ s ≡ x *ℤ y *ℤ (c *ℤ w *ℤ e +ℤ s)
term_id = all₆ _ (λ ρ. simp quote (ring ρ _ _ tt))

pub sum_scale : (p : ℤ) (H G k : ℕ) (cs : List ℤ) (n : ℕ) → n + 1 ≡ k + length cs
    → exact_from (p *ℤ pos G) (H * G) k cs ≡ pos (G ^ n) *ℤ exact_from p H k cs
sum_scale p H G k [] n e = rw (exact_nil (p *ℤ pos G) (H * G) k, exact_nil p H k) (sym (*ℤ-zero (pos (G ^ n))))
sum_scale p H G k (c ∷ cs) n e =
    let m = length cs in
    let f : n ≡ m + k = omega arith in
    let ih = sum_scale p H G (suc k) cs n (omega arith) in
    rw (exact_cons (p *ℤ pos G) (H * G) k c cs, exact_cons p H k c cs, ih, f, pow-add G m k, E_scale p H G k, pow_mul H G m)
    (term_id c (pos (H ^ m)) (pos (G ^ m)) (pos (G ^ k)) (E p (pos H) k) (exact_from p H (suc k) cs))

-- ---- another argument
apart_id : (c w x y s t : ℤ) → c *ℤ w *ℤ x +ℤ s -ℤ (c *ℤ w *ℤ y +ℤ t) ≡ c *ℤ w *ℤ (x -ℤ y) +ℤ (s -ℤ t)
apart_id = all₆ _ (λ ρ. simp quote (ring ρ _ _ tt))

bound : (R k c x y z W d P K : ℕ) → z ≤ c * P * x + y → R * x ≤ k * k * K * d → R * y ≤ W * (P * K) * d
    → R * z ≤ (k * k * c + W) * (P * K) * d
bound R k c x y z W d P K hz hx hy = omega (arith, mul-le-mul_left R hz, mul-le-mul_left (c * P) hx)

module _ (a b : ℤ) (R : ℕ) (ha : nat_abs a ≤ R) (hb : nat_abs b ≤ R) where
  pub sum_moves : (k : ℕ) (cs : List ℤ) (n : ℕ) → n + 1 ≡ k + length cs
      → R * nat_abs (exact_from a R k cs -ℤ exact_from b R k cs) ≤ weight_from k cs * R ^ n * nat_abs (a -ℤ b)
  sum_moves k [] n e = rw (exact_nil a R k, exact_nil b R k) (omega arith)
  sum_moves k (c ∷ cs) n e =
      let m = length cs in
      let f : n ≡ m + k = omega arith in
      let ih = rw (f, pow-add R m k) at (sum_moves (suc k) cs n (omega arith)) in
      let x = E a (pos R) k -ℤ E b (pos R) k in
      let y = exact_from a R (suc k) cs -ℤ exact_from b R (suc k) cs in
      let cw = size-* c (pos (R ^ m)) (le_refl (nat_abs c)) (le_refl (R ^ m)) in
      let cwx = size-* (c *ℤ pos (R ^ m)) x cw (le_refl (nat_abs x)) in
      let z : nat_abs (c *ℤ pos (R ^ m) *ℤ x +ℤ y) ≤ nat_abs c * R ^ m * nat_abs x + nat_abs y =
      size-+ (c *ℤ pos (R ^ m) *ℤ x) y cwx (le_refl (nat_abs y)) in
      rw (
        exact_cons a R k c cs,
        exact_cons b R k c cs,
        weight_cons k c cs,
        f,
        pow-add R m k,
        apart_id c (pos (R ^ m)) (E a (pos R) k) (E b (pos R) k) (exact_from a R (suc k) cs) (exact_from b R (suc k) cs),
      )
      (bound R k (nat_abs c) (nat_abs x) (nat_abs y) _ (weight_from (suc k) cs) (nat_abs (a -ℤ b)) (R ^ m) (R ^ k) z (E_moves a b R ha hb k) ih)

-- ---- its size: every E_k is at most R^k, and every coefficient that passes test 14 at most 2^40
module _ (p : ℤ) (R : ℕ) (h : nat_abs p ≤ R) where
  pub sum_small : (k : ℕ) (cs : List ℤ) (n : ℕ) → n + 1 ≡ k + length cs → is_small cs ≡ true
      → nat_abs (exact_from p R k cs) ≤ length cs * largest * R ^ n
  sum_small k [] n e s = rw (exact_nil p R k) zero-le
  sum_small k (c ∷ cs) n e s =
      let m = length cs in
      let f : n ≡ m + k = omega arith in
      let small = small_cons c cs s in
      let ih = rw (f, pow-add R m k) at (sum_small (suc k) cs n (omega arith) small.1) in
      let cw = size-* c (pos (R ^ m)) small.0 (le_refl (R ^ m)) in
      let cwe = size-* (c *ℤ pos (R ^ m)) (E p (pos R) k) cw (E_bound p R k h) in
      rw (exact_cons p R k c cs, f, pow-add R m k)
      (omega (arith, size-+ (c *ℤ pos (R ^ m) *ℤ E p (pos R) k) (exact_from p R (suc k) cs) cwe ih))

-- ---- the two ends: s = 1, and s = −1
end_term : (c w x s : ℤ) → c *ℤ w *ℤ x +ℤ w *ℤ x *ℤ s ≡ w *ℤ x *ℤ (c +ℤ s)
end_term = all₄ _ (λ ρ. simp quote (ring ρ _ _ tt))

sum_end : (H k : ℕ) (cs : List ℤ) (n : ℕ) → n + 1 ≡ k + length cs
    → exact_from (pos H) H k cs ≡ pos (H ^ n) *ℤ plain_sum cs
sum_end H k [] n e = rw (exact_nil (pos H) H k, plain_nil) (sym (*ℤ-zero (pos (H ^ n))))
sum_end H k (c ∷ cs) n e =
    let m = length cs in
    let f : n ≡ m + k = omega arith in
    rw (exact_cons (pos H) H k c cs, plain_cons c cs, sum_end H (suc k) cs n (omega arith), f, pow-add H m k, E_end H k)
    (end_term c (pos (H ^ m)) (pos (H ^ k)) (plain_sum cs))

pub exact_end : (H : ℕ) (cs : List ℤ) (n : ℕ) → n + 1 ≡ length cs → exact_sum (pos H) H cs ≡ pos (H ^ n) *ℤ plain_sum cs
exact_end H cs n e = exact_is (pos H) H cs ∙ sum_end H 0 cs n (omega arith)

start_term : (c w x s g : ℤ) → c *ℤ w *ℤ (g *ℤ x) +ℤ neg_ℤ g *ℤ (w *ℤ x *ℤ s) ≡ g *ℤ (w *ℤ x *ℤ (c -ℤ s))
start_term = all₅ _ (λ ρ. simp quote (ring ρ _ _ tt))

zeroes : (g w : ℤ) → pos 0 ≡ g *ℤ (w *ℤ pos 0)
zeroes = all₂ _ (λ ρ. simp (quote, q_con ρ) (ring ρ _ _ tt))

sum_start : (H k : ℕ) (cs : List ℤ) (n : ℕ) → n + 1 ≡ k + length cs
    → exact_from (neg_ℤ (pos H)) H k cs ≡ sign k *ℤ (pos (H ^ n) *ℤ alternating_sum cs)
sum_start H k [] n e = rw (exact_nil (neg_ℤ (pos H)) H k, alternating_nil) (zeroes (sign k) (pos (H ^ n)))
sum_start H k (c ∷ cs) n e =
    let m = length cs in
    let f : n ≡ m + k = omega arith in
    rw (exact_cons (neg_ℤ (pos H)) H k c cs, alternating_cons c cs, sum_start H (suc k) cs n (omega arith), f, pow-add H m k, E_start H k, sign_suc k)
    (start_term c (pos (H ^ m)) (pos (H ^ k)) (alternating_sum cs) (sign k))

pub exact_start : (H : ℕ) (cs : List ℤ) (n : ℕ) → n + 1 ≡ length cs
    → exact_sum (neg_ℤ (pos H)) H cs ≡ pos (H ^ n) *ℤ alternating_sum cs
exact_start H cs n e = exact_is (neg_ℤ (pos H)) H cs ∙ sum_start H 0 cs n (omega arith) ∙ rw sign_zero (one-* (pos (H ^ n) *ℤ alternating_sum cs))
