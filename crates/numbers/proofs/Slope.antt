-- How far E moves when p does: |E_k(p) − E_k(q)| ≤ k²·H^(k−1)·|p − q| for |p|, |q| ≤ H. The
-- quotient Q_k of the difference by p − q is carried along with a companion A_k, whose Pell form
-- grows by at most 2·H^k a step. Assumes nothing.
use mathlib.Core.Path.{◌≡◌, sym, ap, subst}
use Prim.Native.Nat.{ℕ, zero, suc, ◌+◌, ◌*◌, ◌-◌, ◌^◌, ◌≤◌}
use native.Mathlib.Omega.{arith}
use native.Mathlib.Nat.{mul-le-mul, mul-le-mul_left, mul-le-mul_right, pow-succ', pow-zero}
use lib.IntN.{ℤ, pos, ◌+ℤ◌, ◌-ℤ◌, ◌*ℤ◌, nat_abs}
use lib.Signed.{◌≤ℤ◌}
use Rattle.numbers.proofs.Order.{abs-+, abs-*, sq→abs, drop_r, ≤abs, le_pos, +-mono, *-mono}
use Rattle.numbers.proofs.Solver.{ring, quote, q_con, all₁, all₂, all₃, all₇}
use Rattle.numbers.specs.Chebyshev.{E}
use Rattle.numbers.proofs.Chebyshev.{E_zero, E_rec, D, N, D_part, pell_step, pell_first, E_bound}

-- a vector of length at most m, moved by 2x in one coordinate
grow_id : (x y g : ℤ)
    → (x *ℤ x +ℤ g) +ℤ (pos 4 *ℤ (x *ℤ y) +ℤ pos 4 *ℤ (y *ℤ y)) ≡ (x +ℤ pos 2 *ℤ y) *ℤ (x +ℤ pos 2 *ℤ y) +ℤ g
grow_id = all₃ _ (λ ρ. simp (quote, q_con ρ) (ring ρ _ _ tt))

grow : (x y g : ℤ) (m e : ℕ) → (x *ℤ x +ℤ g) ≤ℤ pos (m * m) → pos 0 ≤ℤ g → nat_abs y ≤ e
    → ((x +ℤ pos 2 *ℤ y) *ℤ (x +ℤ pos 2 *ℤ y) +ℤ g) ≤ℤ pos ((m + 2 * e) * (m + 2 * e))
grow x y g m e h hg hy =
    let hx = sq→abs x m (drop_r (x *ℤ x) g (pos (m * m)) hg h) in
    let small : nat_abs (pos 4 *ℤ (x *ℤ y) +ℤ pos 4 *ℤ (y *ℤ y)) ≤ 4 * (m * e) + 4 * (e * e) =
    omega (
      arith,
      abs-+ (pos 4 *ℤ (x *ℤ y)) (pos 4 *ℤ (y *ℤ y)),
      abs-* (pos 4) (x *ℤ y),
      abs-* (pos 4) (y *ℤ y),
      abs-* x y,
      abs-* y y,
      mul-le-mul hx hy,
      mul-le-mul hy hy,
    ) in
    let same : m * m + (4 * (m * e) + 4 * (e * e)) ≡ (m + 2 * e) * (m + 2 * e) = omega arith in
    subst (λ (z : ℤ). z ≤ℤ pos ((m + 2 * e) * (m + 2 * e))) (grow_id x y g)
    (subst (λ (n : ℕ). (x *ℤ x +ℤ g +ℤ (pos 4 *ℤ (x *ℤ y) +ℤ pos 4 *ℤ (y *ℤ y))) ≤ℤ pos n) same (+-mono _ _ _ _ h (≤abs _ _ small)))

quot_step : (p q h a b f g : ℤ) → pos 2 *ℤ p *ℤ (g +ℤ (p -ℤ q) *ℤ (p *ℤ a +ℤ b)) -ℤ h *ℤ h *ℤ (f +ℤ (p -ℤ q) *ℤ a)
    ≡ (pos 2 *ℤ q *ℤ g -ℤ h *ℤ h *ℤ f) +ℤ (p -ℤ q) *ℤ (p *ℤ (p *ℤ a +ℤ b) +ℤ ((p *ℤ b -ℤ D p h *ℤ a) +ℤ pos 2 *ℤ g))
quot_step = all₇ _ (λ ρ. simp (quote, q_con ρ) (ring ρ _ _ tt))

first_now : (p q : ℤ) → pos 1 ≡ pos 1 +ℤ (p -ℤ q) *ℤ pos 0
first_now = all₂ _ (λ ρ. simp (quote, q_con ρ) (ring ρ _ _ tt))

first_next : (p q : ℤ) → p ≡ q +ℤ (p -ℤ q) *ℤ (p *ℤ pos 0 +ℤ pos 1)
first_next = all₂ _ (λ ρ. simp (quote, q_con ρ) (ring ρ _ _ tt))

first_size : (p : ℤ) → p *ℤ pos 0 +ℤ pos 1 ≡ pos 1
first_size = all₁ _ (λ ρ. simp (quote, q_con ρ) (ring ρ _ _ tt))

cancel : (x y : ℤ) → (x +ℤ y) -ℤ x ≡ y
cancel = all₂ _ (λ ρ. simp quote (ring ρ _ _ tt))

module _ (p q : ℤ) (H : ℕ) (bp : nat_abs p ≤ H) (bq : nat_abs q ≤ H) where
  -- the quotient of the differences at n, Q, and its companion A, with Q at n + 1 equal to p·Q + A
  record Quot (n : ℕ) : Type 0 where
    Q : ℤ
    A : ℤ
    now : E p (pos H) n ≡ E q (pos H) n +ℤ (p -ℤ q) *ℤ Q
    next : E p (pos H) (suc n) ≡ E q (pos H) (suc n) +ℤ (p -ℤ q) *ℤ (p *ℤ Q +ℤ A)
    energy : N p (pos H) A Q ≤ℤ pos (((2 * n + 1) * H ^ n) * ((2 * n + 1) * H ^ n))
    size : nat_abs (p *ℤ Q +ℤ A) ≤ (n + 1) * (n + 1) * H ^ n

  quot₀ : Quot zero
  unfolding E
  quot₀ = record {
    Q = pos 0;
    A = pos 1;
    now = first_now p q;
    next = first_next p q;
    energy = subst (λ (z : ℤ). z ≤ℤ pos (((2 * 0 + 1) * H ^ 0) * ((2 * 0 + 1) * H ^ 0))) (sym (pell_first p (pos H)))
        (le_pos _ _ (rw (pow-zero H) (omega arith)));
    size = rw (first_size p, pow-zero H) (omega arith);
  }

  quot_more : (n : ℕ) → Quot n → Quot (suc n)
  quot_more n s =
      let Q' = p *ℤ s.Q +ℤ s.A in
      let X = p *ℤ s.A -ℤ D p (pos H) *ℤ s.Q in
      let f = E q (pos H) (suc n) in
      let G = D p (pos H) *ℤ (Q' *ℤ Q') in
      let A' = X +ℤ pos 2 *ℤ f in
      let turned : (X *ℤ X +ℤ G) ≤ℤ pos ((H * ((2 * n + 1) * H ^ n)) * (H * ((2 * n + 1) * H ^ n))) =
      let same : H * H * (((2 * n + 1) * H ^ n) * ((2 * n + 1) * H ^ n)) ≡ (H * ((2 * n + 1) * H ^ n)) * (H * ((2 * n + 1) * H ^ n)) = omega arith in
      subst (λ (z : ℤ). z ≤ℤ pos ((H * ((2 * n + 1) * H ^ n)) * (H * ((2 * n + 1) * H ^ n)))) (sym (pell_step p (pos H) s.A s.Q))
      (subst (λ (m : ℕ). (pos (H * H) *ℤ N p (pos H) s.A s.Q) ≤ℤ pos m) same (*-mono (H * H) (N p (pos H) s.A s.Q) _ s.energy)) in
      let en : (A' *ℤ A' +ℤ G) ≤ℤ pos (((2 * suc n + 1) * H ^ suc n) * ((2 * suc n + 1) * H ^ suc n)) =
      let same : H * ((2 * n + 1) * H ^ n) + 2 * H ^ suc n ≡ (2 * suc n + 1) * H ^ suc n = omega
      (arith, pow-succ' H n, ap (λ (x : ℕ). n * x) (pow-succ' H n)) in
      subst (λ (m : ℕ). (A' *ℤ A' +ℤ G) ≤ℤ pos (m * m)) same
      (grow X f G (H * ((2 * n + 1) * H ^ n)) (H ^ suc n) turned (D_part p H Q' bp) (E_bound q H (suc n) bq)) in
      let a_small : nat_abs A' ≤ (2 * suc n + 1) * H ^ suc n = sq→abs A' _ (drop_r (A' *ℤ A') G _ (D_part p H Q' bp) en) in
      record {
        Q = Q';
        A = A';
        now = s.next;
        next = rw (E_rec p (pos H) n, E_rec q (pos H) n, s.next, s.now) (quot_step p q (pos H) s.Q s.A (E q (pos H) n) f);
        energy = en;
        size = omega (
          arith,
          abs-+ (p *ℤ Q') A',
          abs-* p Q',
          mul-le-mul bp s.size,
          a_small,
          pow-succ' H n,
          ap (λ (x : ℕ). n * x) (pow-succ' H n),
          ap (λ (x : ℕ). n * (n * x)) (pow-succ' H n),
        );
      }

  quot : (n : ℕ) → Quot n
  quot zero = quot₀
  quot (suc n) = quot_more n (quot n)

  lipschitz : (n : ℕ)
      → nat_abs (E p (pos H) (suc n) -ℤ E q (pos H) (suc n)) ≤ suc n * suc n * H ^ n * nat_abs (p -ℤ q)
  lipschitz n = let s = quot n in let z = p *ℤ s.Q +ℤ s.A in
      rw (s.next, cancel (E q (pos H) (suc n)) ((p -ℤ q) *ℤ z))
      (omega (arith, abs-* (p -ℤ q) z, mul-le-mul_right (nat_abs (p -ℤ q)) s.size))

-- the same at every k, 0 too
pub lipschitz_at : (p q : ℤ) (H : ℕ) → nat_abs p ≤ H → nat_abs q ≤ H → (k : ℕ)
    → nat_abs (E p (pos H) k -ℤ E q (pos H) k) ≤ k * k * H ^ (k - 1) * nat_abs (p -ℤ q)
lipschitz_at p q H bp bq zero = rw (E_zero p (pos H), E_zero q (pos H)) (omega arith)
lipschitz_at p q H bp bq (suc n) = let e : suc n - 1 ≡ n = omega arith in rw e (lipschitz p q H bp bq n)

-- how far E moves, times the radius, so that no power goes down by one
pub E_moves : (a b : ℤ) (R : ℕ) → nat_abs a ≤ R → nat_abs b ≤ R → (k : ℕ)
    → R * nat_abs (E a (pos R) k -ℤ E b (pos R) k) ≤ k * k * R ^ k * nat_abs (a -ℤ b)
E_moves a b R ha hb zero = rw (E_zero a (pos R), E_zero b (pos R)) (omega arith)
E_moves a b R ha hb (suc k) = omega (arith, mul-le-mul_left R (lipschitz a b R ha hb k), ap (λ (x : ℕ). suc k * suc k * x * nat_abs (a -ℤ b)) (pow-succ' R k))
