-- Sizes of the scaled Chebyshev polynomials: where |p| ≤ H, |E_k| ≤ H^k. It comes from Pell's
-- equation, E_k² + (H² − p²)·W_(k−1)² = H^(2k), the whole-number form of cos² + sin² = 1. Then E
-- over another denominator, and at the two ends. Assumes nothing.
use mathlib.Core.Path.{◌≡◌, refl, ◌∙◌, ap, subst, sym}
use Prim.Native.Nat.{ℕ, zero, suc, ◌*◌, ◌^◌, ◌≤◌, ◌<◌}
use native.Mathlib.Omega.{arith}
use lib.IntN.{ℤ, pos, ◌+ℤ◌, ◌-ℤ◌, ◌*ℤ◌, nat_abs, neg_ℤ}
use lib.Signed.{◌≤ℤ◌, ≤ℤ_refl}
use native.Mathlib.Nat.{pow-succ', pow-zero, mul-pos}
use Rattle.numbers.proofs.Order.{0≤*, 0≤sq, 0≤-, abs→sq, sq→abs, drop_r}
use Rattle.numbers.specs.Chebyshev.{E, W}
use Rattle.numbers.proofs.Solver.{ring, quote, q_con, all₂, all₄, q_ncon, all₁, all₃, all₆}

-- W one place later, U_k = W_(k−1) with U_0 = 0, so that the two kinds turn together
unfoldable U : ℤ → ℤ → ℕ → ℤ
U p h zero = pos 0
U p h (suc k) = W p h k

pub E_zero : (p h : ℤ) → E p h 0 ≡ pos 1
unfolding E
E_zero p h = refl

pub E_one : (p h : ℤ) → E p h 1 ≡ p
unfolding E
E_one p h = refl

pub E_rec : (p h : ℤ) (k : ℕ) → E p h (suc (suc k)) ≡ pos 2 *ℤ p *ℤ E p h (suc k) -ℤ h *ℤ h *ℤ E p h k
unfolding E
E_rec p h k = refl

U_zero : (p h : ℤ) → pos 2 *ℤ p ≡ pos 2 *ℤ p *ℤ pos 1 -ℤ h *ℤ h *ℤ pos 0
U_zero = all₂ _ (λ ρ. simp (quote, q_con ρ) (ring ρ _ _ tt))

U_rec : (p h : ℤ) (k : ℕ) → U p h (suc (suc k)) ≡ pos 2 *ℤ p *ℤ U p h (suc k) -ℤ h *ℤ h *ℤ U p h k
unfolding U W
U_rec p h zero = U_zero p h
U_rec p h (suc k) = refl

-- H² − p², the square of H·sin
abbrev pub D : ℤ → ℤ → ℤ
D p h = h *ℤ h -ℤ p *ℤ p

-- the sum of two angles, of which the second is the first step's
e_first : (p h : ℤ) → p ≡ p *ℤ pos 1 -ℤ D p h *ℤ pos 0
e_first = all₂ _ (λ ρ. simp (quote, q_con ρ) (ring ρ _ _ tt))

u_first : (p : ℤ) → pos 1 ≡ p *ℤ pos 0 +ℤ pos 1
u_first p = all₂ (λ p h. pos 1 ≡ p *ℤ pos 0 +ℤ pos 1) (λ ρ. simp (quote, q_con ρ) (ring ρ _ _ tt)) p p

e_step : (p h e u : ℤ)
    → pos 2 *ℤ p *ℤ (p *ℤ e -ℤ D p h *ℤ u) -ℤ h *ℤ h *ℤ e ≡ p *ℤ (p *ℤ e -ℤ D p h *ℤ u) -ℤ D p h *ℤ (p *ℤ u +ℤ e)
e_step = all₄ _ (λ ρ. simp (quote, q_con ρ) (ring ρ _ _ tt))

u_step : (p h e u : ℤ) → pos 2 *ℤ p *ℤ (p *ℤ u +ℤ e) -ℤ h *ℤ h *ℤ u ≡ p *ℤ (p *ℤ u +ℤ e) +ℤ (p *ℤ e -ℤ D p h *ℤ u)
u_step = all₄ _ (λ ρ. simp (quote, q_con ρ) (ring ρ _ _ tt))

record Turn (p h : ℤ) (k : ℕ) : Type 0 where
  e : E p h (suc k) ≡ p *ℤ E p h k -ℤ D p h *ℤ U p h k
  u : U p h (suc k) ≡ p *ℤ U p h k +ℤ E p h k

turn₀ : (p h : ℤ) → Turn p h zero
unfolding E U W
turn₀ p h = record { e = e_first p h; u = u_first p }

turn : (p h : ℤ) (k : ℕ) → Turn p h k
turn p h zero = turn₀ p h
turn p h (suc k) = let t = turn p h k in record {
  e = rw (E_rec p h k, t.e, t.u) (e_step p h (E p h k) (U p h k));
  u = rw (U_rec p h k, t.e, t.u) (u_step p h (E p h k) (U p h k));
}

unfoldable pow : ℤ → ℕ → ℤ
pow x zero = pos 1
pow x (suc n) = x *ℤ pow x n

-- Pell's form
abbrev pub N : ℤ → ℤ → ℤ → ℤ → ℤ
N p h e u = e *ℤ e +ℤ D p h *ℤ (u *ℤ u)

pub pell_step : (p h e u : ℤ) → N p h (p *ℤ e -ℤ D p h *ℤ u) (p *ℤ u +ℤ e) ≡ h *ℤ h *ℤ N p h e u
pell_step = all₄ _ (λ ρ. simp quote (ring ρ _ _ tt))

pub pell_first : (p h : ℤ) → N p h (pos 1) (pos 0) ≡ pos 1
pell_first = all₂ _ (λ ρ. simp (quote, q_con ρ) (ring ρ _ _ tt))

pell : (p h : ℤ) (k : ℕ) → N p h (E p h k) (U p h k) ≡ pow (h *ℤ h) k
unfolding E U pow
pell p h zero = pell_first p h
pell p h (suc k) = let t = turn p h k in rw (t.e, t.u) (pell_step p h (E p h k) (U p h k) ∙ ap (λ n. h *ℤ h *ℤ n) (pell p h k))

-- ---- bounds, for |p| ≤ H
pow_nat : (H k : ℕ) → pow (pos H *ℤ pos H) k ≡ pos (H ^ k * H ^ k)
unfolding pow
pow_nat H zero = ap pos (rw (pow-zero H))
pow_nat H (suc k) = rw (pow_nat H k, pow-succ' H k) (ap pos (omega arith))

D_pos : (p : ℤ) (H : ℕ) → nat_abs p ≤ H → pos 0 ≤ℤ D p (pos H)
D_pos p H b = 0≤- (p *ℤ p) (pos (H * H)) (abs→sq p H b)

pub D_part : (p : ℤ) (H : ℕ) (u : ℤ) → nat_abs p ≤ H → pos 0 ≤ℤ (D p (pos H) *ℤ (u *ℤ u))
D_part p H u b = 0≤* (D p (pos H)) (u *ℤ u) (D_pos p H b) (0≤sq u)

pub E_bound : (p : ℤ) (H k : ℕ) → nat_abs p ≤ H → nat_abs (E p (pos H) k) ≤ H ^ k
E_bound p H k b = let e = E p (pos H) k in let u = U p (pos H) k in
    sq→abs e (H ^ k) (drop_r (e *ℤ e) (D p (pos H) *ℤ (u *ℤ u)) _ (D_part p H u b)
    (subst (λ (z : ℤ). N p (pos H) e u ≤ℤ z) (pell p (pos H) k ∙ pow_nat H k) (≤ℤ_refl (N p (pos H) e u))))

-- ---- powers
pub pow_above : (H n : ℕ) → 0 < H → 0 < H ^ n
pow_above H zero h = rw (pow-zero H) (omega arith)
pow_above H (suc n) h = rw (pow-succ' H n) (mul-pos h (pow_above H n h))

pub pow_mul : (a b n : ℕ) → (a * b) ^ n ≡ a ^ n * b ^ n
pow_mul a b zero = rw (pow-zero (a * b), pow-zero a, pow-zero b) (omega arith)
pow_mul a b (suc n) = rw (pow-succ' (a * b) n, pow-succ' a n, pow-succ' b n, pow_mul a b n) (omega arith)

-- ---- another denominator
scale_id : (p h g w x y : ℤ)
    → pos 2 *ℤ (p *ℤ g) *ℤ (g *ℤ w *ℤ x) -ℤ h *ℤ g *ℤ (h *ℤ g) *ℤ (w *ℤ y)
    ≡ g *ℤ (g *ℤ w) *ℤ (pos 2 *ℤ p *ℤ x -ℤ h *ℤ h *ℤ y)
scale_id = all₆ _ (λ ρ. simp (quote, q_con ρ) (ring ρ _ _ tt))

swap : (x y : ℤ) → x *ℤ y ≡ y *ℤ x
swap = all₂ _ (λ ρ. simp quote (ring ρ _ _ tt))

pub E_scale : (p : ℤ) (H G k : ℕ) → E (p *ℤ pos G) (pos (H * G)) k ≡ pos (G ^ k) *ℤ E p (pos H) k
E_scale p H G zero = rw (E_zero (p *ℤ pos G) (pos (H * G)), E_zero p (pos H), pow-zero G)
E_scale p H G (suc zero) =
    rw (E_one (p *ℤ pos G) (pos (H * G)), E_one p (pos H), pow-succ' G 0, pow-zero G) (swap p (pos G) ∙ ap (λ (n : ℕ). pos n *ℤ p) (omega arith))
E_scale p H G (suc (suc k)) =
    rw (E_rec (p *ℤ pos G) (pos (H * G)) k, E_scale p H G (suc k), E_scale p H G k, E_rec p (pos H) k, pow-succ' G (suc k), pow-succ' G k)
    (scale_id p (pos H) (pos G) (pos (G ^ k)) (E p (pos H) (suc k)) (E p (pos H) k))

-- ---- the two ends
end_id : (h w : ℤ) → pos 2 *ℤ h *ℤ (h *ℤ w) -ℤ h *ℤ h *ℤ w ≡ h *ℤ (h *ℤ w)
end_id = all₂ _ (λ ρ. simp (quote, q_con ρ) (ring ρ _ _ tt))

pub E_end : (H k : ℕ) → E (pos H) (pos H) k ≡ pos (H ^ k)
E_end H zero = E_zero (pos H) (pos H) ∙ ap pos (sym (pow-zero H))
E_end H (suc zero) = E_one (pos H) (pos H) ∙ ap pos (sym (pow-succ' H 0 ∙ rw (pow-zero H) (omega arith)))
E_end H (suc (suc k)) = rw (E_rec (pos H) (pos H) k, E_end H (suc k), E_end H k, pow-succ' H (suc k), pow-succ' H k) (end_id (pos H) (pos (H ^ k)))

-- (−1)^k
pub sign : ℕ → ℤ
sign zero = pos 1
sign (suc k) = neg_ℤ (sign k)

pub sign_zero : sign 0 ≡ pos 1
unfolding sign
sign_zero = refl

pub sign_suc : (k : ℕ) → sign (suc k) ≡ neg_ℤ (sign k)
unfolding sign
sign_suc k = refl

start_id : (h w s : ℤ)
    → pos 2 *ℤ neg_ℤ h *ℤ (neg_ℤ s *ℤ (h *ℤ w)) -ℤ h *ℤ h *ℤ (s *ℤ w) ≡ neg_ℤ (neg_ℤ s) *ℤ (h *ℤ (h *ℤ w))
start_id = all₃ _ (λ ρ. simp (quote, q_con ρ) (ring ρ _ _ tt))

start_one : (h : ℤ) → neg_ℤ h ≡ neg_ℤ (pos 1) *ℤ (h *ℤ pos 1)
start_one = all₁ _ (λ ρ. simp (quote, q_con ρ, q_ncon ρ) (ring ρ _ _ tt))

pub E_start : (H k : ℕ) → E (neg_ℤ (pos H)) (pos H) k ≡ sign k *ℤ pos (H ^ k)
E_start H zero = rw (E_zero (neg_ℤ (pos H)) (pos H), sign_zero, pow-zero H)
E_start H (suc zero) = rw (E_one (neg_ℤ (pos H)) (pos H), sign_suc 0, sign_zero, pow-succ' H 0, pow-zero H) (start_one (pos H))
E_start H (suc (suc k)) =
    rw (E_rec (neg_ℤ (pos H)) (pos H) k, E_start H (suc k), E_start H k, sign_suc (suc k), sign_suc k, pow-succ' H (suc k), pow-succ' H k)
    (start_id (pos H) (pos (H ^ k)) (sign k))
