-- The fixed-point recurrence is the exact Clenshaw sum at u / 2^30, up to half a unit for each
-- rounding. Assumes nothing.
use mathlib.Core.Path.{◌≡◌}
use mathlib.Core.List.{List, [], ◌∷◌}
use Prim.Native.Nat.{ℕ, suc, ◌+◌, ◌*◌, ◌^◌, ◌≤◌}
use native.Mathlib.Nat.{pow-succ', pow-zero, le_refl}
use native.Mathlib.Omega.{arith}
use lib.Dec.{lit<}
use lib.Pow.{pow-add}
use lib.ListN.{length}
use lib.IntN.{ℤ, pos, ◌+ℤ◌, ◌-ℤ◌, ◌*ℤ◌, nat_abs, *ℤ-zero}
use Rattle.numbers.specs.Rounding.{floor_div, nearest}
use Rattle.numbers.specs.Chebyshev.{E}
use Rattle.numbers.proofs.Order.{size-*, size-+}
use Rattle.numbers.proofs.Rounding.{within_half}
use Rattle.numbers.proofs.Solver.{ring, quote, q_con, all₁, all₄, all₈, all₉}
use Rattle.numbers.proofs.Chebyshev.{E_zero, E_one, E_rec, E_bound}
use Rattle.granule.specs.Rule.{scale, exact_from, exact_sum, b_from, v_of}
use Rattle.granule.proofs.Clauses.{exact_nil, exact_cons, exact_is, b_now, b_was, v_cons}

-- ---- one term, over variables: w for Q^m, e1 and e0 for E_(k+1) and E_k, b1 and b2 for the two b
-- before, s for the sum of the later terms (the coefficient itself drops out)
drop_c : (w w'' c r b1 b2 e1 e0 s : ℤ)
    → w *ℤ (c +ℤ r -ℤ b2) *ℤ e1 -ℤ w'' *ℤ b1 *ℤ e0 -ℤ (c *ℤ w *ℤ e1 +ℤ s) ≡ w *ℤ (r -ℤ b2) *ℤ e1 -ℤ w'' *ℤ b1 *ℤ e0 -ℤ s
drop_c = all₉ _ (λ ρ. simp quote (ring ρ _ _ tt))

step_id : (q w u r b1 b2 e1 e0 s : ℤ) → pos 2 *ℤ (q *ℤ w *ℤ (r -ℤ b2) *ℤ e1 -ℤ q *ℤ (q *ℤ w) *ℤ b1 *ℤ e0 -ℤ s)
    ≡ w *ℤ e1 *ℤ (pos 2 *ℤ (q *ℤ r -ℤ pos 2 *ℤ (u *ℤ b1)))
    +ℤ pos 2 *ℤ (w *ℤ b1 *ℤ (pos 2 *ℤ u *ℤ e1 -ℤ q *ℤ q *ℤ e0) -ℤ q *ℤ w *ℤ b2 *ℤ e1 -ℤ s)
step_id = all₉ _ (λ ρ. simp (quote, q_con ρ) (ring ρ _ _ tt))

step : (Q w f m : ℕ) (u r c b1 b2 e1 e0 s : ℤ) → nat_abs e1 ≤ f
    → nat_abs (pos 2 *ℤ (pos Q *ℤ r -ℤ pos 2 *ℤ (u *ℤ b1))) ≤ Q
    → nat_abs (pos 2 *ℤ (pos w *ℤ b1 *ℤ (pos 2 *ℤ u *ℤ e1 -ℤ pos Q *ℤ pos Q *ℤ e0) -ℤ pos (Q * w) *ℤ b2 *ℤ e1 -ℤ s)) ≤ m
    → nat_abs
    (pos 2 *ℤ (pos (Q * w) *ℤ (c +ℤ r -ℤ b2) *ℤ e1 -ℤ pos (Q * (Q * w)) *ℤ b1 *ℤ e0 -ℤ (c *ℤ pos (Q * w) *ℤ e1 +ℤ s)))
    ≤ w * f * Q + m
step Q w f m u r c b1 b2 e1 e0 s he hr hm =
    let x = pos 2 *ℤ (pos Q *ℤ r -ℤ pos 2 *ℤ (u *ℤ b1)) in
    let y = pos 2 *ℤ (pos w *ℤ b1 *ℤ (pos 2 *ℤ u *ℤ e1 -ℤ pos Q *ℤ pos Q *ℤ e0) -ℤ pos (Q * w) *ℤ b2 *ℤ e1 -ℤ s) in
    rw (drop_c (pos (Q * w)) (pos (Q * (Q * w))) c r b1 b2 e1 e0 s, step_id (pos Q) (pos w) u r b1 b2 e1 e0 s)
    (size-+ (pos w *ℤ e1 *ℤ x) y (size-* (pos w *ℤ e1) x (size-* (pos w) e1 (le_refl w) he) hr) hm)

-- what the rounding of u·b / 2^29 leaves, times Q = 2^30
twice_id : (r u b h : ℤ) → pos 2 *ℤ (pos 2 *ℤ h *ℤ r -ℤ pos 2 *ℤ (u *ℤ b)) ≡ pos 2 *ℤ (pos 2 *ℤ (h *ℤ r -ℤ u *ℤ b))
twice_id = all₄ _ (λ ρ. simp (quote, q_con ρ) (ring ρ _ _ tt))

rounded : (u b : ℤ) → nat_abs (pos 2 *ℤ (pos (2 ^ 30) *ℤ nearest (u *ℤ b) (2 ^ 29) -ℤ pos 2 *ℤ (u *ℤ b))) ≤ 2 ^ 30
rounded u b = rw (twice_id (nearest (u *ℤ b) (2 ^ 29)) u b (pos (2 ^ 29)))
    (size-* (pos 2) (pos 2 *ℤ (pos (2 ^ 29) *ℤ nearest (u *ℤ b) (2 ^ 29) -ℤ u *ℤ b)) (le_refl 2) (within_half (u *ℤ b) (2 ^ 29) (lit< tt)))

-- ---- Q^m·b_(k+1)·E_(k+1) − Q^(m+1)·b_(k+2)·E_k is the sum of the terms from k + 1 on, but for
-- m/2·Q^(k+1+m)
abbrev pub Q : ℕ
Q = scale

nearest_zero : (u : ℤ) → nearest (u *ℤ pos 0) (2 ^ 29) ≡ pos 0
unfolding nearest floor_div
nearest_zero u = rw (*ℤ-zero u)

one_id : (c e1 e0 q : ℤ)
    → pos 2 *ℤ (pos 1 *ℤ (c +ℤ pos 0 -ℤ pos 0) *ℤ e1 -ℤ q *ℤ pos 0 *ℤ e0 -ℤ (c *ℤ pos 1 *ℤ e1 +ℤ pos 0)) ≡ pos 0
one_id = all₄ _ (λ ρ. simp (quote, q_con ρ) (ring ρ _ _ tt))

abbrev rest : ℤ → ℕ → ℤ → List ℤ → ℤ
rest u k c cs =
    pos (Q ^ length cs) *ℤ (b_from u (c ∷ cs)).0 *ℤ E u (pos Q) (suc k)
    -ℤ pos (Q ^ suc (length cs)) *ℤ (b_from u (c ∷ cs)).1 *ℤ E u (pos Q) k
    -ℤ exact_from u Q (suc k) (c ∷ cs)

clenshaw₀ : (u : ℤ) (k : ℕ) (c : ℤ) → nat_abs (pos 2 *ℤ rest u k c []) ≤ 0 * Q ^ (suc k + 0)
unfolding b_from exact_from
clenshaw₀ u k c = rw (nearest_zero u, pow-zero Q, one_id c (E u (pos Q) (suc k)) (E u (pos Q) k) (pos (Q ^ 1))) (omega arith)

-- Q^m·Q^k·Q + m·Q^(k+1+m) is (m + 1)·Q^(k+m+1)
total : (q k m : ℕ) → q ^ m * q ^ k * q + m * q ^ (suc k + m) ≡ suc m * q ^ (k + suc m)
total q k m =
    let e : suc k + m ≡ m + suc k = omega arith in
    let f : k + suc m ≡ m + suc k = omega arith in
    rw (e, f, pow-add q m (suc k), pow-succ' q k) (omega arith)

clenshaw : (u : ℤ) → nat_abs u ≤ Q → (k : ℕ) (c : ℤ) (cs : List ℤ)
    → nat_abs (pos 2 *ℤ rest u k c cs) ≤ length cs * Q ^ (suc k + length cs)
clenshaw u hu k c [] = clenshaw₀ u k c
clenshaw u hu k c (d ∷ ds) =
    let b = b_from u (d ∷ ds) in
    let ih = rw (E_rec u (pos Q) k, pow-succ' Q (length ds)) at (clenshaw u hu (suc k) d ds) in
    rw (
      b_now u c (d ∷ ds),
      b_was u c (d ∷ ds),
      exact_cons u Q (suc k) c (d ∷ ds),
      ← total Q (suc k) (length ds),
      pow-succ' Q (suc (length ds)),
      pow-succ' Q (length ds),
    )
    (step Q (Q ^ length ds) (Q ^ suc k) _ u (nearest (u *ℤ b.0) (2 ^ 29)) c b.0 b.1 (E u (pos Q) (suc k)) (E u (pos Q) k)
    (exact_from u Q (suc (suc k)) (d ∷ ds)) (E_bound u Q (suc k) hu) (rounded u b.0) ih)

-- ---- the value
v_one : (u c : ℤ) → v_of u (c ∷ []) ≡ c +ℤ pos 0 -ℤ pos 0
unfolding b_from nearest floor_div
v_one u c = rw (v_cons u c [], *ℤ-zero u)

one_value : (c : ℤ) → pos 2 *ℤ ((c +ℤ pos 0 -ℤ pos 0) *ℤ pos 1 -ℤ (c *ℤ pos 1 *ℤ pos 1 +ℤ pos 0)) ≡ pos 0
one_value = all₁ _ (λ ρ. simp (quote, q_con ρ) (ring ρ _ _ tt))

value_id : (q w u r c b1 b2 s : ℤ) → pos 2 *ℤ ((c +ℤ r -ℤ b2) *ℤ (q *ℤ w) -ℤ (c *ℤ (q *ℤ w) *ℤ pos 1 +ℤ s))
    ≡ w *ℤ (pos 2 *ℤ (q *ℤ r -ℤ u *ℤ b1)) +ℤ pos 2 *ℤ (w *ℤ b1 *ℤ u -ℤ q *ℤ w *ℤ b2 *ℤ pos 1 -ℤ s)
value_id = all₈ _ (λ ρ. simp (quote, q_con ρ) (ring ρ _ _ tt))

value_total : (q m : ℕ) → q ^ m * q + m * q ^ (1 + m) ≡ suc m * q ^ suc m
value_total q m = let e : 1 + m ≡ suc m = omega arith in rw (e, pow-succ' q m) (omega arith)

-- v is the exact sum at u / 2^30, but for n/2 units; times Q^n
pub v_near : (u : ℤ) → nat_abs u ≤ Q → (c : ℤ) (cs : List ℤ)
    → nat_abs (pos 2 *ℤ (v_of u (c ∷ cs) *ℤ pos (Q ^ length cs) -ℤ exact_sum u Q (c ∷ cs))) ≤ length cs * Q ^ length cs
v_near u hu c [] = rw (v_one u c, exact_is u Q (c ∷ []), exact_cons u Q 0 c [], exact_nil u Q 1, pow-zero Q, E_zero u (pos Q), one_value c) (omega arith)
v_near u hu c (d ∷ ds) =
    let b = b_from u (d ∷ ds) in
    let r = nearest (u *ℤ b.0) (2 ^ 30) in
    let w = Q ^ length ds in
    let s = exact_from u Q 1 (d ∷ ds) in
    let ih = rw (E_one u (pos Q), E_zero u (pos Q), pow-succ' Q (length ds)) at (clenshaw u hu 0 d ds) in
    rw (
      v_cons u c (d ∷ ds),
      exact_is u Q (c ∷ d ∷ ds),
      exact_cons u Q 0 c (d ∷ ds),
      E_zero u (pos Q),
      ← value_total Q (length ds),
      pow-succ' Q (length ds),
      value_id (pos Q) (pos w) u r c b.0 b.1 s,
    )
    (size-+ (pos w *ℤ (pos 2 *ℤ (pos Q *ℤ r -ℤ u *ℤ b.0))) (pos 2 *ℤ (pos w *ℤ b.0 *ℤ u -ℤ pos (Q * w) *ℤ b.1 *ℤ pos 1 -ℤ s))
    (size-* (pos w) (pos 2 *ℤ (pos Q *ℤ r -ℤ u *ℤ b.0)) (le_refl w) (within_half (u *ℤ b.0) (2 ^ 30) (lit< tt))) ih)
