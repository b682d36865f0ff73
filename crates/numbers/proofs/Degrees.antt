-- Repeated differences of a function of the place, and degrees by them: the m-th difference of a
-- function that is 0 at m + 1 places in a row is 0; a factor that rises by 2 a place raises the
-- degree by one; and E_k, where its p rises so, has degree k. Assumes nothing.
use mathlib.Core.Path.{◌≡◌, refl, sym, ◌∙◌, ap}
use Prim.Native.Nat.{ℕ, zero, suc, ◌+◌, ◌*◌, ◌≤◌, ◌<◌}
use native.Mathlib.Nat.{mul-pos}
use native.Mathlib.Omega.{arith}
use lib.IntN.{ℤ, pos, ◌+ℤ◌, ◌-ℤ◌, ◌*ℤ◌, neg_ℤ}
use Rattle.numbers.specs.Chebyshev.{E}
use Rattle.numbers.proofs.Differences.{rep, lin}
use Rattle.numbers.proofs.Solver.{ring, quote, q_con, all₁, all₂, all₃, all₄, all₅, all₆}
use Rattle.numbers.proofs.Chebyshev.{E_zero, E_one, E_rec}

-- ---- the m-th difference, at a place
unfoldable pub difference : ℕ → (ℕ → ℤ) → ℕ → ℤ
difference zero f i = f i
difference (suc m) f i = difference m f (suc i) -ℤ difference m f i

none : (f : ℕ → ℤ) (i : ℕ) → difference 0 f i ≡ f i
unfolding difference
none f i = refl

more : (m : ℕ) (f : ℕ → ℤ) (i : ℕ) → difference (suc m) f i ≡ difference m f (suc i) -ℤ difference m f i
unfolding difference
more m f i = refl

pub difference_same : (m : ℕ) (f g : ℕ → ℤ) → ((j : ℕ) → f j ≡ g j) → (i : ℕ)
    → difference m f i ≡ difference m g i
difference_same zero f g e i = none f i ∙ e i ∙ sym (none g i)
difference_same (suc m) f g e i =
    rw (more m f i, more m g i, difference_same m f g e (suc i), difference_same m f g e i)

line_id : (a b x y z w : ℤ) → a *ℤ x +ℤ b *ℤ y -ℤ (a *ℤ z +ℤ b *ℤ w) ≡ a *ℤ (x -ℤ z) +ℤ b *ℤ (y -ℤ w)
line_id = all₆ _ (λ ρ. simp quote (ring ρ _ _ tt))

pub difference_line : (m : ℕ) (a b : ℤ) (f g : ℕ → ℤ) (i : ℕ)
    → difference m (λ j. a *ℤ f j +ℤ b *ℤ g j) i ≡ a *ℤ difference m f i +ℤ b *ℤ difference m g i
difference_line zero a b f g i = rw (none f i, none g i) (none (λ j. a *ℤ f j +ℤ b *ℤ g j) i)
difference_line (suc m) a b f g i =
    rw (more m (λ j. a *ℤ f j +ℤ b *ℤ g j) i, more m f i, more m g i, difference_line m a b f g (suc i), difference_line m a b f g i)
    (line_id a b (difference m f (suc i)) (difference m g (suc i)) (difference m f i) (difference m g i))

-- a function that is 0 at every place up to i + m
pub difference_none : (m : ℕ) (f : ℕ → ℤ) (i : ℕ) → ((j : ℕ) → j ≤ i + m → f j ≡ pos 0)
    → difference m f i ≡ pos 0
difference_none zero f i z = none f i ∙ z i (omega arith)
difference_none (suc m) f i z =
    rw (more m f i, difference_none m f (suc i) (λ j h. z j (omega arith)), difference_none m f i (λ j h. z j (omega arith)))

-- ---- degree k: the k-th difference is t at every place, and each later one is 0
pub record Degree (f : ℕ → ℤ) (k : ℕ) (t : ℤ) : Type 0 where
  pub top : (i : ℕ) → difference k f i ≡ t
  pub above : (m : ℕ) → k < m → (i : ℕ) → difference m f i ≡ pos 0

-- ---- what becomes of a degree
zeroes : (x y : ℤ) → x *ℤ pos 0 +ℤ y *ℤ pos 0 ≡ pos 0
zeroes = all₂ _ (λ ρ. simp (quote, q_con ρ) (ring ρ _ _ tt))

second : (x y : ℤ) → x *ℤ pos 0 +ℤ y ≡ y
second = all₂ _ (λ ρ. simp (quote, q_con ρ) (ring ρ _ _ tt))

first : (x y : ℤ) → x +ℤ y *ℤ pos 0 ≡ x
first = all₂ _ (λ ρ. simp (quote, q_con ρ) (ring ρ _ _ tt))

-- a summand of a lower degree changes neither it nor the top
degree_line : (a b : ℤ) (f g : ℕ → ℤ) (k l : ℕ) (t s : ℤ) → l < k → Degree f k t → Degree g l s
    → Degree (λ j. a *ℤ f j +ℤ b *ℤ g j) k (a *ℤ t)
degree_line a b f g k l t s h d c =
    record {
      top = λ i. rw (difference_line k a b f g i, d.top i, c.above k h i) (first (a *ℤ t) b);
      above = λ m u i. rw (difference_line m a b f g i, d.above m u i, c.above m (omega arith) i) (zeroes a b);
    }

degree_same : (f g : ℕ → ℤ) (k : ℕ) (t s : ℤ) → ((j : ℕ) → g j ≡ f j) → t ≡ s → Degree f k t → Degree g k s
degree_same f g k t s e u d =
    record {
      top = λ i. difference_same k g f e i ∙ d.top i ∙ u;
      above = λ m h i. difference_same m g f e i ∙ d.above m h i;
    }

steady : (m : ℕ) (c : ℤ) (i : ℕ) → difference (suc m) (λ j. c) i ≡ pos 0
steady zero c i = rw (more 0 (λ j. c) i, none (λ j. c) i, none (λ j. c) (suc i)) (itself c)
  where
    itself : (c : ℤ) → c -ℤ c ≡ pos 0
    itself = rep _ (λ a b. simp lin (omega arith))
steady (suc m) c i = rw (more (suc m) (λ j. c) i, steady m c i, steady m c (suc i))

degree_constant : (c : ℤ) → Degree (λ j. c) 0 c
degree_constant c = record { top = none (λ j. c); above = above }
  where
    above : (m : ℕ) → 0 < m → (i : ℕ) → difference m (λ j. c) i ≡ pos 0
    above zero h i = let z : ⊥ = omega arith in absurd z
    above (suc m) h i = steady m c i

-- ---- a factor that rises by 2 a place
first_id : (p x y : ℤ) → (p +ℤ pos 2) *ℤ y -ℤ p *ℤ x ≡ p *ℤ (y -ℤ x) +ℤ pos 2 *ℤ y
first_id = all₃ _ (λ ρ. simp (quote, q_con ρ) (ring ρ _ _ tt))

next_id : (p w x y z : ℤ) → (p +ℤ pos 2) *ℤ (z -ℤ y) +ℤ w *ℤ z -ℤ (p *ℤ (y -ℤ x) +ℤ w *ℤ y)
    ≡ p *ℤ (z -ℤ y -ℤ (y -ℤ x)) +ℤ (w +ℤ pos 2) *ℤ (z -ℤ y)
next_id = all₅ _ (λ ρ. simp (quote, q_con ρ) (ring ρ _ _ tt))

-- the k-th difference of E_k: 1, 2, and then 4k times the one before
pub lead : ℕ → ℕ
lead zero = 1
lead (suc zero) = 2
lead (suc (suc k)) = 2 * (2 * suc (suc k)) * lead (suc k)

pub lead_above : (k : ℕ) → 0 < lead k
unfolding lead
lead_above zero = omega arith
lead_above (suc zero) = omega arith
lead_above (suc (suc k)) = mul-pos {m = 2 * (2 * suc (suc k))} (omega arith) (lead_above (suc k))

zero_clause : lead 0 ≡ 1
unfolding lead
zero_clause = refl

one_clause : lead 1 ≡ 2
unfolding lead
one_clause = refl

lead_clause : (k : ℕ) → lead (suc (suc k)) ≡ 2 * (2 * suc (suc k)) * lead (suc k)
unfolding lead
lead_clause k = refl

times_one : (p : ℤ) → p ≡ p *ℤ pos 1
times_one = all₁ _ (λ ρ. simp (quote, q_con ρ) (ring ρ _ _ tt))

rec_id : (p h x y : ℤ) → pos 2 *ℤ p *ℤ x -ℤ h *ℤ h *ℤ y ≡ pos 2 *ℤ (p *ℤ x) +ℤ neg_ℤ (h *ℤ h) *ℤ y
rec_id = all₄ _ (λ ρ. simp (quote, q_con ρ) (ring ρ _ _ tt))

module _ (P : ℕ → ℤ) (rises : (i : ℕ) → P (suc i) ≡ P i +ℤ pos 2) where
  -- of the m-th difference of a product two terms are left, for P itself has degree 1
  product : (m : ℕ) (f : ℕ → ℤ) (i : ℕ)
      → difference (suc m) (λ j. P j *ℤ f j) i
      ≡ P i *ℤ difference (suc m) f i +ℤ pos (2 * suc m) *ℤ difference m f (suc i)
  product zero f i =
      rw (more 0 (λ j. P j *ℤ f j) i, more 0 f i, none (λ j. P j *ℤ f j) i, none (λ j. P j *ℤ f j) (suc i), none f i, none f (suc i), rises i)
      (first_id (P i) (f i) (f (suc i)))
  product (suc m) f i =
      let w : pos (2 * suc (suc m)) ≡ pos (2 * suc m) +ℤ pos 2 = ap pos (omega arith) in
      rw (more (suc m) (λ j. P j *ℤ f j) i, product m f (suc i), product m f i, more (suc m) f i, more m f (suc i), more m f i, rises i, w)
      (next_id (P i) (pos (2 * suc m)) (difference m f i) (difference m f (suc i)) (difference m f (suc (suc i))))

  degree_product : (f : ℕ → ℤ) (k : ℕ) (t : ℤ) → Degree f k t
      → Degree (λ j. P j *ℤ f j) (suc k) (pos (2 * suc k) *ℤ t)
  degree_product f k t d = record { top = top; above = above }
    where
      top : (i : ℕ) → difference (suc k) (λ j. P j *ℤ f j) i ≡ pos (2 * suc k) *ℤ t
      top i = rw (product k f i, d.above (suc k) (omega arith) i, d.top (suc i)) (second (P i) (pos (2 * suc k) *ℤ t))

      above : (m : ℕ) → suc k < m → (i : ℕ) → difference m (λ j. P j *ℤ f j) i ≡ pos 0
      above zero h i = let z : ⊥ = omega arith in absurd z
      above (suc m) h i =
          rw (product m f i, d.above (suc m) (omega arith) i, d.above m (omega arith) (suc i)) (zeroes (P i) (pos (2 * suc m)))

  -- ---- E_k at these places has degree k
  module _ (h : ℤ) where
    abbrev e : ℕ → ℕ → ℤ
    e k i = E (P i) h k

    e_one : (i : ℕ) → e 1 i ≡ P i *ℤ e 0 i
    e_one i = rw (E_one (P i) h, E_zero (P i) h) (times_one (P i))

    e_rec : (k i : ℕ) → e (suc (suc k)) i ≡ pos 2 *ℤ (P i *ℤ e (suc k) i) +ℤ neg_ℤ (h *ℤ h) *ℤ e k i
    e_rec k i = E_rec (P i) h k ∙ rec_id (P i) h (e (suc k) i) (e k i)

    pub degree : (k : ℕ) → Degree (λ i. E (P i) h k) k (pos (lead k))
    degree zero =
        degree_same (λ j. pos 1) (e 0) 0 (pos 1) (pos (lead 0)) (λ j. E_zero (P j) h) (ap pos (sym zero_clause)) (degree_constant (pos 1))
    degree (suc zero) =
        degree_same (λ j. P j *ℤ e 0 j) (e 1) 1 (pos (2 * 1) *ℤ pos (lead 0)) (pos (lead 1)) e_one (ap pos (rw (zero_clause, one_clause)))
        (degree_product (e 0) 0 (pos (lead 0)) (degree zero))
    degree (suc (suc k)) =
        let n = suc (suc k) in
        degree_same (λ j. pos 2 *ℤ (P j *ℤ e (suc k) j) +ℤ neg_ℤ (h *ℤ h) *ℤ e k j) (e n) n (pos 2 *ℤ (pos (2 * n) *ℤ pos (lead (suc k)))) (pos (lead n))
        (e_rec k) (ap pos (rw (lead_clause k) (omega arith)))
        (degree_line (pos 2) (neg_ℤ (h *ℤ h)) (λ j. P j *ℤ e (suc k) j) (e k) n k (pos (2 * n) *ℤ pos (lead (suc k))) (pos (lead k)) (omega arith)
        (degree_product (e (suc k)) (suc k) (pos (lead (suc k))) (degree (suc k))) (degree k))
