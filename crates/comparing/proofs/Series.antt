-- The exact sum over coefficients by their places, so that zeros can be filled in and two sums of
-- different degrees subtracted. Assumes nothing.
use mathlib.Core.Path.{◌≡◌, refl, sym, ◌∙◌}
use mathlib.Core.List.{List, [], ◌∷◌}
use Prim.Native.Nat.{ℕ, zero, suc, ◌+◌, ◌^◌, ◌≤◌, ◌<◌}
use native.Mathlib.Omega.{arith}
use lib.Pow.{pow-add}
use lib.ListN.{length, get_or}
use lib.IntN.{ℤ, pos, ◌+ℤ◌, ◌-ℤ◌, ◌*ℤ◌, nat_abs, *ℤ-zero}
use Rattle.numbers.specs.Chebyshev.{E}
use Rattle.numbers.proofs.Chebyshev.{E_bound}
use Rattle.numbers.proofs.Degrees.{Degree, lead, degree}
use Rattle.numbers.proofs.Differences.{lin}
use Rattle.numbers.proofs.Solver.{ring, quote, q_con, all₂, all₅, all₆}
use Rattle.granule.specs.Rule.{p_of, exact_from, exact_at}
use Rattle.granule.proofs.Clauses.{exact_nil, exact_cons, exact_is}
use Rattle.granule.proofs.Distance.{p_small}

-- ---- E_k at the places of a granule
unfoldable pub chebyshev : ℕ → ℕ → ℕ → ℤ
chebyshev H k i = E (p_of i H) (pos H) k

pub chebyshev_bound : (H k i : ℕ) → i ≤ H → nat_abs (chebyshev H k i) ≤ H ^ k
unfolding chebyshev
chebyshev_bound H k i h = E_bound (p_of i H) H k (p_small i H h)

p_rises : (H i : ℕ) → p_of (suc i) H ≡ p_of i H +ℤ pos 2
unfolding p_of
p_rises H i = simp lin (omega arith)

pub chebyshev_degree : (H k : ℕ) → Degree (chebyshev H k) k (pos (lead k))
unfolding chebyshev
chebyshev_degree H k = degree (λ i. p_of i H) (p_rises H) (pos H) k

-- ---- n coefficients from c 0 on, which stands at E_k, at the place i
pub series : ℕ → ℕ → (ℕ → ℤ) → ℕ → ℕ → ℤ
series H k c zero i = pos 0
series H k c (suc n) i = c 0 *ℤ pos (H ^ n) *ℤ chebyshev H k i +ℤ series H (suc k) (λ j. c (suc j)) n i

pub series_nil : (H k : ℕ) (c : ℕ → ℤ) (i : ℕ) → series H k c 0 i ≡ pos 0
unfolding series
series_nil H k c i = refl

pub series_cons : (H k : ℕ) (c : ℕ → ℤ) (n i : ℕ)
    → series H k c (suc n) i ≡ c 0 *ℤ pos (H ^ n) *ℤ chebyshev H k i +ℤ series H (suc k) (λ j. c (suc j)) n i
unfolding series
series_cons H k c n i = refl

none_id : (w e : ℤ) → pos 0 *ℤ w *ℤ e +ℤ pos 0 ≡ pos 0
none_id = all₂ _ (λ ρ. simp (quote, q_con ρ) (ring ρ _ _ tt))

pub series_none : (H k : ℕ) (c : ℕ → ℤ) (n i : ℕ) → ((j : ℕ) → j < n → c j ≡ pos 0) → series H k c n i ≡ pos 0
series_none H k c zero i z = series_nil H k c i
series_none H k c (suc n) i z =
    rw (series_cons H k c n i, series_none H (suc k) (λ j. c (suc j)) n i (λ j h. z (suc j) (omega arith)), z 0 (omega arith))
    (none_id (pos (H ^ n)) (chebyshev H k i))

pub series_same : (H k : ℕ) (c d : ℕ → ℤ) (n i : ℕ) → ((j : ℕ) → c j ≡ d j) → series H k c n i ≡ series H k d n i
series_same H k c d zero i e = series_nil H k c i ∙ sym (series_nil H k d i)
series_same H k c d (suc n) i e =
    rw (series_cons H k c n i, series_cons H k d n i, e 0, series_same H (suc k) (λ j. c (suc j)) (λ j. d (suc j)) n i (λ j. e (suc j)))

minus_id : (x y w e s t : ℤ) → (x -ℤ y) *ℤ w *ℤ e +ℤ (s -ℤ t) ≡ x *ℤ w *ℤ e +ℤ s -ℤ (y *ℤ w *ℤ e +ℤ t)
minus_id = all₆ _ (λ ρ. simp quote (ring ρ _ _ tt))

pub series_minus : (H k : ℕ) (c d : ℕ → ℤ) (n i : ℕ)
    → series H k (λ j. c j -ℤ d j) n i ≡ series H k c n i -ℤ series H k d n i
series_minus H k c d zero i = rw (series_nil H k (λ j. c j -ℤ d j) i, series_nil H k c i, series_nil H k d i)
series_minus H k c d (suc n) i =
    rw (series_cons H k (λ j. c j -ℤ d j) n i, series_cons H k c n i, series_cons H k d n i, series_minus H (suc k) (λ j. c (suc j)) (λ j. d (suc j)) n i)
    (minus_id (c 0) (d 0) (pos (H ^ n)) (chebyshev H k i) (series H (suc k) (λ j. c (suc j)) n i) (series H (suc k) (λ j. d (suc j)) n i))

-- ---- with zeros filled in it is the exact sum times a power of H
filled_id : (c w x e s : ℤ) → c *ℤ (w *ℤ x) *ℤ e +ℤ x *ℤ s ≡ x *ℤ (c *ℤ w *ℤ e +ℤ s)
filled_id = all₅ _ (λ ρ. simp quote (ring ρ _ _ tt))

from_is : (H k : ℕ) (cs : List ℤ) (m i : ℕ)
    → series H k (λ j. get_or cs j (pos 0)) (length cs + m) i ≡ pos (H ^ m) *ℤ exact_from (p_of i H) H k cs
unfolding chebyshev
from_is H k [] m i =
    let e : 0 + m ≡ m = omega arith in
    rw (e, exact_nil (p_of i H) H k) (series_none H k (λ j. pos 0) m i (λ j h. refl) ∙ sym (*ℤ-zero (pos (H ^ m))))
from_is H k (c ∷ cs) m i =
    let e : suc (length cs) + m ≡ suc (length cs + m) = omega arith in
    rw (
      e,
      series_cons H k (λ j. get_or (c ∷ cs) j (pos 0)) (length cs + m) i,
      from_is H (suc k) cs m i,
      exact_cons (p_of i H) H k c cs,
      pow-add H (length cs)
          m,
    )
    (filled_id c (pos (H ^ length cs)) (pos (H ^ m)) (E (p_of i H) (pos H) k) (exact_from (p_of i H) H (suc k) cs))

pub at_is : (H : ℕ) (cs : List ℤ) (m i : ℕ)
    → series H 0 (λ j. get_or cs j (pos 0)) (length cs + m) i ≡ pos (H ^ m) *ℤ exact_at cs i H
unfolding exact_at
at_is H cs m i = rw (exact_is (p_of i H) H cs) (from_is H 0 cs m i)
