-- Two granules have the same exact sum at every tick exactly when they have the same coefficients,
-- a missing one counting as zero: by repeated differences over the ticks. Those past k do not see
-- c_k; so, the later coefficients known to be 0, the k-th difference of the sum is c_k times a
-- number above 0. Assumes nothing.
use mathlib.Core.Path.{◌≡◌, sym, ◌∙◌, ap}
use mathlib.Core.Logic.{◌↔◌, ⊎_elim}
use mathlib.Core.List.{List}
use Prim.Native.Nat.{ℕ, zero, suc, ◌+◌, ◌*◌, ◌^◌, ◌≤◌, ◌<◌}
use native.Mathlib.Nat.{mul-pos, le_of_mul-le-mul_left}
use native.Mathlib.Omega.{arith}
use lib.ListN.{length, get_or, get_or-eq_default}
use lib.IntN.{ℤ, pos, ◌+ℤ◌, ◌-ℤ◌, ◌*ℤ◌, nat_abs}
use Rattle.numbers.proofs.Chebyshev.{pow_above}
use Rattle.numbers.proofs.Degrees.{difference, difference_same, difference_line, difference_none}
use Rattle.numbers.proofs.Degrees.{lead, lead_above}
use Rattle.numbers.proofs.Differences.{rep, rep₂, lin}
use Rattle.numbers.proofs.Order.{abs-*, le_or_lt}
use Rattle.numbers.proofs.Solver.{ring, quote, q_con, all₂, all₃}
use Rattle.granule.specs.Bounds.{most_degree, shortest_length}
use Rattle.granule.specs.Rule.{exact_at}
use Rattle.comparing.specs.Same.{SameCoefficients, SameSums}
use Rattle.comparing.proofs.Series.{chebyshev, chebyshev_degree, series, series_cons, series_none}
use Rattle.comparing.proofs.Series.{series_same, series_minus, at_is}

-- ---- the coefficients, from the differences of the sum at the first place: the later ones first
vanished : (x : ℤ) (n : ℕ) → 0 < n → x *ℤ pos n ≡ pos 0 → x ≡ pos 0
vanished x n h e = small x (le_of_mul-le-mul_left {k = n} (omega (arith, abs-* x (pos n), ap nat_abs e)) h)
  where
    small : (x : ℤ) → nat_abs x ≤ 0 → x ≡ pos 0
    small = rep _ (λ a b. simp lin (omega arith))

cons_id : (a e s : ℤ) → a *ℤ e +ℤ s ≡ a *ℤ e +ℤ pos 1 *ℤ s
cons_id = all₃ _ (λ ρ. simp (quote, q_con ρ) (ring ρ _ _ tt))

left_id : (a s : ℤ) → a *ℤ pos 0 +ℤ pos 1 *ℤ s ≡ s
left_id = all₂ _ (λ ρ. simp (quote, q_con ρ) (ring ρ _ _ tt))

top_id : (c w t : ℤ) → c *ℤ (w *ℤ t) ≡ c *ℤ w *ℤ t +ℤ pos 1 *ℤ pos 0
top_id = all₃ _ (λ ρ. simp (quote, q_con ρ) (ring ρ _ _ tt))

module _ (H : ℕ) (long : 0 < H) where
  -- the m-th difference of a sum, by its first term
  split : (k : ℕ) (c : ℕ → ℤ) (n m : ℕ)
      → difference m (series H k c (suc n)) 0
      ≡ c 0 *ℤ pos (H ^ n) *ℤ difference m (chebyshev H k) 0
      +ℤ pos 1 *ℤ difference m (series H (suc k) (λ j. c (suc j)) n) 0
  split k c n m =
      let a = c 0 *ℤ pos (H ^ n) in
      let rest = series H (suc k) (λ j. c (suc j)) n in
      difference_same m (series H k c (suc n)) (λ i. a *ℤ chebyshev H k i +ℤ pos 1 *ℤ rest i)
      (λ i. series_cons H k c n i ∙ cons_id a (chebyshev H k i) (rest i)) 0
      ∙ difference_line m a (pos 1) (chebyshev H k) rest 0

  module _ (n k : ℕ) (c : ℕ → ℤ)
      (z : (m : ℕ) → k ≤ m → m < k + suc n → difference m (series H k c (suc n)) 0 ≡ pos 0) where
    -- past k the first term is gone from the differences
    later : (m : ℕ) → suc k ≤ m → m < suc k + n → difference m (series H (suc k) (λ j. c (suc j)) n) 0 ≡ pos 0
    later m lo hi =
        let rest = series H (suc k) (λ j. c (suc j)) n in
        let s = rw ((chebyshev_degree H k).above m lo 0, left_id (c 0 *ℤ pos (H ^ n)) (difference m rest 0)) at (split k c n m) in
        sym s ∙ z m (omega arith) (omega arith)

    -- and where the later coefficients are 0, it alone is left of the k-th
    now : ((i : ℕ) → i < n → c (suc i) ≡ pos 0) → c 0 ≡ pos 0
    now none =
        let rest = series H (suc k) (λ j. c (suc j)) n in
        let gone = difference_none k rest 0 (λ i h. series_none H (suc k) (λ j. c (suc j)) n i none) in
        let s = rw ((chebyshev_degree H k).top 0, gone) at (split k c n k) in
        vanished (c 0) (H ^ n * lead k) (mul-pos (pow_above H n long) (lead_above k))
        (top_id (c 0) (pos (H ^ n)) (pos (lead k)) ∙ sym s ∙ z k (omega arith) (omega arith))

    each : ((i : ℕ) → i < n → c (suc i) ≡ pos 0) → (i : ℕ) → i < suc n → c i ≡ pos 0
    each none zero h = now none
    each none (suc i) h = none i (omega arith)

  independent : (n k : ℕ) (c : ℕ → ℤ)
      → ((m : ℕ) → k ≤ m → m < k + n → difference m (series H k c n) 0 ≡ pos 0) → (i : ℕ) → i < n → c i ≡ pos 0
  independent zero k c z i h = let never : ⊥ = omega arith in absurd never
  independent (suc n) k c z i h = each n k c z (independent n (suc k) (λ j. c (suc j)) (later n k c z)) i h

  -- coefficients of a sum that is 0 at the first n places
  coefficients_none : (n : ℕ) (c : ℕ → ℤ) → ((i : ℕ) → i < n → series H 0 c n i ≡ pos 0) → (k : ℕ) → k < n → c k ≡ pos 0
  coefficients_none n c z = independent n 0 c (λ m lo hi. difference_none m (series H 0 c n) 0 (λ j h. z j (omega arith)))

-- ---- the theorem
equal : (x y : ℤ) → x -ℤ y ≡ pos 0 → x ≡ y
equal = rep₂ _ (λ a b c d. simp lin (omega arith))

unequal : (x y : ℤ) → x ≡ y → x -ℤ y ≡ pos 0
unequal = rep₂ _ (λ a b c d. simp lin (omega arith))

module _ (cs ds : List ℤ) (H : ℕ) where
  abbrev both : ℕ
  both = length cs + length ds

  first_is : (i : ℕ) → series H 0 (λ j. get_or cs j (pos 0)) both i ≡ pos (H ^ length ds) *ℤ exact_at cs i H
  first_is i = at_is H cs (length ds) i

  second_is : (i : ℕ) → series H 0 (λ j. get_or ds j (pos 0)) both i ≡ pos (H ^ length cs) *ℤ exact_at ds i H
  second_is i = let e : length cs + length ds ≡ length ds + length cs = omega arith in rw e (at_is H ds (length cs) i)

  -- equal coefficients have equal sums, at every place
  sums_of_coefficients : SameCoefficients cs ds → SameSums cs ds H
  sums_of_coefficients same i h =
      sym (first_is i) ∙ series_same H 0 (λ j. get_or cs j (pos 0)) (λ j. get_or ds j (pos 0)) both i same ∙ second_is i

  -- and equal sums at as many ticks as there are coefficients together have equal coefficients
  no_difference : both ≤ H → SameSums cs ds H → (i : ℕ) → i < both
      → series H 0 (λ j. get_or cs j (pos 0) -ℤ get_or ds j (pos 0)) both i ≡ pos 0
  no_difference long same i h =
      series_minus H 0 (λ j. get_or cs j (pos 0)) (λ j. get_or ds j (pos 0)) both i
      ∙ unequal (series H 0 (λ j. get_or cs j (pos 0)) both i) (series H 0 (λ j. get_or ds j (pos 0)) both i)
      (first_is i ∙ same i (omega arith) ∙ sym (second_is i))

  coefficients_of_sums : 0 < H → both ≤ H → SameSums cs ds H → SameCoefficients cs ds
  coefficients_of_sums some long same k = ⊎_elim
      (λ (h : both ≤ k). get_or-eq_default cs (pos 0) (omega arith) ∙ sym (get_or-eq_default ds (pos 0) (omega arith)))
      (λ (h : k < both). equal (get_or cs k (pos 0)) (get_or ds k (pos 0))
      (coefficients_none H some both (λ j. get_or cs j (pos 0) -ℤ get_or ds j (pos 0)) (no_difference long same) k h))
      (le_or_lt both k)

  -- of two granules of a table's H, each of a table's degree
  pub same_meaning : shortest_length ≤ H → length cs ≤ most_degree + 1 → length ds ≤ most_degree + 1
      → SameSums cs ds H ↔ SameCoefficients cs ds
  same_meaning long few few' = (coefficients_of_sums (omega arith) (omega arith), sums_of_coefficients)
