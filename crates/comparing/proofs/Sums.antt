-- The largest and the sum of the absolute differences, and what they say of two granules. Assumes
-- nothing.
use borrow.Author.Tests.{eq-eqb, eqb-true, lt-ltb, le-ltb, not-false}
use mathlib.Core.Path.{◌≡◌, refl, sym, ◌∙◌, ap}
use mathlib.Core.Bool.{Bool, true, false}
use mathlib.Core.List.{List}
use mathlib.Core.Logic.{⊎_elim}
use Prim.Native.Nat.{ℕ, zero, suc, ◌+◌, ◌*◌, ◌≤◌, ◌<◌, max}
use native.Mathlib.Numerals.{add-one}
use native.Mathlib.Omega.{arith}
use lib.Dec.{eqb, ltb}
use lib.IntN.{ℤ, pos}
use lib.ListN.{get_or, get_or-eq_default}
use Rattle.numbers.specs.Lowest.{every}
use Rattle.numbers.proofs.Flags.{never}
use Rattle.numbers.proofs.Order.{gap_none, none_gap, gap_turned, le_or_lt}
use Rattle.numbers.proofs.Places.{every_is, every_at}
use Rattle.comparing.specs.Changes.{difference_at, longer, differs, largest_to, sum_to, largest_of}
use Rattle.comparing.specs.Changes.{sum_of}
use Rattle.comparing.specs.Same.{SameCoefficients}

-- ---- the largest and the sum of f 0, .. f (n − 1)
pub sum_more : (f : ℕ → ℕ) (n : ℕ) → sum_to f (n + 1) ≡ sum_to f n + f n
unfolding sum_to
sum_more f n = rw (add-one n)

pub sum_none : (f : ℕ → ℕ) → sum_to f 0 ≡ 0
unfolding sum_to
sum_none f = refl

pub largest_more : (f : ℕ → ℕ) (n : ℕ) → largest_to f (n + 1) ≡ max (largest_to f n) (f n)
unfolding largest_to
largest_more f n = rw (add-one n)

pub largest_none : (f : ℕ → ℕ) → largest_to f 0 ≡ 0
unfolding largest_to
largest_none f = refl

-- counted from the front
pub sum_front : (f : ℕ → ℕ) (n : ℕ) → sum_to f (suc n) ≡ f 0 + sum_to (λ k. f (suc k)) n
unfolding sum_to
sum_front f zero = omega arith
sum_front f (suc n) = omega (arith, sum_front f n)

sum_same : (f g : ℕ → ℕ) (n : ℕ) → ((k : ℕ) → f k ≡ g k) → sum_to f n ≡ sum_to g n
unfolding sum_to
sum_same f g zero e = refl
sum_same f g (suc n) e = rw (sum_same f g n e, e n)

largest_same : (f g : ℕ → ℕ) (n : ℕ) → ((k : ℕ) → f k ≡ g k) → largest_to f n ≡ largest_to g n
unfolding largest_to
largest_same f g zero e = refl
largest_same f g (suc n) e = rw (largest_same f g n e, e n)

pub sum_bound : (f : ℕ → ℕ) (n m : ℕ) → ((k : ℕ) → f k ≤ m) → sum_to f n ≤ n * m
unfolding sum_to
sum_bound f zero m h = omega arith
sum_bound f (suc n) m h = omega (arith, sum_bound f n m h, h n)

largest_below : (f : ℕ → ℕ) (n : ℕ) → largest_to f n ≤ sum_to f n
unfolding largest_to sum_to
largest_below f zero = omega arith
largest_below f (suc n) = omega (arith, largest_below f n)

sum_zero : (f : ℕ → ℕ) (n : ℕ) → ((k : ℕ) → k < n → f k ≡ 0) → sum_to f n ≡ 0
unfolding sum_to
sum_zero f zero z = refl
sum_zero f (suc n) z = rw (sum_zero f n (λ k h. z k (omega arith)), z n (omega arith))

zero_sum : (f : ℕ → ℕ) (n : ℕ) → sum_to f n ≡ 0 → (k : ℕ) → k < n → f k ≡ 0
unfolding sum_to
zero_sum f zero e k h = let no : ⊥ = omega arith in absurd no
zero_sum f (suc n) e k h = ⊎_elim
    (λ (l : n ≤ k). let same : k ≡ n = omega arith in rw same (omega arith))
    (λ (l : k < n). zero_sum f n (omega arith) k l)
    (le_or_lt n k)

-- ---- two granules
module _ (cs ds : List ℤ) where
  -- past the longer of both nothing is left to differ
  past : (k : ℕ) → longer cs ds ≤ k → get_or cs k (pos 0) ≡ get_or ds k (pos 0)
  past k h = get_or-eq_default cs (pos 0) {n = k} (omega arith) ∙ sym (get_or-eq_default ds (pos 0) {n = k} (omega arith))

  none_differ : ((k : ℕ) → k < longer cs ds → difference_at cs ds k ≡ 0) → SameCoefficients cs ds
  none_differ z k = ⊎_elim
      (λ (h : longer cs ds ≤ k). past k h)
      (λ (h : k < longer cs ds). gap_none (get_or cs k (pos 0)) (get_or ds k (pos 0)) (z k h))
      (le_or_lt (longer cs ds) k)

  sum_same_coefficients : sum_of cs ds ≡ 0 → SameCoefficients cs ds
  unfolding sum_of
  sum_same_coefficients e = none_differ (zero_sum (difference_at cs ds) (longer cs ds) e)

  pub same_coefficients_sum : SameCoefficients cs ds → sum_of cs ds ≡ 0
  unfolding sum_of
  same_coefficients_sum same =
      sum_zero (difference_at cs ds) (longer cs ds) (λ k h. none_gap (get_or cs k (pos 0)) (get_or ds k (pos 0)) (same k))

  -- no difference at place k, as `differs` asks
  abbrev is_same : ℕ → Bool
  is_same k = eqb (difference_at cs ds k) 0

  pub same_not_differs : SameCoefficients cs ds → differs cs ds ≡ false
  unfolding differs
  same_not_differs same =
      rw (every_is is_same (longer cs ds) (λ k h. eq-eqb _ 0 (none_gap (get_or cs k (pos 0)) (get_or ds k (pos 0)) (same k))))

  pub not_differs_same : differs cs ds ≡ false → SameCoefficients cs ds
  unfolding differs
  not_differs_same e =
      none_differ (λ k h. eqb-true _ 0 (every_at is_same (longer cs ds) k (not-false (every is_same (longer cs ds)) e) h))

  -- so they differ exactly where the sum is above 0, as the code asks
  pub differs_sum : differs cs ds ≡ ltb 0 (sum_of cs ds)
  differs_sum = by (differs cs ds) refl
    where
      by : (v : Bool) → differs cs ds ≡ v → v ≡ ltb 0 (sum_of cs ds)
      by false e =
          let z = same_coefficients_sum (not_differs_same e) in
          sym (le-ltb 0 (sum_of cs ds) (omega arith))
      by true e = ⊎_elim
          (λ (h : sum_of cs ds ≤ 0). let same = same_not_differs (sum_same_coefficients (omega arith)) in never (sym same ∙ e))
          (λ (h : 0 < sum_of cs ds). sym (lt-ltb 0 (sum_of cs ds) h))
          (le_or_lt (sum_of cs ds) 0)

  pub largest_at_most : largest_of cs ds ≤ sum_of cs ds
  unfolding largest_of sum_of
  largest_at_most = largest_below (difference_at cs ds) (longer cs ds)

  -- the other way round
  pub sum_turned : sum_of cs ds ≡ sum_of ds cs
  unfolding sum_of
  sum_turned =
      let e : longer cs ds ≡ longer ds cs = omega arith in
      rw e (sum_same (difference_at cs ds) (difference_at ds cs) (longer ds cs) (λ k. gap_turned (get_or cs k (pos 0)) (get_or ds k (pos 0))))

  pub largest_turned : largest_of cs ds ≡ largest_of ds cs
  unfolding largest_of
  largest_turned =
      let e : longer cs ds ≡ longer ds cs = omega arith in
      rw e (largest_same (difference_at cs ds) (difference_at ds cs) (longer ds cs) (λ k. gap_turned (get_or cs k (pos 0)) (get_or ds k (pos 0))))

pub differs_turned : (cs ds : List ℤ) → differs cs ds ≡ differs ds cs
differs_turned cs ds = differs_sum cs ds ∙ ap (ltb 0) (sum_turned cs ds) ∙ sym (differs_sum ds cs)
