-- 'That sum bounds the gap of the exact sums everywhere in the granule': at a place from 0 to H
-- they are at most the sum of the absolute differences apart. H is any number above 0, so that the
-- place may as well be one of H·q between the ticks. Assumes nothing.
use mathlib.Core.Path.{◌≡◌, ◌∙◌, ap}
use mathlib.Core.List.{List}
use Prim.Native.Nat.{ℕ, zero, suc, ◌+◌, ◌-◌, ◌*◌, ◌^◌, ◌≤◌, ◌<◌}
use native.Mathlib.Nat.{mul-le-mul_left, le_of_mul-le-mul_left, le_refl, pow-succ'}
use native.Mathlib.Omega.{arith}
use lib.Pow.{pow-add}
use lib.ListN.{length, get_or}
use lib.IntN.{ℤ, pos, ◌+ℤ◌, ◌-ℤ◌, ◌*ℤ◌, nat_abs}
use Rattle.numbers.specs.Signs.{gap}
use Rattle.numbers.proofs.Order.{size-*, size-+}
use Rattle.granule.specs.Rule.{exact_at}
use Rattle.comparing.specs.Changes.{longer, sum_to, sum_of}
use Rattle.comparing.proofs.Series.{chebyshev, chebyshev_bound, series, series_nil, series_cons}
use Rattle.comparing.proofs.Series.{series_minus, at_is}
use Rattle.comparing.proofs.Sums.{sum_front}

-- H·|sum| ≤ H^(k+n)·(sum of the sizes): the powers of H are those of the term at E_k, and one more
add_up : (H a n k x y s S : ℕ) → x ≤ a * H ^ n * H ^ k + y → H * y ≤ H ^ suc (k + n) * s → S ≡ a + s
    → H * x ≤ H ^ suc (k + n) * S
add_up H a n k x y s S h l e =
    rw e (omega (arith, mul-le-mul_left H h, l, pow-succ' H (k + n), ap (λ (p : ℕ). a * p) (pow-succ' H (k + n)), ap (λ (p : ℕ). a * (H * p)) (pow-add H k n)))

series_bound : (H k : ℕ) (c : ℕ → ℤ) (n i : ℕ) → i ≤ H
    → H * nat_abs (series H k c n i) ≤ H ^ (k + n) * sum_to (λ j. nat_abs (c j)) n
series_bound H k c zero i h = rw (series_nil H k c i) (omega arith)
series_bound H k c (suc n) i h =
    let w = c 0 *ℤ pos (H ^ n) in
    let e = chebyshev H k i in
    let rest = series H (suc k) (λ j. c (suc j)) n i in
    let first = size-* (c 0) (pos (H ^ n)) (le_refl (nat_abs (c 0))) (le_refl (H ^ n)) in
    let p : k + suc n ≡ suc (k + n) = omega arith in
    let r : suc k + n ≡ suc (k + n) = omega arith in
    rw (series_cons H k c n i, p)
    (add_up H (nat_abs (c 0)) n k (nat_abs (w *ℤ e +ℤ rest)) (nat_abs rest) (sum_to (λ j. nat_abs (c (suc j))) n) (sum_to (λ j. nat_abs (c j)) (suc n))
    (size-+ (w *ℤ e) rest (size-* w e first (chebyshev_bound H k i h)) (le_refl (nat_abs rest)))
    (rw r at (series_bound H (suc k) (λ j. c (suc j)) n i h)) (sum_front (λ j. nat_abs (c j)) n))

-- ---- the gap of two exact sums: with n + 1 and m + 1 coefficients and N the greater degree,
-- H^(N−n) times the first and H^(N−m) times the second are H^N times the sums
module _ (cs ds : List ℤ) (H i : ℕ) (inside : i ≤ H) where
  abbrev first : ℕ → ℤ
  first j = get_or cs j (pos 0)

  abbrev second : ℕ → ℤ
  second j = get_or ds j (pos 0)

  all : H * gap (pos (H ^ (longer cs ds - length cs)) *ℤ exact_at cs i H)
      (pos (H ^ (longer cs ds - length ds)) *ℤ exact_at ds i H)
      ≤ H ^ longer cs ds * sum_of cs ds
  unfolding sum_of
  all =
      let n = longer cs ds in
      let e : length cs + (n - length cs) ≡ n = omega arith in
      let f : length ds + (n - length ds) ≡ n = omega arith in
      let a = rw e at (at_is H cs (n - length cs) i) in
      let b = rw f at (at_is H ds (n - length ds) i) in
      let z : 0 + n ≡ n = omega arith in
      rw (← a, ← b, ← series_minus H 0 second first n i) (rw z at (series_bound H 0 (λ j. second j -ℤ first j) n i inside))

  pub sums_near : 0 < H → 1 ≤ length cs
      → gap (pos (H ^ (longer cs ds - length cs)) *ℤ exact_at cs i H)
      (pos (H ^ (longer cs ds - length ds)) *ℤ exact_at ds i H)
      ≤ H ^ (longer cs ds - 1) * sum_of cs ds
  sums_near long some =
      let n = longer cs ds in
      let e : n ≡ suc (n - 1) = omega arith in
      let power : H ^ n * sum_of cs ds ≡ H * H ^ (n - 1) * sum_of cs ds =
      ap (λ (m : ℕ). H ^ m * sum_of cs ds) e ∙ ap (λ (p : ℕ). p * sum_of cs ds) (pow-succ' H (n - 1)) in
      le_of_mul-le-mul_left {k = H} (omega (arith, all)) long
