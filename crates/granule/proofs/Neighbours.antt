-- How far the exact sum, v and D move from one tick to another, in a granule and over a join: a
-- tick on, the exact sum moves by at most 2 units, v by at most 1042, over a join by 1024 more, and
-- D by at most 1; over two ticks D still moves by at most 1. Assumes nothing.
use mathlib.Core.Path.{◌≡◌}
use mathlib.Core.List.{List}
use Prim.Native.Nat.{ℕ, suc, ◌+◌, ◌*◌, ◌-◌, ◌^◌, ◌≤◌, ◌<◌}
use native.Mathlib.Nat.{mul-le-mul_left, mul-le-mul_right, le_of_mul-le-mul_left, le_refl}
use native.Mathlib.Omega.{arith}
use lib.Dec.{lit<}
use lib.ListN.{length}
use lib.IntN.{ℤ, pos, ◌+ℤ◌, ◌-ℤ◌, ◌*ℤ◌, neg_ℤ, nat_abs}
use Rattle.numbers.proofs.Differences.{lin}
use Rattle.numbers.proofs.Order.{abs-+, abs-*, abs_neg, size-*}
use Rattle.numbers.proofs.Solver.{ring, quote, all₅}
use Rattle.numbers.proofs.Chebyshev.{pow_above}
use Rattle.numbers.proofs.Rounding.{nearest_moves}
use Rattle.granule.specs.Rule.{units_in_tick, p_of, exact_from, exact_sum, exact_at, delay_of, value_at, delay_at}
use Rattle.granule.specs.Tests.{widest, weight_from, weight_of, plain_sum, alternating_sum, Passed, Meeting}
use Rattle.granule.proofs.Clauses.{exact_is}
use Rattle.granule.proofs.Exact.{sum_moves, exact_end, exact_start}
use Rattle.granule.proofs.Distance.{p_small, value_half}

-- ---- p: places m ticks apart, and the two ends
p_moves : (i j m H : ℕ) → i ≤ j + m → j ≤ i + m → nat_abs (p_of i H -ℤ p_of j H) ≤ 2 * m
unfolding p_of
p_moves i j m H a b = simp lin (omega arith)

p_start : (H : ℕ) → p_of 0 H ≡ neg_ℤ (pos H)
unfolding p_of
p_start H = simp lin (omega arith)

p_end : (H : ℕ) → p_of H H ≡ pos H
unfolding p_of
p_end H = simp lin (omega arith)

-- ---- the exact sum, for a weight of at most H: |Σ(p') − Σ(p)| ≤ H^n·|p' − p|
slower : (H x W N d : ℕ) → 0 < H → W ≤ H → H * x ≤ W * N * d → x ≤ N * d
slower H x W N d h w k = le_of_mul-le-mul_left {k = H} (omega (arith, mul-le-mul_right (N * d) w)) h

exact_slope : (p' p : ℤ) (H : ℕ) → 0 < H → nat_abs p' ≤ H → nat_abs p ≤ H → (cs : List ℤ) (n : ℕ) → n + 1 ≡ length cs
    → weight_of cs ≤ H
    → nat_abs (exact_sum p' H cs -ℤ exact_sum p H cs) ≤ H ^ n * nat_abs (p' -ℤ p)
unfolding weight_of
exact_slope p' p H h hp' hp cs n e w = rw (exact_is p' H cs, exact_is p H cs)
    (slower H (nat_abs (exact_from p' H 0 cs -ℤ exact_from p H 0 cs)) (weight_from 0 cs) (H ^ n) (nat_abs (p' -ℤ p)) h w
    (sum_moves p' p H hp' hp 0 cs n (omega arith)))

-- ---- two values, from the exact sums that they are near
apart_id : (b v' v x' x : ℤ) → b *ℤ (v' -ℤ v) ≡ (v' *ℤ b -ℤ x') +ℤ (neg_ℤ (v *ℤ b -ℤ x) +ℤ (x' -ℤ x))
apart_id = all₅ _ (λ ρ. simp quote (ring ρ _ _ tt))

cancel : (B x m : ℕ) → 0 < B → 2 * (B * x) ≤ 1039 * B + (1039 * B + 2 * (m * B)) → x ≤ 1039 + m
cancel B x m h k = le_of_mul-le-mul_left {k = B} (omega arith) h

apart : (B m : ℕ) (v' v x' x : ℤ) → 0 < B → 2 * nat_abs (v' *ℤ pos B -ℤ x') ≤ 1039 * B
    → 2 * nat_abs (v *ℤ pos B -ℤ x) ≤ 1039 * B → nat_abs (x' -ℤ x) ≤ m * B
    → nat_abs (v' -ℤ v) ≤ 1039 + m
apart B m v' v x' x h k' k l =
    let y' = v' *ℤ pos B -ℤ x' in
    let y = v *ℤ pos B -ℤ x in
    cancel B (nat_abs (v' -ℤ v)) m h
    (omega (arith, abs-* (pos B) (v' -ℤ v), rw (← apart_id (pos B) v' v x' x) at (abs-+ y' (neg_ℤ y +ℤ (x' -ℤ x))), abs-+ (neg_ℤ y) (x' -ℤ x), abs_neg y))

-- D follows v, as long as v moves by less than a tick
delay_follows : (cs' cs : List ℤ) (H i j m : ℕ) → m ≤ units_in_tick → nat_abs (value_at cs' i H -ℤ value_at cs j H) ≤ m
    → nat_abs (delay_at cs' i H -ℤ delay_at cs j H) ≤ 1
unfolding delay_at delay_of
delay_follows cs' cs H i j m l h = nearest_moves (value_at cs' i H) (value_at cs j H) units_in_tick (lit< tt) (omega arith)

-- ---- in a granule: two of its places, at most m ticks apart
module _ (cs : List ℤ) (H : ℕ) (some : 1 ≤ length cs) (long : 0 < H) (slow : weight_of cs ≤ H) where
  exact_moves : (i j m : ℕ) → i ≤ H → j ≤ H → i ≤ j + m → j ≤ i + m
      → nat_abs (exact_at cs i H -ℤ exact_at cs j H) ≤ 2 * m * H ^ (length cs - 1)
  unfolding exact_at
  exact_moves i j m hi hj a b =
      let n = length cs - 1 in
      omega (
        arith,
        exact_slope (p_of i H) (p_of j H) H long (p_small i H hi) (p_small j H hj) cs n (omega arith) slow,
        mul-le-mul_left (H ^ n) (p_moves i j m H a b),
      )

  -- from a tick to the next: at most 2 units
  pub exact_next : (i : ℕ) → suc i ≤ H → nat_abs (exact_at cs (suc i) H -ℤ exact_at cs i H) ≤ 2 * H ^ (length cs - 1)
  exact_next i h = exact_moves (suc i) i 1 h (omega arith) (omega arith) (omega arith)

module _ (cs : List ℤ) (H : ℕ) (passed : Passed cs H) where
  above : 0 < H
  above = let long = passed.long in omega arith

  value_moves : (i j m : ℕ) → i ≤ H → j ≤ H → i ≤ j + m → j ≤ i + m
      → nat_abs (value_at cs i H -ℤ value_at cs j H) ≤ 1039 + 2 * m
  value_moves i j m hi hj a b =
      apart (H ^ (length cs - 1)) (2 * m) (value_at cs i H) (value_at cs j H) (exact_at cs i H) (exact_at cs j H) (pow_above H (length cs - 1) above)
      (value_half cs H passed i hi) (value_half cs H passed j hj) (exact_moves cs H passed.some above passed.slow i j m hi hj a b)

  -- v from a tick to the next
  pub value_next : (i : ℕ) → suc i ≤ H → nat_abs (value_at cs (suc i) H -ℤ value_at cs i H) ≤ 1042
  value_next i h = omega (arith, value_moves (suc i) i 1 h (omega arith) (omega arith) (omega arith))

  -- D over at most two ticks
  pub delay_next : (i j : ℕ) → i ≤ H → j ≤ H → i ≤ j + 2 → j ≤ i + 2 → nat_abs (delay_at cs i H -ℤ delay_at cs j H) ≤ 1
  delay_next i j hi hj a b = delay_follows cs cs H i j 1043 (omega arith) (value_moves i j 2 hi hj a b)

-- ---- the ends of a granule: its exact sum there is the plain sum, and the alternating sum
exact_last : (cs : List ℤ) (H n : ℕ) → n + 1 ≡ length cs → exact_at cs H H ≡ pos (H ^ n) *ℤ plain_sum cs
unfolding exact_at
exact_last cs H n e = rw (p_end H) (exact_end H cs n e)

exact_first : (cs : List ℤ) (H n : ℕ) → n + 1 ≡ length cs → exact_at cs 0 H ≡ pos (H ^ n) *ℤ alternating_sum cs
unfolding exact_at
exact_first cs H n e = rw (p_start H) (exact_start H cs n e)

-- ---- over a join: the place j of a granule, and the place i of the next one, at most m ticks
-- apart
over_id : (b a' a x' x : ℤ) → x' -ℤ x ≡ (x' -ℤ b *ℤ a') +ℤ (neg_ℤ (b *ℤ (a -ℤ a')) +ℤ (b *ℤ a -ℤ x))
over_id = all₅ _ (λ ρ. simp quote (ring ρ _ _ tt))

module _ (cs next : List ℤ) (H : ℕ) (passed : Passed cs H) (passed' : Passed next H) (meeting : Meeting cs next) where
  pub exact_join : (j i m : ℕ) → j ≤ H → i ≤ H → (H - j) + i ≤ m
      → nat_abs (exact_at next i H -ℤ exact_at cs j H) ≤ (widest + 2 * m) * H ^ (length cs - 1)
  exact_join j i m hj hi d =
      let n = length cs - 1 in
      let some = passed.some in
      let same = meeting.same in
      let b = pos (H ^ n) in
      let t = plain_sum cs -ℤ alternating_sum next in
      let x' = exact_at next i H -ℤ b *ℤ alternating_sum next in
      let x = b *ℤ plain_sum cs -ℤ exact_at cs j H in
      let s = rw (exact_first next H n (omega arith), ← meeting.same) at
      (exact_moves next H passed'.some (above next H passed') passed'.slow i 0 i hi (omega arith) (omega arith) (omega arith)) in
      let e = rw (exact_last cs H n (omega arith)) at
      (exact_moves cs H passed.some (above cs H passed) passed.slow H j (H - j) (le_refl H) hj (omega arith) (omega arith)) in
      rw (over_id b (alternating_sum next) (plain_sum cs) (exact_at next i H) (exact_at cs j H))
      (omega (
        arith,
        s,
        e,
        abs-+ x' (neg_ℤ (b *ℤ t) +ℤ x),
        abs-+ (neg_ℤ (b *ℤ t)) x,
        abs_neg (b *ℤ t),
        size-* b t (le_refl (H ^ n)) meeting.near,
        mul-le-mul_right (H ^ n) d,
      ))

  value_join : (j i m : ℕ) → j ≤ H → i ≤ H → (H - j) + i ≤ m
      → nat_abs (value_at next i H -ℤ value_at cs j H) ≤ 1039 + (widest + 2 * m)
  value_join j i m hj hi d =
      apart (H ^ (length cs - 1)) (widest + 2 * m) (value_at next i H) (value_at cs j H) (exact_at next i H) (exact_at cs j H)
      (pow_above H (length cs - 1) (above cs H passed))
      (rw meeting.same (value_half next H passed' i hi)) (value_half cs H passed j hj) (exact_join j i m hj hi d)

  -- v from the last tick of a granule to the join
  pub value_over : nat_abs (value_at next 0 H -ℤ value_at cs (H - 1) H) ≤ 2066
  value_over = let long = passed.long in omega (arith, value_join (H - 1) 0 1 (omega arith) (omega arith) (omega arith))

  -- D over at most two ticks
  pub delay_over : (j i : ℕ) → j ≤ H → i ≤ H → (H - j) + i ≤ 2 → nat_abs (delay_at next i H -ℤ delay_at cs j H) ≤ 1
  delay_over j i hj hi d = delay_follows next cs H i j 2067 (omega arith) (value_join j i 2 hj hi d)
