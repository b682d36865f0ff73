-- How near v and D are to the exact sum, its denominators multiplied out: v within n/2 +
-- weight/2^31 units, hence within 520; D within 33/64 tick, hence at most 2^28. Assumes nothing.
use mathlib.Core.Path.{◌≡◌, ap}
use mathlib.Core.Bool.{true}
use mathlib.Core.List.{List, [], ◌∷◌}
use Prim.Native.Nat.{ℕ, ◌+◌, ◌*◌, ◌-◌, ◌^◌, ◌≤◌, ◌<◌}
use native.Mathlib.Nat.{mul-le-mul_left, mul-le-mul_right, le_of_mul-le-mul_left, le_refl, mul_comm}
use native.Mathlib.Omega.{arith}
use lib.Dec.{lit<}
use lib.ListN.{length}
use lib.IntN.{ℤ, pos, ◌+ℤ◌, ◌-ℤ◌, ◌*ℤ◌, nat_abs}
use Rattle.numbers.specs.Rounding.{nearest}
use Rattle.numbers.proofs.Differences.{rep₂, lin, sizes}
use Rattle.numbers.proofs.Order.{abs-+, abs-*, size-*, size-+}
use Rattle.numbers.proofs.Solver.{ring, quote, q_con, all₄, all₅}
use Rattle.numbers.proofs.Rounding.{within_half, nearest_small}
use Rattle.numbers.proofs.Chebyshev.{pow_above, pow_mul}
use Rattle.granule.specs.Bounds.{most_degree}
use Rattle.granule.specs.Rule.{units_in_tick, p_of, u_of, v_of, exact_from, exact_sum, exact_at, delay_of, value_at, delay_at}
use Rattle.granule.specs.Tests.{largest, is_small, weight_from, weight_of, Passed}
use Rattle.granule.proofs.Clauses.{exact_is}
use Rattle.granule.proofs.Clenshaw.{Q, v_near}
use Rattle.granule.proofs.Exact.{sum_scale, sum_moves, sum_small}

-- ---- p: |p| ≤ H at every place of the granule
pub p_small : (place H : ℕ) → place ≤ H → nat_abs (p_of place H) ≤ H
unfolding p_of
p_small place H h = simp lin (omega arith)

-- ---- u: |2(H·u − 2^30·p)| ≤ H, and |u| ≤ 2^30
u_near : (p : ℤ) (H : ℕ) → 0 < H → nat_abs (pos 2 *ℤ (pos H *ℤ u_of p H -ℤ pos Q *ℤ p)) ≤ H
unfolding u_of
u_near p H h = within_half (pos Q *ℤ p) H h

pub u_small : (p : ℤ) (H : ℕ) → 0 < H → nat_abs p ≤ H → nat_abs (u_of p H) ≤ Q
unfolding u_of
u_small p H h hp = nearest_small (pos Q *ℤ p) H Q h (omega (arith, abs-* (pos Q) p, mul-le-mul_left Q hp))

-- ---- two sums at two arguments over two denominators
twice : (x : ℤ) (n : ℕ) → nat_abs (pos 2 *ℤ x) ≤ n → 2 * nat_abs x ≤ n
twice x n h = omega (arith, abs-* (pos 2) x)

turn : (h u q p : ℤ) → h *ℤ u -ℤ q *ℤ p ≡ u *ℤ h -ℤ p *ℤ q
turn = all₄ _ (λ ρ. simp quote (ring ρ _ _ tt))

less : (Q H x W N d : ℕ) → 0 < H → 2 * d ≤ H → Q * H * x ≤ W * N * d → 2 * Q * x ≤ W * N
less Q H x W N d h hd k = le_of_mul-le-mul_left {k = H} (omega (arith, mul-le-mul_left (W * N) hd)) h

exact_near : (u p : ℤ) (H : ℕ) → 0 < H → nat_abs u ≤ Q → nat_abs p ≤ H
    → nat_abs (pos 2 *ℤ (pos H *ℤ u -ℤ pos Q *ℤ p)) ≤ H
    → (cs : List ℤ) (n : ℕ)
    → n + 1 ≡ length cs
    → 2 * Q * nat_abs (pos (H ^ n) *ℤ exact_sum u Q cs -ℤ pos (Q ^ n) *ℤ exact_sum p H cs) ≤ weight_of
    cs * (Q ^ n * H ^ n)
unfolding weight_of
exact_near u p H h hu hp near cs n e =
    let e' : n + 1 ≡ 0 + length cs = omega arith in
    let a = sum_scale u Q H 0 cs n e' in
    let b = rw (mul_comm H Q) at (sum_scale p H Q 0 cs n e') in
    let ha : nat_abs (u *ℤ pos H) ≤ Q * H = size-* u (pos H) hu (le_refl H) in
    let hb : nat_abs (p *ℤ pos Q) ≤ Q * H = rw (mul_comm Q H) (size-* p (pos Q) hp (le_refl Q)) in
    let m = rw (a, b, pow_mul Q H n) at (sum_moves (u *ℤ pos H) (p *ℤ pos Q) (Q * H) ha hb 0 cs n e') in
    rw (exact_is u Q cs, exact_is p H cs)
    (less Q H (nat_abs (pos (H ^ n) *ℤ exact_from u Q 0 cs -ℤ pos (Q ^ n) *ℤ exact_from p H 0 cs)) (weight_from 0 cs) (Q ^ n * H ^ n)
    (nat_abs (u *ℤ pos H -ℤ p *ℤ pos Q)) h
    (twice (u *ℤ pos H -ℤ p *ℤ pos Q) H (rw (turn (pos H) u (pos Q) p) at near)) m)

-- ---- both together
both_id : (a b v x y : ℤ) → a *ℤ (pos 2 *ℤ (v *ℤ b -ℤ y)) ≡ b *ℤ (pos 2 *ℤ (v *ℤ a -ℤ x)) +ℤ pos 2 *ℤ (b *ℤ x -ℤ a *ℤ y)
both_id = all₅ _ (λ ρ. simp (quote, q_con ρ) (ring ρ _ _ tt))

cancel : (q A B n W x d : ℕ) → 0 < A → A * (2 * x) ≤ B * (n * A) + 2 * d → 2 * q * d ≤ W * (A * B)
    → 2 * q * x ≤ (n * q + W) * B
cancel q A B n W x d h k l = le_of_mul-le-mul_left {k = A} (omega (arith, mul-le-mul_left q k)) h

both : (q A B n W : ℕ) (v x y : ℤ) → 0 < A → nat_abs (pos 2 *ℤ (v *ℤ pos A -ℤ x)) ≤ n * A
    → 2 * q * nat_abs (pos B *ℤ x -ℤ pos A *ℤ y) ≤ W * (A * B)
    → 2 * q * nat_abs (v *ℤ pos B -ℤ y) ≤ (n * q + W) * B
both q A B n W v x y h k l =
    let d = pos B *ℤ x -ℤ pos A *ℤ y in
    let z = v *ℤ pos B -ℤ y in
    let t = size-+ (pos B *ℤ (pos 2 *ℤ (v *ℤ pos A -ℤ x))) (pos 2 *ℤ d) (size-* (pos B) (pos 2 *ℤ (v *ℤ pos A -ℤ x)) (le_refl B) k)
    (size-* (pos 2) d (le_refl 2) (le_refl (nat_abs d))) in
    cancel q A B n W (nat_abs z) (nat_abs d) h
    (omega (arith, rw (← both_id (pos A) (pos B) v x y) at t, abs-* (pos A) (pos 2 *ℤ z), ap (λ (i : ℕ). A * i) (abs-* (pos 2) z))) l

v_at : (u : ℤ) → nat_abs u ≤ Q → (cs : List ℤ) (n : ℕ) → n + 1 ≡ length cs
    → nat_abs (pos 2 *ℤ (v_of u cs *ℤ pos (Q ^ n) -ℤ exact_sum u Q cs)) ≤ n * Q ^ n
v_at u hu [] n e = let z : ⊥ = omega arith in absurd z
v_at u hu (c ∷ cs) n e = let f : n ≡ length cs = omega arith in rw f (v_near u hu c cs)

split_id : (d v b y : ℤ) → pos 65536 *ℤ d *ℤ b -ℤ y ≡ b *ℤ (pos 65536 *ℤ d -ℤ v) +ℤ (v *ℤ b -ℤ y)
split_id = all₄ _ (λ ρ. simp (quote, q_con ρ) (ring ρ _ _ tt))

part : (y x : ℤ) → nat_abs y ≤ nat_abs (y -ℤ x) + nat_abs x
part = rep₂ _ (λ a b c d. simp sizes (omega arith))

fewer : (B : ℕ) (d x : ℤ) → 0 < B → 64 * nat_abs (pos 65536 *ℤ d *ℤ pos B -ℤ x) ≤ 33 * 65536 * B
    → nat_abs x ≤ (most_degree + 1) * largest * B → nat_abs d ≤ 2 ^ 28
fewer B d x h near size =
    let y = pos 65536 *ℤ d in
    let all : B * (64 * (65536 * nat_abs d)) ≤ B * (33 * 65536 + 64 * ((most_degree + 1) * largest)) =
    omega (arith, near, size, part (y *ℤ pos B) x, abs-* y (pos B), ap (λ (i : ℕ). i * B) (abs-* (pos 65536) d)) in
    omega (arith, le_of_mul-le-mul_left {k = B} all h)

-- 'v is within n/2 + weight/2^31 units of the exact sum': the theorem of the page, for a granule of
-- any degree and length
pub value_near : (cs : List ℤ) (place H n : ℕ) → n + 1 ≡ length cs → 0 < H → place ≤ H
    → 2 ^ 31 * nat_abs (value_at cs place H *ℤ pos (H ^ n) -ℤ exact_at cs place H) ≤ (n * 2 ^ 30 + weight_of cs) * H ^ n
unfolding value_at exact_at
value_near cs place H n e h i =
    let p = p_of place H in
    let hp = p_small place H i in
    let u = u_of p H in
    let hu = u_small p H h hp in
    both Q (Q ^ n) (H ^ n) n (weight_of cs) (v_of u cs) (exact_sum u Q cs) (exact_sum p H cs) (pow_above Q n (lit< tt)) (v_at u hu cs n e)
    (exact_near u p H h hu hp (u_near p H h) cs n e)

-- ---- what the tests leave of it
module _ (cs : List ℤ) (H : ℕ) (passed : Passed cs H) (place : ℕ) (inside : place ≤ H) where
  -- 519 1/2 units at most
  pub value_half : 2 * nat_abs (value_at cs place H *ℤ pos (H ^ (length cs - 1)) -ℤ exact_at cs place H)
      ≤ 1039 * H ^ (length cs - 1)
  value_half =
      let n = length cs - 1 in
      let few = passed.few in
      let some = passed.some in
      let long = passed.long in
      let hn : n ≤ most_degree = omega arith in
      omega
      (arith, value_near cs place H n (omega arith) (omega arith) inside, mul-le-mul_right (H ^ n) hn, mul-le-mul_right (H ^ n) passed.light)

  -- 'hence within 520'
  pub value_within : nat_abs (value_at cs place H *ℤ pos (H ^ (length cs - 1)) -ℤ exact_at cs place H)
      ≤ 520 * H ^ (length cs - 1)
  value_within = omega (arith, value_half)

  -- demand 3's distance: D is within 33/64 tick of the exact sum in ticks
  pub delay_within : 64 * nat_abs
      (pos units_in_tick *ℤ delay_at cs place H *ℤ pos (H ^ (length cs - 1)) -ℤ exact_at cs place H)
      ≤ 33 * units_in_tick * H ^ (length cs - 1)
  unfolding delay_at delay_of
  delay_within =
      let n = length cs - 1 in
      let v = value_at cs place H in
      let d = nearest v units_in_tick in
      let b = pos units_in_tick *ℤ d -ℤ v in
      let z = v *ℤ pos (H ^ n) -ℤ exact_at cs place H in
      rw (split_id d v (pos (H ^ n)) (exact_at cs place H))
      (omega (
        arith,
        abs-+ (pos (H ^ n) *ℤ b) z,
        abs-* (pos (H ^ n)) b,
        value_half,
        mul-le-mul_left (H ^ n) (within_half v units_in_tick (lit< tt)),
        ap (λ (i : ℕ). H ^ n * i) (abs-* (pos 2) b),
      ))

  -- and so it is at most 16·2^40 units
  pub delay_small : is_small cs ≡ true → nat_abs (delay_at cs place H) ≤ 2 ^ 28
  unfolding exact_at
  delay_small small =
      let n = length cs - 1 in
      let p = p_of place H in
      let few = mul-le-mul_right (largest * H ^ n) passed.few in
      let sum = rw (← exact_is p H cs) at (sum_small p H (p_small place H inside) 0 cs n (omega (arith, passed.some)) small) in
      fewer (H ^ n) (delay_at cs place H) (exact_sum p H cs) (pow_above H n (omega (arith, passed.long))) delay_within (omega (arith, few, sum))
