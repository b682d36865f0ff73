-- Which granule a tick belongs to, and which one the tick after it. Over a count G, a length H and
-- places. Assumes nothing.
use mathlib.Core.Path.{◌≡◌}
use mathlib.Core.Logic.{◌⊎◌, inl, inr, ⊎_elim}
use Prim.Native.Nat.{ℕ, suc, ◌+◌, ◌*◌, ◌-◌, ◌/◌, ◌≤◌, ◌<◌, min}
use native.Mathlib.Nat.{mul-le-mul_right, div-add-mod', mod-lt}
use native.Mathlib.Omega.{arith}
use Rattle.numbers.proofs.Order.{le_or_lt}

-- the place i stands in granule g: at the end of one only if it is the last
pub record At (G H i g : ℕ) : Type 0 where
  pub there : g < G
  pub low : g * H ≤ i
  pub high : i ≤ g * H + H
  pub inner : suc g < G → i < g * H + H

module _ (G H i q : ℕ) (some : 0 < G) where
  at_inner : q * H ≤ i → i < q * H + H → q ≤ G - 1 → At G H i (min q (G - 1))
  at_inner lo hi k =
      let e : min q (G - 1) ≡ q = omega arith in
      rw e (record { there = omega arith; low = lo; high = omega arith; inner = λ x. hi })

  top : (G - 1) * H + H ≡ G * H
  top = let e : suc (G - 1) ≡ G = omega arith in let f : (G - 1) * H + H ≡ suc (G - 1) * H = omega arith in rw e at f

  at_last : i ≤ G * H → q * H ≤ i → G - 1 < q → At G H i (min q (G - 1))
  at_last b lo k =
      let e : min q (G - 1) ≡ G - 1 = omega arith in
      let le : G - 1 ≤ q = omega arith in
      rw e (record {
        there = omega arith;
        low = omega (arith, mul-le-mul_right H le);
        high = omega (arith, top);
        inner = λ x. let z : ⊥ = omega arith in
            absurd z;
      })

  at : i ≤ G * H → q * H ≤ i → i < q * H + H → At G H i (min q (G - 1))
  at b lo hi = ⊎_elim (at_inner lo hi) (at_last b lo) (le_or_lt q (G - 1))

pub at_place : (G H i : ℕ) → 0 < H → 0 < G → i ≤ G * H → At G H i (min (i / H) (G - 1))
at_place G H i h some b = at G H i (i / H) some b (omega (arith, div-add-mod' i H)) (omega (arith, div-add-mod' i H, mod-lt i h))

-- the next tick: the same granule, or the start of the next
pub next_granule : (G H i g g' : ℕ) → 1 < H → At G H i g → At G H (suc i) g'
    → (g' ≡ g) ⊎ ((g' ≡ suc g) × (suc i ≡ g * H + H))
next_granule G H i g g' h a b = ⊎_elim
    (λ k. ⊎_elim
    (λ l. inl (omega arith))
    (λ l. absurd (omega (arith, mul-le-mul_right H l)))
    (le_or_lt g g'))
    (λ k. ⊎_elim
    (λ l. let e : g' ≡ suc g = omega arith in inr (e, step e))
    (λ l. absurd (omega (arith, mul-le-mul_right H l)))
    (le_or_lt g' (suc g)))
    (le_or_lt g' g)
  where
    step : g' ≡ suc g → suc i ≡ g * H + H
    step e = let u : suc g < G = omega arith in let v = a.inner u in let w : suc g * H ≤ suc i = rw e at b.low in omega arith

-- how many joins lie between two places k ticks apart: since H is above the widest, 1024 for each
-- is at most 1024 and k
pub joins : (G H i k g g' : ℕ) → 1024 ≤ H → At G H i g → At G H (i + k) g' → 1024 * g' ≤ 1024 * g + 1024 + k
joins G H i k g g' h a b = ⊎_elim
    (λ (l : g' ≤ suc g). omega arith)
    (λ (l : suc g < g'). let q = g' - suc g in let e : g' ≡ suc g + q = omega arith in let low : (suc g + q) * H ≤ i + k = rw e at b.low in
    omega (arith, mul-le-mul_right q h))
    (le_or_lt g' (suc g))
