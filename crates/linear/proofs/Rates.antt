-- The identities behind the four drifts, over any rate: a slow clock's tick is the fast clock's
-- less what it loses, a fast clock's the slow clock's and what it gains, each counted from m
-- periods before tick 0. Assumes nothing.
use mathlib.Core.Path.{◌≡◌, ap}
use Prim.Native.Nat.{ℕ, ◌+◌, ◌*◌, ◌/◌, ◌≤◌, ◌<◌}
use native.Mathlib.Nat.{div-add-mod', mod-lt, mul_comm}
use native.Mathlib.Omega.{arith}
use lib.IntN.{ℤ, pos, ◌+ℤ◌, ◌-ℤ◌, ◌*ℤ◌}
use lib.Signed.{◌≤ℤ◌, ◌<ℤ◌}
use Rattle.numbers.specs.Rounding.{nearest}
use Rattle.numbers.proofs.Differences.{rep, lin}
use Rattle.numbers.proofs.Rounding.{nearest_is}

-- q = n / d by its two bounds
quotient : (n d q : ℕ) → 0 < d → q ≡ n / d → (d * q ≤ n) × (n < d * q + d)
quotient n d q h e = rw e (omega (arith, div-add-mod' n d, mod-lt n h, mul_comm d (n / d)))

module _ (D L E m h : ℕ) (whole : E + L ≡ D) where
  -- E·t / D, where q = (L·b + h) / D is what the slow clock loses in b = t + m·D ticks: a half goes
  -- to the lesser loss
  slow_under : (b q : ℕ) (t : ℤ) → 2 * h + 2 ≡ D → b * L + h < D * q + D → pos b ≡ t +ℤ pos (m * D)
      → (pos 2 *ℤ (pos D *ℤ (t -ℤ pos q +ℤ pos (m * L)))) ≤ℤ (pos 2 *ℤ (pos E *ℤ t) +ℤ pos D)
  slow_under b q = rep _ (λ x y. simp lin (λ e l k. omega (arith, ap (λ (n : ℕ). n * L) k, ap (λ (n : ℕ). n * x) whole, ap (λ (n : ℕ). n * y) whole)))

  slow_above : (b q : ℕ) (t : ℤ) → 2 * h + 2 ≡ D → D * q ≤ b * L + h → pos b ≡ t +ℤ pos (m * D)
      → (pos 2 *ℤ (pos E *ℤ t) +ℤ pos D) <ℤ (pos 2 *ℤ (pos D *ℤ (t -ℤ pos q +ℤ pos (m * L))) +ℤ pos 2 *ℤ pos D)
  slow_above b q = rep _ (λ x y. simp lin (λ e l k. omega (arith, ap (λ (n : ℕ). n * L) k, ap (λ (n : ℕ). n * x) whole, ap (λ (n : ℕ). n * y) whole)))

  pub slowed : (t : ℤ) (b q : ℕ) → 2 * h + 2 ≡ D → pos b ≡ t +ℤ pos (m * D) → q ≡ (b * L + h) / D
      → nearest (pos E *ℤ t) D ≡ t -ℤ pos q +ℤ pos (m * L)
  slowed t b q e k f =
      let bounds = quotient (b * L + h) D q (omega arith) f in
      nearest_is (pos E *ℤ t) (t -ℤ pos q +ℤ pos (m * L)) D (omega arith)
      (record { under = slow_under b q t e bounds.1 k; above = slow_above b q t e bounds.0 k })

  -- D·t / E, where q = (L·b + h) / E is what the fast clock gains in b = t + m·E ticks
  fast_under : (b q : ℕ) (t : ℤ) → 2 * h + 1 ≡ E → E * q ≤ b * L + h → pos b ≡ t +ℤ pos (m * E)
      → (pos 2 *ℤ (pos E *ℤ (t +ℤ pos q -ℤ pos (m * L)))) ≤ℤ (pos 2 *ℤ (pos D *ℤ t) +ℤ pos E)
  fast_under b q = rep _ (λ x y. simp lin (λ e l k. omega (arith, ap (λ (n : ℕ). n * L) k, ap (λ (n : ℕ). n * x) whole, ap (λ (n : ℕ). n * y) whole)))

  fast_above : (b q : ℕ) (t : ℤ) → 2 * h + 1 ≡ E → b * L + h < E * q + E → pos b ≡ t +ℤ pos (m * E)
      → (pos 2 *ℤ (pos D *ℤ t) +ℤ pos E) <ℤ (pos 2 *ℤ (pos E *ℤ (t +ℤ pos q -ℤ pos (m * L))) +ℤ pos 2 *ℤ pos E)
  fast_above b q = rep _ (λ x y. simp lin (λ e l k. omega (arith, ap (λ (n : ℕ). n * L) k, ap (λ (n : ℕ). n * x) whole, ap (λ (n : ℕ). n * y) whole)))

  pub quickened : (t : ℤ) (b q : ℕ) → 2 * h + 1 ≡ E → pos b ≡ t +ℤ pos (m * E) → q ≡ (b * L + h) / E
      → nearest (pos D *ℤ t) E ≡ t +ℤ pos q -ℤ pos (m * L)
  quickened t b q e k f =
      let bounds = quotient (b * L + h) E q (omega arith) f in
      nearest_is (pos D *ℤ t) (t +ℤ pos q -ℤ pos (m * L)) E (omega arith)
      (record { under = fast_under b q t e bounds.0 k; above = fast_above b q t e bounds.1 k })
