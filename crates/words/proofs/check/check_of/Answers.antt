use Prim.Native.Nat.{ℕ, ◌+◌, ◌*◌, ◌-◌, ◌/◌, ◌%◌, ◌≤◌, ◌<◌, zero-le}
use Rattle.words.proofs.Sums.{row_quad, two_words, sum_a_two, sum_b_two}
use Rattle.words.specs.Check.{sum_a, sum_b}
use mathlib.Core.Path.{◌≡◌, refl, ◌∙◌, ap}
use native.Mathlib.Nat.{mul-le-mul}
use native.Mathlib.Omega.{arith}
use Rattle.words.proofs.check.check_of.Goals as goal
use Rattle.words.proofs.check.check_of.Goals.{After-from_le_bytes-two}

-- a word is small, and so are two with a weight
heavy : (w x : ℕ) → w ≤ 254 → x ≤ 131070 → w * x ≤ 33291780
heavy w x k h = mul-le-mul {n₂ = 254} {m₂ = 131070} k h

halves : (q : ℕ) → q < 4294967296 → (q % 65536 < 65536) × (q / 65536 < 65536)
halves q h = omega arith

less : (w s b : ℕ) → w ≡ b + s → w - s ≡ b
less w s b e = omega arith

record Small (c : After-from_le_bytes-two) : Type 0 where
  low : c.from_le_bytes-two.result % 65536 < 65536
  high : c.from_le_bytes-two.result / 65536 < 65536
  both : c.loop-pair.weight * (c.from_le_bytes-two.result % 65536 + c.from_le_bytes-two.result / 65536) ≤ 33291780

small : (c : After-from_le_bytes-two) → Small c
small c =
    let h = halves c.from_le_bytes-two.result c.from_le_bytes-two.type_inv in
    record { low = h.0; high = h.1; both = heavy _ _ (omega arith) (omega arith) }

pub loop-pair-init : goal.loop-pair-init
unfolding sum_a sum_b
loop-pair-init c = (zero-le, refl, refl, refl, zero-le, zero-le, zero-le)

pub loop-pair-preserved : goal.loop-pair-preserved
loop-pair-preserved c =
    let l = c.loop-pair in
    let s = c.args in
    let v =
    row_quad s.bytes.now s.at l.pair-index c.as_chunks.result.0.now (omega arith) c.loop-pair-test.true c.as_chunks.ensures.front_len
    c.as_chunks.ensures.front in
    let w = two_words s.bytes.now s.at l.pair-index _ (λ j. (c.type_inv.bytes j).fits) (c.from_le_bytes-two.ensures ∙ v) in
    let h = small c in (
      omega arith,
      omega arith,
      sum_a_two _ l.pair-index _ _ _ l.invariant.2 w.0 w.1,
      sum_b_two _ l.pair-index _ _ _ _ _ (omega arith) l.invariant.1 l.invariant.3 w.0 w.1,
      omega arith,
      omega arith,
      omega arith,
    )

pub returns : goal.returns
returns c =
    let l = c.loop-pair in
    let e : 2 * l.pair-index ≡ 254 = omega arith in
    (ap (λ (n : ℕ). n % 65535) (l.invariant.2 ∙ ap (sum_a _) e), ap (λ (n : ℕ). n % 65535) (less _ _ _ l.invariant.3 ∙ ap (sum_b _) e))
