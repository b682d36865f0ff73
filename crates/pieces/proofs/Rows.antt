-- Which rows are exact: by a test that computes, so that of literals its proof is `tt`. Assumes
-- nothing.
use mathlib.Core.Bool.{Bool, true, ◌&&◌}
use mathlib.Core.List.{List, [], ◌∷◌}
use mathlib.Core.Path.{◌≡◌, sym, ◌∙◌, ap, subst}
use Prim.Native.Nat.{ℕ, zero, suc, ◌+◌, ◌*◌, ◌-◌, ◌/◌, ◌^◌, ◌≤◌}
use native.Mathlib.Nat.{mul-le-mul_right}
use native.Mathlib.Omega.{arith}
use lib.Dec.{T, leb, leb→le}
use lib.ListN.{get_or}
use lib.Pow.{pow-add}
use mir.Facts.{and_yes}
use Rattle.pieces.specs.declared.share.Row.{Row}
use Rattle.pieces.specs.Rows.{factor, unit, half_unit, share_of}
use Rattle.pieces.proofs.Exact.{exact}

-- a power that stands above two pieces
pub above_64 : (k by : ℕ) → 2 ^ 64 * 2 ^ (k + by) ≡ 2 ^ (64 + k + by)
above_64 k by = sym (pow-add 2 64 (k + by)) ∙ ap (λ (n : ℕ). 2 ^ n) (omega arith)

abbrev every : List Bool → Bool
every [] = true
every (b ∷ bs) = b && every bs

each : (bs : List Bool) → T (every bs) → (i : ℕ) → T (get_or bs i true)
each [] t i = tt
each (b ∷ bs) t zero = (and_yes b (every bs) t).0
each (b ∷ bs) t (suc i) = each bs (and_yes b (every bs) t).1 i

-- L / D of up to `most`, with `half` for a half of D, by M / U, with h for a half of U
module _ (L D half most M h U : ℕ) where
  -- M / U is L / D less error / (D·U)
  abbrev error : ℕ
  error = L * U - M * D

  -- what two halves leave of D: 2 of an even D, whose exact halves go to the lesser, and 1 of an
  -- odd D, which has none
  abbrev gap : ℕ
  gap = D - 2 * half

  -- U is 2·h; M is rounded down; the errors of the most b take off too little to be seen; the gap
  -- is 1 or 2; and where there are halves the error is not 0, so that they fall
  abbrev tests : List Bool
  tests =
      leb 1 h
      ∷ leb U (2 * h)
      ∷ leb (2 * h) U
      ∷ leb (M * D) (L * U)
      ∷ leb (2 * (most * error)) (gap * U)
      ∷ leb 1 gap
      ∷ leb gap 2
      ∷ leb gap (1 + error)
      ∷ []

  share_is : T (every tests) → (b : ℕ) → b ≤ most → (b * M + h) / U ≡ (b * L + half) / D
  share_is t b few =
      let holds = each tests t in
      let some : 1 ≤ gap = leb→le _ _ (holds 5) in
      let twice : U ≡ 2 * h = omega (arith, leb→le U (2 * h) (holds 1), leb→le (2 * h) U (holds 2)) in
      let low : M * D + error ≡ L * U = omega (arith, leb→le (M * D) (L * U) (holds 3)) in
      let halves : 2 * half + gap ≡ D = omega (arith, some) in
      let unseen : 2 * (b * error) ≤ gap * U = omega (arith, mul-le-mul_right error few, leb→le (2 * (most * error)) (gap * U) (holds 4)) in
      ap (λ (n : ℕ). (b * M + h) / n) twice
      ∙ exact L D half M h error gap (leb→le 1 h (holds 0))
      (low ∙ ap (λ (n : ℕ). L * n) twice) halves (leb→le _ _ (holds 6)) (leb→le _ _ (holds 7))
      b (omega (arith, some)) (subst (λ (n : ℕ). 2 * (b * error) ≤ gap * n) twice unseen)

pub exact_share : (L D half most : ℕ) (row : Row)
    → T (every (tests L D half most (factor row) (half_unit row) (unit row))) → (b : ℕ) → b ≤ most
    → share_of row b ≡ (b * L + half) / D
unfolding share_of
exact_share L D half most row = share_is L D half most (factor row) (half_unit row) (unit row)
