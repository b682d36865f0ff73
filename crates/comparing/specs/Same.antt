-- When two granules of H ticks 'mean the same': by their coefficients, and by their exact sums.
-- Their degrees may differ.
use Rattle.std.specs.Prelude.{◌≡◌, List, ℕ, ◌^◌, ◌≤◌, ℤ, pos, ◌*ℤ◌, length, get_or}
use Rattle.granule.specs.Rule.{exact_at}

-- the same coefficients, 'a missing coefficient counting as zero'
abbrev pub SameCoefficients : List ℤ → List ℤ → Type 0
SameCoefficients cs ds = (k : ℕ) → get_or cs k (pos 0) ≡ get_or ds k (pos 0)

-- the same exact sum at every tick, the granule's end too. `exact_at cs` is H^n times the sum, n +
-- 1 being the length of cs: so each is multiplied by the other's denominator, and both by one H
-- more
abbrev pub SameSums : List ℤ → List ℤ → ℕ → Type 0
SameSums cs ds H = (i : ℕ) → i ≤ H
    → pos (H ^ length ds) *ℤ exact_at cs i H ≡ pos (H ^ length cs) *ℤ exact_at ds i H
