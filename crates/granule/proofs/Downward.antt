-- The coefficients from c_k on, `drop k cs`, where k is past the last. Assumes nothing.
use mathlib.Core.Path.{◌≡◌, refl}
use mathlib.Core.List.{List, [], ◌∷◌}
use Prim.Native.Nat.{ℕ, zero, suc, ◌≤◌}
use native.Mathlib.Omega.{arith}
use lib.IntN.{ℤ}
use lib.ListN.{length, drop}

pub drop_past : (cs : List ℤ) (k : ℕ) → length cs ≤ k → drop k cs ≡ []
drop_past [] zero h = refl
drop_past [] (suc k) h = refl
drop_past (c ∷ cs) zero h = let never : ⊥ = omega arith in absurd never
drop_past (c ∷ cs) (suc k) h = drop_past cs k (omega arith)
