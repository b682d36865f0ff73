-- The lowest place at which a test fails, a test of every place, and the list of what stands at
-- each place.
use Rattle.std.specs.Prelude.{Bool, true, cond, ◌&&◌, List, [], ◌∷◌, ℕ, zero, suc, ltb}
use Rattle.std.specs.Prelude.{Option, None, Some}

-- the lowest i below n with p i false, or n where there is none
unfoldable pub lowest : (ℕ → Bool) → ℕ → ℕ
lowest p zero = 0
lowest p (suc n) = cond (p 0) (suc (lowest (λ i. p (suc i)) n)) 0

-- that i, or none
unfoldable pub found : (ℕ → Bool) → ℕ → Option ℕ
found p n = cond (ltb (lowest p n) n) (Some (lowest p n)) None

-- p holds of each number below n
unfoldable pub every : (ℕ → Bool) → ℕ → Bool
every p zero = true
every p (suc n) = p n && every p n

-- f 0, f 1, .. f (n − 1)
unfoldable pub up_to : {A : Type 0} → (ℕ → A) → ℕ → List A
up_to f zero = []
up_to f (suc n) = f 0 ∷ up_to (λ i. f (suc i)) n
