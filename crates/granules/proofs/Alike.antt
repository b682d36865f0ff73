-- Coefficients that the tests do not tell apart: zeros behind a granule's own change nothing.
-- Assumes nothing.
use mathlib.Core.Path.{◌≡◌, refl, ◌∙◌, ap}
use mathlib.Core.List.{List, [], ◌∷◌}
use Prim.Native.Nat.{ℕ, zero, suc, ◌+◌, ◌≤◌, ◌<◌, zero-le}
use native.Mathlib.Nat.{not-suc-le-zero, le_of_suc-le-suc}
use native.Mathlib.Omega.{arith}
use lib.IntN.{ℤ, pos}
use Rattle.numbers.specs.Lowest.{up_to}
use Rattle.numbers.specs.Tests.{Rule, rank}
use Rattle.granule.proofs.Zeros.{IgnoresZero, zeros}
use Rattle.image.specs.Image.{coefficient_at, stored_of, granule_stored}
use Rattle.image.specs.declared.table.Table.{Table}
use Rattle.image.proofs.Again.{stored_zero}
use Rattle.granules.specs.Pass.{Formed}
use Rattle.granules.specs.Tests.{own_rules}

-- ---- the rules of a granule by itself ignore a zero behind its coefficients, and so does its rank
none_ignores : IgnoresZero (rank [])
unfolding rank
none_ignores c = refl

rank_ignores : (x : Rule (List ℤ)) (xs : List (Rule (List ℤ))) → IgnoresZero x.pass → IgnoresZero (rank xs)
    → IgnoresZero (rank (x ∷ xs))
unfolding rank
rank_ignores x xs one more c = rw (one c, more c)

own_ignores : (H : ℕ) → IgnoresZero (rank (own_rules H))
own_ignores H = search (rank_ignores, none_ignores, zeros) depth 9

-- ---- coefficients that nothing tells apart which ignores a zero behind them
pub record Alike (c d : List ℤ) : Type 1 where
  pub same : {A : Type 0} (f : List ℤ → A) → IgnoresZero f → f c ≡ f d

pub alike_same : {c d : List ℤ} → c ≡ d → Alike c d
alike_same e = record { same = λ f _. ap f e }

-- so they have one rank
pub own_same : (H : ℕ) {c d : List ℤ} → Alike c d → rank (own_rules H) c ≡ rank (own_rules H) d
own_same H a = a.same (rank (own_rules H)) (own_ignores H)

alike_more : (x : ℤ) {c d : List ℤ} → Alike c d → Alike (x ∷ c) (x ∷ d)
alike_more x a = record { same = λ f p. a.same (λ c. f (x ∷ c)) (λ c. p (x ∷ c)) }

alike_zero : (x : ℤ) {c : List ℤ} → x ≡ pos 0 → Alike c [] → Alike (x ∷ c) []
alike_zero x e a = record { same = λ f p. (alike_more x a).same f p ∙ ap (λ (z : ℤ). f (z ∷ [])) e ∙ p [] }

padded : (f : ℕ → ℤ) (n m : ℕ) → n ≤ m → ((i : ℕ) → n ≤ i → i < m → f i ≡ pos 0)
    → Alike (up_to f m) (up_to f n)
unfolding up_to
padded f zero zero h z = alike_same refl
padded f zero (suc m) h z =
    alike_zero (f 0) (z 0 zero-le (omega arith))
    (padded (λ i. f (suc i)) zero m zero-le (λ i l u. z (suc i) zero-le (omega arith)))
padded f (suc n) zero h z = absurd (not-suc-le-zero h)
padded f (suc n) (suc m) h z =
    alike_more (f 0) (padded (λ i. f (suc i)) n m (le_of_suc-le-suc h) (λ i l u. z (suc i) (omega arith) (omega arith)))

-- the sixteen that are stored for a granule, and its own: 'those above the degree zero', where
-- every block is formed
pub stored_alike : (b : List ℕ) (t : Table) → Formed b t → (g : ℕ) → g < t.count
    → Alike (stored_of b g) (granule_stored b t.degree g)
unfolding stored_of granule_stored
stored_alike b t f g h =
    padded (coefficient_at b g) (t.degree + 1) 16 (omega (arith, f.bounds.few.degree))
    (λ m l u. stored_zero b t f.formed g m h (omega arith) u)
