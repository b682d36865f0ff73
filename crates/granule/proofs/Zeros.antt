-- A zero behind a granule's coefficients changes nothing: of each test of a granule by itself, and
-- of the two sums of a join. Assumes nothing.
use mathlib.Core.Path.{◌≡◌, refl, ap}
use mathlib.Core.Bool.{Bool, ◌&&◌}
use mathlib.Core.List.{List, [], ◌∷◌, ◌++◌}
use Prim.Native.Nat.{ℕ, suc, ◌+◌, ◌*◌}
use native.Mathlib.Omega.{arith}
use lib.IntN.{ℤ, pos, nat_abs, ◌+ℤ◌, ◌-ℤ◌}
use Rattle.granule.specs.Tests.{is_within, is_small, weight_from, weight_of, is_light, plain_sum, alternating_sum}

-- what is said of coefficients is said of them with a zero behind too
abbrev pub IgnoresZero : {A : Type 0} → (List ℤ → A) → Type 0
IgnoresZero f = (c : List ℤ) → f (c ++ pos 0 ∷ []) ≡ f c

-- ---- 14
pub small_ignores : IgnoresZero is_small
unfolding is_small
small_ignores [] = refl
small_ignores (x ∷ c) = ap (λ (v : Bool). is_within x && v) (small_ignores c)

-- ---- 15
weight_ignores : (k : ℕ) → IgnoresZero (weight_from k)
unfolding weight_from
weight_ignores k [] = omega arith
weight_ignores k (x ∷ c) = ap (λ (w : ℕ). k * k * nat_abs x + w) (weight_ignores (suc k) c)

pub light_ignores : (H : ℕ) → IgnoresZero (λ c. is_light (weight_of c) H)
unfolding weight_of
light_ignores H c = ap (λ (w : ℕ). is_light w H) (weight_ignores 0 c)

-- of all tests of a granule by itself: that one of them ignores a zero is `search zeros`
pub ruleset zeros = (small_ignores, light_ignores)

-- ---- 16: the sums of a join
pub plain_ignores : IgnoresZero plain_sum
unfolding plain_sum
plain_ignores [] = refl
plain_ignores (x ∷ c) = ap (λ (s : ℤ). x +ℤ s) (plain_ignores c)

pub alternating_ignores : IgnoresZero alternating_sum
unfolding alternating_sum
alternating_ignores [] = refl
alternating_ignores (x ∷ c) = ap (λ (s : ℤ). x -ℤ s) (alternating_ignores c)
