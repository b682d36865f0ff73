-- The tests of one granule and of a join, and what they leave. A granule's coefficients c_0, ..,
-- c_n are a list, c_0 first.
use Rattle.std.specs.Prelude.{◌≡◌, Bool, true, ◌&&◌, List, [], ◌∷◌, ℕ, suc, ◌+◌, ◌*◌, ◌^◌, ◌≤◌, leb}
use Rattle.std.specs.Prelude.{ℤ, pos, nat_abs, ◌+ℤ◌, ◌-ℤ◌, length}
use Rattle.granule.specs.Bounds.{most_degree, shortest_length}

-- ---- the sums
-- k²·|c_k| from c_k on
unfoldable pub weight_from : ℕ → List ℤ → ℕ
weight_from k [] = 0
weight_from k (c ∷ cs) = k * k * nat_abs c + weight_from (suc k) cs

-- 'Call the sum of k²·|c_k| the weight.'
unfoldable pub weight_of : List ℤ → ℕ
weight_of cs = weight_from 0 cs

-- 'plain sum of c_k': c_0 + c_1 + c_2 + ..
unfoldable pub plain_sum : List ℤ → ℤ
plain_sum [] = pos 0
plain_sum (c ∷ cs) = c +ℤ plain_sum cs

-- 'alternating sum': c_0 − c_1 + c_2 − ..
unfoldable pub alternating_sum : List ℤ → ℤ
alternating_sum [] = pos 0
alternating_sum (c ∷ cs) = c -ℤ alternating_sum cs

-- ---- the tests
-- 14: 'a coefficient beyond 2^40 either way'
abbrev pub largest : ℕ
largest = 2 ^ 40

abbrev pub is_within : ℤ → Bool
is_within c = leb (nat_abs c) largest

unfoldable pub is_small : List ℤ → Bool
is_small [] = true
is_small (c ∷ cs) = is_within c && is_small cs

-- 15: 'weight above 2^40 or above H'
abbrev pub heaviest : ℕ
heaviest = 2 ^ 40

unfoldable pub is_light : ℕ → ℕ → Bool
is_light weight H = leb weight heaviest && leb weight H

-- 16: 'at a join, plain sum of c_k and alternating sum of the next granule differ by over 1024
-- units'
abbrev pub widest : ℕ
widest = 1024

unfoldable pub is_joined : ℤ → ℤ → Bool
is_joined plain alternating = leb (nat_abs (plain -ℤ alternating)) widest

-- ---- what the tests leave
-- what the theorems ask of a granule: n within its bound, H not below its own, and test 15
pub record Passed (cs : List ℤ) (H : ℕ) : Type 0 where
  pub some : 1 ≤ length cs
  pub few : length cs ≤ most_degree + 1
  pub long : shortest_length ≤ H
  pub light : weight_of cs ≤ heaviest
  pub slow : weight_of cs ≤ H

-- and of a granule and the next one: they are of one degree, and pass test 16
pub record Meeting (cs next : List ℤ) : Type 0 where
  pub same : length cs ≡ length next
  pub near : nat_abs (plain_sum cs -ℤ alternating_sum next) ≤ widest
