-- What the inner functions ask of their callers. All of it follows from the bounds of 01 and from
-- test 14; without it the numbers would not fit 64 bits.
use Rattle.std.specs.Prelude.{◌≡◌, ◌⊎◌, true, List, ℕ, ◌+◌, ◌^◌, ◌≤◌, ℤ, nat_abs, length}
use Rattle.granule.specs.Bounds.{most_degree, shortest_length, longest_length}
use Rattle.granule.specs.Rule.{scale}
use Rattle.granule.specs.Tests.{largest, is_small}

-- H within its bounds, and a place of the granule
pub record InGranule (place H : ℕ) : Type 0 where
  pub long : shortest_length ≤ H
  pub short : H ≤ longest_length
  pub inside : place ≤ H

-- the factors of a rounded product: u is 2^30·s with s from −1 to 1, and no b_k of coefficients up
-- to 2^40 comes near 2^60
pub record Factors (u b : ℤ) : Type 0 where
  pub argument : nat_abs u ≤ scale
  pub bounded : nat_abs b ≤ 2 ^ 60

-- a rounded product is divided by 2^29, and the last by 2^30: the exponents
abbrev pub IsDivisor : ℕ → Type 0
IsDivisor bits = (bits ≡ 29) ⊎ (bits ≡ 30)

-- the numbers that a b_k, or v, is made of
pub record Terms (u c b₁ b₂ : ℤ) : Type 0 where
  pub factors : Factors u b₁
  pub coefficient : nat_abs c ≤ largest
  pub bounded : nat_abs b₂ ≤ 2 ^ 60

-- c_0..c_n with n within its bound, of which test 14 has let each pass
pub record Summable (cs : List ℤ) : Type 0 where
  pub few : length cs ≤ most_degree + 1
  pub small : is_small cs ≡ true

-- a granule's coefficients, at least c_0, and a place in it
pub record Evaluable (cs : List ℤ) (place H : ℕ) : Type 0 where
  pub some : 1 ≤ length cs
  pub summable : Summable cs
  pub placed : InGranule place H
