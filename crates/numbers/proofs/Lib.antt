-- The laws of whole numbers: which one to reach for when.
--
-- A fact that is linear in its integers (sums, differences, multiples by a literal, ≤ℤ, <ℤ, ≡,
-- nat_abs x ≤ n): no law. State it over all integers and let `Differences` carry it to `omega`:
--
--     rep₂ _ (λ a b c d. simp lin (omega arith))
--
-- It is the one bridge to `omega`. A product with a natural is linear too, `pos n *ℤ x`; where an
-- order has to be multiplied, hand `omega` the product: `omega (arith, mul-le-mul_right n h)`.
--
-- An identity of polynomials: `Solver`, one line:
--
--     all₃ _ (λ ρ. simp (quote, q_con ρ) (ring ρ _ _ tt))
--
-- One rewriting by associativity or distributivity: `Ring`.
--
-- Transitivity, a product's or a sum's order or size: `Order` (≤-trans, ≤-antisym, ≤-total, *-mono,
-- and le_or_lt over ℕ; size-+ and size-* for |x + y| and |x·y| by the sizes of x and y; sq→abs and
-- abs→sq between x² ≤ m² and |x| ≤ m).
--
-- A rounding: `Rounding`. A number is the floor of x / d, or the nearest to z / d, as soon as it
-- has the two bounds of `Floored` or `Near`: `floor_is`, `nearest_is`. Order: `floor_order`,
-- `nearest_order`. A multiple of the divisor comes out: `floor_plus`, `nearest_plus`. A fraction is
-- reduced: `nearest_reduced`; equal ones are rounded alike: `nearest_same`. At most a half off:
-- `within_half`; less than a half is none: `nearest_none`. Sizes: `floor_small`, `floor_rest`,
-- `nearest_small`. What moves by at most a divisor is rounded to at most one apart:
-- `nearest_moves`. For kernels: `nearest_even` (half of the divisor is added before one floor),
-- `nearest_cut` and `nearest_twice` (a divisor by two shifts), `floor_split` (a product split at
-- the divisor).
--
-- An `i64` of the code: `Machine` (that a number fits, what a test leaves, tests that say the same,
-- >> as a floor, x·y + z, −1 − z of a negative z). The bits of a number that fits read back as it:
-- `read_is`. The elements of an array: `Arrays`.
--
-- The lowest place at which a test fails, a test of every place, a list by its places: `Places`.
-- Two tests in one: `Flags`. A list of tests, and the lowest rank among tests of the same places:
-- `Verdicts`. That code which asks one test after the other returns the rank of the first that
-- fails: `Ranks`, by `search ranks`.
--
-- The Chebyshev polynomials of the granule rule: `Chebyshev` for their recurrence, size (E_bound),
-- ends (E_start, E_end) and other denominators (E_scale), `Slope` for how far E_k moves when p
-- does; `Degrees` for the repeated differences of a function of the place, in which E_k has degree
-- k.
pub mod Differences
pub mod Ring
pub mod Order
pub mod Rounding
pub mod Machine
pub mod Arrays
pub mod Solver
pub mod Chebyshev
pub mod Slope
pub mod Degrees
pub mod Flags
pub mod Places
pub mod Verdicts
pub mod Ranks
pub mod Exactly
