-- Where a coefficient stands in the list and in the bytes. Assumes nothing.
use mathlib.Core.Path.{◌≡◌}
use mathlib.Core.List.{List}
use Prim.Native.Nat.{ℕ, ◌+◌, ◌*◌, ◌/◌, ◌%◌, ◌≤◌, ◌<◌}
use native.Mathlib.Nat.{mul-le-mul_right, mul-le-mul, div-lt_iff_lt-mul, mod-lt}
use native.Mathlib.Omega.{arith}
use lib.ListN.{length}
use Rattle.granule.specs.Bounds.{most_degree}
use Rattle.form.specs.Few.{most_granules, Few}
use Rattle.form.specs.Form.{blocks_of}
use Rattle.image.specs.Asked.{StoredAt}
use Rattle.image.specs.Bounds.{most_coefficients}
use Rattle.image.specs.Image.{stored_at}

-- ---- the place in the list
pub index : (G n g m : ℕ) → g < G → m ≤ n → g * (n + 1) + m < G * (n + 1)
index G n g m h k = omega (arith, mul-le-mul_right {m = g + 1} {n = G} (n + 1) (omega arith))

pub room : (G n : ℕ) → Few G n → G * (n + 1) ≤ most_coefficients
room G n f = mul-le-mul {n₂ = most_granules} {m₂ = most_degree + 1} f.granules (omega (arith, f.degree))

-- ---- the place in the bytes
pub place_fits : (G n i : ℕ) → n ≤ most_degree → i < G * (n + 1)
    → stored_at (i / (n + 1)) (i % (n + 1)) + 8 ≤ blocks_of G * 512
place_fits G n i h l =
    let q : i / (n + 1) < G = (div-lt_iff_lt-mul {k = n + 1} {x = i} {y = G} (omega arith)).1 l in
    let m : i % (n + 1) < n + 1 = mod-lt i (omega arith) in
    go G n (i / (n + 1)) (i % (n + 1)) h q m
  where
    go : (G n g m : ℕ) → n ≤ most_degree → g < G → m < n + 1 → stored_at g m + 8 ≤ blocks_of G * 512
    go G n g m h a b = omega arith

-- a granule's sixteen are there where its block is
pub stored_room : (G g l : ℕ) → g < G → l ≡ blocks_of G * 512 → (1 + g / 3) * 512 + 512 ≤ l
stored_room G g l h e = omega arith

-- and so is each coefficient of the list
pub listed_stored : (b : List ℕ) (G n i : ℕ) → Few G n → length b ≡ blocks_of G * 512 → i < G * (n + 1)
    → StoredAt b (i / (n + 1)) (i % (n + 1))
listed_stored b G n i f e l =
    let q : i / (n + 1) < G = (div-lt_iff_lt-mul {k = n + 1} {x = i} {y = G} (omega arith)).1 l in
    let m : i % (n + 1) < n + 1 = mod-lt i (omega arith) in
    record {
      granule = record { few = omega (arith, f.granules); long = stored_room G (i / (n + 1)) (length b) q e };
      which = omega (arith, f.degree);
    }
