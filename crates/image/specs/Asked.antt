-- What the inner functions ask of their callers, and what they leave.
use Rattle.std.specs.Prelude.{◌≡◌, true, List, ℕ, ◌+◌, ◌*◌, ◌/◌, ◌≤◌, ◌<◌, ℤ, length, get_or}
use Rattle.words.specs.Words.{byte_of, from}
use Rattle.words.specs.Check.{check_a, check_b}
use Rattle.form.specs.Few.{most_granules, Few}
use Rattle.form.specs.Form.{blocks_of, is_coefficient}
use Rattle.form.specs.Asked.{BodyPlace}
use Rattle.image.specs.declared.table.Table.{Table}
use Rattle.image.specs.Bounds.{Bounded}
use Rattle.image.specs.Image.{how_many}

-- a byte of a coefficient that the list has
pub record Holding (c : List ℤ) (G n k j : ℕ) : Type 0 where
  pub within : BodyPlace G k j
  pub coefficients : length c ≡ G * (n + 1)
  pub coefficient : is_coefficient G n k j ≡ true
  pub other : 1 ≤ k

-- a table within the bounds, with its coefficients
pub record WholeTable (t : Table) (c : List ℤ) : Type 0 where
  pub bounds : Bounded t
  pub whole : length c ≡ how_many t

-- and a buffer of its size
pub record Fitting (t : Table) (c : List ℤ) (b : List ℕ) : Type 0 where
  pub table : WholeTable t c
  pub long : length b ≡ blocks_of t.count * 512

-- a granule's sixteen coefficients are in the bytes
pub record Stored (b : List ℕ) (g : ℕ) : Type 0 where
  pub few : g < most_granules
  pub long : (1 + g / 3) * 512 + 512 ≤ length b

-- and one of them
pub record StoredAt (b : List ℕ) (g m : ℕ) : Type 0 where
  pub granule : Stored b g
  pub which : m < 16

-- blocks enough for the granules, and a list of their size
pub record Taking (b : List ℕ) (G n : ℕ) (d : List ℤ) : Type 0 where
  pub bounds : Few G n
  pub blocks : length b ≡ blocks_of G * 512
  pub long : length d ≡ G * (n + 1)

-- ---- what is left
-- b' is b with f 0, .. f (m − 1) from `at` on, and as it was before that
pub record Stores (f : ℕ → ℕ) (at m : ℕ) (b b' : List ℕ) : Type 0 where
  pub long : length b' ≡ length b
  pub below : (i : ℕ) → i < at → get_or b' i 0 ≡ get_or b i 0
  pub each : (j : ℕ) → j < m → get_or b' (at + j) 0 ≡ f j

-- b' is b with the check words of the block at `at` put, and as it was before them
pub record Sealed (at : ℕ) (b b' : List ℕ) : Type 0 where
  pub long : length b' ≡ length b
  pub below : (i : ℕ) → i < at + 508 → get_or b' i 0 ≡ get_or b i 0
  pub a0 : get_or b' (at + 508) 0 ≡ byte_of (check_a (from b at)) 0
  pub a1 : get_or b' (at + 509) 0 ≡ byte_of (check_a (from b at)) 1
  pub b0 : get_or b' (at + 510) 0 ≡ byte_of (check_b (from b at)) 0
  pub b1 : get_or b' (at + 511) 0 ≡ byte_of (check_b (from b at)) 1
