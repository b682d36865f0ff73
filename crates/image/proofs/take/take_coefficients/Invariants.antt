-- `image::take::take_coefficients` meets its contract. Each coefficient taken so far is the one
-- stored for its granule. Assumes nothing.
use Prim.Native.Nat.{ℕ, ◌+◌, ◌/◌, ◌%◌, ◌<◌}
use Rattle.image.specs.Image.{coefficient_at}
use lib.IntN.{pos}
use lib.ListN.{get_or}
use mathlib.Core.Path.{◌≡◌}
use Rattle.image.proofs.take.take_coefficients.Given as goal

abbrev pub invariant-loop-i : goal.invariant-loop-i
invariant-loop-i l =
    (j : ℕ) → j < l.i → get_or l.coefficients j (pos 0) ≡ coefficient_at l.bytes (j / (l.degree + 1)) (j % (l.degree + 1))
