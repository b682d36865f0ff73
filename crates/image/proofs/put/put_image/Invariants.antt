-- `image::put::put_image` meets its contract. Each byte below the next block is the image's.
-- Assumes nothing.
use Prim.Native.Nat.{ℕ, ◌*◌, ◌<◌}
use Rattle.image.specs.Image.{image_byte}
use lib.ListN.{get_or}
use mathlib.Core.Path.{◌≡◌}
use Rattle.image.proofs.put.put_image.Given as goal

abbrev pub invariant-loop-k : goal.invariant-loop-k
invariant-loop-k l = (i : ℕ) → i < l.k * 512 → get_or l.image i 0 ≡ image_byte l.table l.coefficients i
