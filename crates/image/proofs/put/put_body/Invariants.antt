-- `image::put::put_body` meets its contract. Each byte put so far is the definition's.
-- Assumes nothing.
use Prim.Native.Nat.{ℕ, ◌<◌}
use Rattle.image.specs.Image.{body_byte}
use lib.ListN.{get_or}
use mathlib.Core.Path.{◌≡◌}
use Rattle.image.proofs.put.put_body.Given as goal

abbrev pub invariant-loop-j : goal.invariant-loop-j
invariant-loop-j l = (i : ℕ) → i < l.j → get_or l.byte-items i 0 ≡ body_byte l.table l.coefficients l.k i
