-- `granules::pass_over` meets its contract. After g granules the pass has kept their lowest rank,
-- whatever granules `look` finds what comes after. Assumes nothing.
use mathlib.Core.List.{List}
use Prim.Native.Nat.{ℕ}
use lib.IntN.{ℤ, nat_abs}
use Rattle.granules.specs.Pass.{Finds}
use Rattle.granules.proofs.Scanning.{Scanned}
use Rattle.granules.proofs.pass_over.Given as goal

abbrev pub invariant-loop-g : goal.invariant-loop-g
invariant-loop-g g l =
    (granule : ℕ → List ℤ) → Finds (goal.F-post g l.look) l.fn.table granule
    → Scanned granule (nat_abs l.fn.table.length) l.g l.scan
