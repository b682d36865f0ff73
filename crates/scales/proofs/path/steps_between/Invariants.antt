-- `scales::path::steps_between` meets its contract. The steps walked, and the path that is left
-- from where the walk stands, make up the whole path. Assumes nothing.
use mathlib.Core.Path.{◌≡◌}
use Prim.Native.Nat.{ℕ, ◌+◌, ◌-◌}
use lib.ListN.{length}
use Rattle.scales.specs.declared.scale.Scale.{Scale}
use Rattle.scales.specs.Path.{path_within, longest_path, steps}
use Rattle.scales.proofs.path.steps_between.Given as goal

-- what is left of a path, with so many steps walked
unfoldable pub left : ℕ → Scale → Scale → ℕ
left n at to = length (path_within (longest_path - n) at to)

abbrev pub invariant-loop-walked : goal.invariant-loop-walked
invariant-loop-walked l = l.walked + left l.walked l.at l.to ≡ steps l.initial.at l.to
