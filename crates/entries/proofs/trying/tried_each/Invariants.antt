-- `entries::trying::tried_each` meets its contract: what trying all says is what trying those that
-- are left says. The measure is how many are left. Assumes nothing.
use mathlib.Core.Path.{◌≡◌}
use Prim.Native.Nat.{◌-◌, ◌≤◌}
use lib.ListN.{length, drop}
use Rattle.scales.specs.Path.{steps}
use Rattle.entries.specs.Entries.{tried_of, all_tried, entry_of}
use Rattle.entries.proofs.trying.tried_each.Given as goal

abbrev pub invariant-loop-index : goal.invariant-loop-index
invariant-loop-index l =
    (l.index ≤ length l.ticks)
    × (all_tried l.from l.to l.ticks l.kept.table l.kept.coefficients.now
    ≡ tried_of (entry_of l.from l.to l.kept.table l.kept.coefficients.now) (steps l.from l.to) l.index (drop l.index l.ticks))

abbrev pub decreases-loop-index : goal.decreases-loop-index
decreases-loop-index l = length l.ticks - l.index
