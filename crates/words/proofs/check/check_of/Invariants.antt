-- `words::check::check_of` meets its contract. After i turns the sums are those of 2·i words, the
-- weighted one with the second words once more, and small. Assumes nothing.
use Prim.Native.Nat.{◌+◌, ◌*◌, ◌≤◌}
use Rattle.words.specs.Check.{sum_a, sum_b}
use Rattle.words.specs.Words.{from}
use mathlib.Core.Path.{◌≡◌}
use Rattle.words.proofs.check.check_of.Given as goal

abbrev pub invariant-loop-pair : goal.invariant-loop-pair
invariant-loop-pair l =
    (l.pair-index ≤ 127) × (l.weight + 2 * l.pair-index ≡ 254) × (l.plain ≡ sum_a (from l.bytes l.at) (2 * l.pair-index))
    × (l.weighted ≡ sum_b (from l.bytes l.at) (2 * l.pair-index) + l.second)
    × (l.plain ≤ 131070 * l.pair-index)
    × (l.second ≤ 65535 * l.pair-index) × (l.weighted ≤ 33291780 * l.pair-index)
