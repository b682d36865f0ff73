-- After k coefficients the largest and the sum are those of the first k differences.
use mathlib.Core.Path.{◌≡◌}
use Rattle.image.specs.Image.{granule_stored}
use Rattle.comparing.specs.Changes.{difference_at, largest_to, sum_to}
use Rattle.comparing.proofs.differing.Tables.change_of.Given as goal

abbrev pub invariant-loop-k : goal.invariant-loop-k
invariant-loop-k l =
    let first = granule_stored l.self.first.bytes.now l.self.first.degree l.granule in
    let second = granule_stored l.self.second.bytes.now l.self.second.degree l.granule in
    let by = difference_at first second in
    (l.largest ≡ largest_to by l.k) × (l.sum ≡ sum_to by l.k)
