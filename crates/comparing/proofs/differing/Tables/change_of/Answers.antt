-- `comparing::differing::Tables::change_of` meets its contract. Assumes nothing.
use borrow.Author.Rules.{rules}
use mathlib.Core.Path.{◌≡◌, sym, ◌∙◌}
use mathlib.Core.List.{List}
use Prim.Native.Nat.{ℕ, ◌<◌}
use native.Mathlib.Omega.{arith}
use lib.IntN.{ℤ, ◌-ℤ◌, nat_abs}
use Rattle.numbers.specs.Signs.{gap}
use Rattle.numbers.proofs.Machine.{read, read_is}
use Rattle.numbers.proofs.Order.{gap_turned}
use Rattle.image.specs.Image.{granule_stored}
use Rattle.comparing.specs.declared.differing.Change.{Change}
use Rattle.comparing.specs.Asked.{Pair, IsChange}
use Rattle.comparing.specs.Changes.{difference_at, longer, largest_to, sum_to, largest_of, sum_of}
use Rattle.comparing.proofs.Reading.{longer_is, at_most_16, difference_small, sum_small}
use Rattle.comparing.proofs.Sums.{sum_none, sum_more, largest_none, largest_more}
use Rattle.comparing.proofs.differing.Tables.change_of.Goals as goal
use Rattle.comparing.proofs.differing.Tables.change_of.Goals.{After-abs_diff-by, In-loop-k, Start}

-- the k-th difference, of the two granules
by : (c : After-abs_diff-by)
    → let t = c.args.self.now in
    c.abs_diff-by.result
    ≡ difference_at (granule_stored t.first.bytes.now t.first.degree c.args.granule)
    (granule_stored t.second.bytes.now t.second.degree c.args.granule) c.loop-k.k
by c =
    let x = c.coefficient_or_zero-c.result.0 in
    let y = c.coefficient_or_zero-d.result.0 in
    let x_is = read_is x (record { sfits = search rules }) in
    let y_is = read_is y (record { sfits = search rules }) in
    let turned : nat_abs (read x -ℤ read y) ≡ gap x y = rw (x_is, y_is) (gap_turned y x) in
    c.abs_diff-by.ensures ∙ turned ∙ rw (c.coefficient_or_zero-c.ensures, c.coefficient_or_zero-d.ensures)

-- both tables have the granule
pair : (c : Start) → let t = c.args.self.now in
    Pair t.first.bytes.now t.first.degree t.second.bytes.now t.second.degree c.args.granule
pair c = c.args.self.now.pairs.each c.args.granule c.requires

-- no more than 16 of them
few : (c : In-loop-k) → c.loop-k.k < 16
few c = omega (arith, at_most_16 _ _ _ _ _ (pair (goal.at.In-loop-k c).Start), c.max-width.ensures)

pub overflow_add-width : goal.overflow_add-width
overflow_add-width c = omega (arith, at_most_16 _ _ _ _ _ (pair (goal.at.overflow_add-width c).Start), c.max-width.ensures)

pub loop-k-init : goal.loop-k-init
loop-k-init c = (sym (largest_none _), sym (sum_none _))

pub coefficient_or_zero-c-requires : goal.coefficient_or_zero-c-requires
coefficient_or_zero-c-requires c = (pair (goal.at.coefficient_or_zero-c-requires c).Start).first

pub coefficient_or_zero-d-requires : goal.coefficient_or_zero-d-requires
coefficient_or_zero-d-requires c = (pair (goal.at.coefficient_or_zero-d-requires c).Start).second

pub overflow_add-sum : goal.overflow_add-sum
overflow_add-sum c =
    let p = pair (goal.at.overflow_add-sum c).Start in
    let k = c.loop-k.k in
    record {
      fits = omega (
        arith,
        by (goal.at.overflow_add-sum c).After-abs_diff-by,
        difference_small _ _ _ _ _ p k,
        sum_small _ _ _ _ _ p k
            (omega (arith, few (goal.at.overflow_add-sum c).In-loop-k)),
      );
    }

pub loop-k-preserved : goal.loop-k-preserved
loop-k-preserved c =
    let l = c.loop-k in (
      c.max-largest.ensures ∙ rw (l.invariant.0, by (goal.at.loop-k-preserved c).After-abs_diff-by) (sym (largest_more _ l.k)),
      rw (l.invariant.1, by (goal.at.loop-k-preserved c).After-abs_diff-by) (sym (sum_more _ l.k)),
    )

-- all differences, as many as the longer granule has
whole : (cs ds : List ℤ) (change : Change) (k : ℕ) → k ≡ longer cs ds
    → change.largest ≡ largest_to (difference_at cs ds) k → change.sum ≡ sum_to (difference_at cs ds) k
    → IsChange cs ds change
unfolding largest_of sum_of
whole cs ds change k e l s = record { largest = rw e at l; sum = rw e at s }

pub returns : goal.returns
returns c =
    let l = c.loop-k in
    let n = c.max-width.ensures in
    let t = c.args.self.now in
    let longer = longer_is t.first.bytes.now t.second.bytes.now t.first.degree t.second.degree c.args.granule in
    whole _ _ _ l.k (omega (arith, n, longer)) l.invariant.0 l.invariant.1
