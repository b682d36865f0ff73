-- `blocks::writing::write` meets its contract: it judges before it stores. Assumes nothing.
use Rattle.image.proofs.Bounding.{bounds_told}
use Rattle.blocks.proofs.Putting.{product, wrote_refused, unfit_list, unfit_buffer, unbounded}
use Rattle.blocks.proofs.Putting.{by_refused, wrote_done}
use Rattle.image.specs.Bounds.{is_bounded}
use Rattle.blocks.specs.Judging.{table_from}
use Rattle.image.specs.declared.table.Table.{Table}
use mathlib.Core.Bool.{true}
use Rattle.scales.proofs.PassedOn.{passed_on}
use mathlib.Core.Path.{◌≡◌, sym, ◌∙◌}
use mir.Syntax.{w64}
use mir.Val.{to_z, of_z}
use mir.ValLaws.{to_z-of_z}
use native.Mathlib.Omega.{arith}
use Rattle.blocks.proofs.writing.write.Goals as goal
use Rattle.blocks.proofs.writing.write.Goals.{Else-not-bounded, Start}

abbrev table : Start → Table
table s = table_from s.args.start s.args.length s.args.count s.args.degree

-- the length reads back from its bits
length_back : (s : Start) → to_z w64 (of_z w64 s.args.length) ≡ s.args.length
length_back s = to_z-of_z w64 s.args.length s.ranges.length

is_bounded_lem : (c : Else-not-bounded) → is_bounded (table (goal.at.Else-not-bounded c).Start) ≡ true
is_bounded_lem c = rw (length_back (goal.at.Else-not-bounded c).Start) at (sym c.bounded.ensures ∙ c.if-not-bounded.false)

pub overflow_mul-granules : goal.overflow_mul-granules
overflow_mul-granules c = record { fits = product _ _ (omega arith) (omega arith) }

pub returns-then-coefficients-granules : goal.returns-then-coefficients-granules
returns-then-coefficients-granules c =
    rw c.refused.ensures (wrote_refused (table (goal.at.returns-then-coefficients-granules c).Start) c.args.coefficients.now c.args.image.now _
    (unfit_list (table (goal.at.returns-then-coefficients-granules c).Start) c.args.coefficients.now c.args.image.now c.if-coefficients-granules.true))

pub returns-then-image-granules : goal.returns-then-image-granules
returns-then-image-granules c =
    rw c.refused-then-image-granules.ensures (wrote_refused (table (goal.at.returns-then-image-granules c).Start) c.args.coefficients.now c.args.image.now _
    (unfit_buffer (table (goal.at.returns-then-image-granules c).Start) c.args.coefficients.now c.args.image.now c.if-coefficients-granules.false
    c.if-image-granules.true))

pub returns-then-not-bounded : goal.returns-then-not-bounded
returns-then-not-bounded c =
    rw c.refused-then-not-bounded.ensures (wrote_refused (table (goal.at.returns-then-not-bounded c).Start) c.args.coefficients.now c.args.image.now _
    (unbounded (table (goal.at.returns-then-not-bounded c).Start) c.args.coefficients.now c.args.image.now c.if-coefficients-granules.false
    c.if-image-granules.false
    (rw (length_back (goal.at.returns-then-not-bounded c).Start) at (sym c.bounded.ensures ∙ c.if-not-bounded.true))))

pub test_listed-requires : goal.test_listed-requires
test_listed-requires c =
    rw (length_back (goal.at.test_listed-requires c).Start)
    (record { bounds = bounds_told _ (is_bounded_lem c); whole = c.if-coefficients-granules.false })

pub put_image-requires : goal.put_image-requires
put_image-requires c =
    rw (length_back (goal.at.put_image-requires c).Start)
    (record {
      table =
          record { bounds = bounds_told _ (is_bounded_lem (goal.at.put_image-requires c).Else-not-bounded); whole = c.if-coefficients-granules.false };
      long =
          c.if-image-granules.false;
    })

pub returns-in_err-test_listed : goal.returns-in_err-test_listed
returns-in_err-test_listed c =
    let same = rw (length_back (goal.at.returns-in_err-test_listed c).Start) at c.test_listed.ensures in
    rw (passed_on _ _ c.from_residual.ensures)
    (wrote_refused (table (goal.at.returns-in_err-test_listed c).Start) c.args.coefficients.now c.args.image.now _
    (by_refused (table (goal.at.returns-in_err-test_listed c).Start) c.args.coefficients.now c.args.image.now c.if-coefficients-granules.false
    c.if-image-granules.false (is_bounded_lem (goal.at.returns-in_err-test_listed c).Else-not-bounded) _
    (sym c.in_err-test_listed.was ∙ same)))

pub returns : goal.returns
returns c =
    let same = rw (length_back (goal.at.returns c).Start) at c.test_listed.ensures in
    let put = rw (length_back (goal.at.returns c).Start) at c.put_image.ensures in
    rw (length_back (goal.at.returns c).Start)
    (wrote_done (table (goal.at.returns c).Start) c.args.coefficients.now c.args.image.now c.if-coefficients-granules.false
    c.if-image-granules.false (is_bounded_lem (goal.at.returns c).Else-not-bounded) _
    (sym c.in_ok-test_listed.was ∙ same) put)
