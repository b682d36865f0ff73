-- `image::bounds::bounded` meets its contract: each way out is one bound broken, the bounds before
-- it kept. Assumes nothing.
use Rattle.image.proofs.Bounding.{high_degree, length_out, count_out, start_out, end_told, end_within}
use Rattle.image.proofs.Bounding.{length_is, count_is, length_within, count_within, count_back, span_within}
use borrow.Author.Rules.{rules}
use mathlib.Core.Bool.{true}
use mathlib.Core.Path.{◌≡◌, sym, ◌∙◌}
use mir.Syntax.{w64}
use mir.ValLaws.{to_z-of_z}
use Rattle.image.proofs.bounds.bounded.Goals as goal
use Rattle.image.proofs.bounds.bounded.Goals.{then-table-gt-MOST_DEGREE-via-then-table-gt-MOST_DEGREE}
use Rattle.image.proofs.bounds.bounded.Goals.{then-table-gt-MOST_DEGREE-via-else-table-gt-MOST_DEGREE+then-not-contains}
use Rattle.image.proofs.bounds.bounded.Goals.{then-table-gt-MOST_DEGREE-via-else-table-gt-MOST_DEGREE+else-not-contains+then-not-contains-2}
use Rattle.image.proofs.bounds.bounded.Goals.{then-table-gt-MOST_DEGREE-via-else-table-gt-MOST_DEGREE+else-not-contains+else-not-contains-2+then-not-valid}

pub returns-then-table-gt-MOST_DEGREE : goal.returns-then-table-gt-MOST_DEGREE
returns-then-table-gt-MOST_DEGREE c =
    let t = c.args.table in
    elim c.then-table-gt-MOST_DEGREE.branch [
      | then-table-gt-MOST_DEGREE-via-then-table-gt-MOST_DEGREE w ↦ high_degree t w.if-table-gt-MOST_DEGREE.true
      | then-table-gt-MOST_DEGREE-via-else-table-gt-MOST_DEGREE+then-not-contains w ↦ length_out t w.if-table-gt-MOST_DEGREE.false
          (length_is w.new.result t w.contains.result _ w.new.ensures.start w.new.ensures.end w.new.ensures.exhausted w.contains.ensures.value
          w.if-not-contains.true (search rules))
      | then-table-gt-MOST_DEGREE-via-else-table-gt-MOST_DEGREE+else-not-contains+then-not-contains-2 w ↦ count_out t w.if-table-gt-MOST_DEGREE.false
          (length_is w.new.result t w.contains.result _ w.new.ensures.start w.new.ensures.end w.new.ensures.exhausted w.contains.ensures.value
          w.if-not-contains.false (search rules))
          (count_is w.new-else-not-contains.result t w.contains-else-not-contains.result _ w.new-else-not-contains.ensures.start
          w.new-else-not-contains.ensures.end w.new-else-not-contains.ensures.exhausted w.contains-else-not-contains.ensures.value w.if-not-contains-2.true)
      | then-table-gt-MOST_DEGREE-via-else-table-gt-MOST_DEGREE+else-not-contains+else-not-contains-2+then-not-valid w ↦
          start_out t w.if-table-gt-MOST_DEGREE.false
          (length_is w.new.result t w.contains.result _ w.new.ensures.start w.new.ensures.end w.new.ensures.exhausted w.contains.ensures.value
          w.if-not-contains.false (search rules))
          (count_is w.new-else-not-contains.result t w.contains-else-not-contains.result _ w.new-else-not-contains.ensures.start
          w.new-else-not-contains.ensures.end w.new-else-not-contains.ensures.exhausted w.contains-else-not-contains.ensures.value w.if-not-contains-2.false)
          (rw (to_z-of_z w64 t.start.0 (search rules)) at (sym w.valid.ensures ∙ w.if-not-valid.true))
    ]

pub overflow_add-start : goal.overflow_add-start
overflow_add-start c =
    let t = c.args.table in
    let l : length_within t ≡ true = (length_is c.new.result t c.contains.result _ c.new.ensures.start c.new.ensures.end
    c.new.ensures.exhausted c.contains.ensures.value
    c.if-not-contains.false (search rules)) in
    let n : count_within t ≡ true = (count_is c.new-else-not-contains.result t c.contains-else-not-contains.result _ c.new-else-not-contains.ensures.start
    c.new-else-not-contains.ensures.end c.new-else-not-contains.ensures.exhausted c.contains-else-not-contains.ensures.value c.if-not-contains-2.false) in
    let v = (rw (to_z-of_z w64 t.start.0 (search rules)) at (sym c.valid.ensures ∙ c.if-not-valid.false)) in
    rw (
      to_z-of_z w64 t.start.0 (search rules),
      c.from.ensures,
      count_back t n,
      to_z-of_z w64 t.length (search rules),
      to_z-of_z w64 _ (span_within t l n),
    )
    (end_within t c.if-table-gt-MOST_DEGREE.false l n v)

pub returns : goal.returns
returns c =
    let t = c.args.table in
    let l : length_within t ≡ true = (length_is c.new.result t c.contains.result _ c.new.ensures.start c.new.ensures.end
    c.new.ensures.exhausted c.contains.ensures.value
    c.if-not-contains.false (search rules)) in
    let n : count_within t ≡ true = (count_is c.new-else-not-contains.result t c.contains-else-not-contains.result _ c.new-else-not-contains.ensures.start
    c.new-else-not-contains.ensures.end c.new-else-not-contains.ensures.exhausted c.contains-else-not-contains.ensures.value c.if-not-contains-2.false) in
    let v = (rw (to_z-of_z w64 t.start.0 (search rules)) at (sym c.valid.ensures ∙ c.if-not-valid.false)) in
    c.valid-2.ensures
    ∙ rw (
      to_z-of_z w64 t.start.0 (search rules),
      c.from.ensures,
      count_back t n,
      to_z-of_z w64 t.length (search rules),
      to_z-of_z w64 _ (span_within t l n),
      to_z-of_z w64 _ (end_within t c.if-table-gt-MOST_DEGREE.false l n v),
    )
    (end_told t c.if-table-gt-MOST_DEGREE.false l n v)
