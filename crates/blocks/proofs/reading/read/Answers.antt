-- `blocks::reading::read` meets its contract: it judges before it stores. Assumes nothing.
use Rattle.std.specs.Prelude.{Ok}
use Rattle.blocks.proofs.Accepting.{stored_for, accepted_of, accepted_blocks}
use Rattle.granules.specs.Accepted as table
use Rattle.blocks.proofs.Taking.{read_table_refused, read_unfit, read_done}
use Rattle.blocks.specs.Judging.{judged}
use Rattle.image.proofs.Slots.{room}
use Rattle.scales.proofs.PassedOn.{passed_on}
use mathlib.Core.Path.{◌≡◌, sym, ◌∙◌}
use native.Mathlib.Omega.{arith}
use Rattle.blocks.proofs.reading.read.Goals as goal
use Rattle.blocks.proofs.reading.read.Goals.{In_ok-table}

is_accepted : (c : In_ok-table)
    → judged c.args.bytes.now ≡ Ok c.in_ok-table.table
is_accepted c = sym c.judge.ensures ∙ c.in_ok-table.was

accepted : (c : In_ok-table)
    → table.Accepted c.in_ok-table.table (stored_for c.args.bytes.now c.in_ok-table.table)
accepted c = accepted_of _ _ (is_accepted c)

pub overflow_mul-count : goal.overflow_mul-count
overflow_mul-count c = omega (arith, room c.in_ok-table.table.count c.in_ok-table.table.degree (accepted (goal.at.overflow_mul-count c).In_ok-table).bounds.few)

pub returns-then-coefficients-count : goal.returns-then-coefficients-count
returns-then-coefficients-count c =
    rw c.refused.ensures
    (read_unfit c.args.bytes.now c.args.coefficients.now c.in_ok-table.table (is_accepted (goal.at.returns-then-coefficients-count c).In_ok-table)
    c.if-coefficients-count.true)

pub take_coefficients-requires : goal.take_coefficients-requires
take_coefficients-requires c =
    record {
      bounds = (accepted (goal.at.take_coefficients-requires c).In_ok-table).bounds.few;
      blocks = accepted_blocks _ _ (is_accepted (goal.at.take_coefficients-requires c).In_ok-table);
      long = c.if-coefficients-count.false;
    }

pub returns-in_err-table : goal.returns-in_err-table
returns-in_err-table c =
    rw (passed_on _ _ c.from_residual.ensures)
    (read_table_refused c.args.bytes.now c.args.coefficients.now _ (sym c.judge.ensures ∙ c.in_err-table.was))

pub returns : goal.returns
returns c =
    read_done c.args.bytes.now c.args.coefficients.now c.in_ok-table.table (is_accepted (goal.at.returns c).In_ok-table) _
    c.if-coefficients-count.false c.take_coefficients.ensures
