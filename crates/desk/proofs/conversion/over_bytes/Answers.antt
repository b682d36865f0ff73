-- `desk::conversion::over_bytes` meets its contract. Assumes nothing.
use Rattle.std.specs.Prelude.{Ok}
use Rattle.scales.proofs.PassedOn.{passed_on}
use mathlib.Core.Path.{◌≡◌, sym, ◌∙◌}
use Rattle.blocks.specs.Judging.{judged}
use Rattle.opened.proofs.Opening.{coefficients_are}
use Rattle.desk.proofs.conversion.over_bytes.Goals as goal
use Rattle.desk.proofs.conversion.over_bytes.Goals.{In_ok-table}

-- the bytes were judged to hold the table
opened : (c : In_ok-table)
    → judged c.args.bytes.now ≡ Ok c.in_ok-table.table
opened c = sym c.judge.ensures ∙ c.in_ok-table.was

pub taken_over-requires : goal.taken_over-requires
taken_over-requires c = record { accepted = opened c }

pub returns : goal.returns
returns c =
    rw (opened (goal.at.returns c).In_ok-table, coefficients_are _ _ (opened (goal.at.returns c).In_ok-table))
    c.taken_over.ensures

pub returns-in_err-table : goal.returns-in_err-table
returns-in_err-table c = rw (passed_on _ _ c.from_residual.ensures, sym c.judge.ensures ∙ c.in_err-table.was)
