-- `comparing::compare` meets its contract. Assumes nothing.
use Rattle.std.specs.Prelude.{Err}
use Rattle.scales.proofs.PassedOn.{passed_on}
use mathlib.Core.Path.{sym, ◌∙◌, ap}
use Rattle.comparing.proofs.Deciding.{accepted_as, refused_as, first_refused, second_refused}
use Rattle.comparing.proofs.compare.Goals as goal

pub compare_accepted-requires : goal.compare_accepted-requires
compare_accepted-requires c =
    record {
      first = accepted_as 0 _ _ (sym c.judge_as.ensures ∙ c.in_ok-table.was);
      second = accepted_as 1 _ _ (sym c.judge_as-2.ensures ∙ c.in_ok-other.was);
    }

pub returns-in_err-table : goal.returns-in_err-table
returns-in_err-table c =
    let told = refused_as 0 _ _ (sym c.judge_as.ensures ∙ c.in_err-table.was) in
    rw (passed_on _ _ c.from_residual.ensures ∙ ap Err told.1) (first_refused _ _ _ _ told.0)

pub returns-in_err-other : goal.returns-in_err-other
returns-in_err-other c =
    let told = refused_as 1 _ _ (sym c.judge_as-2.ensures ∙ c.in_err-other.was) in
    rw (passed_on _ _ c.from_residual-in_err-other.ensures ∙ ap Err told.1)
    (second_refused _ _ _ _ _ (accepted_as 0 _ _ (sym c.judge_as.ensures ∙ c.in_ok-table.was)) told.0)
