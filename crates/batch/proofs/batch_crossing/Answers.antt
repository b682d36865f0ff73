-- `batch::batch_crossing` meets its contract. Assumes nothing.
use Rattle.scales.proofs.PassedOn.{passed_on}
use mathlib.Core.Path.{sym, ◌∙◌}
use Rattle.batch.proofs.Batches.{filled_taken, filled_judged}
use Rattle.batch.proofs.batch_crossing.Goals as goal

pub batch_taken-requires : goal.batch_taken-requires
batch_taken-requires c = record { opened = record { accepted = sym c.judge.ensures ∙ c.in_ok-table.was }; long = c.requires }

pub returns : goal.returns
returns c = filled_taken _ _ _ _ _ _ (sym c.judge.ensures ∙ c.in_ok-table.was) c.batch_taken.ensures

pub returns-in_err-table : goal.returns-in_err-table
returns-in_err-table c =
    rw (passed_on _ _ c.from_residual.ensures) (filled_judged _ _ _ _ _ _ (sym c.judge.ensures ∙ c.in_err-table.was))
