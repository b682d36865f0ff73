-- `turns::run_over`: what is lent to the run is the table's coefficients, or nothing. Assumes
-- nothing.
use mathlib.Core.Path.{◌∙◌, sym}
use Rattle.opened.proofs.Opening.{table_lent}
use Rattle.turns.proofs.run_over.Goals as goal

pub invariant_of-run : goal.invariant_of-run
invariant_of-run g c =
    record {
      lent =
          rw (c.how_many-many.ensures, c.take.ensures.front)
          (table_lent _ _ (sym c.judge-judged.ensures ∙ c.in-Ok.is));
    }
