-- `desk::asked::asked_of` meets its contract. Assumes nothing.
use Rattle.std.specs.Prelude.{Ok}
use Rattle.scales.proofs.PassedOn.{passed_on}
use mathlib.Core.Path.{◌≡◌, sym, ◌∙◌}
use Rattle.scales.specs.Scales.{scale_of}
use Rattle.desk.proofs.Asking.{from_refused, to_refused, both_named}
use Rattle.desk.proofs.asked.asked_of.Goals as goal
use Rattle.desk.proofs.asked.asked_of.Goals.{In_ok-start}

-- the first scale, where the second code is looked at
from_is : (c : In_ok-start) → scale_of c.args.reads c.args.from 0 ≡ Ok c.in_ok-start.start
from_is c = sym c.scale_of.ensures ∙ c.in_ok-start.was

pub returns-in_err-start : goal.returns-in_err-start
returns-in_err-start c =
    passed_on _ _ c.from_residual.ensures ∙ from_refused _ _ _ _ _ _ _ (sym c.scale_of.ensures ∙ c.in_err-start.was)

pub returns-in_err-end : goal.returns-in_err-end
returns-in_err-end c =
    passed_on _ _ c.from_residual-in_err-end.ensures
    ∙ to_refused _ _ _ _ _ _ _ (from_is (goal.at.returns-in_err-end c).In_ok-start) _ (sym c.scale_of-2.ensures ∙ c.in_err-end.was)

pub returns : goal.returns
returns c =
    c.asked_between.ensures ∙ both_named _ _ _ _ _ _ _ (from_is (goal.at.returns c).In_ok-start) _ (sym c.scale_of-2.ensures ∙ c.in_ok-end.was)
