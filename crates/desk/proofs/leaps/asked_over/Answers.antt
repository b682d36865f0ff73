-- `desk::leaps::asked_over` meets its contract. Assumes nothing.
use mathlib.Core.Path.{◌≡◌, sym, ◌∙◌}
use mathlib.Core.Bool.{true, false}
use Rattle.desk.specs.Order.{uses_leaps}
use Rattle.desk.proofs.leaps.asked_over.Goals as goal

pub returns-then-uses_leaps : goal.returns-then-uses_leaps
returns-then-uses_leaps c =
    let uses : uses_leaps c.args.reads c.args.writes ≡ true =
    sym c.uses_leaps.ensures ∙ c.if-uses_leaps.true in
    rw uses (rw c.is_right.ensures at c.asked_of.ensures)

pub returns : goal.returns
returns c =
    let unused : uses_leaps c.args.reads c.args.writes ≡ false =
    sym c.uses_leaps.ensures ∙ c.if-uses_leaps.false in
    rw unused c.asked_of-2.ensures
