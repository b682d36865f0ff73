-- `dates::limits::both_pass` meets its contract. Assumes nothing.
use mathlib.Core.Path.{◌≡◌, sym, ◌∙◌}
use mathlib.Core.Bool.{true, false}
use Rattle.dates.specs.Readings.{most_days}
use Rattle.dates.specs.Inner.{passing}
use Rattle.dates.proofs.limits.both_pass.Goals as goal

pub returns-then-passes_days : goal.returns-then-passes_days
returns-then-passes_days c =
    let first : passing most_days c.args.first ≡ true = sym c.passes_days.ensures ∙ c.if-passes_days.true in
    rw first c.passes_days-then-passes_days.ensures

pub returns-else-passes_days : goal.returns-else-passes_days
returns-else-passes_days c =
    let first : passing most_days c.args.first ≡ false = sym c.passes_days.ensures ∙ c.if-passes_days.false in
    rw first c.if-passes_days.false
