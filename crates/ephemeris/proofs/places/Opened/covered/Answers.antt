-- `ephemeris::places::Opened::covered` meets its contract: what the place of the earliest tick says
-- already need not be looked at. Assumes nothing.
use mathlib.Core.Path.{sym, ◌∙◌}
use Rattle.ephemeris.proofs.Ticks.{at_most_is}
use Rattle.ephemeris.proofs.Ends.{covered_first, covered_last, covered_between}
use Rattle.ephemeris.proofs.places.Opened.covered.Goals as goal

pub returns-then-place-eq0 : goal.returns-then-place-eq0
returns-then-place-eq0 c =
    let first = c.tdb_at.ensures in
    rw (c.le.ensures, at_most_is, first)
    (covered_first c.args.self.now.table c.args.self.now.coefficients.now c.args.self.now.accepted c.args.asked.0 (sym c.requires ∙ c.if-place-eq0.true))

pub returns-then-place-end : goal.returns-then-place-end
returns-then-place-end c =
    let last = c.tdb_at-then-place-end.ensures in
    rw (c.le-then-place-end.ensures, at_most_is, last, c.last_place-end.ensures)
    (covered_last c.args.self.now.table c.args.self.now.coefficients.now c.args.self.now.accepted c.args.asked.0
    (sym c.requires ∙ c.if-place-end.true ∙ c.last_place-end.ensures))

pub returns : goal.returns
returns c =
    covered_between c.args.self.now.table c.args.self.now.coefficients.now c.args.self.now.accepted c.args.asked.0
    (λ e. c.if-place-eq0.false (c.requires ∙ e))
    (λ e. c.if-place-end.false (c.requires ∙ e ∙ sym c.last_place-end.ensures))
