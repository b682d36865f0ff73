-- `ephemeris::places::Opened::inside` meets its contract. Assumes nothing.
use mathlib.Core.Path.{sym, ◌∙◌}
use Rattle.ephemeris.specs.Table.{is_inside}
use Rattle.ephemeris.proofs.Ticks.{at_most_is}
use Rattle.ephemeris.proofs.places.Opened.inside.Goals as goal

pub returns-then-le : goal.returns-then-le
unfolding is_inside
returns-then-le c =
    let t = c.args.tick.0 in
    let last = c.tick_at-last.ensures in
    let from = sym (at_most_is c.args.self.now.table.start.0 t) ∙ sym c.le.ensures ∙ c.if-le.true in
    c.le-then-le.ensures ∙ at_most_is t c.tick_at-last.result.0 ∙ rw (from, last, c.last_place.ensures)

pub returns-else-le : goal.returns-else-le
unfolding is_inside
returns-else-le c =
    let from = sym (at_most_is c.args.self.now.table.start.0 c.args.tick.0) ∙ sym c.le.ensures ∙ c.if-le.false in
    rw (c.if-le.false, from)
