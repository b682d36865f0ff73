use mathlib.Core.Path.{sym, ◌∙◌}
use native.Mathlib.Omega.{arith}
use Rattle.ephemeris.proofs.Search.{earliest_inside, earliest_least, earliest_later}
use Rattle.ephemeris.proofs.Ticks.{reached, unreached}
use Rattle.ephemeris.proofs.places.Opened.climb.Goals as goal

pub returns-then-ge : goal.returns-then-ge
returns-then-ge c =
    let here = reached c.tdb_at.result.0 c.args.asked.0 (sym c.ge.ensures ∙ c.if-ge.true) in
    let tdb = c.tdb_at.ensures in
    let least = earliest_least c.args.self.now.table c.args.self.now.coefficients.now c.args.asked.0 c.loop-place.place (rw tdb at here) in
    omega (arith, c.loop-place.invariant, least)

pub loop-place-preserved : goal.loop-place-preserved
loop-place-preserved c =
    let not_here = unreached c.tdb_at.result.0 c.args.asked.0 (sym c.ge.ensures ∙ c.if-ge.false) in
    let tdb = c.tdb_at.ensures in
    let later = earliest_later c.args.self.now.table c.args.self.now.coefficients.now c.args.asked.0 c.args.self.now.accepted c.loop-place.place in
    omega (arith, later (omega (arith, c.loop-place-test.true, c.last_place-last.ensures)) (rw tdb at not_here))

pub returns : goal.returns
returns c =
    omega (
      arith,
      c.loop-place.invariant,
      c.loop-place-test.false,
      c.last_place-last.ensures,
      earliest_inside c.args.self.now.table c.args.self.now.coefficients.now c.args.asked.0,
    )
