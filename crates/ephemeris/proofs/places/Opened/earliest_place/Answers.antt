use mathlib.Core.Path.{◌≡◌, sym, ◌∙◌}
use Prim.Native.Nat.{◌-◌, zero-le}
use native.Mathlib.Numerals.{add-one}
use native.Mathlib.Omega.{arith}
use lib.IntN.{◌+ℤ◌, ◌-ℤ◌}
use Rattle.numbers.proofs.Machine.{read, read_is}
use Rattle.ephemeris.specs.Table.{S, last_place, table_delay}
use Rattle.ephemeris.specs.Asked.{held_inside, FromHere}
use Rattle.ephemeris.proofs.Granules.{delay_bounded}
use Rattle.ephemeris.proofs.Closing.{near_first, near_next, near_fixed, near_last}
use Rattle.ephemeris.proofs.places.Opened.earliest_place.Goals as goal
use Rattle.ephemeris.proofs.places.Opened.earliest_place.Goals.{After-delay_at-delay, After-loop}
use Rattle.ephemeris.proofs.places.Opened.earliest_place.Goals.{After-pointed-next}

-- D at the place, and what it points to
delay_is : (c : After-delay_at-delay) → read c.delay_at-delay.result
    ≡ table_delay c.args.self.now.table c.args.self.now.coefficients.now c.loop.place
delay_is c = read_is _ (record { sfits = c.delay_at-delay.type_inv }) ∙ c.delay_at-delay.ensures

pointed_is : (c : After-pointed-next)
    → c.pointed-next.result
    ≡ held_inside
    (c.args.asked.0 +ℤ table_delay c.args.self.now.table c.args.self.now.coefficients.now c.loop.place
    -ℤ S c.args.self.now.table)
    (last_place c.args.self.now.table)
pointed_is c = rw (delay_is (goal.at.After-pointed-next c).After-delay_at-delay) at c.pointed-next.ensures

-- after the last turn
settled : (c : After-loop)
    → FromHere c.args.self.now.table c.args.self.now.coefficients.now c.args.asked.0 (c.loop.place - 1)
settled c =
    let two : c.loop.counter ≡ 2 = omega (arith, c.loop.invariant.0, c.loop-test.false) in
    near_last c.args.self.now.table c.args.self.now.coefficients.now c.args.self.now.accepted c.args.asked.0 c.loop.place (rw two at c.loop.invariant.1)

pub loop-init : goal.loop-init
loop-init c = (zero-le, rw c.pointed-place.ensures (near_first c.args.self.now.table c.args.self.now.coefficients.now c.args.self.now.accepted c.args.asked.0))

pub delay_at-delay-requires : goal.delay_at-delay-requires
delay_at-delay-requires c = c.loop.invariant.1.inside

pub pointed-next-requires : goal.pointed-next-requires
pointed-next-requires c =
    let little = delay_bounded c.args.self.now.table c.args.self.now.coefficients.now c.args.self.now.accepted c.loop.place c.loop.invariant.1.inside in
    record { near = c.requires; little = rw (delay_is c) little }

pub this_or_before-requires : goal.this_or_before-requires
this_or_before-requires c =
    near_fixed c.args.self.now.table c.args.self.now.coefficients.now c.args.self.now.accepted c.args.asked.0 c.loop.place
    (sym (pointed_is (goal.at.this_or_before-requires c).After-pointed-next) ∙ c.if-next-place.true) c.loop.invariant.1.inside

pub loop-preserved : goal.loop-preserved
loop-preserved c =
    let nearer = near_next c.args.self.now.table c.args.self.now.coefficients.now c.args.self.now.accepted c.args.asked.0 c.loop.counter c.loop.place in
    (omega (arith, c.loop-test.true), rw (add-one, pointed_is (goal.at.loop-preserved c).After-pointed-next) (nearer c.loop.invariant.1))

pub climb-requires : goal.climb-requires
climb-requires c = rw c.saturating_sub.ensures (settled (goal.at.climb-requires c).After-loop)
