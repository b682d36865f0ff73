-- `scales::tick::valid` meets its contract. Assumes nothing.
use Rattle.numbers.proofs.Machine.{read_is}
use Rattle.scales.specs.Tick.{is_valid}
use Rattle.scales.proofs.tick.valid.Goals as goal

pub returns-then-tick-geminus6000000000000000000 : goal.returns-then-tick-geminus6000000000000000000
unfolding is_valid
returns-then-tick-geminus6000000000000000000 c =
    let e = read_is c.args.tick c.ranges.tick in
    let h = rw e at c.if-tick-geminus6000000000000000000.true in
    rw (e, h)

pub returns-else-tick-geminus6000000000000000000 : goal.returns-else-tick-geminus6000000000000000000
unfolding is_valid
returns-else-tick-geminus6000000000000000000 c =
    let e = read_is c.args.tick c.ranges.tick in
    let h = rw e at c.if-tick-geminus6000000000000000000.false in
    rw (e, h)
