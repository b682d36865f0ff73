-- `ephemeris::places::Opened::tdb_at` meets its contract. Assumes nothing.
use mathlib.Core.Path.{◌≡◌, sym, ◌∙◌}
use native.Mathlib.Omega.{arith}
use lib.IntN.{pos, ◌+ℤ◌}
use Rattle.numbers.proofs.Machine.{read, read_is}
use Rattle.ephemeris.specs.Table.{S, tick_at, table_delay}
use Rattle.ephemeris.proofs.Bounds.{tick_small}
use Rattle.ephemeris.proofs.Granules.{delay_bounded}
use Rattle.ephemeris.proofs.Ticks.{tdb_at_place}
use Rattle.ephemeris.proofs.places.Opened.tdb_at.Goals as goal
use Rattle.ephemeris.proofs.places.Opened.tdb_at.Goals.{After-delay_at-delay, After-tick_at-tick}

tick_is : (c : After-tick_at-tick) → c.tick_at-tick.result.0 ≡ S c.args.self.now.table +ℤ pos c.args.place
unfolding tick_at
tick_is c = c.tick_at-tick.ensures

delay_is : (c : After-delay_at-delay) → read c.delay_at-delay.result
    ≡ table_delay c.args.self.now.table c.args.self.now.coefficients.now c.args.place
delay_is c = read_is _ (record { sfits = c.delay_at-delay.type_inv }) ∙ c.delay_at-delay.ensures

pub tdb_of-requires : goal.tdb_of-requires
tdb_of-requires c =
    let A = c.args.self.now.accepted in
    record {
      near = rw (tick_is (goal.at.tdb_of-requires c).After-tick_at-tick) (omega (arith, tick_small c.args.self.now.table A.bounds c.args.place c.requires));
      little = rw (delay_is c) (delay_bounded c.args.self.now.table c.args.self.now.coefficients.now A c.args.place c.requires);
    }

pub returns : goal.returns
returns c =
    rw (tick_is (goal.at.returns c).After-tick_at-tick, delay_is (goal.at.returns c).After-delay_at-delay) at c.tdb_of.ensures
    ∙ sym (tdb_at_place _ _ _)
