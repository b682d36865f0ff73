-- `dates::reading::ranged` meets its contract. Assumes nothing.
use mathlib.Core.Path.{◌≡◌, sym, ◌∙◌}
use mathlib.Core.Bool.{true, false}
use mir.Syntax.{w64}
use mir.Val.{to_z, of_z}
use mir.ValLaws.{to_z-of_z}
use Rattle.scales.specs.Tick.{is_valid}
use Rattle.dates.specs.Readings.{in_range}
use Rattle.dates.proofs.reading.ranged.Goals as goal
use Rattle.dates.proofs.reading.ranged.Goals.{Start}

back : (c : Start) → to_z w64 (of_z w64 c.args.tick) ≡ c.args.tick
back c = to_z-of_z w64 c.args.tick c.ranges.tick

pub returns-then-valid : goal.returns-then-valid
unfolding in_range
returns-then-valid c =
    let e = back (goal.at.returns-then-valid c).Start in
    let h : is_valid c.args.tick ≡ true = rw e at (sym c.valid.ensures ∙ c.if-valid.true) in
    rw (e, h)

pub returns : goal.returns
unfolding in_range
returns c =
    let e = back (goal.at.returns c).Start in
    let h : is_valid c.args.tick ≡ false = rw e at (sym c.valid.ensures ∙ c.if-valid.false) in
    rw h c.refused.ensures
