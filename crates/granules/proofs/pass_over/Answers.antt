use mathlib.Core.Path.{◌≡◌, refl, sym, ◌∙◌}
use native.Mathlib.Omega.{arith}
use Rattle.granules.proofs.Alike.{alike_same}
use Rattle.granules.proofs.Scanning.{scanned_next, scanned_lowest, scanned_all}
use Rattle.granules.proofs.pass_over.Goals as goal

pub returns-in_default : goal.returns-in_default
returns-in_default g c granule finds =
    scanned_lowest granule _ c.loop-g.g c.loop-g.scan _ (alike_same refl) (c.loop-g.invariant granule finds) c.args.table refl
    c.loop-g-test.true (sym (finds _ _ _ c.loop-g-test.true c.look.ensures) ∙ c.in_default.is) _ c.told.ensures

pub loop-g-preserved : goal.loop-g-preserved
loop-g-preserved g c granule finds =
    scanned_next granule _ c.loop-g.g c.loop-g.scan _ (alike_same refl) (c.loop-g.invariant granule finds) _
    (sym (finds _ _ _ c.loop-g-test.true c.look.ensures) ∙ c.in-Some.is)

pub returns : goal.returns
returns g c granule finds =
    let e : c.loop-g.g ≡ c.args.table.count = omega arith in
    scanned_all granule c.args.table _ c.loop-g.scan refl (rw e at (c.loop-g.invariant granule finds)) _ c.told-2.ensures
