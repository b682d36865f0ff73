use mathlib.Core.Path.{sym, ◌∙◌}
use borrow.Author.Rules.{rules}
use lib.IntN.{pos}
use lib.ListN.{get_or}
use mir.Syntax.{w64}
use mir.ValLaws.{to_z-of_z}
use Rattle.entries.proofs.Loops.{wider, no_wider}
use Rattle.entries.proofs.trying.ends_of.Goals as goal

pub loop-tick-preserved : goal.loop-tick-preserved
loop-tick-preserved c =
    let tick = to_z-of_z w64 (get_or c.args.ticks.now c.loop-tick.tick-index (pos 0)) (record { sfits = search rules }) in
    let earliest = to_z-of_z w64 _ (record { sfits = c.min-earliest.type_inv }) ∙ (rw tick at c.min-earliest.ensures.value) in
    let latest = to_z-of_z w64 _ (record { sfits = c.max-latest.type_inv }) ∙ (rw tick at c.max-latest.ensures.value) in
    rw (earliest, latest) (sym (wider _ _ _ _ c.loop-tick-test.true) ∙ c.loop-tick.invariant)

pub returns : goal.returns
returns c = sym (no_wider _ _ _ _ c.loop-tick-test.false) ∙ (rw (to_z-of_z w64 _ c.ranges.first) at c.loop-tick.invariant)
