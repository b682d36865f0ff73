use borrow.Author.Rules.{rules}
use mathlib.Core.Path.{◌∙◌, ap}
use Prim.Native.Nat.{◌<◌, ◌≤◌}
use native.Mathlib.Omega.{arith}
use lib.IntN.{pos}
use lib.ListN.{length, get_or}
use Rattle.numbers.proofs.Machine.{read_is}
use Rattle.numbers.proofs.Places.{mapped_none, mapped_more, mapped_all}
use Rattle.scales.specs.Answers.{stepped_tick}
use Rattle.filling.proofs.steps.each.Goals as goal

pub loop-tick-init : goal.loop-tick-init
loop-tick-init g c = λ rule comes. mapped_none _ _ _

pub loop-tick-preserved : goal.loop-tick-preserved
loop-tick-preserved g c =
    λ rule comes.
    let l = c.loop-tick in
    let inside : l.tick-index < length l.answers = omega (arith, l.auto.answers, c.loop-tick-test.true) in
    let tick = get_or l.answers l.tick-index (pos 0) in
    let from = comes tick (record { sfits = search rules }) _ (rw (read_is tick (record { sfits = search rules })) at c.step.ensures) in
    mapped_more _ _ _ _ inside (l.invariant rule comes)
    (read_is _ (record { sfits = c.tick_reached.type_inv }) ∙ c.tick_reached.ensures ∙ ap stepped_tick from)

pub returns : goal.returns
returns g c =
    λ rule comes.
    let l = c.loop-tick in
    let all : length l.answers ≤ l.tick-index = omega (arith, l.auto.answers, c.loop-tick-test.false) in
    mapped_all _ _ _ all (l.invariant rule comes)
