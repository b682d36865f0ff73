-- `filling::steps::tick_reached` meets its contract. Assumes nothing.
use borrow.Author.Rules.{rules}
use mir.Syntax.{w64}
use mir.ValLaws.{to_z-of_z}
use Rattle.scales.specs.Answers.{stepped_tick}
use Rattle.filling.proofs.steps.tick_reached.Goals as goal

pub returns-in-Ok : goal.returns-in-Ok
unfolding stepped_tick
returns-in-Ok c = rw (c.in-Ok.is, to_z-of_z w64 c.in-Ok.epoch.tick (record { sfits = search rules }))

pub returns-in-Err : goal.returns-in-Err
unfolding stepped_tick
returns-in-Err c = rw c.in-Err.is
