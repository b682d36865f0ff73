-- `hosts::answers::converted_answer` meets its contract. Assumes nothing.
use borrow.Author.Rules.{rules}
use mir.Syntax.{w64}
use mir.ValLaws.{to_z-of_z}
use Rattle.scales.specs.Answers.{answer_number, answer_place, answer_tick, answer_steps}
use Rattle.hosts.proofs.answers.converted_answer.Goals as goal

pub returns-in-Ok : goal.returns-in-Ok
unfolding answer_number answer_place answer_tick answer_steps
returns-in-Ok c = rw (c.in-Ok.is, to_z-of_z w64 c.in-Ok.converted.epoch.tick (record { sfits = search rules }))

pub returns-in-Err : goal.returns-in-Err
unfolding answer_number answer_place answer_tick answer_steps
returns-in-Err c = rw c.in-Err.is c.refused_by.ensures
