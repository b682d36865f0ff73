-- `hosts::leaps::utc_answer` meets its contract. Assumes nothing.
use borrow.Author.Rules.{rules}
use mir.Syntax.{w64}
use mir.ValLaws.{to_z-of_z}
use Rattle.written.specs.Answers.{utc_answer_number, utc_answer_place, utc_answer_day}
use Rattle.written.specs.Answers.{utc_answer_ticks, utc_answer_steps}
use Rattle.hosts.proofs.leaps.utc_answer.Goals as goal

pub returns-in-Ok : goal.returns-in-Ok
unfolding utc_answer_number utc_answer_place utc_answer_day utc_answer_ticks utc_answer_steps
returns-in-Ok c =
    rw (
      c.in-Ok.is,
      to_z-of_z w64 c.in-Ok.written.utc.day (record { sfits = search rules }),
      to_z-of_z w64 c.in-Ok.written.utc.ticks (record { sfits = search rules }),
    )

pub returns-in-Err : goal.returns-in-Err
unfolding utc_answer_number utc_answer_place utc_answer_day utc_answer_ticks utc_answer_steps
returns-in-Err c = rw c.in-Err.is
