-- `hosts::changes::changes_answer` meets its contract. Assumes nothing.
use Rattle.comparing.specs.Answers.{compared_number, compared_place, compared_which}
use Rattle.comparing.specs.Answers.{compared_entries}
use Rattle.hosts.proofs.changes.changes_answer.Goals as goal

pub returns-in-Ok : goal.returns-in-Ok
unfolding compared_number compared_place compared_which compared_entries
returns-in-Ok c = rw c.in-Ok.is

pub returns-in-Err : goal.returns-in-Err
unfolding compared_number compared_place compared_which compared_entries
returns-in-Err c = rw c.in-Err.is
