-- `hosts::date::date_answer` meets its contract. Assumes nothing.
use Rattle.hosts.proofs.date.date_answer.Goals as goal

pub returns-in-Ok : goal.returns-in-Ok
returns-in-Ok c = rw c.in-Ok.is

pub returns-in-Err : goal.returns-in-Err
returns-in-Err c = rw c.in-Err.is
