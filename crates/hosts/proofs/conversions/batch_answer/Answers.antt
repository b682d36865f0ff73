-- `hosts::conversions::batch_answer` meets its contract. Assumes nothing.
use Rattle.entries.specs.Batched.{batched_number, batched_place, batched_index, batched_steps}
use Rattle.hosts.proofs.conversions.batch_answer.Goals as goal

pub returns-in-Ok : goal.returns-in-Ok
unfolding batched_number batched_place batched_index batched_steps
returns-in-Ok c = rw c.in-Ok.is

pub returns-in-Err : goal.returns-in-Err
unfolding batched_number batched_place batched_index batched_steps
returns-in-Err c = rw c.in-Err.is
