-- `hosts::answers::refused_by` meets its contract. Assumes nothing.
use Rattle.hosts.proofs.answers.refused_by.Goals as goal

pub returns : goal.returns
returns c = c.refused.ensures
