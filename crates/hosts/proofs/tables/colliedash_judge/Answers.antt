-- `hosts::tables::colliedash_judge` meets its contract. Assumes nothing.
use mathlib.Core.Path.{◌∙◌, ap}
use Rattle.hosts.specs.Answers.{table_answer}
use Rattle.hosts.proofs.tables.colliedash_judge.Goals as goal

pub returns : goal.returns
returns c = c.table_answer.ensures ∙ ap table_answer c.judge.ensures
