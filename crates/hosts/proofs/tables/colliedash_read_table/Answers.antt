-- `hosts::tables::colliedash_read_table` meets its contract. Assumes nothing.
use mathlib.Core.Path.{◌∙◌, ap}
use Rattle.hosts.specs.Answers.{table_answer}
use Rattle.hosts.proofs.tables.colliedash_read_table.Goals as goal

pub returns : goal.returns
returns c =
    record {
      answer = c.table_answer.ensures ∙ ap table_answer c.read.ensures.answer;
      list = c.read.ensures.list;
    }
