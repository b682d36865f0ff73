-- `hosts::changes::colliedash_compare_tables` meets its contract. Assumes nothing.
use mathlib.Core.Path.{◌∙◌, ap}
use Rattle.hosts.specs.Changes.{changes_answer}
use Rattle.hosts.proofs.changes.colliedash_compare_tables.Goals as goal

pub returns : goal.returns
returns c =
    record {
      answer = c.changes_answer.ensures ∙ ap changes_answer c.compare.ensures.answer;
      list = c.compare.ensures.list;
    }
