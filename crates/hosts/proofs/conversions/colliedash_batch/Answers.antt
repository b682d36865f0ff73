-- `hosts::conversions::colliedash_batch` meets its contract. Assumes nothing.
use mathlib.Core.Path.{◌∙◌, ap}
use Rattle.hosts.specs.Conversions.{batch_answer}
use Rattle.hosts.proofs.conversions.colliedash_batch.Goals as goal

pub returns : goal.returns
returns c =
    record {
      answer = c.batch_answer.ensures ∙ ap batch_answer c.batch.ensures.answer;
      list = c.batch.ensures.list;
    }
