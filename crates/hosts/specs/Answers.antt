-- What an exported answer holds: 'number 0 is accepted, with place and index 0. Otherwise number
-- and place are the refusal's ..; every other field is 0.'
use Rattle.blocks.specs.Answers.{Judged}
use Rattle.std.specs.Prelude.{Err, Ok, ℕ, pos}
use Rattle.hosts.specs.declared.answers.Answer.{Answer}
use Rattle.hosts.specs.declared.answers.TableAnswer.{TableAnswer}

abbrev pub table_answer : Judged → TableAnswer
table_answer (Ok table) = record {
  number = 0;
  count = table.count;
  degree = table.degree;
  place = 0;
  start = table.start.0;
  length = table.length;
}
table_answer (Err refusal) = record {
  number = refusal.number;
  count = 0;
  degree = 0;
  place = refusal.place;
  start = pos 0;
  length = pos 0;
}

abbrev pub refused_answer : ℕ → ℕ → Answer
refused_answer number place =
    record { number = number; steps = 0; place = place; index = 0; tick = pos 0 }

-- a writing has no tick and no step to tell
abbrev pub done_answer : Judged → Answer
done_answer (Ok table) = record { number = 0; steps = 0; place = 0; index = 0; tick = pos 0 }
done_answer (Err refusal) = refused_answer refusal.number refusal.place
