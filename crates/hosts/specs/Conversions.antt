-- What a conversion and a batch answer: 'number and place are the refusal's and, for a batch, index
-- the entry's; every other field is 0'.
use Rattle.entries.specs.Batched.{Batched}
use Rattle.scales.specs.Answers as scales
use Rattle.std.specs.Prelude.{◌≡◌, List, ℕ, ℤ, pos, length}
use Rattle.batch.specs.Batch.{batch_of, batch_into}
use Rattle.entries.specs.Batched as batch
use Rattle.hosts.specs.declared.answers.Answer.{Answer}

-- a conversion's number, place, tick and steps as the page has them for each case
abbrev pub converted_answer : scales.Answer → Answer
converted_answer answer = record {
  number = scales.answer_number answer;
  steps = scales.answer_steps answer;
  place = scales.answer_place answer;
  index = 0;
  tick = scales.answer_tick answer;
}

-- a batch's; the ticks themselves are in the second list
abbrev pub batch_answer : Batched → Answer
batch_answer batched = record {
  number = batch.batched_number batched;
  steps = batch.batched_steps batched;
  place = batch.batched_place batched;
  index = batch.batched_index batched;
  tick = pos 0;
}

pub record BatchConverted (from to : ℕ) (ticks answers answers' : List ℤ) (bytes : List ℕ)
    (r : Answer) : Type 0 where
  pub answer : r ≡ batch_answer (batch_of from to ticks (length answers) bytes)
  pub list : answers' ≡ batch_into from to ticks answers bytes
