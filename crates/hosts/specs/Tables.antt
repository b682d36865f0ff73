-- Reading and writing a table: the answer, and the last content of the lent buffer.
use Rattle.std.specs.Prelude.{◌≡◌, List, ℕ, ℤ, length}
use Rattle.blocks.specs.Judging.{read_judged, read_into, table_from, write_judged, write_into}
use Rattle.hosts.specs.declared.answers.Answer.{Answer}
use Rattle.hosts.specs.declared.answers.TableAnswer.{TableAnswer}
use Rattle.hosts.specs.Answers.{table_answer, done_answer}

pub record TableRead (b : List ℕ) (d d' : List ℤ) (r : TableAnswer) : Type 0 where
  pub answer : r ≡ table_answer (read_judged b (length d))
  pub list : d' ≡ read_into b d

pub record TableWritten (start len : ℤ) (count degree : ℕ) (c : List ℤ) (image image' : List ℕ)
    (r : Answer) : Type 0 where
  pub answer :
      r
      ≡ done_answer
      (write_judged (table_from (record { 0 = start }) len count degree) c (length image))
  pub buffer : image' ≡ write_into (table_from (record { 0 = start }) len count degree) c image
