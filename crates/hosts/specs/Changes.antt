-- Comparing two tables: the answer, and the last content of the lent list. '`which` is 0 or 1, the
-- table that was refused; else 0.'
use Rattle.comparing.specs.Answers.{Compared, compared_number, compared_place, compared_which}
use Rattle.comparing.specs.Answers.{compared_entries}
use Rattle.std.specs.Prelude.{◌≡◌, List, ℕ, ℤ, length}
use Rattle.comparing.specs.Comparing.{compared_of, compared_into}
use Rattle.hosts.specs.declared.changes.ChangesAnswer.{ChangesAnswer}

abbrev pub changes_answer : Compared → ChangesAnswer
changes_answer compared =
    record {
      number = compared_number compared;
      which = compared_which compared;
      place = compared_place compared;
      entries = compared_entries compared;
    }

pub record TablesCompared (first second : List ℕ) (entries entries' : List ℤ) (r : ChangesAnswer)
    : Type 0 where
  pub answer : r ≡ changes_answer (compared_of first second (length entries))
  pub list : entries' ≡ compared_into first second entries
