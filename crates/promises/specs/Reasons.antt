-- The words in which the promises speak of a refusal's number and place.
use Rattle.scales.specs.Answers.{Answer, answer_number, answer_tick, answer_steps, stepped_number}
use Rattle.std.specs.Prelude.{◌≡◌, Bool, true, false, cond, not, ◌||◌, List, [], ◌∷◌, ◌++◌, ℕ, suc}
use Rattle.std.specs.Prelude.{eqb, ℤ, pos}
use Rattle.std.specs.Float.{fin}
use Rattle.numbers.specs.Tests.{numbers_of}
use Rattle.scales.specs.declared.path.Step.{Step}
use Rattle.scales.specs.Path.{path, any_over_table}
use Rattle.scales.specs.Rows.{over_table}
use Rattle.opened.specs.Opened.{coefficients_in}
use Rattle.walk.specs.Walk.{step_of, walk_of}
use Rattle.scales.specs.Scales.{named}
use Rattle.dates.specs.declared.reading.Reading.TheVariants.{TwoPart, Utc}
use Rattle.promises.specs.Tests.{conversion_tests}
use Rattle.promises.specs.Words.{start_of, table_in}

-- the walk from a tick of the first code's scale, over those steps
abbrev pub walked_by : ℕ → List ℕ → ℤ → List Step → Answer
walked_by from bytes tick steps =
    walk_of (table_in bytes) (coefficients_in bytes) steps 0 (start_of from tick)

-- so many steps of the path between two codes are walked, and the next one is refused
pub record StoppedAfter (from to : ℕ) (bytes : List ℕ) (tick : ℤ) (done number : ℕ) : Type 0 where
  pub before : List Step
  pub next : Step
  pub after : List Step
  pub split : path (named from) (named to) ≡ before ++ next ∷ after
  pub walked : answer_number (walked_by from bytes tick before) ≡ 0
  pub many : answer_steps (walked_by from bytes tick before) ≡ done
  pub stopped : stepped_number (step_of (table_in bytes) (coefficients_in bytes) next
      (answer_tick (walked_by from bytes tick before))) ≡ number

-- the steps of a path before the one over the table
abbrev pub steps_to_table : List Step → ℕ
steps_to_table [] = 0
steps_to_table (step ∷ more) = cond (over_table step) 0 (suc (steps_to_table more))

-- a path has at most one step over the table
abbrev pub over_once : List Step → Bool
over_once [] = true
over_once (step ∷ more) = cond (over_table step) (not (any_over_table more)) (over_once more)

-- the numbers with which a conversion can be refused: those of the tests of one from TT to TDB that
-- is asked of a date, and of one from UTC, which have every kind of test between them
abbrev pub told_numbers : List ℕ
told_numbers =
    let part = fin false 0 (pos 0) in
    numbers_of (conversion_tests 3 5 (TwoPart part part) [] [])
    ++ numbers_of (conversion_tests 7 5 (Utc (pos 0) (pos 0)) [] [])

abbrev pub is_among : List ℕ → ℕ → Bool
is_among [] number = false
is_among (one ∷ more) number = eqb number one || is_among more number
