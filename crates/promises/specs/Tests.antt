-- 'Order: 1 (from, then to), 8, then the table 10 to 16 if the path crosses TT to TDB, .., then 2
-- over both parts, 3 over both parts (the first part first in each), 4, then step by step, 6 before
-- 4.' Of UTC 7 comes 'after 8 and before 10', 5 'after 3'. The tests of a conversion as one list,
-- and those of a batch as one list for each index, every test with its number and its place.
use Rattle.image.specs.declared.table.Table.{Table}
use Rattle.std.specs.Prelude.{Option, cond, not, List, [], ◌∷◌, ◌++◌, ℕ, suc, eqb, ℤ, length}
use Rattle.std.specs.Float.Ieee.Scale.{finite}
use Rattle.numbers.specs.Tests.{Test, only}
use Rattle.scales.specs.declared.path.Step.{Step}
use Rattle.scales.specs.declared.scale.Purpose.{Purpose}
use Rattle.scales.specs.declared.scale.Purpose.TheVariants as P
use Rattle.scales.specs.Answers.{answer_tick, stepped_number, stepped_tick}
use Rattle.scales.specs.Path.{path, crosses}
use Rattle.scales.specs.Scales.{named, is_code}
use Rattle.scales.specs.Tick.{is_valid}
use Rattle.image.specs.Image.{table_of}
use Rattle.blocks.specs.Judging.{table_tests}
use Rattle.dates.specs.declared.reading.Reading.{Reading}
use Rattle.dates.specs.declared.reading.Reading.TheVariants.{TwoPart, SinceJ2000, Ticks, Utc}
use Rattle.dates.specs.Doubles.{beyond}
use Rattle.dates.specs.Readings.{most_days, most_seconds, purpose_of}
use Rattle.dates.specs.Ticks.{tick_of_date, tick_of_seconds}
use Rattle.desk.specs.Order.{leaps_fit, leaps_right}
use Rattle.desk.specs.Conversion.{convert_into}
use Rattle.utc.specs.Days.{is_reading, tai_of}
use Rattle.utc.specs.Readings.{is_writable}
use Rattle.walk.specs.Walk.{step_of}
use Rattle.opened.specs.Opened.{coefficients_in}
use Rattle.promises.specs.Words.{table_in}

-- '1: scale code above 6', place '0 from, 1 to', by what each code is read for
abbrev pub code_tests : Purpose → Purpose → ℕ → ℕ → List Test
code_tests reads writes from to = only 1 0 (is_code reads from) ∷ only 1 1 (is_code writes to) ∷ []

-- '8: lent lengths don't fit' and '7 exactly when the list breaks a rule', of the list of leap
-- seconds where one of the codes is read for UTC; place 0
abbrev pub leap_tests : Purpose → Purpose → List ℤ → List Test
leap_tests reads writes leaps =
    only 8 0 (leaps_fit reads writes leaps) ∷ only 7 0 (leaps_right reads writes leaps) ∷ []

-- 'the table 10 to 16 if the path crosses TT to TDB'
abbrev pub crossed_tests : ℕ → ℕ → List ℕ → List Test
crossed_tests from to bytes =
    cond (crosses (named from) (named to)) (table_tests bytes (table_of bytes)) []

-- '2: NaN or infinite', '3: date part beyond 5,000,000 days either way, seconds beyond 10^10',
-- place 'part, 0 or 1'; '4: epoch outside the range at start', place 'steps done'. Of UTC '5 a day
-- .. before the list's first day, or ticks negative or at or past the day's end', place 0
abbrev pub reading_tests : List ℤ → Reading → List Test
reading_tests leaps (TwoPart first second) =
    only 2 0 (finite first)
    ∷ only 2 1 (finite second)
    ∷ only 3 0 (not (beyond most_days first))
    ∷ only 3 1 (not (beyond most_days second))
    ∷ only 4 0 (is_valid (tick_of_date first second))
    ∷ []
reading_tests leaps (SinceJ2000 seconds) =
    only 2 0 (finite seconds)
    ∷ only 3 0 (not (beyond most_seconds seconds))
    ∷ only 4 0 (is_valid (tick_of_seconds seconds))
    ∷ []
reading_tests leaps (Ticks tick) = only 4 0 (is_valid tick) ∷ []
reading_tests leaps (Utc day ticks) =
    only 5 0 (is_reading leaps day ticks) ∷ only 4 0 (is_valid (tai_of leaps day ticks)) ∷ []

-- the tick that a reading is
abbrev pub tick_read : List ℤ → Reading → ℤ
tick_read leaps (TwoPart first second) = tick_of_date first second
tick_read leaps (SinceJ2000 seconds) = tick_of_seconds seconds
tick_read leaps (Ticks tick) = tick
tick_read leaps (Utc day ticks) = tai_of leaps day ticks

-- 'step by step, 6 before 4', from a tick on, when so many steps are done: '6: outside the table',
-- place 'steps done'; '4: epoch outside the range .. between steps or at the end', place 'steps
-- done, the one that led outside counted'
abbrev pub step_tests : Option Table → List ℤ → List Step → ℕ → ℤ → List Test
step_tests kept coefficients [] done tick = []
step_tests kept coefficients (step ∷ more) done tick =
    let stepped = step_of kept coefficients step tick in
    only 6 done (not (eqb (stepped_number stepped) 6))
    ∷ only 4 (suc done) (not (eqb (stepped_number stepped) 4))
    ∷ step_tests kept coefficients more (suc done) (stepped_tick stepped)

-- a reading, and the path from the tick that it is
abbrev pub walk_tests : ℕ → ℕ → Reading → List ℤ → List ℕ → List Test
walk_tests from to reading leaps bytes =
    reading_tests leaps reading
    ++ step_tests (table_in bytes) (coefficients_in bytes) (path (named from) (named to)) 0
    (tick_read leaps reading)

-- whatever the second code is read for
abbrev pub tests_into : Purpose → ℕ → ℕ → Reading → List ℤ → List ℕ → List Test
tests_into writes from to reading leaps bytes =
    let reads = purpose_of reading in
    code_tests reads writes from to ++ leap_tests reads writes leaps ++ crossed_tests from to bytes
    ++ walk_tests from to reading leaps bytes

-- of a conversion into ticks
abbrev pub conversion_tests : ℕ → ℕ → Reading → List ℤ → List ℕ → List Test
conversion_tests from to reading leaps bytes = tests_into P.Reading from to reading leaps bytes

-- of a conversion into UTC: '5 .. a TAI tick to be written, before the list's first day, .. after
-- the steps', place 0
abbrev pub written_tests : ℕ → ℕ → Reading → List ℤ → List ℕ → List Test
written_tests from to reading leaps bytes =
    tests_into P.Utc from to reading leaps bytes
    ++ only 5 0 (is_writable leaps (answer_tick (convert_into P.Utc from to reading leaps bytes)))
    ∷ []

-- 'All are tried first; the earliest refusal is the batch's, with its index'
abbrev pub entry_tests : ℕ → ℕ → List ℕ → ℕ → List ℤ → List (ℕ × List Test)
entry_tests from to bytes index [] = []
entry_tests from to bytes index (tick ∷ more) =
    (index, walk_tests from to (Ticks tick) [] bytes) ∷ entry_tests from to bytes (suc index) more

-- '8: lent lengths don't fit', place 0; 'for 1, 8 and the table's numbers the index is 0'
abbrev pub batch_tests : ℕ → ℕ → List ℤ → ℕ → List ℕ → List (ℕ × List Test)
batch_tests from to ticks many bytes =
    let fits = eqb (length ticks) many in
    (0, code_tests P.Batch P.Batch from to ++ only 8 0 fits ∷ crossed_tests from to bytes)
    ∷ entry_tests from to bytes 0 ticks
