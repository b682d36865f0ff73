-- A conversion: what is settled first, 'then 2 over both parts, 3 over both parts .., 4, then step
-- by step, 6 before 4'; a UTC reading has '5 .. after 3'.
use Rattle.scales.specs.Answers.{Read, Answer}
use Rattle.blocks.specs.Answers.{Judged}
use Rattle.image.specs.declared.table.Table.{Table}
use Rattle.std.specs.Prelude.{Err, None, Ok, Option, Some, Bool, true, List, ℕ, ℤ}
use Rattle.scales.specs.declared.scale.Purpose.{Purpose}
use Rattle.scales.specs.declared.scale.Purpose.TheVariants as P
use Rattle.scales.specs.declared.scale.Scale.{Scale}
use Rattle.scales.specs.Scales.{named}
use Rattle.blocks.specs.Judging.{judged}
use Rattle.opened.specs.Opened.{coefficients_in}
use Rattle.dates.specs.declared.reading.Reading.{Reading}
use Rattle.dates.specs.Readings.{in_range, read_of, purpose_of}
use Rattle.walk.specs.Walk.{walk_between}
use Rattle.desk.specs.Order.{Check, passes, refuses, settled, leaps_fit, leaps_right}

-- what is answered where all is settled, else the refusal
abbrev pub answering : Check → Answer → Answer
answering passes answer = answer
answering (refuses refusal) answer = Err refusal

-- on from what was read
abbrev pub started : (ℤ → Answer) → Read → Answer
started walk (Ok tick) = walk tick
started walk (Err refusal) = Err refusal

-- 'then 2 over both parts, 3 over both parts .., 4, then step by step, 6 before 4'
unfoldable pub between_of : Scale → Scale → Read → Option Table → List ℤ → Answer
between_of from to read kept coefficients = started (walk_between kept coefficients from to) read

-- the table that bytes hold, where they are accepted
abbrev pub held_by : Judged → Option Table
held_by (Ok table) = Some table
held_by (Err refusal) = None

-- a conversion of what was read, over table bytes that were judged and the coefficients that they
-- hold: what each code is read for, the codes, and whether the lent lists fit and are right
unfoldable pub convert_read : Purpose → Purpose → ℕ → ℕ → Bool → Bool → Read → Judged → List ℤ
    → Answer
convert_read reads writes from to fits right read table coefficients =
    answering (settled reads writes from to fits right table)
    (between_of (named from) (named to) read (held_by table) coefficients)

-- of a tick, for which no list is lent
abbrev pub convert_judged : Purpose → ℕ → ℕ → ℤ → Judged → List ℤ → Answer
convert_judged purpose from to tick table coefficients =
    convert_read purpose purpose from to true true (in_range tick) table coefficients

-- the whole rule of a conversion, whatever the second code is read for: two codes, a reading, a
-- list of leap seconds, table bytes
unfoldable pub convert_into : Purpose → ℕ → ℕ → Reading → List ℤ → List ℕ → Answer
convert_into writes from to reading leaps bytes =
    let reads = purpose_of reading in
    convert_read reads writes from to (leaps_fit reads writes leaps)
    (leaps_right reads writes leaps)
    (read_of leaps reading) (judged bytes) (coefficients_in bytes)

-- that of a conversion into ticks
abbrev pub convert_of : ℕ → ℕ → Reading → List ℤ → List ℕ → Answer
convert_of from to reading leaps bytes = convert_into P.Reading from to reading leaps bytes
