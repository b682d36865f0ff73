-- The words in which the promises speak of a conversion and of a line, beside those of `desk`.
use Rattle.blocks.specs.Answers.{Judged, judged_number, judged_start, judged_length, judged_count}
use Rattle.blocks.specs.Answers.{judged_degree}
use Rattle.scales.specs.Answers.{Answer, answer_number, answer_scale, answer_tick, answer_steps}
use Rattle.std.specs.Prelude.{Option, ◌≡◌, ◌⊎◌, cond, List, [], ◌∷◌, ℕ, ◌*◌, ◌^◌, ◌<◌, eqb, ℤ, pos}
use Rattle.std.specs.Prelude.{◌<ℤ◌}
use Rattle.scales.specs.declared.answer.Epoch.{Epoch}
use Rattle.scales.specs.declared.scale.Purpose.TheVariants as P
use Rattle.scales.specs.declared.scale.Scale.{Scale}
use Rattle.scales.specs.Scales.{highest_code, named}
use Rattle.granule.specs.Rule.{units_in_tick}
use Rattle.image.specs.declared.table.Table.{Table}
use Rattle.image.specs.Image.{table_of}
use Rattle.blocks.specs.Judging.{judged}
use Rattle.ephemeris.specs.Table.{H, place_of, table_exact}
use Rattle.opened.specs.Opened.{coefficients_in}
use Rattle.desk.specs.Conversion.{held_by}
use Rattle.comparing.specs.Changes.{Entry, largest_of, sum_of}
use Rattle.comparing.specs.Comparing.{granules_of}
use Rattle.comparing.specs.Same.{SameCoefficients}

-- where a conversion starts: a tick of the scale that the first code names
abbrev pub start_of : ℕ → ℤ → Epoch
start_of from tick = record { scale = named from; tick = tick }

-- an accepted answer: number 0, with its scale, its tick and its steps
abbrev pub Gives : Answer → Scale → ℤ → ℕ → Type 0
Gives answer scale tick steps =
    (answer_number answer ≡ 0) × (answer_scale answer ≡ scale) × (answer_tick answer ≡ tick)
    × (answer_steps answer ≡ steps)

-- an accepted table: number 0, with the table's own numbers
abbrev pub Tells : Judged → Table → Type 0
Tells judgement table =
    (judged_number judgement ≡ 0) × (judged_start judgement ≡ table.start.0)
    × (judged_length judgement ≡ table.length) × (judged_count judgement ≡ table.count)
    × (judged_degree judgement ≡ table.degree)

-- the table that bytes hold, where they are accepted
abbrev pub table_in : List ℕ → Option Table
table_in bytes = held_by (judged bytes)

-- a line's number that is no code: 'A code outside 0..6'
abbrev pub OutsideCodes : ℤ → Type 0
OutsideCodes number = (number <ℤ pos 0) ⊎ (pos (highest_code P.Line) <ℤ number)

-- ---- the exact sum, 'put with its denominators multiplied out'
-- 65536·H^n, of the table that bytes hold: coefficients are 'in units of 1/65536 tick'
abbrev pub denominator_in : List ℕ → ℕ
denominator_in bytes = units_in_tick * H (table_of bytes) ^ (table_of bytes).degree

-- 'H^n times the exact sum is Σ c_k·H^(n−k)·E_k', of the granule in which the tick stands and at
-- the tick
abbrev pub exact_sum_in : List ℕ → ℤ → ℤ
exact_sum_in bytes tick =
    table_exact (table_of bytes) (coefficients_in bytes) (place_of (table_of bytes) tick)

-- ---- what changed between two tables
-- the sum that a list tells of a granule: its entry's, and 0 where it has none
unfoldable pub sum_told : List Entry → ℕ → ℕ
sum_told [] granule = 0
sum_told (e ∷ es) granule = cond (eqb e.granule granule) e.sum (sum_told es granule)

-- an entry of the list is of a granule of the table, whose coefficients are not the same, with the
-- largest and the sum of their differences
pub record Lists (first second : List ℕ) (e : Entry) : Type 0 where
  pub inside : e.granule < (table_of first).count
  pub differs : SameCoefficients (granules_of first e.granule) (granules_of second e.granule)
      → ⊥
  pub largest : e.largest
      ≡ largest_of (granules_of first e.granule) (granules_of second e.granule)
  pub total : e.sum ≡ sum_of (granules_of first e.granule) (granules_of second e.granule)
