-- 'A batch converts a list of ticks into a second list of equal length. All are tried first; the
-- earliest refusal is the batch's, with its index, and nothing is written; for 1, 8 and the table's
-- numbers the index is 0. An empty batch still gets checks 1, 8 and the table. An accepted batch
-- answers the path's steps.'
use Rattle.entries.specs.Batched.{Batched, refused_at, batched_left}
use Rattle.std.specs.Prelude.{◌≡◌, true, List, [], map, ℕ, eqb, ℤ, length}
use Rattle.scales.specs.declared.scale.Purpose.TheVariants as P
use Rattle.scales.specs.Answers.{answer_tick}
use Rattle.scales.specs.Scales.{named}
use Rattle.blocks.specs.Judging.{judged}
use Rattle.dates.specs.declared.reading.Reading.TheVariants.{Ticks}
use Rattle.entries.specs.Entries.{all_tried}
use Rattle.desk.specs.Order.{Check, passes, refuses, settled}
use Rattle.opened.specs.Opened.{coefficients_in}
use Rattle.desk.specs.Conversion.{held_by, convert_of}

-- 'for 1, 8 and the table's numbers the index is 0'
abbrev pub batch_settled : Check → Batched → Batched
batch_settled passes batched = batched
batch_settled (refuses refusal) batched = refused_at refusal 0

-- the whole rule of a batch into a list of so many
unfoldable pub batch_of : ℕ → ℕ → List ℤ → ℕ → List ℕ → Batched
batch_of from to ticks many bytes =
    batch_settled (settled P.Batch P.Batch from to (eqb (length ticks) many) true (judged bytes))
    (all_tried (named from) (named to) ticks (held_by (judged bytes)) (coefficients_in bytes))

-- the second list's last content: entry by entry the tick of its conversion
unfoldable pub batch_into : ℕ → ℕ → List ℤ → List ℤ → List ℕ → List ℤ
batch_into from to ticks answers bytes =
    batched_left (batch_of from to ticks (length answers) bytes)
    (map (λ tick. answer_tick (convert_of from to (Ticks tick) [] bytes)) ticks) answers

-- the answer of a batch, and the second list's last content
pub record HasConverted
    (from to : ℕ) (ticks answers answers' : List ℤ) (bytes : List ℕ) (r : Batched) : Type 0 where
  pub answer : r ≡ batch_of from to ticks (length answers) bytes
  pub list : answers' ≡ batch_into from to ticks answers bytes
