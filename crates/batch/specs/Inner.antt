-- What the inner functions ask of their callers, and what they give.
use Rattle.scales.specs.declared.refusal.Refusal.{Refusal}
use Rattle.entries.specs.Batched.{Batched, refused_at}
use Rattle.blocks.specs.Answers.{Judged}
use Rattle.std.specs.Prelude.{Err, None, Ok, Some, ◌≡◌, List, [], ℕ, ℤ, length, Result}
use Rattle.scales.specs.declared.scale.Scale.{Scale}
use Rattle.image.specs.declared.table.Table.{Table}
use Rattle.image.specs.Image.{coefficients_stored}
use Rattle.blocks.specs.Judging.{judged}
use Rattle.dates.specs.Readings.{in_range}
use Rattle.filling.specs.Inner.{Filled, FilledOver}
use Rattle.desk.specs.declared.asked.Asked.{Asked}
use Rattle.desk.specs.declared.asked.Asked.TheVariants as A
use Rattle.desk.specs.Order.{of_table}
use Rattle.opened.specs.Opened.{coefficients_in, Opened}
use Rattle.desk.specs.Conversion.{held_by}
use Rattle.entries.specs.Entries.{all_tried}
use Rattle.batch.specs.Batch.{batch_settled}
use Rattle.desk.specs.Inner.{over_bytes}

pub record ReadyOver (ticks answers : List ℤ) (bytes : List ℕ) (table : Table) : Type 0 where
  pub opened : Opened bytes table
  pub long : length answers ≡ length ticks

abbrev pub FilledTaken : Scale → Scale → List ℤ → List ℤ → List ℤ → List ℕ → Table → Batched
    → Type 0
FilledTaken from to ticks answers answers' bytes table r =
    FilledOver from to ticks answers answers' (Some table)
    (coefficients_stored bytes table.count table.degree) r

-- a batch by what is asked
abbrev pub batch_crossed : Scale → Scale → List ℤ → Judged → List ℤ → Batched
batch_crossed from to ticks table coefficients =
    batch_settled (of_table table) (all_tried from to ticks (held_by table) coefficients)

abbrev pub batch_asked : Result Asked Refusal → List ℤ → Judged → List ℤ → Batched
batch_asked (Ok (A.Plain from to)) ticks table coefficients = all_tried from to ticks None []
batch_asked (Ok (A.Crossing from to)) ticks table coefficients =
    batch_crossed from to ticks table coefficients
batch_asked (Err refusal) ticks table coefficients = refused_at refusal 0

abbrev pub FilledCrossing : Scale → Scale → List ℤ → List ℤ → List ℤ → List ℕ → Batched → Type 0
FilledCrossing from to ticks answers answers' bytes r =
    Filled (batch_crossed from to ticks (judged bytes) (coefficients_in bytes))
    (λ tick. over_bytes from to (in_range tick) bytes) ticks answers answers' r
