-- What filling the second list asks, and what it gives.
use Rattle.entries.specs.Batched.{Batched, batched_left}
use Rattle.scales.specs.Answers.{Stepped, Answer, answer_tick, stepped_tick}
use Rattle.image.specs.declared.table.Table.{Table}
use Rattle.std.specs.Prelude.{Ok, Option, ◌≡◌, List, map, ℕ, ℤ, length}
use Rattle.std.specs.Int.RustNames.{FitsSigned}
use Rattle.std.specs.Int.{w64}
use Rattle.scales.specs.declared.scale.Scale.{Scale}
use Rattle.entries.specs.Entries.{all_tried, entry_of}

-- the ticks that a batch's entries are answered with
abbrev pub ticks_by : (ℤ → Answer) → List ℤ → List ℤ
ticks_by entry ticks = map (λ tick. answer_tick (entry tick)) ticks

-- a step, of every tick of a list
abbrev pub all_by : (ℤ → Stepped) → List ℤ → List ℤ
all_by step ticks = map (λ tick. stepped_tick (step tick)) ticks

-- what a step comes to, by a rule, from every tick of 64 bits
abbrev pub Steps : (ℤ → Stepped → Type 0) → (ℤ → Stepped) → Type 0
Steps comes rule =
    (tick : ℤ) → FitsSigned w64 tick → (to : Stepped) → comes tick to → to ≡ rule tick

-- as many answers as ticks, and every tick is accepted
pub record Tried (from to : Scale) (ticks answers : List ℤ) (kept : Option Table)
    (coefficients : List ℤ) : Type 0 where
  pub long : length answers ≡ length ticks
  pub steps : ℕ
  pub accepted : all_tried from to ticks kept coefficients ≡ Ok steps

-- a batch whose answer is known, and its entries' conversions
pub record Filled (answer : Batched) (entry : ℤ → Answer) (ticks answers answers' : List ℤ)
    (r : Batched) : Type 0 where
  pub is : r ≡ answer
  pub list : answers' ≡ batched_left answer (ticks_by entry ticks) answers

abbrev pub FilledOver : Scale → Scale → List ℤ → List ℤ → List ℤ → Option Table → List ℤ
    → Batched → Type 0
FilledOver from to ticks answers answers' kept coefficients r =
    Filled (all_tried from to ticks kept coefficients) (entry_of from to kept coefficients) ticks
    answers answers' r
