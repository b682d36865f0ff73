-- 'Its answer carries the tick and the number of steps walked': an accepted conversion has walked
-- its whole path. Assumes nothing.
use Rattle.scales.specs.Answers.{Read, Answer, converted_to}
use Rattle.image.specs.declared.table.Table.{Table}
use Rattle.std.specs.Prelude.{Err, Ok, Option}
use mathlib.Core.Path.{◌≡◌, refl, ◌∙◌}
use mathlib.Core.List.{List}
use Prim.Native.Nat.{ℕ}
use native.Mathlib.Nat.{zero-add}
use lib.IntN.{ℤ}
use Rattle.scales.specs.declared.answer.Epoch.{Epoch}
use Rattle.scales.specs.declared.scale.Purpose.{Purpose}
use Rattle.scales.specs.declared.scale.Scale.{Scale}
use Rattle.scales.specs.Path.{path, steps}
use Rattle.scales.specs.Scales.{named}
use Rattle.blocks.specs.Judging.{judged}
use Rattle.dates.specs.declared.reading.Reading.{Reading}
use Rattle.dates.specs.Readings.{read_of, purpose_of}
use Rattle.opened.specs.Opened.{coefficients_in}
use Rattle.walk.proofs.Steps.{not_both, steps_are}
use Rattle.desk.specs.Order.{Check, passes, refuses, settled, leaps_fit, leaps_right}
use Rattle.desk.specs.Conversion.{answering, started, between_of, held_by, convert_read}
use Rattle.desk.specs.Conversion.{convert_into}

-- what is accepted was settled
pub accepted_settled : (check : Check) (answer : Answer) {epoch : Epoch} {n : ℕ}
    → answering check answer ≡ converted_to epoch n → (check ≡ passes) × (answer ≡ converted_to epoch n)
accepted_settled passes answer e = (refl, e)
accepted_settled (refuses refusal) answer e = not_both refl e

started_steps : (walk : ℤ → Answer) (read : Read) {many : ℕ} {epoch : Epoch} {n : ℕ}
    → ((tick : ℤ) → walk tick ≡ converted_to epoch n → n ≡ many) → started walk read ≡ converted_to epoch n → n ≡ many
started_steps walk (Ok tick) h e = h tick e
started_steps walk (Err refusal) h e = not_both refl e

between_steps : (from to : Scale) (read : Read) (kept : Option Table) (coefficients : List ℤ) {epoch : Epoch} {n : ℕ}
    → between_of from to read kept coefficients ≡ converted_to epoch n → n ≡ steps from to
unfolding between_of
between_steps from to read kept coefficients e =
    started_steps _ read
    (λ tick d. steps_are kept coefficients (path from to) 0 (record { scale = from; tick = tick }) d
    ∙ zero-add (steps from to)) e

pub conversion_steps : (writes : Purpose) (from to : ℕ) (reading : Reading) (leaps : List ℤ) (bytes : List ℕ)
    {epoch : Epoch} {n : ℕ} → convert_into writes from to reading leaps bytes ≡ converted_to epoch n
    → n ≡ steps (named from) (named to)
unfolding convert_into convert_read
conversion_steps writes from to reading leaps bytes e =
    let reads = purpose_of reading in
    let kept = held_by (judged bytes) in
    between_steps (named from) (named to) (read_of leaps reading) kept (coefficients_in bytes)
    (accepted_settled (settled reads writes from to (leaps_fit reads writes leaps) (leaps_right reads writes leaps) (judged bytes))
    (between_of (named from) (named to) (read_of leaps reading) kept (coefficients_in bytes)) e).1
