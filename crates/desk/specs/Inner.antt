-- What the inner functions ask of their callers, and what they give.
use Rattle.scales.specs.Answers.{Read, Answer}
use Rattle.blocks.specs.Answers.{Judged}
use Rattle.std.specs.Prelude.{Err, None, Ok, Some, Bool, cond, List, [], ◌∷◌, ℕ, ℤ, Result}
use Rattle.scales.specs.declared.refusal.Refusal.{Refusal}
use Rattle.scales.specs.declared.scale.Purpose.{Purpose}
use Rattle.scales.specs.declared.scale.Scale.{Scale}
use Rattle.scales.specs.Path.{crosses}
use Rattle.scales.specs.Scales.{named}
use Rattle.image.specs.declared.table.Table.{Table}
use Rattle.image.specs.Image.{coefficients_stored}
use Rattle.blocks.specs.Judging.{judged}
use Rattle.opened.specs.Opened.{coefficients_in}
use Rattle.desk.specs.declared.asked.Asked.{Asked}
use Rattle.desk.specs.declared.asked.Asked.TheVariants as A
use Rattle.desk.specs.Order.{Check, passes, refuses, unless, first_of, before_table, of_table}
use Rattle.desk.specs.Conversion.{answering, between_of, held_by}

-- ---- what is asked, before any table or reading is looked at
abbrev pub asked_by : Check → Scale → Scale → Result Asked Refusal
asked_by passes start end =
    cond (crosses start end) (Ok (A.Crossing start end)) (Ok (A.Plain start end))
asked_by (refuses refusal) start end = Err refusal

unfoldable pub asked_of : Purpose → Purpose → ℕ → ℕ → Bool → Bool → Result Asked Refusal
asked_of reads writes from to fits right =
    asked_by (first_of (before_table reads writes from to fits right)) (named from) (named to)

-- the lent lists by themselves
abbrev pub lent_checks : Bool → Bool → Check
lent_checks fits right = first_of (unless fits 8 0 ∷ unless right 7 0 ∷ [])

-- ---- a conversion by what is asked and what was read
abbrev pub crossed_of : Scale → Scale → Read → Judged → List ℤ → Answer
crossed_of from to read table coefficients =
    answering (of_table table) (between_of from to read (held_by table) coefficients)

abbrev pub convert_asked : Result Asked Refusal → Read → Judged → List ℤ → Answer
convert_asked (Ok (A.Plain from to)) read table coefficients = between_of from to read None []
convert_asked (Ok (A.Crossing from to)) read table coefficients =
    crossed_of from to read table coefficients
convert_asked (Err refusal) read table coefficients = Err refusal

-- ---- over bytes
abbrev pub taken_over : Scale → Scale → Read → List ℕ → Table → Answer
taken_over from to read bytes table =
    between_of from to read (Some table) (coefficients_stored bytes table.count table.degree)

abbrev pub over_bytes : Scale → Scale → Read → List ℕ → Answer
over_bytes from to read bytes = crossed_of from to read (judged bytes) (coefficients_in bytes)

abbrev pub asked_over : Result Asked Refusal → Read → List ℕ → Answer
asked_over asked read bytes = convert_asked asked read (judged bytes) (coefficients_in bytes)
