-- 'Order: 1 (from, then to), 8, then the table 10 to 16 if the path crosses TT to TDB, .., then 2
-- ..', and of UTC '7 .. after 8 and before 10': what is settled before a reading is looked at, in
-- this order, for one reading, for a line and for a batch.
use Rattle.blocks.specs.Answers.{Judged}
use Rattle.std.specs.Prelude.{Err, Ok, Bool, true, false, cond, not, ◌||◌, List, [], ◌∷◌, ◌++◌, ℕ}
use Rattle.std.specs.Prelude.{◌%◌, eqb, ℤ, length}
use Rattle.scales.specs.declared.refusal.Refusal.{Refusal}
use Rattle.scales.specs.declared.scale.Purpose.{Purpose}
use Rattle.scales.specs.declared.scale.Purpose.TheVariants.{Reading, Batch, Line, Utc}
use Rattle.scales.specs.Path.{crosses}
use Rattle.scales.specs.Scales.{is_code, named}
use Rattle.utc.specs.Leaps.{is_list_right}

-- what a check says: that it passes, or what it refuses with
pub data Check : Type 0 where
  passes : Check
  refuses : Refusal → Check

-- a refusal by its number and the place told, unless the test holds
abbrev pub unless : Bool → ℕ → ℕ → Check
unless test number place = cond test passes (refuses (record { number = number; place = place }))

-- the first that refuses
abbrev pub first_of : List Check → Check
first_of [] = passes
first_of (passes ∷ more) = first_of more
first_of (refuses refusal ∷ more) = refuses refusal

-- '1: scale code above 6', place '0 from, 1 to', by what each code is read for; '8: lent lengths
-- don't fit', place 0; '7 exactly when the list breaks a rule'
abbrev pub before_table : Purpose → Purpose → ℕ → ℕ → Bool → Bool → List Check
before_table reads writes from to fits right =
    unless (is_code reads from) 1 0
    ∷ unless (is_code writes to) 1 1
    ∷ unless fits 8 0
    ∷ unless right 7 0
    ∷ []

-- what the judgement of table bytes says
abbrev pub of_table : Judged → Check
of_table (Ok table) = passes
of_table (Err refusal) = refuses refusal

-- 'if the path crosses TT to TDB'
abbrev pub if_crossed : ℕ → ℕ → Check → Check
if_crossed from to check = cond (crosses (named from) (named to)) check passes

unfoldable pub settled : Purpose → Purpose → ℕ → ℕ → Bool → Bool → Judged → Check
settled reads writes from to fits right table =
    first_of (before_table reads writes from to fits right ++ if_crossed from to
    (of_table table) ∷ [])

-- ---- the list of leap seconds is looked at where one of the codes is read for UTC
abbrev pub is_utc : Purpose → Bool
is_utc Reading = false
is_utc Batch = false
is_utc Line = false
is_utc Utc = true

abbrev pub uses_leaps : Purpose → Purpose → Bool
uses_leaps reads writes = is_utc reads || is_utc writes

-- 'A flat list of odd length is 8'
abbrev pub leaps_fit : Purpose → Purpose → List ℤ → Bool
leaps_fit reads writes leaps = not (uses_leaps reads writes) || eqb (length leaps % 2) 0

abbrev pub leaps_right : Purpose → Purpose → List ℤ → Bool
leaps_right reads writes leaps = not (uses_leaps reads writes) || is_list_right leaps
