-- 'Codes: 1 GPS, 2 TAI, 3 TT, 4 TCG, 5 TDB, 6 TCB; 0 is read as TT.' 'UTC is code 7 for readings
-- and written readings only', and its tick is one of TAI.
use Rattle.std.specs.Prelude.{Bool, cond, ◌&&◌, List, [], ◌∷◌, ℕ, leb, get_or, Result, Ok, Err}
use Rattle.scales.specs.declared.refusal.Refusal.{Refusal}
use Rattle.scales.specs.declared.scale.Scale.{Scale}
use Rattle.scales.specs.declared.scale.Scale.TheVariants.{Gps, Tai, Tt, Tcg, Tdb, Tcb}
use Rattle.scales.specs.declared.scale.Purpose.{Purpose}
use Rattle.scales.specs.declared.scale.Purpose.TheVariants.{Reading, Batch, Line, Utc}

-- the scales that the codes from 0 on name, in the codes' order
abbrev pub coded : List Scale
coded = Tt ∷ Gps ∷ Tai ∷ Tt ∷ Tcg ∷ Tdb ∷ Tcb ∷ Tai ∷ []

-- the scale that a code names. A number that is no code names none, and is refused
abbrev pub named : ℕ → Scale
named code = get_or coded code Tt

-- the lowest and the highest code, by what it is read for: none is a 'scale code above 6' but that
-- of UTC, and 'code 7 with another kind of reading, or this kind with another code, is 1'
abbrev pub lowest_code : Purpose → ℕ
lowest_code Reading = 0
lowest_code Batch = 0
lowest_code Line = 0
lowest_code Utc = 7

abbrev pub highest_code : Purpose → ℕ
highest_code Reading = 6
highest_code Batch = 6
highest_code Line = 6
highest_code Utc = 7

-- which numbers are codes
abbrev pub is_code : Purpose → ℕ → Bool
is_code purpose code = leb (lowest_code purpose) code && leb code (highest_code purpose)

-- refusal 1, place '0 from, 1 to'
abbrev pub scale_of : Purpose → ℕ → ℕ → Result Scale Refusal
scale_of purpose code place =
    cond (is_code purpose code)
    (Ok (named code))
    (Err (record { number = 1; place = place }))
