-- What a reading can be read as: a valid tick, or 2, 3, 5 or 4 with its place. Assumes nothing.
use Rattle.scales.specs.Answers.{Read}
use Rattle.std.specs.Prelude.{Err, Ok}
use mathlib.Core.Path.{◌≡◌, refl, sym, subst}
use mathlib.Core.Bool.{Bool, true, false, cond, not}
use mathlib.Core.List.{List}
use Prim.Native.Nat.{ℕ}
use lib.Ieee.Scale.{finite}
use lib.IntN.{ℤ}
use Rattle.scales.specs.declared.refusal.Refusal.{Refusal}
use Rattle.scales.specs.Tick.{is_valid}
use Rattle.desk.proofs.Valid.{unread}
use Rattle.dates.specs.declared.reading.Reading.{Reading}
use Rattle.dates.specs.declared.reading.Reading.TheVariants.{TwoPart, SinceJ2000, Ticks, Utc}
use Rattle.dates.specs.Doubles.{beyond}
use Rattle.dates.specs.Readings.{most_days, most_seconds, refused_with, refused_if, in_range}
use Rattle.dates.specs.Readings.{read_of, read_of_parts, read_of_seconds}
use Rattle.utc.specs.Days.{is_reading, tai_of}
use Rattle.utc.specs.Readings.{utc_read}
use Rattle.dates.specs.Ticks.{tick_of_date, tick_of_seconds}

-- ---- what holds of a valid tick and of each refusal holds of what is read
module _ (Q : Read → Type 0) where
  either : (test : Bool) (number place : ℕ) (otherwise : Read) → Q (refused_with number place) → Q otherwise
      → Q (refused_if test number place otherwise)
  either true number place otherwise q rest = q
  either false number place otherwise q rest = rest

  module _ (q4 : Q (refused_with 4 0)) (q : (tick : ℤ) → is_valid tick ≡ true → Q (Ok tick)) where
    in_range_lem : (tick : ℤ) → Q (in_range tick)
    unfolding in_range
    in_range_lem tick = by (is_valid tick) refl
      where
        by : (valid : Bool) → is_valid tick ≡ valid → Q (refused_if (not valid) 4 0 (Ok tick))
        by true v = q tick v
        by false v = q4

    reading_cases : Q (refused_with 2 0) → Q (refused_with 2 1) → Q (refused_with 3 0) → Q (refused_with 3 1)
        → Q (refused_with 5 0) → (leaps : List ℤ) (reading : Reading) → Q (read_of leaps reading)
    unfolding read_of read_of_parts read_of_seconds utc_read
    reading_cases q20 q21 q30 q31 q50 leaps (TwoPart first second) =
        let in4 = in_range (tick_of_date first second) in
        let in31 = refused_if (beyond most_days second) 3 1 in4 in
        let in30 = refused_if (beyond most_days first) 3 0 in31 in
        let in21 = refused_if (not (finite second)) 2 1 in30 in
        either (not (finite first)) 2 0 in21 q20
        (either (not (finite second)) 2 1 in30 q21
        (either (beyond most_days first) 3 0 in31 q30 (either (beyond most_days second) 3 1 in4 q31 (in_range_lem (tick_of_date first second)))))
    reading_cases q20 q21 q30 q31 q50 leaps (SinceJ2000 seconds) =
        let in4 = in_range (tick_of_seconds seconds) in
        let in30 = refused_if (beyond most_seconds seconds) 3 0 in4 in
        either (not (finite seconds)) 2 0 in30 q20 (either (beyond most_seconds seconds) 3 0 in4 q30 (in_range_lem (tick_of_seconds seconds)))
    reading_cases q20 q21 q30 q31 q50 leaps (Ticks tick) = in_range_lem tick
    reading_cases q20 q21 q30 q31 q50 leaps (Utc day ticks) = by (is_reading leaps day ticks) (is_valid tai) refl
      where
        tai : ℤ
        tai = tai_of leaps day ticks

        by : (right valid : Bool) → is_valid tai ≡ valid
            → Q (cond right (cond valid (Ok tai) (refused_with 4 0)) (refused_with 5 0))
        by false valid v = q50
        by true false v = q4
        by true true v = q tai v

-- ---- and a refusal is one of six
module _ (P : Refusal → Type 0) where
  abbrev Told : ℕ → ℕ → Type 0
  Told number place = P (record { number = number; place = place })

  told : (number place : ℕ) → Told number place → (r : Refusal) → refused_with number place ≡ Err r → P r
  told number place p r e = let same : record { number = number; place = place } ≡ r = cc in subst P same p

  pub reading_refusal : (leaps : List ℤ) (reading : Reading) → Told 2 0 → Told 2 1 → Told 3 0 → Told 3 1 → Told 5 0
      → Told 4 0
      → (r : Refusal) → read_of leaps reading ≡ Err r → P r
  reading_refusal leaps reading p20 p21 p30 p31 p50 p4 =
      reading_cases (λ read. (r : Refusal) → read ≡ Err r → P r) (told 4 0 p4) (λ tick v r e. unread (sym e)) (told 2 0 p20) (told 2 1 p21) (told 3 0 p30)
      (told 3 1 p31) (told 5 0 p50) leaps reading
