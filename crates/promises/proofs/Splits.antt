-- 'The same date split two ways', for whole conversions: two splits of one exact sum are converted
-- alike, and of two dates the one with the smaller exact sum never comes out later. Assumes
-- nothing.
use Rattle.scales.specs.Answers.{Read, answer_number, answer_tick}
use mathlib.Core.Path.{◌≡◌, refl, ap}
use mathlib.Core.List.{List}
use Prim.Native.Nat.{ℕ}
use lib.Ieee.{Float}
use lib.IntN.{ℤ}
use lib.Signed.{◌≤ℤ◌}
use Rattle.scales.specs.declared.scale.Purpose.{Purpose}
use Rattle.scales.specs.declared.scale.Purpose.TheVariants as P
use Rattle.dates.specs.declared.reading.Reading.TheVariants.{TwoPart}
use Rattle.dates.specs.Readings.{read_of}
use Rattle.dates.specs.Splits.{Passes, SameSum, SumNotLater}
use Rattle.dates.proofs.Splits.{earlier_dates, same_reading}
use Rattle.blocks.specs.Judging.{judged}
use Rattle.opened.specs.Opened.{coefficients_in}
use Rattle.desk.specs.Conversion.{convert_into, convert_of, convert_read}
use Rattle.desk.specs.Order.{leaps_fit, leaps_right}
use Rattle.promises.proofs.Answers.{reading_accepted}
use Rattle.promises.proofs.Order.{readings_in_order}

module _ (from to : ℕ) (leaps : List ℤ) (bytes : List ℕ) (a b c d : Float) where
  -- 'give the same tick, or both 4', and what a conversion makes of it, whatever the second code is
  -- read for
  pub splits_alike : (writes : Purpose) → Passes a b → Passes c d → SameSum a b c d
      → convert_into writes from to (TwoPart a b) leaps bytes ≡ convert_into writes from to (TwoPart c d) leaps bytes
  unfolding convert_into read_of
  splits_alike writes p q e =
      ap
      (λ (read : Read).
      convert_read P.Reading writes from to (leaps_fit P.Reading writes leaps) (leaps_right P.Reading writes leaps) read (judged bytes) (coefficients_in bytes))
      (same_reading a b c d p q e)

  pub dates_in_order : answer_number (convert_of from to (TwoPart a b) leaps bytes) ≡ 0
      → answer_number (convert_of from to (TwoPart c d) leaps bytes) ≡ 0 → SumNotLater a b c d
      → answer_tick (convert_of from to (TwoPart a b) leaps bytes)
      ≤ℤ answer_tick (convert_of from to (TwoPart c d) leaps bytes)
  unfolding read_of
  dates_in_order m n h =
      readings_in_order from to leaps bytes (TwoPart a b) (TwoPart c d) m n
      (earlier_dates a b c d _ _ h (reading_accepted P.Reading from to (TwoPart a b) leaps bytes m, refl)
      (reading_accepted P.Reading from to (TwoPart c d) leaps bytes n, refl))
