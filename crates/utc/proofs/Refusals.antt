-- Refusals, each exactly when the page says. Assumes nothing.
use Rattle.utc.specs.Answers.{UtcWritten, utc_written_number, utc_written_place}
use Rattle.scales.specs.Answers.{Read, read_number, read_place}
use Rattle.std.specs.Prelude.{Err, Ok}
use mathlib.Core.Path.{◌≡◌, refl, ◌∙◌, ap}
use mathlib.Core.Bool.{Bool, true, false, cond}
use mathlib.Core.List.{List, [], ◌∷◌}
use Prim.Native.Nat.{ℕ}
use lib.IntN.{ℤ}
use Rattle.numbers.specs.Tests.{ToldExactly, only, verdict}
use Rattle.numbers.proofs.Exactly.{numbered, only_told, told_exactly}
use Rattle.scales.specs.Tick.{is_valid}
use Rattle.utc.specs.Days.{is_reading, tai_of}
use Rattle.utc.specs.Readings.{is_writable, utc_refused, utc_of, utc_read, utc_written}

-- '5 a day .. before the list's first day, or ticks negative or at or past the day's end', then '4:
-- epoch outside the range'
pub utc_read_exactly : (leaps : List ℤ) (day ticks : ℤ)
    → let answer = utc_read leaps day ticks in
    ToldExactly (only 5 0 (is_reading leaps day ticks) ∷ only 4 0 (is_valid (tai_of leaps day ticks)) ∷ [])
    (read_number answer) (read_place answer)
unfolding utc_read read_number read_place verdict
utc_read_exactly leaps day ticks =
    let is = is_reading leaps day ticks in
    let valid = is_valid (tai_of leaps day ticks) in
    let tests = only 5 0 is ∷ only 4 0 valid ∷ [] in
    told_exactly tests _ _ (numbered tests refl)
    (only_told (λ n p. (n, p)) (0, 0) 5 0 (only 4 0 valid ∷ []) is
    ∙ ap (λ (rest : ℕ × ℕ). cond is rest (5, 0)) (only_told (λ n p. (n, p)) (0, 0) 4 0 [] valid)
    ∙ by is valid)
  where
    answer : Bool → Bool → Read
    answer is valid = cond is (cond valid (Ok (tai_of leaps day ticks)) (utc_refused 4)) (utc_refused 5)

    by : (is valid : Bool) → ◌≡◌ {A = ℕ × ℕ} (cond is (cond valid (0, 0) (4, 0)) (5, 0))
        (read_number (answer is valid), read_place (answer is valid))
    by true true = refl
    by true false = refl
    by false valid = refl

-- '5 .. a TAI tick to be written, before the list's first day'
pub utc_written_exactly : (leaps : List ℤ) (tick : ℤ)
    → let answer = utc_written leaps tick in
    ToldExactly (only 5 0 (is_writable leaps tick) ∷ []) (utc_written_number answer) (utc_written_place answer)
unfolding utc_written utc_written_number utc_written_place verdict
utc_written_exactly leaps tick =
    let tests = only 5 0 (is_writable leaps tick) ∷ [] in
    told_exactly tests _ _ (numbered tests refl)
    (only_told (λ n p. (n, p)) (0, 0) 5 0 [] (is_writable leaps tick) ∙ by (is_writable leaps tick))
  where
    answer : Bool → UtcWritten
    answer is = cond is (Ok (utc_of leaps tick)) (Err (record { number = 5; place = 0 }))

    by : (is : Bool)
        → ◌≡◌ {A = ℕ × ℕ} (cond is (0, 0) (5, 0)) (utc_written_number (answer is), utc_written_place (answer is))
    by true = refl
    by false = refl
