-- 'each refusal is given exactly when that page says': of conversions and of batches, a number with
-- its place, and its index, is told exactly where its test is the first of the page's order to
-- fail; and 0, for accepted, exactly where none does. Assumes nothing.
use Rattle.entries.specs.Batched.{Batched, batched_number, batched_place, batched_index}
use Rattle.entries.specs.Batched.{batched_steps}
use Rattle.scales.specs.Answers.{Read, Answer, converted_to, answer_number, answer_place}
use Rattle.scales.specs.Answers.{answer_scale, answer_tick, answer_steps, read_number, read_place}
use Rattle.std.specs.Prelude.{Err, Ok}
use mathlib.Core.Path.{◌≡◌, refl, sym, ◌∙◌, ap}
use mathlib.Core.List.{List, [], ◌∷◌, ◌++◌}
use mathlib.Core.Option.{none}
use Prim.Native.Nat.{ℕ}
use native.Mathlib.Omega.{arith}
use lib.Dec.{eqb}
use lib.IntN.{ℤ}
use Rattle.numbers.specs.Tests.{Test, only, verdict, ToldExactly, verdicts, ToldExactlyOf}
use Rattle.numbers.proofs.Verdicts.{all_none}
use Rattle.numbers.proofs.Exactly.{found, unlike, same_told, numbered_both, told_exactly}
use Rattle.numbers.proofs.Exactly.{all_none_of, lists_exactly, Numbered}
use Rattle.scales.specs.declared.answer.Epoch.{Epoch}
use Rattle.scales.specs.declared.scale.Scale.{Scale}
use Rattle.scales.specs.declared.scale.Purpose.TheVariants as P
use Rattle.scales.specs.Scales.{named}
use Rattle.dates.specs.declared.reading.Reading.{Reading}
use Rattle.dates.specs.declared.reading.Reading.TheVariants.{TwoPart, SinceJ2000, Ticks, Utc}
use Rattle.dates.specs.Readings.{read_of}
use Rattle.desk.specs.Conversion.{started, convert_of, convert_into}
use Rattle.batch.specs.Batch.{batch_of}
use Rattle.promises.specs.Tests.{code_tests, crossed_tests, reading_tests, conversion_tests}
use Rattle.promises.specs.Tests.{batch_tests, tests_into}
use Rattle.promises.specs.Words.{Gives}
use Rattle.promises.proofs.Told.{of_answer, of_batched, reading_told, conversion_told, batch_told}
use Rattle.promises.proofs.Told.{crossed_numbered, reading_numbered, walk_numbered}
use Rattle.promises.proofs.Told.{entries_numbered}
use Rattle.scales.specs.declared.scale.Purpose.{Purpose}

-- ---- of conversions and of batches
pub into_numbered : (writes : Purpose) (from to : ℕ) (reading : Reading) (leaps : List ℤ) (bytes : List ℕ)
    → Numbered (tests_into writes from to reading leaps bytes)
into_numbered writes from to reading leaps bytes =
    let rest = numbered_both (crossed_tests from to bytes) _ (crossed_numbered from to bytes) (walk_numbered from to reading leaps bytes) in
    (omega arith, (omega arith, (omega arith, (omega arith, rest))))

pub into_exactly : (writes : Purpose) (from to : ℕ) (reading : Reading) (leaps : List ℤ) (bytes : List ℕ)
    → let answer = convert_into writes from to reading leaps bytes in
    ToldExactly (tests_into writes from to reading leaps bytes) (answer_number answer) (answer_place answer)
unfolding answer_number answer_place
into_exactly writes from to reading leaps bytes =
    told_exactly (tests_into writes from to reading leaps bytes) _ _ (into_numbered writes from to reading leaps bytes)
    (conversion_told (λ n p. (n, p)) (0, 0) writes from to reading leaps bytes
    ∙ both (convert_into writes from to reading leaps bytes))
  where
    both : (answer : Answer)
        → ◌≡◌ {A = ℕ × ℕ} (of_answer (λ n p. (n, p)) (0, 0) answer) (answer_number answer, answer_place answer)
    both (Ok converted) = refl
    both (Err refusal) = refl

-- into ticks
pub conversion_exactly : (from to : ℕ) (reading : Reading) (leaps : List ℤ) (bytes : List ℕ)
    → let answer = convert_of from to reading leaps bytes in
    ToldExactly (conversion_tests from to reading leaps bytes) (answer_number answer) (answer_place answer)
conversion_exactly from to reading leaps bytes = into_exactly P.Reading from to reading leaps bytes

pub batch_exactly : (from to : ℕ) (ticks : List ℤ) (many : ℕ) (bytes : List ℕ)
    → let answer = batch_of from to ticks many bytes in
    ToldExactlyOf (batch_tests from to ticks many bytes)
    (batched_number answer) (batched_place answer) (batched_index answer)
unfolding batched_number batched_place batched_index
batch_exactly from to ticks many bytes =
    lists_exactly (batch_tests from to ticks many bytes) _ _ _
    ((omega arith, (omega arith, (omega arith, crossed_numbered from to bytes))), entries_numbered from to bytes 0 ticks)
    (batch_told (λ n p i. (n, p, i)) (0, 0, 0) from to ticks many bytes ∙ all (batch_of from to ticks many bytes))
  where
    all : (answer : Batched)
        → ◌≡◌ {A = ℕ × ℕ × ℕ} (of_batched (λ n p i. (n, p, i)) (0, 0, 0) answer)
        (batched_number answer, batched_place answer, batched_index answer)
    all (Ok many) = refl
    all (Err refused) = refl

-- ---- of a reading by itself
pub reading_exactly : (leaps : List ℤ) (reading : Reading)
    → ToldExactly (reading_tests leaps reading) (read_number (read_of leaps reading))
    (read_place (read_of leaps reading))
unfolding read_number read_place verdict
reading_exactly leaps reading =
    told_exactly (reading_tests leaps reading) _ _ (reading_numbered leaps reading)
    (ap (verdict (λ n p. (n, p)) (0, 0)) (sym (no_more reading))
    ∙ reading_told (λ n p. (n, p)) (0, 0) accepts leaps reading [] refl
    ∙ both (read_of leaps reading))
  where
    accepts : ℤ → Answer
    accepts tick = converted_to (record { scale = named 0; tick = tick }) 0

    no_more : (reading : Reading) → reading_tests leaps reading ++ [] ≡ reading_tests leaps reading
    no_more (TwoPart first second) = refl
    no_more (SinceJ2000 seconds) = refl
    no_more (Ticks tick) = refl
    no_more (Utc day ticks) = refl

    both : (read : Read)
        → ◌≡◌ {A = ℕ × ℕ} (of_answer (λ n p. (n, p)) (0, 0) (started accepts read)) (read_number read, read_place read)
    both (Ok tick) = refl
    both (Err refusal) = refl

-- ---- what number 0 means: the conversion is accepted, with its scale, its tick and its steps
abbrev pub epoch_of : Answer → Epoch
epoch_of answer = record { scale = answer_scale answer; tick = answer_tick answer }

pub converted : (writes : Purpose) (from to : ℕ) (reading : Reading) (leaps : List ℤ) (bytes : List ℕ)
    → let answer = convert_into writes from to reading leaps bytes in
    answer_number answer ≡ 0 → answer ≡ converted_to (epoch_of answer) (answer_steps answer)
unfolding answer_number answer_scale answer_tick answer_steps
converted writes from to reading leaps bytes zero = by (convert_into writes from to reading leaps bytes) refl
  where
    by : (answer : Answer) → convert_into writes from to reading leaps bytes ≡ answer
        → answer ≡ converted_to (epoch_of answer) (answer_steps answer)
    by (Ok converted) e = refl
    by (Err refusal) e =
        let tests = tests_into writes from to reading leaps bytes in
        let told : none ≡ of_answer found none (convert_into writes from to reading leaps bytes) =
        sym (all_none found none tests ((into_exactly writes from to reading leaps bytes).accepted zero))
        ∙ conversion_told found none writes from to reading leaps bytes in
        unlike (rw e at told)

-- and the other way
pub gives : (answer : Answer) (scale : Scale) (tick : ℤ) (many : ℕ)
    → answer ≡ converted_to (record { scale = scale; tick = tick }) many → Gives answer scale tick many
unfolding answer_number answer_scale answer_tick answer_steps
gives answer scale tick many e = rw e (refl, refl, refl, refl)

-- ---- and of a batch
pub batch_converted : (from to : ℕ) (ticks : List ℤ) (many : ℕ) (bytes : List ℕ)
    → let batched = batch_of from to ticks many bytes in
    batched_number batched ≡ 0 → batched ≡ Ok (batched_steps batched)
unfolding batched_number batched_steps
batch_converted from to ticks many bytes zero = by (batch_of from to ticks many bytes) refl
  where
    by : (batched : Batched) → batch_of from to ticks many bytes ≡ batched → batched
        ≡ Ok (batched_steps batched)
    by (Ok many) e = refl
    by (Err refused) e =
        let tests = batch_tests from to ticks many bytes in
        let told : none ≡ of_batched (λ n p i. found n p) none (batch_of from to ticks many bytes) =
        sym (all_none_of (λ n p i. found n p) none tests ((batch_exactly from to ticks many bytes).accepted zero))
        ∙ batch_told (λ n p i. found n p) none from to ticks many bytes in
        unlike (rw e at told)

-- an empty batch: what is settled before the entries, with index 0
pub empty_exactly : (from to many : ℕ) (bytes : List ℕ)
    → let batched = batch_of from to [] many bytes in
    ToldExactly (code_tests P.Batch P.Batch from to ++ only 8 0 (eqb 0 many) ∷ crossed_tests from to bytes)
    (batched_number batched) (batched_place batched)
    × (batched_index batched ≡ 0)
unfolding verdicts batched_number batched_place batched_index
empty_exactly from to many bytes = (
  told_exactly tests _ _ (omega arith, (omega arith, (omega arith, crossed_numbered from to bytes)))
      (batch_told (λ n p i. (n, p)) (0, 0) from to [] many bytes ∙ both (batch_of from to [] many bytes)),
  index (batch_of from to [] many bytes) (sym (batch_told (λ n p i. i) 0 from to [] many bytes) ∙ same_told 0 tests),
)
  where
    tests : List Test
    tests = code_tests P.Batch P.Batch from to ++ only 8 0 (eqb 0 many) ∷ crossed_tests from to bytes

    both : (batched : Batched)
        → ◌≡◌ {A = ℕ × ℕ} (of_batched (λ n p i. (n, p)) (0, 0) batched) (batched_number batched, batched_place batched)
    both (Ok many) = refl
    both (Err refused) = refl

    index : (batched : Batched) → of_batched (λ n p i. i) 0 batched ≡ 0 → batched_index batched ≡ 0
    index (Ok many) e = refl
    index (Err refused) e = e
