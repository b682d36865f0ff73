-- What a conversion and a batch tell is what their lists of tests tell, in whatever it is told: the
-- definitions of `desk` and `batch` beside the page's order. Assumes nothing.
use Rattle.entries.specs.Batched.{Batched}
use Rattle.scales.specs.Answers.{Read, Stepped, Answer, stepped_number, stepped_tick}
use Rattle.blocks.specs.Answers.{Judged, judged_refused}
use Rattle.image.specs.declared.table.Table.{Table}
use Rattle.scales.specs.declared.answer.Outside.TheVariants as Outside
use Rattle.std.specs.Prelude.{Err, Ok, Option}
use mathlib.Core.Path.{◌≡◌, refl, sym, ◌∙◌, ap}
use mathlib.Core.Bool.{Bool, true, false, cond, not}
use mathlib.Core.List.{List, [], ◌∷◌, ◌++◌}
use Prim.Native.Nat.{ℕ, suc}
use native.Mathlib.Omega.{arith}
use lib.Dec.{eqb}
use lib.Ieee.Scale.{finite}
use lib.IntN.{ℤ}
use lib.ListN.{length}
use Rattle.numbers.specs.Tests.{Test, only, verdict, verdicts}
use Rattle.numbers.proofs.Verdicts.{verdict_map}
use Rattle.numbers.proofs.Exactly.{verdict_behind, only_told, Numbered, AllNumbered, numbered}
use Rattle.numbers.proofs.Exactly.{numbered_both}
use Rattle.scales.specs.declared.answer.Epoch.{Epoch}
use Rattle.scales.specs.declared.path.Step.{Step}
use Rattle.scales.specs.declared.scale.Purpose.TheVariants as P
use Rattle.scales.specs.Path.{path, crosses, steps}
use Rattle.scales.specs.Scales.{named, is_code}
use Rattle.scales.specs.Tick.{is_valid}
use Rattle.image.specs.Image.{table_of}
use Rattle.blocks.specs.Judging.{judged, table_tests}
use Rattle.dates.specs.declared.reading.Reading.{Reading}
use Rattle.dates.specs.declared.reading.Reading.TheVariants.{TwoPart, SinceJ2000, Ticks, Utc}
use Rattle.dates.specs.Doubles.{beyond}
use Rattle.dates.specs.Readings.{most_days, most_seconds, refused_if, in_range, read_of, purpose_of}
use Rattle.dates.specs.Readings.{read_of_parts, read_of_seconds, refused_with}
use Rattle.dates.specs.Ticks.{tick_of_date, tick_of_seconds}
use Rattle.walk.specs.Walk.{step_of, walk_of, after_step, walk_between}
use Rattle.opened.specs.Opened.{coefficients_in}
use Rattle.desk.specs.Order.{Check, passes, refuses, unless, first_of, of_table, settled, leaps_fit}
use Rattle.desk.specs.Order.{leaps_right}
use Rattle.desk.specs.Conversion.{answering, started, between_of, convert_into, convert_read}
use Rattle.entries.specs.Entries.{entry_of, earlier, tried_of}
use Rattle.batch.specs.Batch.{batch_settled, batch_of}
use Rattle.promises.specs.Tests.{code_tests, crossed_tests, reading_tests, tick_read, step_tests}
use Rattle.promises.specs.Tests.{walk_tests, entry_tests, batch_tests, leap_tests, tests_into}
use Rattle.promises.specs.Words.{table_in}
use Rattle.scales.specs.declared.scale.Purpose.{Purpose}
use Rattle.utc.specs.Days.{is_reading, tai_of}
use Rattle.utc.specs.Readings.{utc_read}

-- ---- what a table's judgement tells, whatever it is told as
module _ {A : Type 0} (refused : ℕ → ℕ → A) (last : A) where
  abbrev of_judged : Judged → A
  of_judged (Ok table) = last
  of_judged (Err refusal) = refused refusal.number refusal.place

  -- 'if the path crosses TT to TDB'
  crossed_told : (bytes : List ℕ) (over : Bool)
      → verdict refused last (cond over (table_tests bytes (table_of bytes)) [])
      ≡ cond over (of_judged (judged bytes)) last
  unfolding judged verdict
  crossed_told bytes true = sym (verdict_map of_judged judged_refused (Ok (table_of bytes)) (table_tests bytes (table_of bytes)))
  crossed_told bytes false = refl

  -- and what a check does
  abbrev of_check : Check → A
  of_check passes = last
  of_check (refuses refusal) = refused refusal.number refusal.place

-- ---- what an answer tells
module _ {A : Type 0} (refused : ℕ → ℕ → A) (last : A) where
  abbrev pub of_answer : Answer → A
  of_answer (Ok converted) = last
  of_answer (Err refusal) = refused refusal.number refusal.place

  -- ---- a walk, step by step
  walk_told : (kept : Option Table) (cs : List ℤ) (p : List Step) (done : ℕ) (epoch : Epoch)
      → verdict refused last (step_tests kept cs p done epoch.tick) ≡ of_answer (walk_of kept cs p done epoch)
  unfolding verdict walk_of stepped_number stepped_tick
  walk_told kept cs [] done epoch = refl
  walk_told kept cs (step ∷ more) done epoch =
      let s = step_of kept cs step epoch.tick in
      let inside = not (eqb (stepped_number s) 6) in
      let ranged = not (eqb (stepped_number s) 4) in
      let rest = step_tests kept cs more (suc done) (stepped_tick s) in
      only_told refused last 6 done (only 4 (suc done) ranged ∷ rest) inside
      ∙ ap (λ (a : A). cond inside a (refused 6 done)) (only_told refused last 4 (suc done) rest ranged)
      ∙ after s (walk_told kept cs more (suc done))
    where
      after : (s : Stepped)
          → ((on : Epoch) → verdict refused last (step_tests kept cs more (suc done) on.tick)
          ≡ of_answer (walk_of kept cs more (suc done) on))
          → cond (not (eqb (stepped_number s) 6))
          (cond (not (eqb (stepped_number s) 4))
          (verdict refused last (step_tests kept cs more (suc done) (stepped_tick s)))
          (refused 4 (suc done)))
          (refused 6 done)
          ≡ of_answer (after_step (walk_of kept cs more (suc done)) done s)
      after (Ok on) rest = rest on
      after (Err Outside.Table) rest = refl
      after (Err Outside.Range) rest = refl

  -- ---- a reading before it: one of its tests, and what comes after
  module _ (walk : ℤ → Answer) where
    one_told : (test : Bool) (number place : ℕ) (xs : List Test) (read : Read)
        → verdict refused last xs ≡ of_answer (started walk read)
        → verdict refused last (only number place (not test) ∷ xs)
        ≡ of_answer (started walk (refused_if test number place read))
    one_told true number place xs read e = only_told refused last number place xs false
    one_told false number place xs read e = only_told refused last number place xs true ∙ e

    -- a test that is stated by what passes
    unless_told : (test : Bool) (number place : ℕ) (xs : List Test) (read : Read)
        → verdict refused last xs ≡ of_answer (started walk read)
        → verdict refused last (only number place test ∷ xs)
        ≡ of_answer (started walk (refused_if (not test) number place read))
    unless_told true = one_told false
    unless_told false = one_told true

    -- a UTC reading, with its tests stated the other way round
    of_utc : (leaps : List ℤ) (day ticks : ℤ) → let tai = tai_of leaps day ticks in
        refused_if (not (is_reading leaps day ticks)) 5 0 (refused_if (not (is_valid tai)) 4 0 (Ok tai))
        ≡ utc_read leaps day ticks
    unfolding utc_read
    of_utc leaps day ticks = by (is_reading leaps day ticks) (is_valid (tai_of leaps day ticks))
      where
        by : (right valid : Bool) → let tai = tai_of leaps day ticks in
            refused_if (not right) 5 0 (refused_if (not valid) 4 0 (Ok tai))
            ≡ cond right (cond valid (Ok tai) (refused_with 4 0)) (refused_with 5 0)
        by false valid = refl
        by true false = refl
        by true true = refl

    pub reading_told : (leaps : List ℤ) (reading : Reading) (xs : List Test) → verdict refused last xs
        ≡ of_answer (walk (tick_read leaps reading))
        → verdict refused last (reading_tests leaps reading ++ xs) ≡ of_answer (started walk (read_of leaps reading))
    unfolding read_of read_of_parts read_of_seconds in_range
    reading_told leaps (TwoPart first second) xs e =
        unless_told (finite first) 2 0 _ _
        (unless_told (finite second) 2 1 _ _
        (one_told (beyond most_days first) 3 0 _ _
        (one_told (beyond most_days second) 3 1 _ _
        (unless_told (is_valid (tick_of_date first second)) 4 0 _ (Ok _) e))))
    reading_told leaps (SinceJ2000 seconds) xs e =
        unless_told (finite seconds) 2 0 _ _
        (one_told (beyond most_seconds seconds) 3 0 _ _ (unless_told (is_valid (tick_of_seconds seconds)) 4 0 _ (Ok _) e))
    reading_told leaps (Ticks tick) xs e = unless_told (is_valid tick) 4 0 _ (Ok _) e
    reading_told leaps (Utc day ticks) xs e =
        unless_told (is_reading leaps day ticks) 5 0 _ _
        (unless_told (is_valid (tai_of leaps day ticks)) 4 0 _ (Ok _) e)
        ∙ ap (λ (read : Read). of_answer (started walk read)) (of_utc leaps day ticks)

  between_told : (from to : ℕ) (reading : Reading) (leaps : List ℤ) (bytes : List ℕ)
      → verdict refused last (walk_tests from to reading leaps bytes)
      ≡ of_answer (between_of (named from) (named to) (read_of leaps reading) (table_in bytes) (coefficients_in bytes))
  unfolding between_of
  between_told from to reading leaps bytes =
      reading_told (walk_between (table_in bytes) (coefficients_in bytes) (named from) (named to)) leaps reading _
      (walk_told (table_in bytes) (coefficients_in bytes) (path (named from) (named to)) 0 (record { scale = named from; tick = tick_read leaps reading }))

-- ---- and what is settled before it: the codes, the lengths and the table, each as a test of the
-- page and as a check of the desk
module _ {A : Type 0} (refused : ℕ → ℕ → A) (answered : A) where
  settled_told : (p q fits right over : Bool) (judgement : Judged)
      → cond p
      (cond q
      (cond fits (cond right (cond over (of_judged refused answered judgement) answered) (refused 7 0)) (refused 8 0))
      (refused 1 1))
      (refused 1 0)
      ≡ of_check refused answered
      (first_of
      (unless p 1 0 ∷ unless q 1 1 ∷ unless fits 8 0 ∷ unless right 7 0 ∷ cond over (of_table judgement) passes ∷ []))
  settled_told false q fits right over judgement = refl
  settled_told true false fits right over judgement = refl
  settled_told true true false right over judgement = refl
  settled_told true true true false over judgement = refl
  settled_told true true true true false judgement = refl
  settled_told true true true true true (Ok table) = refl
  settled_told true true true true true (Err refusal) = refl

module _ {A : Type 0} (refused : ℕ → ℕ → A) (last : A) where
  checked : (check : Check) (answer : Answer)
      → of_check refused (of_answer refused last answer) check ≡ of_answer refused last (answering check answer)
  checked passes answer = refl
  checked (refuses refusal) answer = refl

  -- the codes' tests before the others
  codes_told : (p q : Bool) (xs : List Test) → verdict refused last (only 1 0 p ∷ only 1 1 q ∷ xs)
      ≡ cond p (cond q (verdict refused last xs) (refused 1 1)) (refused 1 0)
  codes_told p q xs =
      only_told refused last 1 0 (only 1 1 q ∷ xs) p
      ∙ ap (λ (a : A). cond p a (refused 1 0)) (only_told refused last 1 1 xs q)

  -- those of the lent list
  leaps_told : (fits right : Bool) (xs : List Test) → verdict refused last (only 8 0 fits ∷ only 7 0 right ∷ xs)
      ≡ cond fits (cond right (verdict refused last xs) (refused 7 0)) (refused 8 0)
  leaps_told fits right xs =
      only_told refused last 8 0 (only 7 0 right ∷ xs) fits
      ∙ ap (λ (a : A). cond fits a (refused 8 0)) (only_told refused last 7 0 xs right)

  pub conversion_told : (writes : Purpose) (from to : ℕ) (reading : Reading) (leaps : List ℤ) (bytes : List ℕ)
      → verdict refused last (tests_into writes from to reading leaps bytes)
      ≡ of_answer refused last (convert_into writes from to reading leaps bytes)
  unfolding convert_into convert_read settled
  conversion_told writes from to reading leaps bytes =
      let reads = purpose_of reading in
      let p = is_code reads from in
      let q = is_code writes to in
      let fits = leaps_fit reads writes leaps in
      let right = leaps_right reads writes leaps in
      let over = crosses (named from) (named to) in
      let answer = between_of (named from) (named to) (read_of leaps reading) (table_in bytes) (coefficients_in bytes) in
      let walk = walk_tests from to reading leaps bytes in
      codes_told p q (leap_tests reads writes leaps ++ crossed_tests from to bytes ++ walk)
      ∙ ap (λ (a : A). cond p (cond q a (refused 1 1)) (refused 1 0))
      (leaps_told fits right (crossed_tests from to bytes ++ walk)
      ∙ ap (λ (a : A). cond fits (cond right a (refused 7 0)) (refused 8 0))
      (verdict_behind refused last (crossed_tests from to bytes) walk
      ∙ ap (λ (a : A). verdict refused a (crossed_tests from to bytes)) (between_told refused last from to reading leaps bytes)
      ∙ crossed_told refused (of_answer refused last answer) bytes over))
      ∙ settled_told refused (of_answer refused last answer) p q fits right over (judged bytes)
      ∙ checked (settled reads writes from to fits right (judged bytes)) answer

-- ---- a batch
module _ {A : Type 0} (refused : ℕ → ℕ → ℕ → A) (last : A) where
  abbrev pub of_batched : Batched → A
  of_batched (Ok many) = last
  of_batched (Err told) = refused told.refusal.number told.refusal.place told.index

  settled_batch : (check : Check) (batched : Batched)
      → of_check (λ n p. refused n p 0) (of_batched batched) check ≡ of_batched (batch_settled check batched)
  settled_batch passes batched = refl
  settled_batch (refuses refusal) batched = refl

  -- all entries from an index on
  entries_told : (from to : ℕ) (bytes : List ℕ) (many index : ℕ) (ticks : List ℤ)
      → verdicts refused last (entry_tests from to bytes index ticks)
      ≡ of_batched (tried_of (entry_of (named from) (named to) (table_in bytes) (coefficients_in bytes)) many index
      ticks)
  unfolding verdicts tried_of read_of
  entries_told from to bytes many index [] = refl
  entries_told from to bytes many index (tick ∷ more) =
      between_told (λ n p. refused n p index) _ from to (Ticks tick) [] bytes
      ∙ ap (λ (a : A). of_answer (λ n p. refused n p index) a (entry tick)) (entries_told from to bytes many (suc index) more)
      ∙ first_of_lem (entry tick) (tried_of entry many (suc index) more)
    where
      entry : ℤ → Answer
      entry = entry_of (named from) (named to) (table_in bytes) (coefficients_in bytes)

      first_of_lem : (answer : Answer) (later : Batched)
          → of_answer (λ n p. refused n p index) (of_batched later) answer ≡ of_batched (earlier answer index later)
      first_of_lem (Ok converted) later = refl
      first_of_lem (Err refusal) later = refl

  pub batch_told : (from to : ℕ) (ticks : List ℤ) (many : ℕ) (bytes : List ℕ)
      → verdicts refused last (batch_tests from to ticks many bytes) ≡ of_batched (batch_of from to ticks many bytes)
  unfolding verdicts batch_of settled
  batch_told from to ticks many bytes =
      let one : ℕ → ℕ → A = λ n p. refused n p 0 in
      let p = is_code P.Batch from in
      let q = is_code P.Batch to in
      let fits = eqb (length ticks) many in
      let over = crosses (named from) (named to) in
      let batched = tried_of (entry_of (named from) (named to) (table_in bytes) (coefficients_in bytes)) (steps (named from) (named to)) 0 ticks in
      ap (λ (a : A). verdict one a (code_tests P.Batch P.Batch from to ++ only 8 0 fits ∷ crossed_tests from to bytes))
      (entries_told from to bytes (steps (named from) (named to)) 0 ticks)
      ∙ codes_told one (of_batched batched) p q (only 8 0 fits ∷ crossed_tests from to bytes)
      ∙ ap (λ (a : A). cond p (cond q a (one 1 1)) (one 1 0))
      (only_told one (of_batched batched) 8 0 (crossed_tests from to bytes) fits
      ∙ ap (λ (a : A). cond fits a (one 8 0)) (crossed_told one (of_batched batched) bytes over))
      ∙ settled_told one (of_batched batched) p q fits true over (judged bytes)
      ∙ settled_batch (settled P.Batch P.Batch from to fits true (judged bytes)) batched

-- ---- every test has a number
pub crossed_numbered : (from to : ℕ) (bytes : List ℕ) → Numbered (crossed_tests from to bytes)
crossed_numbered from to bytes = by (crosses (named from) (named to))
  where
    by : (over : Bool) → Numbered (cond over (table_tests bytes (table_of bytes)) [])
    by true = numbered (table_tests bytes (table_of bytes)) refl
    by false = tt

pub reading_numbered : (leaps : List ℤ) (reading : Reading) → Numbered (reading_tests leaps reading)
reading_numbered leaps (TwoPart first second) = numbered (reading_tests leaps (TwoPart first second)) refl
reading_numbered leaps (SinceJ2000 seconds) = numbered (reading_tests leaps (SinceJ2000 seconds)) refl
reading_numbered leaps (Ticks tick) = numbered (reading_tests leaps (Ticks tick)) refl
reading_numbered leaps (Utc day ticks) = numbered (reading_tests leaps (Utc day ticks)) refl

steps_numbered : (kept : Option Table) (cs : List ℤ) (p : List Step) (done : ℕ) (tick : ℤ)
    → Numbered (step_tests kept cs p done tick)
steps_numbered kept cs [] done tick = tt
steps_numbered kept cs (step ∷ more) done tick = (omega arith, (omega arith, steps_numbered kept cs more (suc done) _))

pub walk_numbered : (from to : ℕ) (reading : Reading) (leaps : List ℤ) (bytes : List ℕ)
    → Numbered (walk_tests from to reading leaps bytes)
walk_numbered from to reading leaps bytes =
    numbered_both (reading_tests leaps reading) _ (reading_numbered leaps reading)
    (steps_numbered (table_in bytes) (coefficients_in bytes) (path (named from) (named to)) 0 _)

pub entries_numbered : (from to : ℕ) (bytes : List ℕ) (index : ℕ) (ticks : List ℤ)
    → AllNumbered (entry_tests from to bytes index ticks)
entries_numbered from to bytes index [] = tt
entries_numbered from to bytes index (tick ∷ more) =
    (walk_numbered from to (Ticks tick) [] bytes, entries_numbered from to bytes (suc index) more)
