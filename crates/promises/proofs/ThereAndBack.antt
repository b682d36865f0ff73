-- Demand 3: 'there and back over one step lands within one tick', for conversions over any step:
-- the law of each is `step_back` of `Steps`. Assumes nothing.
use Rattle.blocks.specs.Answers.{Judged}
use Rattle.scales.specs.Answers.{Stepped, Answer, answer_number, answer_tick}
use Rattle.scales.specs.Answers.{answer_steps, stepped_number, read_tick}
use Rattle.scales.specs.declared.answer.Outside.TheVariants as Outside
use Rattle.std.specs.Prelude.{Err, Ok}
use mathlib.Core.Path.{◌≡◌, refl, sym, subst, ◌∙◌, ap}
use mathlib.Core.Bool.{Bool, true, cond, not}
use mathlib.Core.List.{List, [], ◌∷◌, ◌++◌}
use Prim.Native.Nat.{ℕ, ◌≤◌}
use native.Mathlib.Omega.{arith}
use lib.IntN.{ℤ, pos, nat_abs, ◌+ℤ◌, ◌-ℤ◌}
use lib.Dec.{eqb}
use lib.ListN.{length}
use Rattle.numbers.specs.Tests.{fails_at, only, verdict, AllPass}
use Rattle.numbers.proofs.Verdicts.{pass_both, pass_join, more_passed}
use Rattle.numbers.proofs.Exactly.{only_told, only_passes, passes_only}
use Rattle.scales.specs.declared.path.Edge.TheVariants as Edge
use Rattle.scales.specs.declared.path.Step.TheVariants.{Along, Back}
use Rattle.scales.specs.declared.path.Step.{Step}
use Rattle.scales.specs.declared.scale.Scale.{Scale}
use Rattle.scales.specs.declared.scale.Scale.TheVariants.{Tt, Tdb}
use Rattle.scales.specs.Path.{path, steps, crosses}
use Rattle.scales.specs.Rows.{begin, end, opposite}
use Rattle.scales.specs.Tick.{is_valid}
use Rattle.scales.proofs.Every.{every_two}
use Rattle.scales.proofs.Paths.{Leads, leads, opposite_path}
use Rattle.dates.specs.declared.reading.Reading.{Reading}
use Rattle.dates.specs.declared.reading.Reading.TheVariants.{Ticks}
use Rattle.dates.specs.Readings.{read_of}
use Rattle.walk.specs.Walk.{to_tdb, to_tt, step_of}
use Rattle.walk.proofs.OneStep.{tt_reached}
use Rattle.scales.proofs.Reached.{nowhere, same_tick}
use Rattle.image.specs.Image.{table_of}
use Rattle.blocks.specs.Judging.{judged}
use Rattle.blocks.proofs.Accepting.{accepted_table}
use Rattle.ephemeris.specs.Table.{tdb_of}
use Rattle.ephemeris.proofs.Promises.{earliest_of}
use Rattle.desk.specs.Conversion.{held_by, convert_of}
use Rattle.opened.specs.Opened.{coefficients_in}
use Rattle.scales.specs.declared.scale.Purpose.TheVariants as P
use Rattle.scales.specs.Scales.{named, is_code}
use Rattle.promises.specs.Words.{table_in, start_of}
use Rattle.promises.specs.Tests.{code_tests, crossed_tests, reading_tests, step_tests, walk_tests}
use Rattle.promises.specs.Tests.{leap_tests}
use Rattle.promises.proofs.Told.{of_answer, conversion_told}
use Rattle.promises.proofs.Parts.{tdb_number}
use Rattle.promises.proofs.Exactly.{epoch_of, conversion_exactly}
use Rattle.promises.proofs.Walks.{one_step, bytes_held}
use Rattle.promises.proofs.Answers.{walked_from, reading_accepted, start_valid, tick_valid}
use Rattle.promises.proofs.Answers.{ticks_read}
use Rattle.promises.proofs.Steps.{step_back}
use Rattle.promises.proofs.Returning.{step_returns}

-- ---- between neighbours the path is one step
record Neighbours (start finish : Scale) : Type 0 where
  step : Step
  begins : begin step ≡ start
  ends : end step ≡ finish
  there : path start finish ≡ step ∷ []
  back : path finish start ≡ opposite step ∷ []

neighbours : (start finish : Scale) → steps start finish ≡ 1 → Neighbours start finish
neighbours start finish one = single (path start finish) refl (leads start finish) one
  where
    single : (p : List Step) → path start finish ≡ p → Leads start finish p → length p ≡ 1 → Neighbours start finish
    single [] e l one = let no : ⊥ = omega arith in absurd no
    single (step ∷ []) e l one =
        record { step = step; begins = l.0; ends = l.1; there = e; back = rw (← l.0, ← l.1) (opposite_path step) }
    single (step ∷ second ∷ more) e l one = let no : ⊥ = omega arith in absurd no

-- the path back crosses where the path there does
crosses_back : (start finish : Scale) → crosses finish start ≡ crosses start finish
crosses_back start finish = every_two (λ a b. crosses b a) crosses refl start finish

-- ---- Between two codes whose scales are neighbours, that is, whose path is one step: a reading
-- that is converted there and its answer back, over the same table bytes
module _ (from to home : ℕ) (reading : Reading) (leaps : List ℤ) (bytes : List ℕ) (same : named home ≡ named from)
    (one : steps (named from) (named to) ≡ 1)
    (accepted : answer_number (convert_of from to reading leaps bytes) ≡ 0) where
  abbrev there : Answer
  there = convert_of from to reading leaps bytes

  abbrev back : Answer
  back = convert_of to home (Ticks (answer_tick there)) [] bytes

  abbrev read : ℤ
  read = read_tick (read_of leaps reading)

  between : Neighbours (named from) (named to)
  between = neighbours (named from) (named to) one

  abbrev step_taken : Type 0
  step_taken = step_of (table_in bytes) (coefficients_in bytes) between.step read ≡ Ok (epoch_of there)

  taken_there : step_taken
  taken_there =
      one_step (table_in bytes) (coefficients_in bytes) between.step (path (named from) (named to)) between.there (start_of from read) (epoch_of there)
      (answer_steps there) (walked_from P.Reading from to reading leaps bytes accepted)

  -- accepted, it lands within one tick of the tick that was read
  pub there_and_back : answer_number back ≡ 0 → nat_abs (answer_tick back -ℤ read) ≤ 1
  unfolding read_of
  there_and_back again =
      let kept = table_in bytes in
      let cs = coefficients_in bytes in
      let tick = ticks_read (answer_tick there) (reading_accepted P.Reading to home (Ticks (answer_tick there)) [] bytes again) in
      let way : path (named to) (named home) ≡ opposite between.step ∷ [] = rw same between.back in
      step_back kept cs (bytes_held bytes) read (epoch_of there) between.step (epoch_of back) taken_there
      (one_step kept cs (opposite between.step) (path (named to) (named home)) way (start_of to (answer_tick there)) (epoch_of back)
      (answer_steps back) (rw tick at (walked_from P.Reading to home (Ticks (answer_tick there)) [] bytes again)))

  -- and it is accepted, to a code of a conversion into ticks: over every line, and from TT over the
  -- table, always; from TDB wherever the tick after the one that was read is in the range too
  pub back_accepted : is_code P.Reading home ≡ true
      → (named from ≡ Tdb → named to ≡ Tt → is_valid (read +ℤ pos 1) ≡ true) → answer_number back ≡ 0
  unfolding stepped_number
  back_accepted code inner =
      let kept = table_in bytes in
      let cs = coefficients_in bytes in
      let r = step_returns kept cs (bytes_held bytes) read (epoch_of there) (start_valid P.Reading from to reading leaps bytes accepted) between.step
      (λ e. inner (sym between.begins ∙ ap begin e) (sym between.ends ∙ ap end e)) taken_there in
      let codes = (conversion_exactly from to reading leaps bytes).accepted accepted in
      let valid = tick_valid P.Reading from to reading leaps bytes accepted in
      let crossed = (pass_both (crossed_tests from to bytes) (walk_tests from to reading leaps bytes) codes.1.1.1.1).0 in
      let ends = is_code P.Reading to in
      let first = only_passes 1 0 ends (passes_only 1 1 ends codes.1.0) in
      let way : path (named to) (named home) ≡ opposite between.step ∷ [] = rw same between.back in
      (conversion_exactly to home (Ticks (answer_tick there)) [] bytes).passing (
        first,
        (
          only_passes 1 1 (is_code P.Reading home) code,
          (
            only_passes 8 0 true refl,
            (
              only_passes 7 0 true refl,
              pass_join (crossed_tests to home bytes) _ (rw (same, crosses_back (named from) (named to)) crossed) (
                only_passes 4 0 (is_valid (answer_tick there)) valid,
                subst (λ (p : List Step). AllPass (step_tests kept cs p 0 (answer_tick there))) (sym way)
                    (rw r.1 (only_passes 6 0 true refl, (only_passes 4 1 true refl, tt))),
              ),
            ),
          ),
        ),
      )

-- ---- a conversion over one step, whose codes, table and tick pass, has the step's number
one_number : (from to : ℕ) (tick : ℤ) (bytes : List ℕ) (step : Step) → path (named from) (named to) ≡ step ∷ []
    → 1 ≤ fails_at (only 1 0 (is_code P.Reading from)) → 2 ≤ fails_at (only 1 1 (is_code P.Reading to))
    → AllPass (crossed_tests from to bytes) → is_valid tick ≡ true
    → answer_number (convert_of from to (Ticks tick) [] bytes)
    ≡ stepped_number (step_of (table_in bytes) (coefficients_in bytes) step tick)
unfolding answer_number verdict stepped_number
one_number from to tick bytes step single first second crossed valid =
    let number : ℕ → ℕ → ℕ = λ n p. n in
    let walk = walk_tests from to (Ticks tick) [] bytes in
    let steps_left = step_tests (table_in bytes) (coefficients_in bytes) (path (named from) (named to)) 0 tick in
    let last : verdict number 0 steps_left ≡ stepped_number stepped = rw single (only_told number 0 6 0 (only 4 1 ranged ∷ []) inside
    ∙ ap (λ (n : ℕ). cond inside n 6) (only_told number 0 4 1 [] ranged)
    ∙ by stepped) in
    sym (told (convert_of from to (Ticks tick) [] bytes))
    ∙ sym (conversion_told number 0 P.Reading from to (Ticks tick) [] bytes)
    ∙ more_passed number 0 (code_tests P.Reading P.Reading from to ++ leap_tests P.Reading P.Reading []) (crossed_tests from to bytes ++ walk)
    (first, (second, (only_passes 8 0 true refl, (only_passes 7 0 true refl, unit))))
    ∙ more_passed number 0 (crossed_tests from to bytes) walk crossed
    ∙ more_passed number 0 (reading_tests [] (Ticks tick)) steps_left (only_passes 4 0 (is_valid tick) valid, unit)
    ∙ last
  where
    unit : Unit {0}
    unit = tt

    stepped : Stepped
    stepped = step_of (table_in bytes) (coefficients_in bytes) step tick

    inside : Bool
    inside = not (eqb (stepped_number stepped) 6)

    ranged : Bool
    ranged = not (eqb (stepped_number stepped) 4)

    told : (answer : Answer) → of_answer (λ n p. n) 0 answer ≡ answer_number answer
    told (Ok converted) = refl
    told (Err refusal) = refl

    by : (s : Stepped)
        → cond (not (eqb (stepped_number s) 6)) (cond (not (eqb (stepped_number s) 4)) 0 4) 6 ≡ stepped_number s
    by (Ok epoch) = refl
    by (Err Outside.Table) = refl
    by (Err Outside.Range) = refl

-- ---- from TDB over the table, exactly: the way back is accepted where the TDB of the tick that
-- was answered is in the range, else it is 4
module _ (from to : ℕ) (reading : Reading) (leaps : List ℤ) (bytes : List ℕ) (starts : named from ≡ Tdb)
    (ends : named to ≡ Tt) (code : is_code P.Reading from ≡ true)
    (accepted : answer_number (convert_of from to reading leaps bytes) ≡ 0) where
  abbrev reached : ℤ
  reached = answer_tick (convert_of from to reading leaps bytes)

  abbrev tdb : ℤ
  tdb = tdb_of (table_of bytes) (coefficients_in bytes) reached

  -- the tick that was answered lies inside the table
  stands_inside : to_tt (table_in bytes) (coefficients_in bytes) (read_tick (read_of leaps reading))
      ≡ Ok (epoch_of (convert_of from to reading leaps bytes))
      → stepped_number (to_tdb (table_in bytes) (coefficients_in bytes) reached) ≡ cond (is_valid tdb) 0 4
  stands_inside = by (judged bytes) refl
    where
      cs : List ℤ
      cs = coefficients_in bytes

      by : (judgement : Judged) → judged bytes ≡ judgement
          → to_tt (held_by judgement) cs (read_tick (read_of leaps reading))
          ≡ Ok (epoch_of (convert_of from to reading leaps bytes))
          → stepped_number (to_tdb (held_by judgement) cs reached) ≡ cond (is_valid tdb) 0 4
      by (Err refusal) j e = nowhere e
      by (Ok of) j e =
          let a = tt_reached of cs (read_tick (read_of leaps reading)) _ e in
          let inside = (earliest_of of cs (read_tick (read_of leaps reading)) a.covered).inside in
          let here = rw (same_tick a.is) at inside in
          rw (accepted_table bytes of j) (tdb_number of cs reached ∙ rw here)

  pub back_of_tdb : answer_number (convert_of to from (Ticks reached) [] bytes) ≡ cond (is_valid tdb) 0 4
  back_of_tdb =
      let there = Back Edge.Table in
      let single : path (named from) (named to) ≡ there ∷ [] = rw (starts, ends) in
      let answer = convert_of from to reading leaps bytes in
      let codes = (conversion_exactly from to reading leaps bytes).accepted accepted in
      let crossed = (pass_both (crossed_tests from to bytes) (walk_tests from to reading leaps bytes) codes.1.1.1.1).0 in
      let end = is_code P.Reading to in
      one_number to from reached bytes (Along Edge.Table) (rw (starts, ends))
      (only_passes 1 0 end (passes_only 1 1 end codes.1.0))
      (only_passes 1 1 (is_code P.Reading from) code)
      (rw (crosses_back (named from) (named to)) crossed)
      (tick_valid P.Reading from to reading leaps bytes accepted)
      ∙ stands_inside
      (one_step (table_in bytes) (coefficients_in bytes) there (path (named from) (named to)) single (start_of from (read_tick (read_of leaps reading)))
      (epoch_of answer) (answer_steps answer) (walked_from P.Reading from to reading leaps bytes accepted))
