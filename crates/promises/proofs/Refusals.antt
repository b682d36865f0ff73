-- Each conversion is answered or refused, never both; a refusal tells one of the page's numbers
-- with its place, and carries no tick. Assumes nothing.
use Rattle.scales.specs.Answers.{Answer, answer_number, answer_place, answer_tick}
use Rattle.scales.specs.Answers.{answer_steps, stepped_number, read_number, read_tick}
use Rattle.scales.specs.declared.answer.Outside.TheVariants as Outside
use Rattle.std.specs.Prelude.{Err, Ok, Option}
use mathlib.Core.Path.{◌≡◌, refl, sym, ◌∙◌, ap}
use mathlib.Core.Logic.{◌⊎◌, inl, inr}
use mathlib.Core.Bool.{Bool, true, false, cond, not, ◌&&◌}
use mathlib.Core.List.{List, [], ◌∷◌, ◌++◌}
use Prim.Native.Nat.{ℕ, suc, ◌≤◌, ◌<◌}
use native.Mathlib.Omega.{arith}
use borrow.Author.Tests.{leb-true}
use lib.Dec.{ltb, leb, lit≤}
use lib.IntN.{ℤ, pos}
use lib.ListN.{length}
use Rattle.numbers.proofs.Flags.{never, both, or_right}
use Rattle.scales.specs.declared.answer.Epoch.{Epoch}
use Rattle.scales.specs.declared.refusal.Refusal.{Refusal}
use Rattle.scales.specs.declared.path.Step.{Step}
use Rattle.scales.specs.declared.scale.Scale.{Scale}
use Rattle.scales.specs.Path.{path, any_over_table, crosses}
use Rattle.scales.specs.Rows.{over_table}
use Rattle.scales.proofs.Every.{every_two}
use Rattle.image.specs.declared.table.Table.{Table}
use Rattle.image.specs.Image.{table_of}
use Rattle.blocks.specs.Answers as blocks
use Rattle.numbers.specs.Tests.{Test, fails_at, verdict}
use Rattle.blocks.specs.Judging.{judged_by, table_tests, judged}
use Rattle.dates.specs.declared.reading.Reading.{Reading}
use Rattle.dates.specs.Readings.{read_of}
use Rattle.desk.specs.Order.{settled}
use Rattle.opened.specs.Opened.{coefficients_in}
use Rattle.desk.specs.Conversion.{convert_of, convert_read, convert_into}
use Rattle.desk.proofs.Asking.{between_unseen}
use Rattle.walk.proofs.Steps.{steps_are}
use Rattle.scales.specs.Scales.{named}
use Rattle.promises.specs.Words.{table_in, start_of}
use Rattle.promises.specs.Reasons.{StoppedAfter, steps_to_table, over_once, told_numbers, is_among}
use Rattle.promises.proofs.Readings.{reading_refusal}
use Rattle.promises.proofs.Steps.{step_outside}
use Rattle.promises.proofs.Reasons.{Stopped, EndedBetween, outside_table, outside_range, because}
use Rattle.promises.proofs.Reasons.{Because, by_from, by_to, by_length, by_list, by_table}
use Rattle.promises.proofs.Reasons.{by_reading, by_walk}
use Rattle.scales.specs.declared.scale.Purpose.TheVariants as P

-- ---- which numbers are told: what holds of each of them holds of the one that is told
module _ (p : ℕ → Bool) where
  -- of a list of tests
  abbrev all_numbers : List Test → Bool
  all_numbers [] = true
  all_numbers (x ∷ xs) = p x.number && all_numbers xs

  tests_number : (xs : List Test) (t : Table) (r : Refusal) → all_numbers xs ≡ true → judged_by xs t ≡ Err r
      → p r.number ≡ true
  unfolding verdict blocks.judged_number
  tests_number [] t r a e = let z : ◌≡◌ {A = ℕ} 0 1 = cc in let no : ⊥ = omega arith in absurd no
  tests_number (x ∷ xs) t r a e =
      let d = both (p x.number) (all_numbers xs) a in
      by d.0 (tests_number xs t r d.1) (ltb (fails_at x) x.places) e
    where
      by : p x.number ≡ true → (judged_by xs t ≡ Err r → p r.number ≡ true) → (fails : Bool)
          → cond fails (blocks.judged_refused x.number (fails_at x)) (judged_by xs t) ≡ Err r
          → p r.number ≡ true
      by first rest true e = sym (ap (λ (n : ℕ). p n) (ap blocks.judged_number e)) ∙ first
      by first rest false e = rest e

  table_number : (bytes : List ℕ) (r : Refusal) → all_numbers (table_tests bytes (table_of bytes)) ≡ true
      → judged bytes ≡ Err r → p r.number ≡ true
  unfolding judged
  table_number bytes r a e = tests_number _ _ r a e

-- a table's are above all others
table_above : (bytes : List ℕ) (r : Refusal) → judged bytes ≡ Err r → 10 ≤ r.number
table_above bytes r e = leb-true 10 r.number (table_number (leb 10) bytes r refl e)

-- ---- where 6 is told
-- a path has at most one step over the table
once : (from to : Scale) → over_once (path from to) ≡ true
once = every_two (λ from to. over_once (path from to)) (λ from to. true) refl

any_over : (before : List Step) (last : Step) (after : List Step) → over_table last ≡ true
    → any_over_table (before ++ last ∷ after) ≡ true
any_over [] last after e = rw e
any_over (step ∷ before) last after e = or_right (over_table step) (any_over before last after e)

so_many_before : (before : List Step) (last : Step) (after : List Step) → over_table last ≡ true
    → over_once (before ++ last ∷ after) ≡ true
    → steps_to_table (before ++ last ∷ after) ≡ length before
so_many_before [] last after e o = rw e
so_many_before (step ∷ before) last after e o = by (so_many_before before last after e) (over_table step) o
  where
    by : (over_once (before ++ last ∷ after) ≡ true → steps_to_table (before ++ last ∷ after) ≡ length before)
        → (over : Bool)
        → cond over (not (any_over_table (before ++ last ∷ after))) (over_once (before ++ last ∷ after)) ≡ true
        → cond over 0 (suc (steps_to_table (before ++ last ∷ after))) ≡ suc (length before)
    by rest true o = never (rw (any_over before last after e) at o)
    by rest false o = ap suc (rest o)

stopped_over : (kept : Option Table) (cs : List ℤ) (p : List Step) (start : Epoch) (done : ℕ) → over_once p ≡ true
    → Stopped kept cs p 0 start done (Err Outside.Table) → done ≡ steps_to_table p
stopped_over kept cs p start done o s =
    let many = steps_are kept cs s.before 0 start s.walked in
    let so = so_many_before s.before s.last s.after (step_outside kept cs s.epoch.tick s.last s.stopped) (rw s.split at o) in
    rw (s.split, so) (omega arith)

-- ---- the refusal of a conversion, of any codes and reading over any table bytes
module _ (from to : ℕ) (reading : Reading) (leaps : List ℤ) (bytes : List ℕ) (r : Refusal)
    (refused : convert_of from to reading leaps bytes ≡ Err r) where
  number_told : is_among told_numbers r.number ≡ true
  number_told = by (because P.Reading from to reading leaps bytes r refused)
    where
      of : (number : ℕ) → is_among told_numbers number ≡ true → r.number ≡ number
          → is_among told_numbers r.number ≡ true
      of number e n = rw n e

      ended : (tick : ℤ) → EndedBetween from to bytes tick r → is_among told_numbers r.number ≡ true
      ended tick (outside_table n s) = of 6 refl n
      ended tick (outside_range done n p s) = of 4 refl n

      by : Because P.Reading from to reading leaps bytes r → is_among told_numbers r.number ≡ true
      by (by_from h n p) = of 1 refl n
      by (by_to h n p) = of 1 refl n
      by (by_length h n p) = of 8 refl n
      by (by_list h n p) = of 7 refl n
      by (by_table o j) = table_number (is_among told_numbers) bytes r refl j
      by (by_reading q) = reading_refusal (λ of. is_among told_numbers of.number ≡ true) leaps reading refl refl refl refl refl refl r q
      by (by_walk tick q w) = ended tick w

  -- 6 comes of the walk alone, and so does 4 unless the start lies outside the range
  walk_6 : r.number ≡ 6 → (tick : ℤ) × EndedBetween from to bytes tick r
  walk_6 six = by (because P.Reading from to reading leaps bytes r refused)
    where
      by : Because P.Reading from to reading leaps bytes r → (tick : ℤ) × EndedBetween from to bytes tick r
      by (by_from h n p) = let no : ⊥ = omega arith in absurd no
      by (by_to h n p) = let no : ⊥ = omega arith in absurd no
      by (by_length h n p) = let no : ⊥ = omega arith in absurd no
      by (by_list h n p) = let no : ⊥ = omega arith in absurd no
      by (by_table o j) = let no : ⊥ = omega (arith, table_above bytes r j) in absurd no
      by (by_reading q) =
          let below = reading_refusal (λ of. of.number ≤ 5) leaps reading (lit≤ tt) (lit≤ tt) (lit≤ tt) (lit≤ tt) (lit≤ tt) (lit≤ tt) r q in
          let no : ⊥ = omega arith in
          absurd no
      by (by_walk tick q w) = (tick, w)

  six_told : r.number ≡ 6 → r.place ≡ steps_to_table (path (named from) (named to))
  six_told six = let w = walk_6 six in by w.0 w.1
    where
      by : (tick : ℤ) → EndedBetween from to bytes tick r → r.place ≡ steps_to_table (path (named from) (named to))
      by tick (outside_table n s) =
          stopped_over (table_in bytes) (coefficients_in bytes) (path (named from) (named to)) (start_of from tick) r.place (once (named from) (named to)) s
      by tick (outside_range done n p s) = let no : ⊥ = omega arith in absurd no

  abbrev OutsideAfter : Type 0
  OutsideAfter =
      (done : ℕ) × (r.place ≡ suc done) × StoppedAfter from to bytes (read_tick (read_of leaps reading)) done 4

  four_told : r.number ≡ 4 → ((r.place ≡ 0) × (read_number (read_of leaps reading) ≡ 4)) ⊎ OutsideAfter
  unfolding read_number read_tick answer_number answer_tick answer_steps stepped_number
  four_told four = by (because P.Reading from to reading leaps bytes r refused)
    where
      ended : (tick : ℤ) → read_of leaps reading ≡ Ok tick → EndedBetween from to bytes tick r → OutsideAfter
      ended tick q (outside_table n s) = let no : ⊥ = omega arith in absurd no
      ended tick q (outside_range done n p s) =
          rw q (
            done,
            p,
            record {
              before = s.before;
              next = s.last;
              after = s.after;
              split = s.split;
              walked = rw s.walked;
              many = rw s.walked;
              stopped = rw (s.walked, s.stopped);
            },
          )

      by : Because P.Reading from to reading leaps bytes r
          → ((r.place ≡ 0) × (read_number (read_of leaps reading) ≡ 4)) ⊎ OutsideAfter
      by (by_from h n p) = let no : ⊥ = omega arith in absurd no
      by (by_to h n p) = let no : ⊥ = omega arith in absurd no
      by (by_length h n p) = let no : ⊥ = omega arith in absurd no
      by (by_list h n p) = let no : ⊥ = omega arith in absurd no
      by (by_table o j) = let no : ⊥ = omega (arith, table_above bytes r j) in absurd no
      by (by_reading q) =
          let start =
          reading_refusal (λ of. of.number ≡ 4 → of.place ≡ 0) leaps reading (λ e. omega arith) (λ e. omega arith) (λ e. omega arith) (λ e. omega arith)
          (λ e. omega arith) (λ e. refl) r q in
          inl (start four, rw q four)
      by (by_walk tick q w) = inr (ended tick q w)

-- ---- and by its number, which is not 0
module _ (from to : ℕ) (reading : Reading) (leaps : List ℤ) (bytes : List ℕ)
    (refused : 0 < answer_number (convert_of from to reading leaps bytes)) where
  abbrev answer : Answer
  answer = convert_of from to reading leaps bytes

  is_refused : answer ≡ Err (record { number = answer_number answer; place = answer_place answer })
  unfolding answer_number answer_place
  is_refused = by answer refused
    where
      by : (answer : Answer) → 0 < answer_number answer
          → answer ≡ Err (record { number = answer_number answer; place = answer_place answer })
      by (Ok converted) h = let no : ⊥ = omega arith in absurd no
      by (Err refusal) h = refl

  -- 'A refusal carries no tick', and no steps
  pub carries_nothing : (answer_tick answer ≡ pos 0) × (answer_steps answer ≡ 0)
  unfolding answer_tick answer_steps
  carries_nothing = (ap answer_tick is_refused, ap answer_steps is_refused)

  -- the number is that of one of the tests of conversions
  pub told_number : is_among told_numbers (answer_number answer) ≡ true
  told_number = number_told from to reading leaps bytes _ is_refused

  -- '6: outside the table', place 'steps done': the steps of the path before the one over the table
  pub place_of_6 : answer_number answer ≡ 6 → answer_place answer ≡ steps_to_table (path (named from) (named to))
  place_of_6 six = six_told from to reading leaps bytes _ is_refused six

  -- '4: epoch outside the range at start, between steps or at the end', place 'steps done, the one
  -- that led outside counted': the reading is refused with 4, or from the tick that was read so
  -- many steps are walked and the next one leads outside
  pub place_of_4 : answer_number answer ≡ 4
      → ((answer_place answer ≡ 0) × (read_number (read_of leaps reading) ≡ 4))
      ⊎ ((done : ℕ) × (answer_place answer ≡ suc done)
      × StoppedAfter from to bytes (read_tick (read_of leaps reading)) done 4)
  place_of_4 four = four_told from to reading leaps bytes _ is_refused four

-- ---- 'A path that doesn't cross never looks at the table': it answers the same over any two table
-- bytes
pub table_unseen : (from to : ℕ) (reading : Reading) (leaps : List ℤ) (bytes bytes' : List ℕ)
    → crosses (named from) (named to) ≡ false
    → convert_of from to reading leaps bytes ≡ convert_of from to reading leaps bytes'
unfolding convert_into convert_read settled
table_unseen from to reading leaps bytes bytes' c =
    let walk = between_unseen (named from) (named to) c (read_of leaps reading) in
    rw (c, walk (table_in bytes) (table_in bytes') (coefficients_in bytes) (coefficients_in bytes'))
