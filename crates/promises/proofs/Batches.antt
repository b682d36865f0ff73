-- What a batch answers, by its number, place, index and steps: the conversions of its entries, or
-- the first of them that is refused; and that it looks at no table that its path does not cross.
-- Assumes nothing.
use Rattle.entries.specs.Batched.{Batched, refused_at, batched_number, batched_place, batched_index}
use Rattle.entries.specs.Batched.{batched_steps}
use Rattle.scales.specs.Answers.{Answer, converted_to, answer_number, answer_place, answer_tick}
use Rattle.scales.specs.Answers.{answer_steps}
use Rattle.std.specs.Prelude.{Err, Ok}
use mathlib.Core.Path.{◌≡◌, refl, sym, ap}
use mathlib.Core.Logic.{⊎_elim}
use mathlib.Core.Bool.{false, true}
use mathlib.Core.List.{List, [], ◌∷◌, map}
use Prim.Native.Nat.{ℕ, suc, ◌≤◌, ◌<◌}
use native.Mathlib.Omega.{arith}
use lib.IntN.{ℤ, pos}
use lib.ListN.{length, get_or}
use lib.Signed.{◌≤ℤ◌}
use Rattle.numbers.proofs.Order.{le_or_lt}
use Rattle.scales.specs.declared.answer.Epoch.{Epoch}
use Rattle.scales.specs.Path.{steps, crosses}
use Rattle.scales.specs.Scales.{named}
use Rattle.dates.specs.declared.reading.Reading.TheVariants.{Ticks}
use Rattle.desk.specs.Conversion.{convert_of, convert_read, convert_into, between_of, answering}
use Rattle.batch.specs.Batch.{batch_of, batch_into}
use Rattle.batch.proofs.BatchTheorems as batches
use Rattle.opened.specs.Opened.{coefficients_in}
use Rattle.blocks.specs.Judging.{judged}
use Rattle.desk.specs.Order.{settled, Check, passes, refuses}
use Rattle.desk.proofs.Asking.{between_unseen}
use Rattle.dates.specs.Readings.{read_of, in_range}
use Rattle.entries.specs.Entries.{earlier, tried_of}
use Rattle.entries.proofs.Interval.{entry_within}
use Rattle.desk.proofs.Steps.{conversion_steps}
use Rattle.promises.specs.Words.{table_in}
use Rattle.promises.proofs.Exactly.{converted, batch_converted}
use Rattle.promises.proofs.Walks.{apart, bytes_held}
use Rattle.promises.proofs.Refusals.{table_unseen}
use Rattle.scales.specs.declared.scale.Purpose.TheVariants as P

-- what a number other than 0 means
refused_is : (batched : Batched) → 0 < batched_number batched
    → batched ≡ refused_at (record { number = batched_number batched; place = batched_place batched })
    (batched_index batched)
unfolding batched_number batched_place batched_index
refused_is (Ok many) h = let no : ⊥ = omega arith in absurd no
refused_is (Err refused) h = refl

module _ (from to : ℕ) (ticks answers : List ℤ) (bytes : List ℕ) where
  abbrev batched : Batched
  batched = batch_of from to ticks (length answers) bytes

  -- the conversion of the entry i
  abbrev conversion : ℕ → Answer
  conversion i = convert_of from to (Ticks (get_or ticks i (pos 0))) [] bytes

  -- ---- 'An accepted batch answers the path's steps'
  pub steps_answered : batched_number batched ≡ 0 → batched_steps batched ≡ steps (named from) (named to)
  steps_answered zero = batches.accepted_steps from to bytes ticks (length answers) (batch_converted from to ticks (length answers) bytes zero)

  -- entry by entry what the conversions answer
  pub entries_answered : batched_number batched ≡ 0 → (i : ℕ) → i < length ticks
      → (answer_number (conversion i) ≡ 0) × (answer_steps (conversion i) ≡ batched_steps batched)
      × (get_or (batch_into from to ticks answers bytes) i (pos 0) ≡ answer_tick (conversion i))
  unfolding answer_number answer_steps
  entries_answered zero i h =
      let accepted = batch_converted from to ticks (length answers) bytes zero in
      let e = batches.accepted_entries from to bytes ticks (length answers) accepted i h in
      (ap answer_number e.1, ap answer_steps e.1, batches.accepted_ticks from to bytes ticks answers accepted i h)

  -- ---- 'A refusal .. writes nothing'
  pub batch_untouched : 0 < batched_number batched → batch_into from to ticks answers bytes ≡ answers
  batch_untouched refused = batches.refused_untouched from to bytes ticks answers (refused_is batched refused)

  -- 'and changes nothing kept': the next batch into that list answers and leaves what it would
  -- have without the refused one
  pub batch_after_refused : 0 < batched_number batched → (from' to' : ℕ) (ticks' : List ℤ) (bytes' : List ℕ)
      → let left = batch_into from to ticks answers bytes in
      (batch_of from' to' ticks' (length left) bytes' ≡ batch_of from' to' ticks' (length answers) bytes')
      × (batch_into from' to' ticks' left bytes' ≡ batch_into from' to' ticks' answers bytes')
  batch_after_refused refused from' to' ticks' bytes' = rw (batch_untouched refused) (refl, refl)

  -- ---- 'the earliest refusal is the batch's, with its index': it is that of the entry's
  -- conversion, and every conversion before it is accepted
  pub earliest_refused : 0 < batched_number batched → length ticks ≡ length answers → 0 < length ticks
      → let i = batched_index batched in
      (i < length ticks) × (answer_number (conversion i) ≡ batched_number batched)
      × (answer_place (conversion i) ≡ batched_place batched)
      × ((j : ℕ) → j < i → answer_number (conversion j) ≡ 0)
  unfolding answer_number answer_place
  earliest_refused refused long some-ticks =
      let f = batches.batch_refused from to bytes ticks (length answers) long some-ticks (refused_is batched refused) in
      (f.inside, ap answer_number f.refuses, ap answer_place f.refuses, λ j h. ap answer_number (f.before j h).2)

  -- where every conversion is accepted, so is the batch
  pub all_accepted : length ticks ≡ length answers → 0 < length ticks
      → ((i : ℕ) → i < length ticks → answer_number (conversion i) ≡ 0) → batched_number batched ≡ 0
  all_accepted long some-ticks each = ⊎_elim
      (λ (h : batched_number batched ≤ 0). omega arith)
      (λ (h : 0 < batched_number batched).
      let f = earliest_refused h long some-ticks in
      let zero = each (batched_index batched) f.0 in
      let no : ⊥ = omega (arith, f.1) in
      absurd no)
      (le_or_lt (batched_number batched) 0)

-- a batch of one is the conversion of that one
pub batch_of_one : (from to : ℕ) (tick : ℤ) (bytes : List ℕ)
    → let batched = batch_of from to (tick ∷ []) 1 bytes in
    let answer = convert_of from to (Ticks tick) [] bytes in
    (batched_number batched ≡ answer_number answer) × (batched_place batched ≡ answer_place answer)
    × (batched_index batched ≡ 0) × (batched_steps batched ≡ answer_steps answer)
unfolding batched_number batched_place batched_index batched_steps answer_number answer_place answer_steps tried_of
batch_of_one from to tick bytes =
    rw (batches.batch_tried from to bytes (tick ∷ []) 1 refl (omega arith))
    (by (convert_of from to (Ticks tick) [] bytes) (λ epoch n d. conversion_steps P.Reading from to (Ticks tick) [] bytes d))
  where
    by : (answer : Answer) {many : ℕ} → ((epoch : Epoch) (n : ℕ) → answer ≡ converted_to epoch n → n ≡ many)
        → let b = earlier answer 0 (Ok many) in
        (batched_number b ≡ answer_number answer) × (batched_place b ≡ answer_place answer)
        × (batched_index b ≡ 0) × (batched_steps b ≡ answer_steps answer)
    by (Ok converted) h = (refl, refl, refl, sym (h converted.epoch converted.steps refl))
    by (Err refusal) h = (refl, refl, refl, refl)

-- ---- between two ticks that a conversion accepts it accepts every tick
pub accepted_between : (from to : ℕ) (bytes : List ℕ) (t u v : ℤ)
    → answer_number (convert_of from to (Ticks t) [] bytes) ≡ 0
    → answer_number (convert_of from to (Ticks v) [] bytes) ≡ 0
    → t ≤ℤ u → u ≤ℤ v → answer_number (convert_of from to (Ticks u) [] bytes) ≡ 0
unfolding convert_into convert_read read_of answer_number
accepted_between from to bytes t u v early late l m =
    by (settled P.Reading P.Reading from to true true (judged bytes))
    (converted P.Reading from to (Ticks t) [] bytes early) (converted P.Reading from to (Ticks v) [] bytes late)
  where
    entry : ℤ → Answer
    entry tick = between_of (named from) (named to) (in_range tick) (table_in bytes) (coefficients_in bytes)

    by : (check : Check) {a b : Epoch} {n k : ℕ} → answering check (entry t) ≡ converted_to a n
        → answering check (entry v) ≡ converted_to b k → answer_number (answering check (entry u)) ≡ 0
    by passes e d =
        ap answer_number (entry_within (table_in bytes) (coefficients_in bytes) (named from) (named to) (bytes_held bytes) t u v (_, _, e) (_, _, d) l m).2
    by (refuses refusal) e d = apart e

-- ---- 'A path that doesn't cross never looks at the table'
same_tried : {entry entry' : ℤ → Answer} → ((tick : ℤ) → entry tick ≡ entry' tick) → (many index : ℕ) (ticks : List ℤ)
    → tried_of entry many index ticks ≡ tried_of entry' many index ticks
unfolding tried_of
same_tried same many index [] = refl
same_tried same many index (tick ∷ more) = rw (same tick, same_tried same many (suc index) more)

same_map : {f g : ℤ → ℤ} → ((tick : ℤ) → f tick ≡ g tick) → (ticks : List ℤ) → map f ticks ≡ map g ticks
same_map same [] = refl
same_map same (tick ∷ more) = rw (same tick, same_map same more)

pub batch_unseen : (from to : ℕ) (ticks answers : List ℤ) (bytes bytes' : List ℕ)
    → crosses (named from) (named to) ≡ false
    → (batch_of from to ticks (length answers) bytes ≡ batch_of from to ticks (length answers) bytes')
    × (batch_into from to ticks answers bytes ≡ batch_into from to ticks answers bytes')
unfolding batch_of settled batch_into
batch_unseen from to ticks answers bytes bytes' c =
    let entries = same_tried
    (λ tick. between_unseen (named from) (named to) c (in_range tick) (table_in bytes) (table_in bytes') (coefficients_in bytes) (coefficients_in bytes'))
    (steps (named from) (named to)) 0 ticks in
    let same : batch_of from to ticks (length answers) bytes ≡ batch_of from to ticks (length answers) bytes' = rw (c, entries) in
    (same, rw (same, same_map (λ tick. ap answer_tick (table_unseen from to (Ticks tick) [] bytes bytes' c)) ticks))
