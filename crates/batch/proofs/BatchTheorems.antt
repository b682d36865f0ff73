-- What a batch answers, said by the conversions of its entries. Assumes nothing.
use Rattle.entries.specs.Batched.{Batched, refused_at}
use Rattle.scales.specs.Answers.{Answer, converted_to, answer_tick}
use Rattle.std.specs.Prelude.{Ok}
use mathlib.Core.Path.{◌≡◌, refl, sym, ◌∙◌, ap, subst}
use mathlib.Core.Bool.{true}
use mathlib.Core.List.{List, [], ◌∷◌}
use Prim.Native.Nat.{ℕ, ◌<◌}
use native.Mathlib.Nat.{zero-add, not-suc-le-zero}
use native.Mathlib.Omega.{arith}
use borrow.Author.Tests.{eqb-true, eq-eqb}
use lib.Dec.{eqb}
use lib.IntN.{ℤ, pos}
use lib.ListN.{length, get_or}
use Rattle.numbers.proofs.Flags.{both}
use Rattle.numbers.proofs.Places.{map_at}
use Rattle.scales.specs.declared.answer.Epoch.{Epoch}
use Rattle.scales.specs.declared.refusal.Refusal.{Refusal}
use Rattle.scales.specs.declared.scale.Purpose.TheVariants as P
use Rattle.scales.specs.Path.{steps}
use Rattle.scales.specs.Scales.{named}
use Rattle.blocks.specs.Judging.{judged}
use Rattle.dates.specs.declared.reading.Reading.TheVariants.{Ticks}
use Rattle.dates.specs.Readings.{read_of}
use Rattle.desk.specs.Order.{Check, passes, refuses, settled}
use Rattle.opened.specs.Opened.{coefficients_in}
use Rattle.desk.specs.Conversion.{answering, held_by, convert_read, convert_into, convert_of}
use Rattle.entries.specs.Entries.{entry_of, tried_of}
use Rattle.entries.proofs.TriedLists.{never_both, FirstRefused, tried_accepted, tried_refused}
use Rattle.batch.specs.Batch.{batch_settled, batch_of, batch_into}
use Rattle.desk.proofs.Asking.{settled_lent}
use Rattle.desk.proofs.Steps.{conversion_steps}

-- ---- a batch, by the conversions of its entries where there is an entry, trying what is settled
-- is trying the entries' conversions, also where 1 or the table is refused
check_tried : (check : Check) (entry : ℤ → Answer) (many : ℕ) (tick : ℤ) (more : List ℤ)
    → batch_settled check (tried_of entry many 0 (tick ∷ more))
    ≡ tried_of (λ t. answering check (entry t)) many 0 (tick ∷ more)
unfolding tried_of
check_tried passes entry many tick more = refl
check_tried (refuses refusal) entry many tick more = refl

-- an accepted batch was settled
check_accepted : (check : Check) (batched : Batched) {n : ℕ} → batch_settled check batched ≡ Ok n
    → (check ≡ passes) × (batched ≡ Ok n)
check_accepted passes batched e = (refl, e)
check_accepted (refuses refusal) batched e = never_both refl e

module _ (from to : ℕ) (bytes : List ℕ) where
  -- the conversion of one entry
  abbrev conversion : ℤ → Answer
  conversion tick = convert_of from to (Ticks tick) [] bytes

  -- the same entry where all is settled
  abbrev entry : ℤ → Answer
  entry tick = entry_of (named from) (named to) (held_by (judged bytes)) (coefficients_in bytes) tick

  abbrev many_steps : ℕ
  many_steps = steps (named from) (named to)

  -- where there is an entry, a batch tries the conversions of its entries
  pub batch_tried : (ticks : List ℤ) (many : ℕ) → length ticks ≡ many → 0 < length ticks
      → batch_of from to ticks many bytes ≡ tried_of conversion many_steps 0 ticks
  unfolding batch_of convert_into convert_read settled read_of
  batch_tried [] many long some = absurd (not-suc-le-zero some)
  batch_tried (tick ∷ more) many long some =
      rw (eq-eqb _ _ long) (check_tried (settled P.Reading P.Reading from to true true (judged bytes)) entry many_steps tick more)

  -- 'the earliest refusal is the batch's, with its index': before it every conversion is accepted,
  -- at it the conversion is refused the same
  pub batch_refused : (ticks : List ℤ) (many : ℕ) {refusal : Refusal} {index : ℕ} → length ticks ≡ many
      → 0 < length ticks
      → batch_of from to ticks many bytes ≡ refused_at refusal index → FirstRefused conversion ticks refusal index
  batch_refused ticks many {refusal} long some e =
      let told = tried_refused conversion _ 0 ticks (sym (batch_tried ticks many long some) ∙ e) in
      subst (FirstRefused conversion ticks refusal) (sym (told.1 ∙ zero-add told.0)) told.2

  module _ (ticks : List ℤ) (many : ℕ) {n : ℕ} (accepted : batch_of from to ticks many bytes ≡ Ok n) where
    was_settled : (settled P.Batch P.Batch from to (eqb (length ticks) many) true (judged bytes) ≡ passes)
        × (tried_of entry many_steps 0 ticks ≡ Ok n)
    unfolding batch_of
    was_settled =
        check_accepted (settled P.Batch P.Batch from to (eqb (length ticks) many) true (judged bytes)) (tried_of entry many_steps 0 ticks) accepted

    -- 'into a second list of equal length'
    accepted_long : length ticks ≡ many
    accepted_long = eqb-true _ _ (both _ _ (settled_lent P.Batch P.Batch from to (eqb (length ticks) many) true (judged bytes) was_settled.0)).0

    -- 'An accepted batch answers the path's steps'
    pub accepted_steps : n ≡ steps (named from) (named to)
    accepted_steps = (tried_accepted entry many_steps 0 ticks was_settled.1).0

    -- every conversion is accepted, with the same steps
    pub accepted_entries : (i : ℕ) → i < length ticks
        → (epoch : Epoch) × (conversion (get_or ticks i (pos 0)) ≡ converted_to epoch n)
    accepted_entries i h =
        let some : 0 < length ticks = omega arith in
        let told = (tried_accepted conversion _ 0 ticks (sym (batch_tried ticks many accepted_long some) ∙ accepted)).1 i h in
        let same : told.1 ≡ n = conversion_steps P.Reading from to (Ticks (get_or ticks i (pos 0))) [] bytes told.2 ∙ sym accepted_steps in
        (told.0, told.2 ∙ ap (converted_to told.0) same)

  -- and the second list holds their ticks, place by place
  pub accepted_ticks : (ticks answers : List ℤ) {n : ℕ} → batch_of from to ticks (length answers) bytes ≡ Ok n
      → (i : ℕ) → i < length ticks
      → get_or (batch_into from to ticks answers bytes) i (pos 0) ≡ answer_tick (conversion (get_or ticks i (pos 0)))
  unfolding batch_into
  accepted_ticks ticks answers e i h = rw e (map_at (λ tick. answer_tick (conversion tick)) ticks (pos 0) (pos 0) i h)

  -- 'nothing is written'
  pub refused_untouched : (ticks answers : List ℤ) {refusal : Refusal} {index : ℕ}
      → batch_of from to ticks (length answers) bytes ≡ refused_at refusal index
      → batch_into from to ticks answers bytes ≡ answers
  unfolding batch_into
  refused_untouched ticks answers e = rw e
