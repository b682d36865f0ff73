-- The laws of a batch by what is asked: over the table that the bytes hold, and the whole rule.
-- Assumes nothing.
use Rattle.entries.specs.Batched.{Batched, refused_at}
use Rattle.blocks.specs.Answers.{Judged}
use Rattle.scales.specs.Answers.{Answer, answer_tick}
use Rattle.std.specs.Prelude.{Err, None, Ok, Result}
use mathlib.Core.Path.{◌≡◌, refl, sym, ◌∙◌, ap}
use mathlib.Core.Bool.{Bool, true}
use mathlib.Core.List.{List, [], ◌∷◌, map}
use Prim.Native.Nat.{ℕ, suc}
use lib.Dec.{eqb}
use lib.IntN.{ℤ}
use lib.ListN.{length}
use Rattle.numbers.proofs.Flags.{both}
use Rattle.scales.specs.declared.refusal.Refusal.{Refusal}
use Rattle.scales.specs.declared.scale.Purpose.TheVariants as P
use Rattle.scales.specs.declared.scale.Scale.{Scale}
use Rattle.scales.specs.Scales.{named}
use Rattle.image.specs.declared.table.Table.{Table}
use Rattle.blocks.specs.Judging.{judged}
use Rattle.dates.specs.declared.reading.Reading.TheVariants.{Ticks}
use Rattle.dates.specs.Readings.{in_range, read_of}
use Rattle.desk.specs.declared.asked.Asked.{Asked}
use Rattle.desk.specs.declared.asked.Asked.TheVariants as A
use Rattle.opened.specs.Opened.{coefficients_in}
use Rattle.desk.specs.Conversion.{held_by, convert_of}
use Rattle.desk.specs.Inner.{asked_of, convert_asked}
use Rattle.desk.proofs.Asking.{asked_lent, settled_by, Between, asks, between_unseen, into}
use Rattle.entries.specs.Entries.{entry_of, tried_of, all_tried}
use Rattle.filling.proofs.Filling.{filled_not}
use Rattle.batch.specs.Batch.{batch_settled, batch_of, batch_into, HasConverted}
use Rattle.filling.specs.Inner.{Filled}
use Rattle.batch.specs.Inner.{FilledTaken, FilledCrossing, batch_asked}
use Rattle.opened.proofs.Opening.{coefficients_are}

-- ---- over the table that the bytes hold
module _ (from to : Scale) (ticks answers : List ℤ) (bytes : List ℕ) where
  pub filled_taken : (table : Table) {answers' : List ℤ} {r : Batched} → judged bytes ≡ Ok table
      → FilledTaken from to ticks answers answers' bytes table r → FilledCrossing from to ticks answers answers' bytes r
  filled_taken table opened filled = rw (coefficients_are bytes table opened, opened) filled

  pub filled_judged : (refusal : Refusal) → judged bytes ≡ Err refusal
      → FilledCrossing from to ticks answers answers bytes (refused_at refusal 0)
  filled_judged refusal e = filled_not refusal 0 (rw e)

-- ---- what is asked of an entry alone
pub batch_fits : (from to : ℕ) (fits : Bool) (asked : Result Asked Refusal)
    → asked_of P.Batch P.Batch from to fits true ≡ asked
    → ((refusal : Refusal) → asked ≡ Err refusal → ⊥) → fits ≡ true
batch_fits from to fits asked e sound = (both fits true (asked_lent P.Batch P.Batch from to fits true asked e sound)).0

pub asked_alone : (from to : ℕ) (fits : Bool) (asked : Result Asked Refusal)
    → asked_of P.Batch P.Batch from to fits true ≡ asked
    → ((refusal : Refusal) → asked ≡ Err refusal → ⊥)
    → asked_of P.Reading P.Reading from to true true ≡ asked
unfolding asked_of
asked_alone from to fits asked e sound =
    ap (λ (f : Bool). asked_of P.Batch P.Batch from to f true) (sym (batch_fits from to fits asked e sound)) ∙ e

-- ---- the whole rule
tried_same : (entry entry' : ℤ → Answer) → ((tick : ℤ) → entry tick ≡ entry' tick) → (steps index : ℕ) (ticks : List ℤ)
    → tried_of entry steps index ticks ≡ tried_of entry' steps index ticks
unfolding tried_of
tried_same entry entry' same steps index [] = refl
tried_same entry entry' same steps index (tick ∷ more) =
    rw (same tick, tried_same entry entry' same steps (suc index) more)

map_same : (f g : ℤ → ℤ) → ((tick : ℤ) → f tick ≡ g tick) → (ticks : List ℤ) → map f ticks ≡ map g ticks
map_same f g same [] = refl
map_same f g same (tick ∷ more) = rw (same tick, map_same f g same more)

module _ (from to : ℕ) (ticks : List ℤ) (table : Judged) (cs : List ℤ) where
  by_between : (asked : Result Asked Refusal) → Between (named from) (named to) asked → batch_asked asked ticks table cs
      ≡ batch_settled (settled_by asked table) (all_tried (named from) (named to) ticks (held_by table) cs)
  by_between (Ok (A.Plain start end)) b =
      rw (b.0, b.1) (tried_same (entry_of (named from) (named to) None [])
      (entry_of (named from) (named to) (held_by table) cs)
      (λ tick. between_unseen (named from) (named to) b.2 (in_range tick) None (held_by table) [] cs) _ 0 ticks)
  by_between (Ok (A.Crossing start end)) b = rw (b.0, b.1)
  by_between (Err refusal) b = refl

-- by what is asked
batch_asked_lem : (from to : ℕ) (ticks : List ℤ) (many : ℕ) (bytes : List ℕ) (asked : Result Asked Refusal)
    → asked_of P.Batch P.Batch from to (eqb (length ticks) many) true ≡ asked
    → batch_asked asked ticks (judged bytes) (coefficients_in bytes) ≡ batch_of from to ticks many bytes
unfolding batch_of
batch_asked_lem from to ticks many bytes asked e =
    let a = asks P.Batch P.Batch from to (eqb (length ticks) many) true in
    rw (← e) (by_between from to ticks (judged bytes) (coefficients_in bytes)
    (asked_of P.Batch P.Batch from to (eqb (length ticks) many) true) a.between ∙ rw (a.settles (judged bytes)))

module _ (from to : ℕ) (ticks answers : List ℤ) (bytes : List ℕ) where
  pub has_refused : (refusal : Refusal)
      → asked_of P.Batch P.Batch from to (eqb (length ticks) (length answers)) true ≡ Err refusal
      → HasConverted from to ticks answers answers bytes (refused_at refusal 0)
  unfolding batch_into
  has_refused refusal e =
      let is = batch_asked_lem from to ticks (length answers) bytes (Err refusal) e in
      record { answer = is; list = rw (← is) }

  pub has_converted : (asked : Result Asked Refusal) {answers' : List ℤ} {r : Batched}
      → asked_of P.Batch P.Batch from to (eqb (length ticks) (length answers)) true ≡ asked
      → asked_of P.Reading P.Reading from to true true ≡ asked
      → Filled (batch_asked asked ticks (judged bytes) (coefficients_in bytes))
      (λ tick. convert_asked asked (in_range tick) (judged bytes) (coefficients_in bytes)) ticks answers answers' r
      → HasConverted from to ticks answers answers' bytes r
  unfolding batch_into read_of
  has_converted asked e d filled =
      let is = batch_asked_lem from to ticks (length answers) bytes asked e in
      let entries = map_same (λ tick. answer_tick (convert_asked asked (in_range tick) (judged bytes) (coefficients_in bytes)))
      (λ tick. answer_tick (convert_of from to (Ticks tick) [] bytes))
      (λ tick. ap answer_tick (into P.Reading from to (Ticks tick) [] bytes P.Reading asked (in_range tick) refl d refl)) ticks in
      record { answer = filled.is ∙ is; list = filled.list ∙ rw (is, entries) }
