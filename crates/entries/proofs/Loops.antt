-- The laws of the loops over entries: how those that are left are tried, and the ends of a list.
-- Assumes nothing.
use Rattle.scales.specs.Answers.{Answer, converted_to}
use Rattle.image.specs.declared.table.Table.{Table}
use Rattle.entries.specs.Batched.{refused_at}
use Rattle.std.specs.Prelude.{Err, Ok, Option}
use mathlib.Core.Path.{◌≡◌, refl, ◌∙◌}
use mathlib.Core.List.{List}
use Prim.Native.Nat.{ℕ, ◌+◌, ◌≤◌, ◌<◌}
use native.Mathlib.Numerals.{add-one}
use lib.IntN.{ℤ, pos}
use lib.ListN.{length, get_or, drop, drop_of_length-le}
use lib.Seq.{drop-cons}
use Rattle.scales.specs.declared.answer.Epoch.{Epoch}
use Rattle.scales.specs.declared.refusal.Refusal.{Refusal}
use Rattle.scales.specs.declared.scale.Scale.{Scale}
use Rattle.dates.specs.Readings.{in_range}
use Rattle.desk.specs.Conversion.{between_of}
use Rattle.entries.specs.Entries.{entry_of, earlier, tried_of}
use Rattle.std.specs.Int.{int_min, int_max}
use Rattle.entries.specs.Inner.{ends_of}

-- ---- the entries that are left, from an index on
module _ (entry : ℤ → Answer) (steps : ℕ) (ticks : List ℤ) (index : ℕ) where
  next_tried : index < length ticks → tried_of entry steps index (drop index ticks)
      ≡ earlier (entry (get_or ticks index (pos 0))) index (tried_of entry steps (index + 1) (drop (index + 1) ticks))
  unfolding tried_of
  next_tried h = rw (drop-cons ticks index (pos 0) h, add-one)

  pub accepted_goes_on : (epoch : Epoch) (many : ℕ) → index < length ticks
      → entry (get_or ticks index (pos 0)) ≡ converted_to epoch many
      → tried_of entry steps index (drop index ticks) ≡ tried_of entry steps (index + 1) (drop (index + 1) ticks)
  accepted_goes_on epoch many h e = next_tried h ∙ rw e

  pub not_refused_goes_on : index < length ticks → (answer : Answer) → entry (get_or ticks index (pos 0)) ≡ answer
      → ((refusal : Refusal) → answer ≡ Err refusal → ⊥)
      → tried_of entry steps index (drop index ticks) ≡ tried_of entry steps (index + 1) (drop (index + 1) ticks)
  not_refused_goes_on h (Ok converted) e not = accepted_goes_on converted.epoch converted.steps h e
  not_refused_goes_on h (Err refusal) e not = absurd (not refusal refl)

  pub refused_stops : (refusal : Refusal) → index < length ticks
      → entry (get_or ticks index (pos 0)) ≡ Err refusal
      → tried_of entry steps index (drop index ticks) ≡ refused_at refusal index
  refused_stops refusal h e = next_tried h ∙ rw e

  pub none_left : length ticks ≤ index → tried_of entry steps index (drop index ticks) ≡ Ok steps
  unfolding tried_of
  none_left h = rw (drop_of_length-le ticks h)

-- ---- the ends of a list
module _ (earliest latest : ℤ) (ticks : List ℤ) (index : ℕ) where
  pub wider : index < length ticks → let tick = get_or ticks index (pos 0) in
      ends_of earliest latest (drop index ticks)
      ≡ ends_of (int_min earliest tick) (int_max latest tick) (drop (index + 1) ticks)
  unfolding ends_of
  wider h = rw (drop-cons ticks index (pos 0) h, add-one)

  pub no_wider : length ticks ≤ index
      → ends_of earliest latest (drop index ticks) ≡ record { earliest = earliest; latest = latest }
  unfolding ends_of
  no_wider h = rw (drop_of_length-le ticks h)

-- ---- an entry is read as the tick that it is
pub entry_read : (from to : Scale) (kept : Option Table) (coefficients : List ℤ) (tick : ℤ)
    → between_of from to (in_range tick) kept coefficients ≡ entry_of from to kept coefficients tick
entry_read from to kept coefficients tick = refl
