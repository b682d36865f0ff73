-- What the definitions shut out: 'refusing always, the same tick always, a batch that writes
-- nothing, a batch that converts its first entry and copies the rest, and a step count not equal to
-- the path's length'. Assumes nothing.
use Rattle.scales.specs.Answers.{Stepped, converted_to, answer_tick, kept_in}
use Rattle.std.specs.Prelude.{Ok, Some}
use mathlib.Core.Path.{◌≡◌, refl, ◌∙◌}
use mathlib.Core.Bool.{true}
use mathlib.Core.List.{List, [], ◌∷◌}
use Prim.Native.Nat.{ℕ, suc, ◌+◌, ◌≤◌}
use native.Mathlib.Nat.{zero-add}
use native.Mathlib.Omega.{arith}
use lib.IntN.{ℤ}
use lib.ListN.{length}
use lib.Signed.{◌<ℤ◌, lt_z}
use Rattle.numbers.specs.Rounding.{floor_div, nearest}
use Rattle.numbers.proofs.Machine.{lt_yes}
use Rattle.scales.specs.declared.path.Step.{Step}
use Rattle.scales.specs.declared.scale.Purpose.TheVariants as P
use Rattle.scales.specs.declared.scale.Scale.{Scale}
use Rattle.scales.specs.Linear.{exact, nearest_tick}
use Rattle.scales.specs.Path.{path, steps}
use Rattle.scales.specs.Tick.{is_valid}
use Rattle.scales.proofs.Paths.{Leads, leads}
use Rattle.scales.specs.Rows.{line_step, begin, end}
use Rattle.scales.proofs.Every.{every_scale, every_step}
use Rattle.dates.specs.declared.reading.Reading.TheVariants.{Ticks}
use Rattle.dates.specs.Readings.{in_range}
use Rattle.entries.specs.Batched.{batched_number, batched_steps}
use Rattle.entries.specs.Entries.{tried_of}
use Rattle.batch.specs.Batch.{batch_of, batch_into}
use Rattle.desk.specs.Conversion.{between_of, convert_of}
use Rattle.walk.specs.Walk.{step_of, walk_of}
use Rattle.batch.proofs.BatchTheorems.{batch_tried}
use Rattle.scales.specs.Scales.{highest_code, named}
use Rattle.promises.specs.Known.{known_table, known_coefficients, known_bytes}
use Rattle.promises.specs.Moments.{first, last}
use Rattle.promises.specs.Words.{Gives}
use Rattle.promises.proofs.Exactly.{gives}
use Rattle.promises.proofs.Walks.{between_named}
use Rattle.promises.proofs.Known.{known_judged, known_held, over_known}

-- ---- a moment: each step takes it from scale to scale
abbrev stepped : (Scale → ℤ) → Step → Stepped
stepped at s = step_of (Some known_table) known_coefficients s (at (begin s))

abbrev reached : (Scale → ℤ) → Step → Stepped
reached at s = Ok (record { scale = end s; tick = at (end s) })

record Moment (at : Scale → ℤ) : Type 0 where
  valid : (scale : Scale) → is_valid (at scale) ≡ true
  moves : (s : Step) → stepped at s ≡ reached at s

first_moment : Moment first
unfolding line_step kept_in is_valid nearest_tick exact nearest floor_div
first_moment = record {
  valid = every_scale (λ scale. is_valid (first scale)) (λ scale. true) refl;
  moves = every_step (stepped first) (reached first) refl refl over_known.first over_known.first_back;
}

last_moment : Moment last
unfolding line_step kept_in is_valid nearest_tick exact nearest floor_div
last_moment = record {
  valid = every_scale (λ scale. is_valid (last scale)) (λ scale. true) refl;
  moves = every_step (stepped last) (reached last) refl refl over_known.last over_known.last_back;
}

module _ (at : Scale → ℤ) (m : Moment at) where
  walks : (p : List Step) (from to : Scale) (done : ℕ) → Leads from to p
      → walk_of (Some known_table) known_coefficients p done (record { scale = from; tick = at from })
      ≡ converted_to (record { scale = to; tick = at to }) (done + length p)
  unfolding walk_of
  walks [] from to done l = let n : done + 0 ≡ done = omega arith in rw (n, l)
  walks (step ∷ more) from to done l =
      let moved = m.moves step in
      let n : done + suc (length more) ≡ suc done + length more = omega arith in
      rw (← l.0, moved, n) (walks more (end step) to (suc done) l.1)

  converts : (from to : ℕ) → from ≤ highest_code P.Reading → to ≤ highest_code P.Reading
      → convert_of from to (Ticks (at (named from))) [] known_bytes
      ≡ converted_to (record { scale = named to; tick = at (named to) }) (steps (named from) (named to))
  unfolding between_of in_range
  converts from to f t =
      between_named from to (at (named from)) known_bytes known_table f t known_judged
      ∙ rw (m.valid (named from), known_held, ← zero-add (steps (named from) (named to)))
      (walks (path (named from) (named to)) (named from) (named to) 0 (leads (named from) (named to)))

-- ---- neither 'refusing always' nor 'the same tick always': between every two codes two ticks
-- are converted, and to different answers
pub two_answers : (from to : ℕ) → from ≤ highest_code P.Reading → to ≤ highest_code P.Reading
    → let many = steps (named from) (named to) in
    Gives (convert_of from to (Ticks (first (named from))) [] known_bytes) (named to) (first (named to)) many
    × Gives (convert_of from to (Ticks (last (named from))) [] known_bytes) (named to) (last (named to)) many
    × (first (named to) <ℤ last (named to))
two_answers from to f t = (
  gives _ _ _ _ (converts first first_moment from to f t),
  gives _ _ _ _ (converts last last_moment from to f t),
  later (named to),
)
  where
    later : (scale : Scale) → first scale <ℤ last scale
    later scale = lt_yes (first scale) (last scale) (every_scale (λ scale. lt_z (first scale) (last scale)) (λ scale. true) refl scale)

-- ---- neither 'a batch that writes nothing' nor one 'that converts its first entry and copies the
-- rest': between every two codes a batch of two ticks is accepted, with the path's steps, and
-- whatever the second list held it then holds the two answers. `last` is another tick in each
-- scale, so a copy would not do
pub batch_of_two : (from to : ℕ) → from ≤ highest_code P.Batch → to ≤ highest_code P.Batch → (x y : ℤ)
    → let ticks = first (named from) ∷ last (named from) ∷ [] in
    (batched_number (batch_of from to ticks 2 known_bytes) ≡ 0)
    × (batched_steps (batch_of from to ticks 2 known_bytes) ≡ steps (named from) (named to))
    × (batch_into from to ticks (x ∷ y ∷ []) known_bytes ≡ first (named to) ∷ last (named to) ∷ [])
unfolding tried_of answer_tick batch_into batched_number batched_steps
batch_of_two from to f t x y =
    let one = converts first first_moment from to f t in
    let two = converts last last_moment from to f t in
    let accepted : batch_of from to (first (named from) ∷ last (named from) ∷ []) 2 known_bytes ≡ Ok (steps (named from) (named to)) =
    batch_tried
    from to known_bytes _ 2 refl (omega arith)
    ∙ rw (one, two) in
    (rw accepted, rw accepted, rw (accepted, one, two))
