-- What an accepted conversion answers: a valid tick, the scale of the second code, and the path's
-- number of steps. Assumes nothing.
use Rattle.scales.specs.Answers.{Answer, converted_to, answer_number, answer_scale, answer_tick}
use Rattle.scales.specs.Answers.{answer_steps, read_number, read_tick}
use Rattle.scales.specs.declared.path.Step.{Step}
use Rattle.std.specs.Prelude.{None, Ok, Option, Some}
use mathlib.Core.Path.{◌≡◌, refl, ◌∙◌}
use mathlib.Core.Bool.{Bool, true, false, not}
use mathlib.Core.List.{List}
use Prim.Native.Nat.{ℕ, zero, suc, ◌≤◌}
use native.Mathlib.Nat.{zero-add}
use native.Mathlib.Omega.{arith}
use lib.IntN.{ℤ}
use lib.ListN.{length}
use Rattle.scales.specs.declared.scale.Scale.{Scale}
use Rattle.scales.specs.Path.{next, path_within, longest_path, path, steps}
use Rattle.scales.specs.Rows.{end}
use Rattle.scales.specs.Path as path
use Rattle.scales.specs.Tick.{is_valid}
use Rattle.scales.proofs.Paths.{leads}
use Rattle.dates.specs.declared.reading.Reading.{Reading}
use Rattle.dates.specs.Readings.{refused_if, in_range, read_of}
use Rattle.opened.specs.Opened.{coefficients_in}
use Rattle.desk.specs.Conversion.{convert_into}
use Rattle.walk.specs.Walk.{walk_between}
use Rattle.walk.proofs.Steps.{steps_are}
use Rattle.scales.specs.Scales.{named}
use Rattle.promises.specs.Words.{table_in, start_of}
use Rattle.promises.proofs.Exactly.{epoch_of, converted}
use Rattle.desk.proofs.Valid.{read_valid, into_valid}
use Rattle.promises.proofs.Walks.{scale_walked, walked}
use Rattle.scales.specs.declared.scale.Purpose.{Purpose}

-- ---- 'Its answer carries the tick and the number of steps walked': of any accepted conversion,
-- whose number is 0
module _ (writes : Purpose) (from to : ℕ) (reading : Reading) (leaps : List ℤ) (bytes : List ℕ)
    (accepted : answer_number (convert_into writes from to reading leaps bytes) ≡ 0) where
  abbrev answer : Answer
  answer = convert_into writes from to reading leaps bytes

  -- it is a walk from the tick that was read
  pub walked_from : let tick = read_tick (read_of leaps reading) in
      walk_between (table_in bytes) (coefficients_in bytes) (named from) (named to) tick
      ≡ converted_to (epoch_of answer) (answer_steps answer)
  unfolding read_tick
  walked_from =
      let w = walked writes from to reading leaps bytes (epoch_of answer) (answer_steps answer) (converted writes from to reading leaps bytes accepted) in
      rw w.read w.walk

  -- the reading is accepted
  pub reading_accepted : read_number (read_of leaps reading) ≡ 0
  unfolding read_number
  reading_accepted =
      rw (walked writes from to reading leaps bytes (epoch_of answer) (answer_steps answer) (converted writes from to reading leaps bytes accepted)).read

  pub start_valid : is_valid (read_tick (read_of leaps reading)) ≡ true
  unfolding read_tick
  start_valid =
      let w = walked writes from to reading leaps bytes (epoch_of answer) (answer_steps answer) (converted writes from to reading leaps bytes accepted) in
      rw w.read (read_valid w.tick leaps reading w.read)

  -- the tick 'must lie from -6·10^18 to 6·10^18, ends included'
  pub tick_valid : is_valid (answer_tick answer) ≡ true
  tick_valid = into_valid writes from to reading leaps bytes (converted writes from to reading leaps bytes accepted)

  -- it is a tick of the scale that the second code names
  pub scale_told : answer_scale answer ≡ named to
  scale_told =
      scale_walked (epoch_of answer) (answer_steps answer) (table_in bytes) (coefficients_in bytes) (path (named from) (named to)) (named to) 0
      (start_of from (read_tick (read_of leaps reading))) (leads (named from) (named to)) walked_from

  -- the number of steps is the path's length
  pub steps_told : answer_steps answer ≡ steps (named from) (named to)
  steps_told =
      let p = path (named from) (named to) in
      steps_are (table_in bytes) (coefficients_in bytes) p 0 (start_of from (read_tick (read_of leaps reading))) walked_from ∙ zero-add (length p)

-- a reading of ticks is the tick itself
pub ticks_read : (t : ℤ) → read_number (in_range t) ≡ 0 → read_tick (in_range t) ≡ t
unfolding in_range read_number read_tick
ticks_read t e = by (is_valid t) e
  where
    by : (valid : Bool) → read_number (refused_if (not valid) 4 0 (Ok t)) ≡ 0
        → read_tick (refused_if (not valid) 4 0 (Ok t)) ≡ t
    by true e = refl
    by false e = let no : ⊥ = omega arith in absurd no

-- '(0 to 4)'
pub longest_at_most : (from to : Scale) → steps from to ≤ longest_path
longest_at_most = within longest_path
  where
    on : (most : ℕ) (to : Scale) → ((from : Scale) → length (path_within most from to) ≤ most) → (way : Option Step)
        → length (path.step_and_rest (λ scale. path_within most scale to) way) ≤ suc most
    on most to rest None = omega arith
    on most to rest (Some step) = let h = rest (end step) in omega arith

    within : (most : ℕ) (from to : Scale) → length (path_within most from to) ≤ most
    within zero from to = omega arith
    within (suc most) from to = on most to (λ scale. within most scale to) (next from to)
