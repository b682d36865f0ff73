-- Demand 3: each accepted TT to TDB conversion is 'within 33/64 tick of TT minus the exact
-- Chebyshev sum', denominators multiplied out. Assumes nothing.
use Rattle.blocks.specs.Answers.{Judged}
use Rattle.std.specs.Prelude.{Err, Ok}
use mathlib.Core.Path.{◌≡◌, refl, ap}
use mathlib.Core.List.{List, [], ◌∷◌}
use Prim.Native.Nat.{ℕ, ◌*◌, ◌≤◌}
use lib.IntN.{ℤ, pos, nat_abs, ◌-ℤ◌, ◌*ℤ◌}
use Rattle.scales.specs.declared.answer.Epoch.{Epoch}
use Rattle.scales.specs.declared.path.Edge.TheVariants as Edge
use Rattle.scales.specs.declared.path.Step.{Step}
use Rattle.scales.specs.declared.path.Step.TheVariants.{Along}
use Rattle.scales.specs.declared.scale.Scale.TheVariants.{Tt, Tdb}
use Rattle.scales.specs.Answers.{answer_number, answer_tick, answer_steps, read_tick}
use Rattle.scales.specs.Path.{path}
use Rattle.blocks.specs.Judging.{judged}
use Rattle.blocks.proofs.Accepting.{accepted_table}
use Rattle.ephemeris.proofs.Promises.{table_distance}
use Rattle.dates.specs.declared.reading.Reading.{Reading}
use Rattle.dates.specs.Readings.{read_of}
use Rattle.scales.proofs.Reached.{nowhere, same_tick}
use Rattle.opened.specs.Opened.{coefficients_in}
use Rattle.desk.specs.Conversion.{convert_of, held_by}
use Rattle.walk.specs.Walk.{to_tdb}
use Rattle.walk.proofs.OneStep.{tdb_reached}
use Rattle.scales.specs.Scales.{named}
use Rattle.promises.specs.Words.{table_in, denominator_in, exact_sum_in, start_of}
use Rattle.promises.proofs.Exactly.{epoch_of}
use Rattle.promises.proofs.Walks.{one_step, bytes_held}
use Rattle.promises.proofs.Answers.{walked_from}
use Rattle.scales.specs.declared.scale.Purpose.TheVariants as P

-- the step over what the bytes hold
module _ (bytes : List ℕ) (t : ℤ) (u : Epoch) where
  abbrev Near : Type 0
  Near = 64 * nat_abs (pos (denominator_in bytes) *ℤ u.tick -ℤ (pos (denominator_in bytes) *ℤ t -ℤ exact_sum_in bytes t)) ≤ 33 * denominator_in bytes

  near : (judgement : Judged) → judged bytes ≡ judgement → to_tdb (held_by judgement) (coefficients_in bytes) t
      ≡ Ok u
      → Near
  near (Err refusal) j e = nowhere e
  near (Ok of) j e =
      let cs = coefficients_in bytes in
      let same = accepted_table bytes of j in
      let r = tdb_reached of cs t u e in
      rw (same, ← same_tick r.is) (table_distance of cs ((bytes_held bytes).accepted of (ap held_by j)) t r.inside)

-- ---- TT to TDB: between a code of TT (3, or 0) and the code of TDB (5), of any reading over any
-- table bytes. With t the tick that was read and u = 65536·H^n the answer is within 33/64 tick of t
-- − (exact sum):  64·|u·TDB − (u·t − H^n·sum)| ≤ 33·u
pub distance : (from to : ℕ) (reading : Reading) (leaps : List ℤ) (bytes : List ℕ) → named from ≡ Tt → named to ≡ Tdb
    → let answer = convert_of from to reading leaps bytes in
    let t = read_tick (read_of leaps reading) in
    let u = denominator_in bytes in
    answer_number answer ≡ 0
    → 64 * nat_abs (pos u *ℤ answer_tick answer -ℤ (pos u *ℤ t -ℤ exact_sum_in bytes t)) ≤ 33 * u
distance from to reading leaps bytes starts ends accepted =
    let step : Step = Along Edge.Table in
    let single : path (named from) (named to) ≡ step ∷ [] = rw (starts, ends) in
    let answer = convert_of from to reading leaps bytes in
    let t = read_tick (read_of leaps reading) in
    near bytes t (epoch_of answer) (judged bytes) refl
    (one_step (table_in bytes) (coefficients_in bytes) step (path (named from) (named to)) single (start_of from t) (epoch_of answer) (answer_steps answer)
    (walked_from P.Reading from to reading leaps bytes accepted))
