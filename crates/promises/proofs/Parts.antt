-- The parts of a conversion by themselves, by number: a code, a written date, and each single step.
-- Assumes nothing.
use Rattle.dates.specs.Answers.{Written, written_number, written_place}
use Rattle.scales.specs.Answers.{Stepped, named_number, named_place, named_scale, kept_in}
use Rattle.scales.specs.Answers.{stepped_number, stepped_tick, stepped_scale}
use Rattle.scales.specs.declared.refusal.Refusal.{Refusal}
use Rattle.scales.specs.declared.answer.Outside.TheVariants as Outside
use Rattle.std.specs.Prelude.{Err, Ok, Result}
use mathlib.Core.Path.{◌≡◌, refl, ◌∙◌}
use mathlib.Core.Bool.{Bool, true, false, cond}
use mathlib.Core.List.{List, [], ◌∷◌}
use Prim.Native.Nat.{ℕ}
use native.Mathlib.Omega.{arith}
use lib.IntN.{ℤ}
use Rattle.numbers.specs.Tests.{only, verdict, ToldExactly}
use Rattle.numbers.proofs.Exactly.{numbered, only_told, told_exactly}
use Rattle.scales.specs.declared.scale.Purpose.{Purpose}
use Rattle.scales.specs.declared.scale.Scale.{Scale}
use Rattle.scales.specs.declared.scale.Scale.TheVariants.{Tt, Tdb}
use Rattle.scales.specs.Linear.{nearest_tick}
use Rattle.scales.specs.Rows.{LineRow, line_step}
use Rattle.scales.specs.Scales.{named, is_code, scale_of}
use Rattle.scales.specs.Tick.{is_valid}
use Rattle.image.specs.declared.table.Table.{Table}
use Rattle.ephemeris.specs.Steps.{tdb_step, tt_step}
use Rattle.ephemeris.specs.Table.{is_inside, is_covered, tdb_of, tt_of}
use Rattle.dates.specs.Written.{written_of, date_of}

-- ---- a code: refused with 1 and its place exactly where it is none, else its scale
pub code_exactly : (purpose : Purpose) (code place : ℕ)
    → let answer = scale_of purpose code place in
    ToldExactly (only 1 place (is_code purpose code) ∷ []) (named_number answer) (named_place answer)
unfolding named_number named_place verdict
code_exactly purpose code place =
    let tests = only 1 place (is_code purpose code) ∷ [] in
    told_exactly tests _ _ (numbered tests refl)
    (only_told (λ n p. (n, p)) (0, 0) 1 place [] (is_code purpose code) ∙ by (is_code purpose code))
  where
    answer : Bool → Result Scale Refusal
    answer is = cond is (Ok (named code)) (Err (record { number = 1; place = place }))

    by : (is : Bool)
        → ◌≡◌ {A = ℕ × ℕ} (cond is (0, 0) (1, place)) (named_number (answer is), named_place (answer is))
    by true = refl
    by false = refl

pub code_scale : (purpose : Purpose) (code place : ℕ) → named_number (scale_of purpose code place) ≡ 0
    → named_scale (scale_of purpose code place) ≡ named code
unfolding named_number named_scale
code_scale purpose code place = by (is_code purpose code)
  where
    answer : Bool → Result Scale Refusal
    answer is = cond is (Ok (named code)) (Err (record { number = 1; place = place }))

    by : (is : Bool) → named_number (answer is) ≡ 0 → named_scale (answer is) ≡ named code
    by true e = refl
    by false e = let no : ⊥ = omega arith in absurd no

-- ---- a written date: 4 exactly where the tick is outside the range
pub written_exactly : (tick : ℤ)
    → ToldExactly (only 4 0 (is_valid tick) ∷ []) (written_number (written_of tick)) (written_place (written_of tick))
unfolding written_number written_place written_of verdict
written_exactly tick =
    let tests = only 4 0 (is_valid tick) ∷ [] in
    told_exactly tests _ _ (numbered tests refl)
    (only_told (λ n p. (n, p)) (0, 0) 4 0 [] (is_valid tick) ∙ by (is_valid tick))
  where
    answer : Bool → Written
    answer valid = cond valid (Ok (date_of tick)) (Err (record { number = 4; place = 0 }))

    by : (valid : Bool)
        → ◌≡◌ {A = ℕ × ℕ} (cond valid (0, 0) (4, 0)) (written_number (answer valid), written_place (answer valid))
    by true = refl
    by false = refl

-- ---- a single step, by its number, tick and scale: where it is refused, and where it comes to
kept_number : (scale : Scale) (tick : ℤ) → stepped_number (kept_in scale tick) ≡ cond (is_valid tick) 0 4
unfolding kept_in stepped_number
kept_number scale tick = by (is_valid tick)
  where
    by : (valid : Bool)
        → stepped_number (cond valid (Ok (record { scale = scale; tick = tick })) (Err Outside.Range)) ≡ cond valid 0 4
    by true = refl
    by false = refl

kept_tick : (scale : Scale) (tick : ℤ) → stepped_number (kept_in scale tick) ≡ 0
    → (stepped_tick (kept_in scale tick) ≡ tick) × (stepped_scale (kept_in scale tick) ≡ scale)
unfolding kept_in stepped_number stepped_tick stepped_scale
kept_tick scale tick = by (is_valid tick)
  where
    kept : Bool → Stepped
    kept valid = cond valid (Ok (record { scale = scale; tick = tick })) (Err Outside.Range)

    by : (valid : Bool) → stepped_number (kept valid) ≡ 0
        → (stepped_tick (kept valid) ≡ tick) × (stepped_scale (kept valid) ≡ scale)
    by true e = (refl, refl)
    by false e = let no : ⊥ = omega arith in absurd no

-- a linear step: 4 where the tick or the nearest one is outside the range, else the nearest
pub line_number : (row : LineRow) (t : ℤ)
    → stepped_number (line_step row t) ≡ cond (is_valid t) (cond (is_valid (nearest_tick row.by t)) 0 4) 4
unfolding line_step stepped_number
line_number row t = by (is_valid t)
  where
    by : (valid : Bool) → stepped_number (cond valid (kept_in row.to (nearest_tick row.by t)) (Err Outside.Range))
        ≡ cond valid (cond (is_valid (nearest_tick row.by t)) 0 4) 4
    by true = kept_number row.to (nearest_tick row.by t)
    by false = refl

pub line_answer : (row : LineRow) (t : ℤ) → stepped_number (line_step row t) ≡ 0
    → (stepped_tick (line_step row t) ≡ nearest_tick row.by t) × (stepped_scale (line_step row t) ≡ row.to)
unfolding line_step stepped_number
line_answer row t = by (is_valid t)
  where
    taken : Bool → Stepped
    taken valid = cond valid (kept_in row.to (nearest_tick row.by t)) (Err Outside.Range)

    by : (valid : Bool) → stepped_number (taken valid) ≡ 0
        → (stepped_tick (taken valid) ≡ nearest_tick row.by t) × (stepped_scale (taken valid) ≡ row.to)
    by true e = kept_tick row.to (nearest_tick row.by t) e
    by false e = let no : ⊥ = omega arith in absurd no

-- TT to TDB over a table: 6 outside it, then 4 where TT − D is outside the range
pub tdb_number : (T : Table) (cs : List ℤ) (t : ℤ)
    → stepped_number (tdb_step T cs t) ≡ cond (is_inside T t) (cond (is_valid (tdb_of T cs t)) 0 4) 6
unfolding tdb_step stepped_number
tdb_number T cs t = by (is_inside T t)
  where
    by : (inside : Bool) → stepped_number (cond inside (kept_in Tdb (tdb_of T cs t)) (Err Outside.Table))
        ≡ cond inside (cond (is_valid (tdb_of T cs t)) 0 4) 6
    by true = kept_number Tdb (tdb_of T cs t)
    by false = refl

pub tdb_answer : (T : Table) (cs : List ℤ) (t : ℤ) → stepped_number (tdb_step T cs t) ≡ 0
    → (stepped_tick (tdb_step T cs t) ≡ tdb_of T cs t) × (stepped_scale (tdb_step T cs t) ≡ Tdb)
unfolding tdb_step stepped_number
tdb_answer T cs t = by (is_inside T t)
  where
    taken : Bool → Stepped
    taken inside = cond inside (kept_in Tdb (tdb_of T cs t)) (Err Outside.Table)

    by : (inside : Bool) → stepped_number (taken inside) ≡ 0
        → (stepped_tick (taken inside) ≡ tdb_of T cs t) × (stepped_scale (taken inside) ≡ Tdb)
    by true e = kept_tick Tdb (tdb_of T cs t) e
    by false e = let no : ⊥ = omega arith in absurd no

-- and back: 6 where the TDB is outside the table's
pub tt_number : (T : Table) (cs : List ℤ) (t : ℤ) → stepped_number (tt_step T cs t) ≡ cond (is_covered T cs t) 0 6
unfolding tt_step stepped_number
tt_number T cs t = by (is_covered T cs t)
  where
    by : (covered : Bool)
        → stepped_number (cond covered (Ok (record { scale = Tt; tick = tt_of T cs t })) (Err Outside.Table))
        ≡ cond covered 0 6
    by true = refl
    by false = refl

pub tt_answer : (T : Table) (cs : List ℤ) (t : ℤ) → stepped_number (tt_step T cs t) ≡ 0
    → (stepped_tick (tt_step T cs t) ≡ tt_of T cs t) × (stepped_scale (tt_step T cs t) ≡ Tt)
unfolding tt_step stepped_number stepped_tick stepped_scale
tt_answer T cs t = by (is_covered T cs t)
  where
    taken : Bool → Stepped
    taken covered = cond covered (Ok (record { scale = Tt; tick = tt_of T cs t })) (Err Outside.Table)

    by : (covered : Bool) → stepped_number (taken covered) ≡ 0
        → (stepped_tick (taken covered) ≡ tt_of T cs t) × (stepped_scale (taken covered) ≡ Tt)
    by true e = (refl, refl)
    by false e = let no : ⊥ = omega arith in absurd no
