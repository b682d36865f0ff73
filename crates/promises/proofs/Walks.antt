-- What an accepted conversion has gone through: both codes name a scale, the reading is a tick, and
-- from it the walk over the path between the two scales, over what the table bytes hold. Assumes
-- nothing.
use Rattle.scales.specs.Answers.{Read, Answer, converted_to}
use Rattle.blocks.specs.Answers.{Judged}
use Rattle.std.specs.Prelude.{Err, Ok, Option, Some}
use mathlib.Core.Path.{◌≡◌, refl, sym, ◌∙◌, ap}
use mathlib.Core.Bool.{Bool, true, false, cond}
use mathlib.Core.List.{List, [], ◌∷◌}
use Prim.Native.Nat.{ℕ, suc, ◌≤◌, zero-le}
use native.Mathlib.Omega.{arith}
use borrow.Author.Tests.{le-leb}
use lib.IntN.{ℤ}
use Rattle.scales.specs.declared.answer.Epoch.{Epoch}
use Rattle.scales.specs.declared.refusal.Refusal.{Refusal}
use Rattle.scales.specs.declared.path.Step.{Step}
use Rattle.scales.specs.declared.scale.Purpose.TheVariants as P
use Rattle.scales.specs.declared.scale.Scale.{Scale}
use Rattle.scales.specs.Path.{crosses}
use Rattle.scales.proofs.Paths.{Leads}
use Rattle.scales.proofs.Reached.{same_epoch, same_scale}
use Rattle.image.specs.declared.table.Table.{Table}
use Rattle.blocks.specs.Judging.{judged}
use Rattle.dates.specs.declared.reading.Reading.{Reading}
use Rattle.dates.specs.Readings.{read_of, purpose_of, in_range}
use Rattle.desk.specs.Order.{Check, passes, unless, first_of, of_table, settled, leaps_fit}
use Rattle.desk.specs.Order.{leaps_right}
use Rattle.opened.specs.Opened.{coefficients_in}
use Rattle.desk.specs.Conversion.{answering, started, between_of, convert_of, convert_into}
use Rattle.desk.specs.Conversion.{convert_read}
use Rattle.walk.specs.Inner.{Held}
use Rattle.walk.specs.Walk.{answer_refused, step_of, walk_of, walk_between}
use Rattle.walk.proofs.OneStep.{step_ends}
use Rattle.walk.proofs.Steps.{not_both, stepping}
use Rattle.scales.specs.Scales.{highest_code, is_code, named, lowest_code}
use Rattle.desk.proofs.Valid.{held_by_lem, bytes_lent}
use Rattle.promises.specs.Words.{table_in}
use Rattle.scales.specs.declared.scale.Purpose.{Purpose}
use Rattle.dates.specs.declared.reading.Reading.TheVariants.{Ticks}
use Rattle.numbers.proofs.Flags.{never}

-- an answer is no refusal
pub apart : {A : Type 0} {refusal : Refusal} {epoch : Epoch} {steps : ℕ} → Err refusal ≡ converted_to epoch steps → A
apart e = not_both refl e

-- ---- an accepted walk
module _ (epoch : Epoch) (steps : ℕ) where
  -- it came to the epoch that it answers
  pub came_to : (kept : Option Table) (cs : List ℤ) (done : ℕ) (start : Epoch)
      → walk_of kept cs [] done start ≡ converted_to epoch steps → start ≡ epoch
  unfolding walk_of
  came_to kept cs done start e = same_epoch e

  -- and the scale is where the path led
  pub scale_walked : (kept : Option Table) (cs : List ℤ) (p : List Step) (to : Scale) (done : ℕ) (start : Epoch)
      → Leads start.scale to p → walk_of kept cs p done start ≡ converted_to epoch steps → epoch.scale ≡ to
  unfolding walk_of
  scale_walked kept cs [] to done start l e = sym (same_scale (came_to kept cs done start e)) ∙ l
  scale_walked kept cs (step ∷ more) to done start l e =
      let x = stepping epoch steps (walk_of kept cs more (suc done)) done (step_of kept cs step start.tick) e in
      let ends = step_ends kept cs step start.tick x.at x.reached in
      scale_walked kept cs more to (suc done) x.at (rw ends l.1) x.onwards

-- over a path of one step, an answer is where the step came to
pub one_step : (kept : Option Table) (cs : List ℤ) (step : Step) (p : List Step) → p ≡ step ∷ []
    → (start e : Epoch) (m : ℕ)
    → walk_of kept cs p 0 start ≡ converted_to e m
    → step_of kept cs step start.tick ≡ Ok e
unfolding walk_of
one_step kept cs step p single start e m w =
    let x = stepping e m (walk_of kept cs [] 1) 0 (step_of kept cs step start.tick) (rw single at w) in
    x.reached ∙ ap Ok (came_to e m kept cs 1 x.at x.onwards)

-- ---- what a conversion comes to: a code, the list of leap seconds or the table is refused, or it
-- is a walk between the two scales over what the bytes hold
pub data Course (writes : Purpose) (from to : ℕ) (reading : Reading) (leaps : List ℤ) (bytes : List ℕ)
    (answer : Answer) : Type 0 where
  from_refused : is_code (purpose_of reading) from ≡ false → answer ≡ answer_refused 1 0
      → Course writes from to reading leaps bytes answer
  to_refused : is_code writes to ≡ false → answer ≡ answer_refused 1 1
      → Course writes from to reading leaps bytes answer
  list_unfit : leaps_fit (purpose_of reading) writes leaps ≡ false → answer ≡ answer_refused 8 0
      → Course writes from to reading leaps bytes answer
  list_wrong : leaps_right (purpose_of reading) writes leaps ≡ false → answer ≡ answer_refused 7 0
      → Course writes from to reading leaps bytes answer
  table_refused : crosses (named from) (named to) ≡ true → (r : Refusal) → judged bytes ≡ Err r
      → answer ≡ Err r → Course writes from to reading leaps bytes answer
  walking : answer ≡ between_of (named from) (named to) (read_of leaps reading) (table_in bytes) (coefficients_in bytes)
      → Course writes from to reading leaps bytes answer

module _ (writes : Purpose) (from to : ℕ) (reading : Reading) (leaps : List ℤ) (bytes : List ℕ) where
  walk_of_lem : Answer
  walk_of_lem = between_of (named from) (named to) (read_of leaps reading) (table_in bytes) (coefficients_in bytes)

  -- what the checks before the table and the table's own say, in their order
  checks : Bool → Bool → Bool → Bool → Bool → Judged → Check
  checks p q fits right over table =
      first_of (unless p 1 0 ∷ unless q 1 1 ∷ unless fits 8 0 ∷ unless right 7 0 ∷ cond over (of_table table) passes ∷ [])

  by_table : crosses (named from) (named to) ≡ true → (judgement : Judged) → judged bytes ≡ judgement
      → Course writes from to reading leaps bytes (answering (checks true true true true true judgement) walk_of_lem)
  unfolding walk_of_lem checks
  by_table o (Ok table) j = walking refl
  by_table o (Err r) j = table_refused o r j refl

  by_path : (over : Bool) → crosses (named from) (named to) ≡ over
      → Course writes from to reading leaps bytes
      (answering (checks true true true true over (judged bytes)) walk_of_lem)
  unfolding walk_of_lem checks
  by_path true o = by_table o (judged bytes) refl
  by_path false o = walking refl

  by_checks : (p q fits right : Bool) → is_code (purpose_of reading) from ≡ p → is_code writes to ≡ q
      → leaps_fit (purpose_of reading) writes leaps ≡ fits → leaps_right (purpose_of reading) writes leaps ≡ right
      → Course writes from to reading leaps bytes
      (answering (checks p q fits right (crosses (named from) (named to)) (judged bytes)) walk_of_lem)
  unfolding checks
  by_checks true true true true f t l r = by_path (crosses (named from) (named to)) refl
  by_checks true true true false f t l r = list_wrong r refl
  by_checks true true false right f t l r = list_unfit l refl
  by_checks true false fits right f t l r = to_refused t refl
  by_checks false q fits right f t l r = from_refused f refl

  pub course : Course writes from to reading leaps bytes (convert_into writes from to reading leaps bytes)
  unfolding convert_into convert_read settled walk_of_lem checks
  course = by_checks _ _ _ _ refl refl refl refl

-- ---- an accepted conversion
pub record Walk (from to : ℕ) (reading : Reading) (leaps : List ℤ) (bytes : List ℕ) (epoch : Epoch) (steps : ℕ)
    : Type 0 where
  pub tick : ℤ
  pub read : read_of leaps reading
      ≡ Ok tick
  pub walk : walk_between (table_in bytes) (coefficients_in bytes) (named from) (named to) tick
      ≡ converted_to epoch steps

pub walked : (writes : Purpose) (from to : ℕ) (reading : Reading) (leaps : List ℤ) (bytes : List ℕ) (epoch : Epoch)
    (steps : ℕ) → convert_into writes from to reading leaps bytes ≡ converted_to epoch steps
    → Walk from to reading leaps bytes epoch steps
unfolding between_of
walked writes from to reading leaps bytes epoch steps e = by (course writes from to reading leaps bytes)
  where
    was_read : (read : Read) → read_of leaps reading ≡ read
        → started (walk_between (table_in bytes) (coefficients_in bytes) (named from) (named to)) read
        ≡ converted_to epoch steps
        → Walk from to reading leaps bytes epoch steps
    was_read (Ok tick) r w = record { tick = tick; read = r; walk = w }
    was_read (Err refusal) r w = apart w

    by : Course writes from to reading leaps bytes (convert_into writes from to reading leaps bytes)
        → Walk from to reading leaps bytes epoch steps
    by (from_refused f is) = apart (sym is ∙ e)
    by (to_refused t is) = apart (sym is ∙ e)
    by (list_unfit l is) = apart (sym is ∙ e)
    by (list_wrong l is) = apart (sym is ∙ e)
    by (table_refused o r j is) = apart (sym is ∙ e)
    by (walking is) = was_read (read_of leaps reading) refl (sym is ∙ e)

-- ---- over accepted bytes every conversion of a tick between codes that name a scale is that walk
is_code_lem : (code : ℕ) → code ≤ highest_code P.Reading → is_code P.Reading code ≡ true
is_code_lem code h = rw (le-leb (lowest_code P.Reading) code zero-le, le-leb code (highest_code P.Reading) h)

pub between_named : (from to : ℕ) (tick : ℤ) (bytes : List ℕ) (table : Table)
    → from ≤ highest_code P.Reading → to ≤ highest_code P.Reading → judged bytes ≡ Ok table
    → convert_of from to (Ticks tick) [] bytes
    ≡ between_of (named from) (named to) (in_range tick) (Some table) (coefficients_in bytes)
unfolding read_of
between_named from to tick bytes table f t j = by (course P.Reading from to (Ticks tick) [] bytes)
  where
    by : Course P.Reading from to (Ticks tick) [] bytes (convert_of from to (Ticks tick) [] bytes)
        → convert_of from to (Ticks tick) [] bytes
        ≡ between_of (named from) (named to) (in_range tick) (Some table) (coefficients_in bytes)
    by (from_refused g is) = never (sym g ∙ is_code_lem from f)
    by (to_refused h is) = never (sym h ∙ is_code_lem to t)
    by (list_unfit l is) = never (sym l)
    by (list_wrong l is) = never (sym l)
    by (table_refused o r k is) = let z : ◌≡◌ {A = ℕ} 0 1 = cc in let no : ⊥ = omega arith in absurd no
    by (walking is) = rw j at is

-- ---- what is kept of the bytes has been accepted
pub bytes_held : (bytes : List ℕ) → Held (table_in bytes) (coefficients_in bytes)
bytes_held bytes = held_by_lem (judged bytes) (coefficients_in bytes) (bytes_lent bytes)
