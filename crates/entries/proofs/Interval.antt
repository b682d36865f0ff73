-- Accepted ticks form an interval: between two ticks of a scale that are both converted to another
-- there is none that is refused. By induction over the path, from the law of one step. Assumes
-- nothing.
use Rattle.scales.specs.Answers.{Answer, converted_to}
use Rattle.image.specs.declared.table.Table.{Table}
use Rattle.std.specs.Prelude.{Err, Ok, Option}
use mathlib.Core.Path.{◌≡◌, refl, ◌∙◌, ap}
use mathlib.Core.Bool.{Bool, true, false, not, cond}
use mathlib.Core.List.{List, [], ◌∷◌}
use Prim.Native.Nat.{ℕ, suc}
use native.Mathlib.Omega.{arith}
use lib.IntN.{ℤ}
use lib.Signed.{◌≤ℤ◌, ◌<ℤ◌, lt_z, ≤ℤ_refl}
use Rattle.numbers.proofs.Differences.{rep₂, lin}
use Rattle.numbers.proofs.Flags.{never}
use Rattle.numbers.proofs.Machine.{lt_yes, lt_no}
use Rattle.numbers.proofs.Order.{≤_trans}
use Rattle.scales.specs.declared.answer.Epoch.{Epoch}
use Rattle.scales.specs.declared.path.Step.{Step}
use Rattle.scales.specs.declared.scale.Scale.{Scale}
use Rattle.scales.specs.Path.{path, steps}
use Rattle.scales.specs.Tick.{is_valid}
use Rattle.dates.specs.Readings.{in_range}
use Rattle.dates.specs.Readings as readings
use Rattle.entries.specs.declared.trying.Ends.{Ends}
use Rattle.entries.specs.Entries.{entry_of, tried_of, all_tried}
use Rattle.desk.specs.Conversion.{started, between_of}
use Rattle.walk.specs.Inner.{Held}
use Rattle.std.specs.Int.{int_min, int_max}
use Rattle.entries.specs.Inner.{ends_of, is_accepted}
use Rattle.walk.specs.Walk.{step_of, after_step, walk_of, walk_between}
use Rattle.walk.proofs.OneStep.{valid_within, step_order, step_within}
use Rattle.walk.proofs.Steps.{not_both, Answered, stepping}

-- an answer that is found accepted
accepted_told : (answer : Answer) → is_accepted answer ≡ true → Answered answer
accepted_told (Ok converted) e = (converted.epoch, converted.steps, refl)
accepted_told (Err refusal) e = never e

-- ---- along a walk
module _ (kept : Option Table) (cs : List ℤ) where
  walk_within : Held kept cs → (way : List Step) (done : ℕ) (t u v : Epoch) → Answered (walk_of kept cs way done t)
      → Answered (walk_of kept cs way done v) → t.tick ≤ℤ u.tick → u.tick ≤ℤ v.tick
      → Answered (walk_of kept cs way done u)
  unfolding walk_of
  walk_within h [] done t u v early late l m = (u, done, refl)
  walk_within h (step ∷ more) done t u v early late l m =
      let rest = walk_of kept cs more (suc done) in
      let a = stepping _ _ rest done (step_of kept cs step t.tick) early.2 in
      let b = stepping _ _ rest done (step_of kept cs step v.tick) late.2 in
      let c = step_within kept cs h step t.tick u.tick v.tick a.at b.at a.reached b.reached l m in
      let low = step_order kept cs h step t.tick u.tick a.at c.0 a.reached c.1 l in
      let high = step_order kept cs h step u.tick v.tick c.0 b.at c.1 b.reached m in
      let onwards = walk_within h more (suc done) a.at c.0 b.at (_, _, a.onwards) (_, _, b.onwards) low high in
      (onwards.0, onwards.1, ap (after_step rest done) c.1 ∙ onwards.2)

  -- ---- and from a reading of ticks, which is the tick itself where that is valid
  module _ (from to : Scale) where
    abbrev walk : ℤ → Answer
    walk tick = walk_between kept cs from to tick

    read_accepted : (t : ℤ) → Answered (entry_of from to kept cs t) → (is_valid t ≡ true) × Answered (walk t)
    unfolding between_of in_range
    read_accepted t a = by (is_valid t) a.2
      where
        by : (valid : Bool) → started walk (readings.refused_if (not valid) 4 0 (Ok t)) ≡ converted_to a.0 a.1
            → (valid ≡ true) × Answered (walk t)
        by true e = (refl, (a.0, a.1, e))
        by false e = not_both refl e

    pub entry_walk : (t : ℤ) → Answered (entry_of from to kept cs t) → entry_of from to kept cs t ≡ walk t
    unfolding between_of in_range
    entry_walk t a = rw (read_accepted t a).0

    pub entry_within : Held kept cs → (t u v : ℤ) → Answered (entry_of from to kept cs t)
        → Answered (entry_of from to kept cs v) → t ≤ℤ u → u ≤ℤ v
        → Answered (entry_of from to kept cs u)
    unfolding between_of in_range
    entry_within h t u v early late l m =
        let a = read_accepted t early in
        let b = read_accepted v late in
        let at : ℤ → Epoch = λ tick. record { scale = from; tick = tick } in
        let w = walk_within h (path from to) 0 (at t) (at u) (at v) a.1 b.1 l m in
        (w.0, w.1, rw (valid_within t u v l m a.0 b.0) w.2)

-- ---- the ends of a list lie around it
less : (x y : ℤ) → x <ℤ y → x ≤ℤ y
less = rep₂ _ (λ a b c d. simp lin (omega arith))

min_both : (x y : ℤ) → (int_min x y ≤ℤ x) × (int_min x y ≤ℤ y)
min_both x y = by (lt_z y x) refl
  where
    by : (before : Bool) → lt_z y x ≡ before → (cond before y x ≤ℤ x) × (cond before y x ≤ℤ y)
    by true e = (less y x (lt_yes y x e), ≤ℤ_refl y)
    by false e = (≤ℤ_refl x, lt_no y x e)

max_both : (x y : ℤ) → (x ≤ℤ int_max x y) × (y ≤ℤ int_max x y)
max_both x y = by (lt_z y x) refl
  where
    by : (before : Bool) → lt_z y x ≡ before → (x ≤ℤ cond before x y) × (y ≤ℤ cond before x y)
    by true e = (≤ℤ_refl x, less y x (lt_yes y x e))
    by false e = (lt_no y x e, ≤ℤ_refl y)

around : (earliest latest : ℤ) (ticks : List ℤ)
    → ((ends_of earliest latest ticks).earliest ≤ℤ earliest) × (latest ≤ℤ (ends_of earliest latest ticks).latest)
unfolding ends_of
around earliest latest [] = (≤ℤ_refl earliest, ≤ℤ_refl latest)
around earliest latest (tick ∷ more) =
    let ends = ends_of (int_min earliest tick) (int_max latest tick) more in
    let a = around (int_min earliest tick) (int_max latest tick) more in (
      ≤_trans ends.earliest (int_min earliest tick) earliest a.0 (min_both earliest tick).0,
      ≤_trans latest (int_max latest tick) ends.latest (max_both latest tick).0 a.1,
    )

-- so that where both are accepted all are
module _ (kept : Option Table) (cs : List ℤ) (h : Held kept cs) (from to : Scale) where
  abbrev entry : ℤ → Answer
  entry tick = entry_of from to kept cs tick

  tried_within : (earliest latest : ℤ) (index : ℕ) (ticks : List ℤ)
      → let ends = ends_of earliest latest ticks in Answered (entry ends.earliest) → Answered (entry ends.latest)
      → tried_of entry (steps from to) index ticks ≡ Ok (steps from to)
  unfolding tried_of ends_of
  tried_within earliest latest index [] early late = refl
  tried_within earliest latest index (tick ∷ more) early late =
      let e = int_min earliest tick in
      let l = int_max latest tick in
      let ends = ends_of e l more in
      let a = around e l more in
      let here =
      entry_within kept cs from to h ends.earliest tick ends.latest early late (≤_trans ends.earliest e tick a.0 (min_both earliest tick).1)
      (≤_trans tick l ends.latest (max_both latest tick).1 a.1) in
      rw here.2 (tried_within e l (suc index) more early late)

  pub ends_accepted : (first : ℤ) (ticks : List ℤ) (ends : Ends) → ends ≡ ends_of first first ticks
      → is_accepted (entry ends.earliest) ≡ true
      → is_accepted (entry ends.latest) ≡ true → all_tried from to ticks kept cs ≡ Ok (steps from to)
  ends_accepted first ticks ends are early late =
      tried_within first first 0 ticks (rw are at (accepted_told (entry ends.earliest) early)) (rw are at (accepted_told (entry ends.latest) late))
