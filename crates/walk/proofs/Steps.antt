-- 'Its answer carries the tick and the number of steps walked': an accepted conversion has walked
-- its whole path. Assumes nothing.
use Rattle.scales.specs.Answers.{Stepped, Answer, converted_to}
use Rattle.image.specs.declared.table.Table.{Table}
use Rattle.scales.specs.declared.answer.Outside.TheVariants as Outside
use Rattle.std.specs.Prelude.{Err, Ok, Option}
use Rattle.scales.proofs.Reached.{same_steps}
use mathlib.Core.Path.{◌≡◌, refl}
use mathlib.Core.List.{List, [], ◌∷◌}
use Prim.Native.Nat.{ℕ, suc, ◌+◌}
use native.Mathlib.Omega.{arith}
use lib.IntN.{ℤ}
use lib.ListN.{length}
use Rattle.scales.specs.declared.answer.Epoch.{Epoch}
use Rattle.scales.specs.declared.refusal.Refusal.{Refusal}
use Rattle.scales.specs.declared.path.Step.{Step}
use Rattle.walk.specs.Walk.{step_of, after_step, walk_of}

-- an answer is accepted or refused, never both
pub not_both : {P : Type 0} {answer : Answer} {refusal : Refusal} {epoch : Epoch} {n : ℕ} → answer ≡ Err refusal
    → answer ≡ converted_to epoch n → P
not_both r e = let z : ◌≡◌ {A = ℕ} 0 1 = cc in let no : ⊥ = omega arith in absurd no

-- an answer that is accepted
abbrev pub Answered : Answer → Type 0
Answered answer = (epoch : Epoch) × (n : ℕ) × (answer ≡ converted_to epoch n)

-- ---- the walk
-- an accepted walk took each of its steps
module _ (epoch : Epoch) (n : ℕ) where
  pub record Stepping (rest : Epoch → Answer) (stepped : Stepped) : Type 0 where
    pub at : Epoch
    pub reached : stepped ≡ Ok at
    pub onwards : rest at ≡ converted_to epoch n

  pub stepping : (rest : Epoch → Answer) (done : ℕ) (stepped : Stepped)
      → after_step rest done stepped ≡ converted_to epoch n → Stepping rest stepped
  stepping rest done (Ok at) e = record { at = at; reached = refl; onwards = e }
  stepping rest done (Err Outside.Table) e = not_both refl e
  stepping rest done (Err Outside.Range) e = not_both refl e

pub steps_are : (kept : Option Table) (coefficients : List ℤ) (way : List Step) (done : ℕ) (start : Epoch)
    {epoch : Epoch} {n : ℕ}
    → walk_of kept coefficients way done start ≡ converted_to epoch n → n ≡ done + length way
unfolding walk_of
steps_are kept coefficients [] done start {n = n} e = let d : done ≡ n = same_steps e in omega arith
steps_are kept coefficients (step ∷ more) done start {epoch} {n} e =
    let x = stepping epoch n (walk_of kept coefficients more (suc done)) done (step_of kept coefficients step start.tick) e in
    let d = steps_are kept coefficients more (suc done) x.at x.onwards in
    omega arith
