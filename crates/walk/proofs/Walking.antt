-- What is left of a walk when so many of its steps are done, and how one step shortens it. Assumes
-- nothing.
use Rattle.scales.specs.Answers.{Answer, converted_to}
use Rattle.image.specs.declared.table.Table.{Table}
use Rattle.scales.specs.declared.answer.Outside.TheVariants as Outside
use Rattle.std.specs.Prelude.{Err, None, Ok, Option, Some}
use mathlib.Core.Path.{◌≡◌, refl, ◌∙◌, ap}
use mathlib.Core.List.{List}
use Prim.Native.Nat.{ℕ, suc, ◌+◌, ◌-◌, ◌≤◌, ◌<◌}
use native.Mathlib.Omega.{arith}
use lib.IntN.{ℤ}
use Rattle.scales.specs.declared.answer.Epoch.{Epoch}
use Rattle.scales.specs.declared.path.Step.{Step}
use Rattle.scales.specs.declared.scale.Scale.{Scale}
use Rattle.scales.specs.Path.{next, step_and_rest, path_within, longest_path}
use Rattle.scales.specs.Rows.{end}
use Rattle.walk.specs.Walk.{answer_refused, step_of, after_step, walk_of, walk_between}
use Rattle.walk.proofs.OneStep.{step_ends}

module _ (kept : Option Table) (coefficients : List ℤ) (to : Scale) where
  -- the walk from an epoch, so many steps done
  pub walk_left : ℕ → Epoch → Answer
  walk_left done epoch = walk_of kept coefficients (path_within (longest_path - done) epoch.scale to) done epoch

  pub whole_left : (from : Scale) (tick : ℤ)
      → walk_left 0 (record { scale = from; tick = tick }) ≡ walk_between kept coefficients from to tick
  unfolding walk_left
  whole_left from tick = refl

  pub no_walk_left : (done : ℕ) (epoch : Epoch) → longest_path ≤ done → walk_left done epoch ≡ converted_to epoch done
  unfolding walk_left walk_of
  no_walk_left done epoch h =
      let e : longest_path - done ≡ 0 = omega arith in
      ap (λ (most : ℕ). walk_of kept coefficients (path_within most epoch.scale to) done epoch) e

  module _ (done : ℕ) (epoch : Epoch) (h : done < longest_path) where
    opened : walk_left done epoch
        ≡ walk_of kept coefficients
        (step_and_rest (λ at. path_within (longest_path - suc done) at to) (next epoch.scale to)) done epoch
    unfolding walk_left
    opened =
        let e : longest_path - done ≡ suc (longest_path - suc done) = omega arith in
        ap (λ (most : ℕ). walk_of kept coefficients (path_within most epoch.scale to) done epoch) e

    pub at_end : next epoch.scale to ≡ None → walk_left done epoch ≡ converted_to epoch done
    unfolding walk_of
    at_end e = opened ∙ rw e

    module _ (step : Step) (by : next epoch.scale to ≡ Some step) where
      -- the steps that are left after the next one, from where that came to
      abbrev rest : Epoch → Answer
      rest reached = walk_of kept coefficients (path_within (longest_path - suc done) (end step) to) (suc done) reached

      pub stepped : walk_left done epoch ≡ after_step rest done (step_of kept coefficients step epoch.tick)
      unfolding walk_of
      stepped = opened ∙ rw by

      pub further : (reached : Epoch) → step_of kept coefficients step epoch.tick ≡ Ok reached
          → walk_left done epoch ≡ walk_left (done + 1) reached
      unfolding walk_left
      further reached e =
          let s : suc done ≡ done + 1 = omega arith in
          stepped
          ∙ ap (after_step rest done) e
          ∙ rw (← step_ends kept coefficients step epoch.tick reached e, s)

      pub outside_table : step_of kept coefficients step epoch.tick ≡ (Err Outside.Table)
          → walk_left done epoch ≡ answer_refused 6 done
      outside_table e = stepped ∙ ap (after_step rest done) e

      pub outside_range : step_of kept coefficients step epoch.tick ≡ (Err Outside.Range)
          → walk_left done epoch ≡ answer_refused 4 (done + 1)
      outside_range e =
          stepped
          ∙ ap (after_step rest done) e
          ∙ (let s : suc done ≡ done + 1 = omega arith in ap (answer_refused 4) s)
