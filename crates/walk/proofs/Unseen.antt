-- 'A path that doesn't cross never looks at the table': over any two tables it walks the same.
-- Assumes nothing.
use Rattle.scales.specs.Answers.{Stepped, Answer}
use Rattle.image.specs.declared.table.Table.{Table}
use Rattle.scales.specs.declared.answer.Outside.TheVariants as Outside
use Rattle.std.specs.Prelude.{Err, Ok, Option}
use mathlib.Core.Path.{◌≡◌, refl, sym, ◌∙◌, ap}
use mathlib.Core.Bool.{Bool, true, false, ◌||◌}
use mathlib.Core.List.{List, [], ◌∷◌}
use Prim.Native.Nat.{ℕ, suc}
use lib.IntN.{ℤ}
use Rattle.numbers.proofs.Flags.{never}
use Rattle.scales.specs.declared.answer.Epoch.{Epoch}
use Rattle.scales.specs.declared.path.Step.{Step}
use Rattle.scales.specs.Rows.{StepRow, linear, table, table_back, row_of, is_over, over_table}
use Rattle.scales.specs.Path.{any_over_table}
use Rattle.walk.specs.Walk.{step_by, step_of, after_step, walk_of}

neither : (t u : Bool) → t || u ≡ false → (t ≡ false) × (u ≡ false)
neither true u e = never (sym e)
neither false u e = (refl, e)

after_same : (f g : Epoch → Answer) → ((epoch : Epoch) → f epoch ≡ g epoch) → (done : ℕ) (stepped : Stepped)
    → after_step f done stepped ≡ after_step g done stepped
after_same f g same done (Ok epoch) = same epoch
after_same f g same done (Err Outside.Table) = refl
after_same f g same done (Err Outside.Range) = refl

module _ (kept kept' : Option Table) (cs cs' : List ℤ) where
  -- a step that is not over the table does not look at it
  row_unseen : (row : StepRow) (tick : ℤ) → is_over row ≡ false → step_by kept cs row tick ≡ step_by kept' cs' row tick
  row_unseen (linear row) tick e = refl
  row_unseen table tick e = never (sym e)
  row_unseen table_back tick e = never (sym e)

  pub walk_unseen : (p : List Step) → any_over_table p ≡ false → (done : ℕ) (epoch : Epoch)
      → walk_of kept cs p done epoch ≡ walk_of kept' cs' p done epoch
  unfolding walk_of
  walk_unseen [] e done epoch = refl
  walk_unseen (step ∷ more) e done epoch =
      let n = neither (over_table step) (any_over_table more) e in
      after_same _ _ (walk_unseen more n.1 (suc done)) done (step_of kept cs step epoch.tick)
      ∙ ap (after_step (walk_of kept' cs' more (suc done)) done) (row_unseen (row_of step) epoch.tick n.0)
