-- 'A conversion walks the only path and rounds at every step. Its answer carries the tick and the
-- number of steps walked.' '.. step by step, 6 before 4.'
use Rattle.scales.specs.Answers.{Stepped, Answer, converted_to}
use Rattle.image.specs.declared.table.Table.{Table}
use Rattle.scales.specs.declared.answer.Outside.TheVariants as Outside
use Rattle.std.specs.Prelude.{Err, None, Ok, Option, Some, List, [], ◌∷◌, ℕ, suc, ℤ}
use Rattle.scales.specs.declared.answer.Epoch.{Epoch}
use Rattle.scales.specs.declared.path.Step.{Step}
use Rattle.scales.specs.declared.scale.Scale.{Scale}
use Rattle.scales.specs.Path.{path}
use Rattle.scales.specs.Rows.{StepRow, linear, table, table_back, row_of, line_step}
use Rattle.ephemeris.specs.Steps.{tdb_step, tt_step}

-- a refusal by its number and the place told
abbrev pub answer_refused : ℕ → ℕ → Answer
answer_refused number place = Err (record { number = number; place = place })

-- ---- one step
-- over the table that is kept, by its coefficients. Where none is kept no tick is inside it; a path
-- that crosses has one
abbrev pub to_tdb : Option Table → List ℤ → ℤ → Stepped
to_tdb None coefficients tick = Err Outside.Table
to_tdb (Some of) coefficients tick = tdb_step of coefficients tick

abbrev pub to_tt : Option Table → List ℤ → ℤ → Stepped
to_tt None coefficients tick = Err Outside.Table
to_tt (Some of) coefficients tick = tt_step of coefficients tick

-- by its row
abbrev pub step_by : Option Table → List ℤ → StepRow → ℤ → Stepped
step_by kept coefficients (linear row) tick = line_step row tick
step_by kept coefficients table tick = to_tdb kept coefficients tick
step_by kept coefficients table_back tick = to_tt kept coefficients tick

abbrev pub step_of : Option Table → List ℤ → Step → ℤ → Stepped
step_of kept coefficients step tick = step_by kept coefficients (row_of step) tick

-- ---- the walk, so many steps done
-- on from where a step came to; '6: outside the table', place 'steps done'; '4: epoch outside the
-- range', place 'steps done, the one that led outside counted'
abbrev pub after_step : (Epoch → Answer) → ℕ → Stepped → Answer
after_step rest done (Ok epoch) = rest epoch
after_step rest done (Err Outside.Table) = answer_refused 6 done
after_step rest done (Err Outside.Range) = answer_refused 4 (suc done)

-- the steps that are left of a path, from an epoch of the scale in which they begin
unfoldable pub walk_of : Option Table → List ℤ → List Step → ℕ → Epoch → Answer
walk_of kept coefficients [] done epoch = converted_to epoch done
walk_of kept coefficients (step ∷ more) done epoch =
    let on = walk_of kept coefficients more (suc done) in
    after_step on done (step_of kept coefficients step epoch.tick)

-- from a tick of the first scale to the second
abbrev pub walk_between : Option Table → List ℤ → Scale → Scale → ℤ → Answer
walk_between kept coefficients from to tick =
    walk_of kept coefficients (path from to) 0 (record { scale = from; tick = tick })
