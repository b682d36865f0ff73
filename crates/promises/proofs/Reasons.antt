-- Why a conversion is refused: a refused walk ended at one of its steps, and a refused conversion
-- has one of the page's reasons. Assumes nothing.
use Rattle.scales.specs.Answers.{Stepped, Read, converted_to, answer_number, answer_place}
use Rattle.image.specs.declared.table.Table.{Table}
use Rattle.scales.specs.declared.answer.Outside.TheVariants as Outside
use Rattle.std.specs.Prelude.{Err, Ok, Option}
use mathlib.Core.Path.{◌≡◌, refl, sym, ◌∙◌, ap, subst}
use mathlib.Core.Bool.{true, false}
use mathlib.Core.List.{List, [], ◌∷◌, ◌++◌}
use Prim.Native.Nat.{ℕ, suc}
use lib.IntN.{ℤ}
use Rattle.scales.specs.declared.refusal.Refusal.{Refusal}
use Rattle.scales.specs.declared.path.Step.{Step}
use Rattle.scales.specs.declared.answer.Epoch.{Epoch}
use Rattle.scales.specs.Path.{path, crosses}
use Rattle.blocks.specs.Judging.{judged}
use Rattle.dates.specs.declared.reading.Reading.{Reading}
use Rattle.dates.specs.Readings.{read_of, purpose_of}
use Rattle.opened.specs.Opened.{coefficients_in}
use Rattle.desk.specs.Conversion.{started, between_of, convert_into}
use Rattle.walk.specs.Walk.{step_of, after_step, walk_of, walk_between}
use Rattle.scales.specs.Scales.{named, is_code}
use Rattle.promises.specs.Words.{table_in, start_of}
use Rattle.promises.proofs.Walks.{apart, Course, from_refused, to_refused, table_refused, walking}
use Rattle.promises.proofs.Walks.{course, list_unfit, list_wrong}
use Rattle.scales.specs.declared.scale.Purpose.{Purpose}
use Rattle.desk.specs.Order.{leaps_fit, leaps_right}

-- ---- why, and what is told then
-- a step of a path ends the walk, when so many have been done: those before it are walked, and from
-- the epoch they lead to it comes to none
pub record Stopped (kept : Option Table) (cs : List ℤ) (p : List Step) (already : ℕ) (start : Epoch)
    (done : ℕ) (by : Stepped) : Type 0 where
  pub before : List Step
  pub last : Step
  pub after : List Step
  pub split : p ≡ before ++ last ∷ after
  pub epoch : Epoch
  pub walked : walk_of kept cs before already start ≡ converted_to epoch done
  pub stopped : step_of kept cs last epoch.tick ≡ by

-- and the refusal then told
pub data Ended (kept : Option Table) (cs : List ℤ) (p : List Step) (already : ℕ) (start : Epoch)
    (r : Refusal) : Type 0 where
  -- '6: outside the table', place 'steps done'
  outside_table : r.number ≡ 6 → Stopped kept cs p already start r.place (Err Outside.Table)
      → Ended kept cs p already start r
  -- '4: epoch outside the range .. between steps or at the end', place 'steps done, the one that
  -- led outside counted'
  outside_range : (done : ℕ) → r.number ≡ 4 → r.place ≡ suc done
      → Stopped kept cs p already start done (Err Outside.Range)
      → Ended kept cs p already start r

-- in a conversion
abbrev pub EndedBetween : ℕ → ℕ → List ℕ → ℤ → Refusal → Type 0
EndedBetween from to bytes tick r =
    Ended (table_in bytes) (coefficients_in bytes) (path (named from) (named to)) 0
    (start_of from tick) r

-- why a conversion is refused, and what it is refused with
pub data Because (writes : Purpose) (from to : ℕ) (reading : Reading) (leaps : List ℤ) (bytes : List ℕ) (r : Refusal)
    : Type 0 where
  -- '1: scale code above 6', place '0 from, 1 to'; '1 (from, then to)'
  by_from : is_code (purpose_of reading) from ≡ false → r.number ≡ 1 → r.place ≡ 0
      → Because writes from to reading leaps bytes r
  by_to : is_code writes to ≡ false → r.number ≡ 1 → r.place ≡ 1 → Because writes from to reading leaps bytes r
  -- '8: lent lengths don't fit', and '7 exactly when the list breaks a rule'
  by_length : leaps_fit (purpose_of reading) writes leaps ≡ false → r.number ≡ 8 → r.place ≡ 0
      → Because writes from to reading leaps bytes r
  by_list : leaps_right (purpose_of reading) writes leaps ≡ false → r.number ≡ 7 → r.place ≡ 0
      → Because writes from to reading leaps bytes r
  -- 'then the table 10 to 16 if the path crosses TT to TDB'
  by_table : crosses (named from) (named to) ≡ true → judged bytes ≡ Err r
      → Because writes from to reading leaps bytes r
  -- 'then 2 over both parts, 3 over both parts .., 4'
  by_reading : read_of leaps reading ≡ Err r → Because writes from to reading leaps bytes r
  -- 'then step by step, 6 before 4'
  by_walk : (tick : ℤ) → read_of leaps reading ≡ Ok tick → EndedBetween from to bytes tick r
      → Because writes from to reading leaps bytes r

-- ---- a walk that is refused
module _ (kept : Option Table) (cs : List ℤ) where
  further : (step : Step) (more : List Step) (already : ℕ) (t u : Epoch) (done : ℕ) (by : Stepped)
      → step_of kept cs step t.tick ≡ Ok u
      → Stopped kept cs more (suc already) u done by → Stopped kept cs (step ∷ more) already t done by
  unfolding walk_of
  further step more already t u done by e s =
      record {
        before = step ∷ s.before;
        last = s.last;
        after = s.after;
        split = ap (λ (p : List Step). step ∷ p) s.split;
        epoch = s.epoch;
        walked = rw e s.walked;
        stopped = s.stopped;
      }

  here : (step : Step) (more : List Step) (already : ℕ) (t : Epoch) (by : Stepped) → step_of kept cs step t.tick ≡ by
      → Stopped kept cs (step ∷ more) already t already by
  unfolding walk_of
  here step more already t by e = record { before = []; last = step; after = more; split = refl; epoch = t; walked = refl; stopped = e }

  further_ended : (step : Step) (more : List Step) (already : ℕ) (t u : Epoch) (r : Refusal)
      → step_of kept cs step t.tick ≡ Ok u
      → Ended kept cs more (suc already) u r → Ended kept cs (step ∷ more) already t r
  further_ended step more already t u r e (outside_table n s) = outside_table n (further step more already t u r.place (Err Outside.Table) e s)
  further_ended step more already t u r e (outside_range done n p s) = outside_range done n p (further step more already t u done (Err Outside.Range) e s)

  walk_ended : (p : List Step) (already : ℕ) (t : Epoch) (r : Refusal) → walk_of kept cs p already t ≡ Err r
      → Ended kept cs p already t r
  unfolding walk_of answer_number answer_place
  walk_ended [] already t r e = apart (sym e)
  walk_ended (step ∷ more) already t r e = by (λ u. walk_ended more (suc already) u r) (step_of kept cs step t.tick) refl e
    where
      by : ((u : Epoch) → walk_of kept cs more (suc already) u ≡ Err r → Ended kept cs more (suc already) u r)
          → (stepped : Stepped)
          → step_of kept cs step t.tick ≡ stepped
          → after_step (walk_of kept cs more (suc already)) already stepped ≡ Err r
          → Ended kept cs (step ∷ more) already t r
      by rest (Ok u) s e = further_ended step more already t u r s (rest u e)
      by rest (Err Outside.Table) s e =
          let place : already ≡ r.place = ap answer_place e in
          outside_table (sym (ap answer_number e))
          (subst (λ (done : ℕ). Stopped kept cs (step ∷ more) already t done (Err Outside.Table)) place (here step more already t (Err Outside.Table) s))
      by rest (Err Outside.Range) s e =
          outside_range already (sym (ap answer_number e)) (sym (ap answer_place e)) (here step more already t (Err Outside.Range) s)

-- ---- a conversion that is refused has one of the page's reasons
pub because : (writes : Purpose) (from to : ℕ) (reading : Reading) (leaps : List ℤ) (bytes : List ℕ) (r : Refusal)
    → convert_into writes from to reading leaps bytes ≡ Err r → Because writes from to reading leaps bytes r
unfolding between_of answer_number answer_place
because writes from to reading leaps bytes r e = by (course writes from to reading leaps bytes)
  where
    walked : (read : Read) → read_of leaps reading ≡ read
        → started (walk_between (table_in bytes) (coefficients_in bytes) (named from) (named to)) read ≡ Err r
        → Because writes from to reading leaps bytes r
    walked (Ok tick) q w = by_walk tick q (walk_ended (table_in bytes) (coefficients_in bytes) (path (named from) (named to)) 0 (start_of from tick) r w)
    walked (Err refusal) q w = let same : refusal ≡ r = cc in by_reading (q ∙ ap Err same)

    by : Course writes from to reading leaps bytes (convert_into writes from to reading leaps bytes)
        → Because writes from to reading leaps bytes r
    by (from_refused f is) = let d = sym e ∙ is in by_from f (ap answer_number d) (ap answer_place d)
    by (to_refused t is) = let d = sym e ∙ is in by_to t (ap answer_number d) (ap answer_place d)
    by (list_unfit l is) = let d = sym e ∙ is in by_length l (ap answer_number d) (ap answer_place d)
    by (list_wrong l is) = let d = sym e ∙ is in by_list l (ap answer_number d) (ap answer_place d)
    by (table_refused o q j is) = let d = sym is ∙ e in let same : q ≡ r = cc in by_table o (j ∙ ap Err same)
    by (walking is) = walked (read_of leaps reading) refl (sym is ∙ e)
