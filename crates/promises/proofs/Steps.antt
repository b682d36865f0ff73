-- What holds of each step of a walk, over whatever table has been accepted, beside the laws of
-- `walk`: there and back lands within one tick, it comes to a valid epoch, and only a step over the
-- table looks at it. Assumes nothing.
use Rattle.image.specs.declared.table.Table.{Table}
use Rattle.scales.specs.declared.answer.Outside.TheVariants as Outside
use Rattle.std.specs.Prelude.{Err, None, Ok, Option, Some}
use mathlib.Core.Path.{◌≡◌, refl}
use mathlib.Core.Bool.{true}
use mathlib.Core.List.{List}
use Prim.Native.Nat.{◌≤◌}
use native.Mathlib.Omega.{arith}
use lib.IntN.{ℤ, pos, nat_abs, ◌+ℤ◌, ◌-ℤ◌}
use lib.Signed.{◌≤ℤ◌}
use Rattle.numbers.proofs.Differences.{rep₂, lin}
use Rattle.scales.specs.declared.answer.Epoch.{Epoch}
use Rattle.scales.specs.declared.path.Step.{Step}
use Rattle.scales.specs.Rows.{LineRow, line_row, turned, line_step, over_table, opposite}
use Rattle.scales.proofs.Every.{each_step}
use Rattle.scales.proofs.Reached.{nowhere, same_tick}
use Rattle.linear.proofs.Promises.{Proper, proper, proper_inverse, line_back, turned_twice}
use Rattle.linear.proofs.Promises.{never_table}
use Rattle.ephemeris.specs.Table.{tdb_of, tt_of}
use Rattle.ephemeris.proofs.Promises.{table_there_and_back, back_and_there}
use Rattle.walk.specs.Inner.{Held}
use Rattle.walk.specs.Walk.{to_tdb, to_tt, step_of}
use Rattle.walk.proofs.OneStep.{tdb_reached, tt_reached}

-- back from the way back is the way along
back_back : (row : LineRow) → Proper row.by → (t : ℤ) (u v : Epoch) → line_step (turned row) t ≡ Ok u
    → line_step row u.tick ≡ Ok v → nat_abs (v.tick -ℤ t) ≤ 1
back_back row p t u v there e =
    line_back (turned row) (proper_inverse row.by p) t u there v (rw (turned_twice row) e)

-- ---- and over whatever is kept
near_before : (v t : ℤ) → v ≤ℤ t → t ≤ℤ (v +ℤ pos 1) → nat_abs (v -ℤ t) ≤ 1
near_before = rep₂ _ (λ a b c d. simp lin (omega arith))

near_after : (v t : ℤ) → t ≤ℤ v → v ≤ℤ (t +ℤ pos 1) → nat_abs (v -ℤ t) ≤ 1
near_after = rep₂ _ (λ a b c d. simp lin (omega arith))

module _ (cs : List ℤ) where
  tdb_back : (kept : Option Table) → Held kept cs → (t : ℤ) (u v : Epoch) → to_tdb kept cs t ≡ Ok u
      → to_tt kept cs u.tick ≡ Ok v → nat_abs (v.tick -ℤ t) ≤ 1
  tdb_back None h t u v e f = nowhere e
  tdb_back (Some table) h t u v e f =
      let a = tdb_reached table cs t u e in
      let b = table_there_and_back table cs (h.accepted table refl) t a.inside in
      rw (← same_tick (tt_reached table cs u.tick v f).is, ← same_tick a.is) (near_before (tt_of table cs (tdb_of table cs t)) t b.0 b.1)

  tt_back : (kept : Option Table) → Held kept cs → (t : ℤ) (u v : Epoch) → to_tt kept cs t ≡ Ok u
      → to_tdb kept cs u.tick ≡ Ok v → nat_abs (v.tick -ℤ t) ≤ 1
  tt_back None h t u v e f = nowhere e
  tt_back (Some table) h t u v e f =
      let a = tt_reached table cs t u e in
      let b = back_and_there table cs (h.accepted table refl) t a.covered in
      rw (← same_tick (tdb_reached table cs u.tick v f).is, ← same_tick a.is) (near_after (tdb_of table cs (tt_of table cs t)) t b.0 b.1)

-- ---- each step
module _ (kept : Option Table) (cs : List ℤ) (h : Held kept cs) (t : ℤ) (u : Epoch) where
  -- there and back lands within one tick
  pub step_back : (step : Step) (v : Epoch) → step_of kept cs step t ≡ Ok u
      → step_of kept cs (opposite step) u.tick ≡ Ok v → nat_abs (v.tick -ℤ t) ≤ 1
  step_back = each_step _
      (λ line v e f. line_back (line_row line) (proper line) t u e v f)
      (λ line v e f. back_back (line_row line) (proper line) t u v e f)
      (λ v. tdb_back cs kept h t u v)
      (λ v. tt_back cs kept h t u v)

-- a step that finds itself outside the table is one over it
pub step_outside : (kept : Option Table) (cs : List ℤ) (tick : ℤ) (step : Step)
    → step_of kept cs step tick ≡ (Err Outside.Table)
    → over_table step ≡ true
step_outside kept cs tick = each_step _
    (λ line. never_table (line_row line) tick)
    (λ line. never_table (turned (line_row line)) tick)
    (λ e. refl)
    (λ e. refl)
