-- Demand 3: 'the earlier of two epochs never comes out later', for whole conversions: from any
-- scale to any other, over any table bytes. By induction over the path, from the law of one step.
-- Assumes nothing.
use Rattle.image.specs.declared.table.Table.{Table}
use Rattle.scales.specs.Answers.{converted_to, answer_number, answer_tick, answer_steps, read_tick}
use Rattle.std.specs.Prelude.{Option}
use mathlib.Core.Path.{◌≡◌}
use mathlib.Core.List.{List, [], ◌∷◌}
use Prim.Native.Nat.{ℕ, suc}
use lib.IntN.{ℤ}
use lib.Signed.{◌≤ℤ◌}
use Rattle.scales.specs.declared.answer.Epoch.{Epoch}
use Rattle.scales.specs.declared.path.Step.{Step}
use Rattle.scales.specs.Path.{path}
use Rattle.dates.specs.declared.reading.Reading.{Reading}
use Rattle.dates.specs.declared.reading.Reading.TheVariants.{Ticks}
use Rattle.dates.specs.Readings.{read_of}
use Rattle.opened.specs.Opened.{coefficients_in}
use Rattle.scales.specs.declared.scale.Purpose.{Purpose}
use Rattle.desk.specs.Conversion.{convert_into, convert_of}
use Rattle.walk.specs.Inner.{Held}
use Rattle.walk.specs.Walk.{step_of, walk_of}
use Rattle.walk.proofs.OneStep.{step_order}
use Rattle.walk.proofs.Steps.{stepping}
use Rattle.scales.specs.Scales.{named}
use Rattle.promises.specs.Words.{table_in, start_of}
use Rattle.promises.proofs.Exactly.{epoch_of}
use Rattle.promises.proofs.Walks.{came_to, bytes_held}
use Rattle.promises.proofs.Answers.{walked_from, reading_accepted, ticks_read}
use Rattle.scales.specs.declared.scale.Purpose.TheVariants as P

-- ---- along a walk
module _ (kept : Option Table) (cs : List ℤ) (h : Held kept cs) (e f : Epoch) (m n : ℕ) where
  walk_order : (p : List Step) (done : ℕ) (t u : Epoch) → walk_of kept cs p done t ≡ converted_to e m
      → walk_of kept cs p done u ≡ converted_to f n → t.tick ≤ℤ u.tick → e.tick ≤ℤ f.tick
  unfolding walk_of
  walk_order [] done t u a b l = rw (← came_to e m kept cs done t a, ← came_to f n kept cs done u b) l
  walk_order (step ∷ more) done t u a b l =
      let x = stepping e m (walk_of kept cs more (suc done)) done (step_of kept cs step t.tick) a in
      let y = stepping f n (walk_of kept cs more (suc done)) done (step_of kept cs step u.tick) b in
      let ordered = step_order kept cs h step t.tick u.tick x.at y.at x.reached y.reached l in
      walk_order more (suc done) x.at y.at x.onwards y.onwards ordered

-- ---- Of two readings of the first scale, converted by the same codes over the same list and table
-- bytes and both accepted, the one whose tick is the earlier never comes out later, whatever the
-- second code is read for
pub into_in_order : (writes : Purpose) (from to : ℕ) (leaps : List ℤ) (bytes : List ℕ) (early late : Reading)
    → answer_number (convert_into writes from to early leaps bytes) ≡ 0
    → answer_number (convert_into writes from to late leaps bytes) ≡ 0
    → read_tick (read_of leaps early) ≤ℤ read_tick (read_of leaps late)
    → answer_tick (convert_into writes from to early leaps bytes)
    ≤ℤ answer_tick (convert_into writes from to late leaps bytes)
into_in_order writes from to leaps bytes early late a b l =
    let one = convert_into writes from to early leaps bytes in
    let other = convert_into writes from to late leaps bytes in
    walk_order (table_in bytes) (coefficients_in bytes) (bytes_held bytes) (epoch_of one) (epoch_of other) (answer_steps one) (answer_steps other)
    (path (named from) (named to)) 0 (start_of from (read_tick (read_of leaps early))) (start_of from (read_tick (read_of leaps late)))
    (walked_from writes from to early leaps bytes a) (walked_from writes from to late leaps bytes b) l

-- so into ticks
pub readings_in_order : (from to : ℕ) (leaps : List ℤ) (bytes : List ℕ) (early late : Reading)
    → answer_number (convert_of from to early leaps bytes) ≡ 0 → answer_number (convert_of from to late leaps bytes) ≡ 0
    → read_tick (read_of leaps early) ≤ℤ read_tick (read_of leaps late)
    → answer_tick (convert_of from to early leaps bytes) ≤ℤ answer_tick (convert_of from to late leaps bytes)
readings_in_order = into_in_order P.Reading

-- so of two ticks t and u
pub in_order : (from to : ℕ) (bytes : List ℕ) (t u : ℤ) → answer_number (convert_of from to (Ticks t) [] bytes) ≡ 0
    → answer_number (convert_of from to (Ticks u) [] bytes) ≡ 0 → t ≤ℤ u
    → answer_tick (convert_of from to (Ticks t) [] bytes) ≤ℤ answer_tick (convert_of from to (Ticks u) [] bytes)
unfolding read_of
in_order from to bytes t u a b l =
    let early = ticks_read t (reading_accepted P.Reading from to (Ticks t) [] bytes a) in
    let late = ticks_read u (reading_accepted P.Reading from to (Ticks u) [] bytes b) in
    readings_in_order from to [] bytes (Ticks t) (Ticks u) a b (rw (early, late) l)
