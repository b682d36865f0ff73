-- What holds of each step of a walk, over whatever table has been accepted, by cases on its row: it
-- ends in its scale, the earlier never comes out later, and between two ticks from which it is
-- taken there is none from which it is not. Assumes nothing.
use Rattle.scales.specs.Answers.{Stepped, kept_in}
use Rattle.scales.specs.declared.answer.Outside.TheVariants as Outside
use Rattle.std.specs.Prelude.{Err, None, Ok, Option, Some}
use mathlib.Core.Path.{◌≡◌, refl, sym}
use mathlib.Core.Bool.{Bool, true, false, cond, ◌&&◌}
use mathlib.Core.List.{List}
use lib.IntN.{ℤ, pos, neg_ℤ}
use lib.Signed.{◌≤ℤ◌, le_z}
use Rattle.numbers.proofs.Flags.{both}
use Rattle.numbers.proofs.Machine.{yes_le, le_yes}
use Rattle.numbers.proofs.Order.{≤_trans}
use Rattle.scales.specs.declared.answer.Epoch.{Epoch}
use Rattle.scales.specs.declared.path.Edge.TheVariants as Edge
use Rattle.scales.specs.declared.path.Step.{Step}
use Rattle.scales.specs.declared.path.Step.TheVariants.{Along, Back}
use Rattle.scales.specs.declared.scale.Scale.TheVariants.{Tt, Tdb}
use Rattle.scales.specs.Linear.{nearest_tick}
use Rattle.scales.specs.Rows.{LineRow, line_row, line_step, StepRow, linear, table, table_back}
use Rattle.scales.specs.Rows.{row_of, end}
use Rattle.scales.specs.Tick.{furthest, is_valid}
use Rattle.scales.proofs.Reached.{nowhere, same_tick, same_scale, kept_reached, valid_kept}
use Rattle.linear.proofs.Promises.{Proper, proper, proper_inverse, nearest_in_order, took}
use Rattle.linear.proofs.Promises.{line_taken, line_in_order}
use Rattle.image.specs.declared.table.Table.{Table}
use Rattle.ephemeris.specs.Steps.{tdb_step, tt_step}
use Rattle.ephemeris.specs.Table.{S, last_place, tick_at, tdb_at, is_inside, is_covered, tdb_of}
use Rattle.ephemeris.specs.Table.{tt_of}
use Rattle.ephemeris.proofs.Promises.{order, order_back}
use Rattle.walk.specs.Inner.{Held}
use Rattle.walk.specs.Walk.{to_tdb, to_tt, step_by, step_of}

-- a step that reaches some epoch
abbrev pub Comes : Stepped → Type 0
Comes stepped = (epoch : Epoch) × (stepped ≡ Ok epoch)

-- ---- what lies between two ends is an interval
within : (a b t u v : ℤ) → le_z a t && le_z t b ≡ true → le_z a v && le_z v b ≡ true → t ≤ℤ u → u ≤ℤ v
    → le_z a u && le_z u b ≡ true
within a b t u v early late l m =
    let low = yes_le a u (≤_trans a t u (le_yes a t (both (le_z a t) (le_z t b) early).0) l) in
    let high = yes_le u b (≤_trans u v b m (le_yes v b (both (le_z a v) (le_z v b) late).1)) in
    rw (low, high)

module _ (t u v : ℤ) (l : t ≤ℤ u) (m : u ≤ℤ v) where
  pub valid_within : is_valid t ≡ true → is_valid v ≡ true → is_valid u ≡ true
  unfolding is_valid
  valid_within early late = within (neg_ℤ (pos furthest)) (pos furthest) t u v early late l m

  inside_within : (T : Table) → is_inside T t ≡ true → is_inside T v ≡ true → is_inside T u ≡ true
  unfolding is_inside
  inside_within T early late = within (S T) (tick_at T (last_place T)) t u v early late l m

  covered_within : (T : Table) (cs : List ℤ) → is_covered T cs t ≡ true → is_covered T cs v ≡ true
      → is_covered T cs u ≡ true
  unfolding is_covered
  covered_within T cs early late = within (tdb_at T cs 0) (tdb_at T cs (last_place T)) t u v early late l m

-- ---- a linear step
line_within : (row : LineRow) → Proper row.by → (t u v : ℤ) (x w : Epoch) → line_step row t ≡ Ok x
    → line_step row v ≡ Ok w → t ≤ℤ u → u ≤ℤ v → Comes (line_step row u)
line_within row p t u v x w e f l m =
    let a = took row t x e in
    let b = took row v w f in
    let near = nearest_tick row.by in
    let to = valid_within (near t) (near u) (near v) (nearest_in_order row.by p t u l) (nearest_in_order row.by p u v m) a.to b.to in
    (_, line_taken row u (valid_within t u v l m a.from b.from) to)

-- ---- a step over the table that reaches an epoch
module _ (T : Table) (cs : List ℤ) (t : ℤ) where
  pub record TdbReached (u : Epoch) : Type 0 where
    pub inside : is_inside T t ≡ true
    pub valid : is_valid (tdb_of T cs t) ≡ true
    pub is : record { scale = Tdb; tick = tdb_of T cs t } ≡ u

  pub tdb_reached : (u : Epoch) → tdb_step T cs t ≡ Ok u → TdbReached u
  unfolding tdb_step
  tdb_reached u e = by (is_inside T t) refl e
    where
      by : (inside : Bool) → is_inside T t ≡ inside
          → cond inside (kept_in Tdb (tdb_of T cs t)) (Err Outside.Table) ≡ Ok u
          → TdbReached u
      by true i e = let k = kept_reached Tdb (tdb_of T cs t) u e in record { inside = i; valid = k.0; is = k.1 }
      by false i e = nowhere e

  pub tdb_comes : is_inside T t ≡ true → is_valid (tdb_of T cs t) ≡ true → Comes (tdb_step T cs t)
  unfolding tdb_step
  tdb_comes inside valid =
      (record { scale = Tdb; tick = tdb_of T cs t }, rw inside (valid_kept Tdb (tdb_of T cs t) valid))

  pub record TtReached (u : Epoch) : Type 0 where
    pub covered : is_covered T cs t ≡ true
    pub is : record { scale = Tt; tick = tt_of T cs t } ≡ u

  pub tt_reached : (u : Epoch) → tt_step T cs t ≡ Ok u → TtReached u
  unfolding tt_step
  tt_reached u e = by (is_covered T cs t) refl e
    where
      by : (covered : Bool) → is_covered T cs t ≡ covered
          → cond covered (Ok (record { scale = Tt; tick = tt_of T cs t })) (Err Outside.Table) ≡ Ok u → TtReached u
      by true c e = record { covered = c; is = cc }
      by false c e = nowhere e

  pub tt_comes : is_covered T cs t ≡ true → Comes (tt_step T cs t)
  unfolding tt_step
  tt_comes covered = (record { scale = Tt; tick = tt_of T cs t }, rw covered)

-- ---- and over whatever is kept
module _ (cs : List ℤ) where
  tdb_ends : (kept : Option Table) (t : ℤ) (u : Epoch) → to_tdb kept cs t ≡ Ok u → u.scale ≡ Tdb
  tdb_ends None t u e = nowhere e
  tdb_ends (Some T) t u e = sym (same_scale (tdb_reached T cs t u e).is)

  tt_ends : (kept : Option Table) (t : ℤ) (u : Epoch) → to_tt kept cs t ≡ Ok u → u.scale ≡ Tt
  tt_ends None t u e = nowhere e
  tt_ends (Some T) t u e = sym (same_scale (tt_reached T cs t u e).is)

  tdb_order : (kept : Option Table) → Held kept cs → (t v : ℤ) (u w : Epoch) → to_tdb kept cs t ≡ Ok u
      → to_tdb kept cs v ≡ Ok w → t ≤ℤ v → u.tick ≤ℤ w.tick
  tdb_order None h t v u w e f l = nowhere e
  tdb_order (Some T) h t v u w e f l =
      let a = tdb_reached T cs t u e in
      let b = tdb_reached T cs v w f in
      rw (← same_tick a.is, ← same_tick b.is) (order T cs (h.accepted T refl) t v a.inside b.inside l)

  tdb_within : (kept : Option Table) → Held kept cs → (t u v : ℤ) (x w : Epoch) → to_tdb kept cs t ≡ Ok x
      → to_tdb kept cs v ≡ Ok w → t ≤ℤ u → u ≤ℤ v → Comes (to_tdb kept cs u)
  tdb_within None h t u v x w e f l m = nowhere e
  tdb_within (Some T) h t u v x w e f l m =
      let a = tdb_reached T cs t x e in
      let b = tdb_reached T cs v w f in
      let inside = inside_within t u v l m T a.inside b.inside in
      let low = order T cs (h.accepted T refl) t u a.inside inside l in
      let high = order T cs (h.accepted T refl) u v inside b.inside m in
      tdb_comes T cs u inside (valid_within (tdb_of T cs t) (tdb_of T cs u) (tdb_of T cs v) low high a.valid b.valid)

  tt_order : (kept : Option Table) (t v : ℤ) (u w : Epoch) → to_tt kept cs t ≡ Ok u
      → to_tt kept cs v ≡ Ok w → t ≤ℤ v → u.tick ≤ℤ w.tick
  tt_order None t v u w e f l = nowhere e
  tt_order (Some T) t v u w e f l =
      rw (← same_tick (tt_reached T cs t u e).is, ← same_tick (tt_reached T cs v w f).is) (order_back T cs t v l)

  tt_within : (kept : Option Table) (t u v : ℤ) (x w : Epoch) → to_tt kept cs t ≡ Ok x → to_tt kept cs v ≡ Ok w
      → t ≤ℤ u
      → u ≤ℤ v → Comes (to_tt kept cs u)
  tt_within None t u v x w e f l m = nowhere e
  tt_within (Some T) t u v x w e f l m =
      tt_comes T cs u (covered_within t u v l m T cs (tt_reached T cs t x e).covered (tt_reached T cs v w f).covered)

-- ---- each step, by its row
-- what makes a row a step: of a linear one, that its fraction is one
abbrev pub ProperRow : StepRow → Type 0
ProperRow (linear row) = Proper row.by
ProperRow table = Unit {0}
ProperRow table_back = Unit {0}

proper_row : (step : Step) → ProperRow (row_of step)
proper_row (Along (Edge.Linear line)) = proper line
proper_row (Back (Edge.Linear line)) = proper_inverse (line_row line).by (proper line)
proper_row (Along Edge.Table) = tt
proper_row (Back Edge.Table) = tt

module _ (kept : Option Table) (cs : List ℤ) where
  -- a step ends in its scale
  pub step_ends : (step : Step) (t : ℤ) (u : Epoch) → step_of kept cs step t ≡ Ok u → u.scale ≡ end step
  step_ends (Along (Edge.Linear line)) t u e = sym (same_scale (took _ t u e).is)
  step_ends (Back (Edge.Linear line)) t u e = sym (same_scale (took _ t u e).is)
  step_ends (Along Edge.Table) t u e = tdb_ends cs kept t u e
  step_ends (Back Edge.Table) t u e = tt_ends cs kept t u e

  module _ (h : Held kept cs) where
    row_order : (row : StepRow) → ProperRow row → (t v : ℤ) (u w : Epoch) → step_by kept cs row t ≡ Ok u
        → step_by kept cs row v ≡ Ok w → t ≤ℤ v → u.tick ≤ℤ w.tick
    row_order (linear row) p t v u w e f l = line_in_order row p t u e v w f l
    row_order table p t v u w e f l = tdb_order cs kept h t v u w e f l
    row_order table_back p t v u w e f l = tt_order cs kept t v u w e f l

    row_within : (row : StepRow) → ProperRow row → (t u v : ℤ) (x w : Epoch) → step_by kept cs row t ≡ Ok x
        → step_by kept cs row v ≡ Ok w → t ≤ℤ u → u ≤ℤ v → Comes (step_by kept cs row u)
    row_within (linear row) p t u v x w e f l m = line_within row p t u v x w e f l m
    row_within table p t u v x w e f l m = tdb_within cs kept h t u v x w e f l m
    row_within table_back p t u v x w e f l m = tt_within cs kept t u v x w e f l m

    -- the earlier never comes out later
    pub step_order : (step : Step) (t v : ℤ) (u w : Epoch) → step_of kept cs step t ≡ Ok u
        → step_of kept cs step v ≡ Ok w → t ≤ℤ v → u.tick ≤ℤ w.tick
    step_order step = row_order (row_of step) (proper_row step)

    -- between two ticks from which a step is taken it is taken
    pub step_within : (step : Step) (t u v : ℤ) (x w : Epoch) → step_of kept cs step t ≡ Ok x
        → step_of kept cs step v ≡ Ok w → t ≤ℤ u → u ≤ℤ v → Comes (step_of kept cs step u)
    step_within step = row_within (row_of step) (proper_row step)
