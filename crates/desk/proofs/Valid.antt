-- What an accepted conversion has: a tick that 'must lie from -6·10^18 to 6·10^18, ends included',
-- and a right list of leap seconds where it is looked at. Assumes nothing.
use Rattle.blocks.specs.Answers.{Judged}
use Rattle.scales.specs.Answers.{Read, converted_to}
use Rattle.image.specs.declared.table.Table.{Table}
use Rattle.std.specs.Prelude.{Err, None, Ok, Option, Some}
use Rattle.scales.proofs.Reached.{same_epoch, nowhere, same_tick}
use mathlib.Core.Path.{◌≡◌, refl}
use mathlib.Core.Bool.{Bool, true, false, cond, not, ◌&&◌}
use mathlib.Core.List.{List, [], ◌∷◌}
use Prim.Native.Nat.{ℕ, suc}
use native.Mathlib.Omega.{arith}
use lib.Ieee.{Float}
use lib.Ieee.Scale.{finite}
use lib.IntN.{ℤ}
use Rattle.numbers.proofs.Flags as flags
use Rattle.scales.specs.declared.answer.Epoch.{Epoch}
use Rattle.scales.specs.declared.path.Step.{Step}
use Rattle.scales.specs.declared.refusal.Refusal.{Refusal}
use Rattle.scales.specs.declared.scale.Purpose.{Purpose}
use Rattle.scales.specs.Path.{path}
use Rattle.scales.specs.Rows.{LineRow, line_row, turned, line_step}
use Rattle.scales.specs.Scales.{named}
use Rattle.scales.specs.Tick.{is_valid}
use Rattle.scales.proofs.Every.{each_step}
use Rattle.linear.proofs.Promises.{took}
use Rattle.utc.specs.Days.{is_reading, tai_of}
use Rattle.utc.specs.Leaps.{is_list_right}
use Rattle.utc.specs.Readings.{utc_refused, utc_read}
use Rattle.ephemeris.proofs.Promises.{tt_valid}
use Rattle.blocks.specs.Judging.{judged}
use Rattle.blocks.proofs.Accepting.{accepted_of}
use Rattle.opened.specs.Opened.{coefficients_in, Lent}
use Rattle.opened.proofs.Opening.{coefficients_are}
use Rattle.dates.specs.declared.reading.Reading.{Reading}
use Rattle.dates.specs.declared.reading.Reading.TheVariants.{TwoPart, SinceJ2000, Ticks, Utc}
use Rattle.dates.specs.Doubles.{beyond}
use Rattle.dates.specs.Readings.{most_days, most_seconds, refused_if, in_range, read_of_parts}
use Rattle.dates.specs.Readings.{read_of_seconds, read_of, purpose_of}
use Rattle.dates.specs.Ticks.{tick_of_date, tick_of_seconds}
use Rattle.walk.specs.Inner.{Held}
use Rattle.walk.specs.Walk.{to_tdb, to_tt, step_of, walk_of}
use Rattle.walk.proofs.Holding.{nothing_held, accepted_held}
use Rattle.walk.proofs.OneStep.{tdb_reached, tt_reached}
use Rattle.walk.proofs.Steps.{not_both, stepping}
use Rattle.desk.specs.Order.{passes, settled, uses_leaps, leaps_fit, leaps_right}
use Rattle.desk.specs.Conversion.{between_of, held_by, convert_read, convert_into}
use Rattle.desk.proofs.Asking.{settled_lent}
use Rattle.desk.proofs.LentList.{right_used}
use Rattle.desk.proofs.Steps.{accepted_settled}

-- ---- a tick that is read is valid
-- a refusal is no tick
pub unread : {A : Type 0} {refusal : Refusal} {tick : ℤ} → Err refusal ≡ Ok tick → A
unread e = let z : ◌≡◌ {A = ℕ} 0 1 = cc in let no : ⊥ = omega arith in absurd no

module _ (t : ℤ) where
  -- a test that would have refused was passed
  passed : (test : Bool) (number place : ℕ) (otherwise : Read) → refused_if test number place otherwise ≡ Ok t
      → otherwise ≡ Ok t
  passed true number place otherwise e = unread e
  passed false number place otherwise e = e

  in_range_valid : (tick : ℤ) → in_range tick ≡ Ok t → is_valid t ≡ true
  unfolding in_range
  in_range_valid tick e = by (is_valid tick) refl e
    where
      by : (valid : Bool) → is_valid tick ≡ valid → refused_if (not valid) 4 0 (Ok tick) ≡ Ok t → is_valid t
          ≡ true
      by true v e = let same : tick ≡ t = cc in rw (← same) v
      by false v e = unread e

  parts_valid : (first second : Float) → read_of_parts first second ≡ Ok t → is_valid t ≡ true
  unfolding read_of_parts
  parts_valid first second e =
      let in4 = in_range (tick_of_date first second) in
      let in31 = refused_if (beyond most_days second) 3 1 in4 in
      let in30 = refused_if (beyond most_days first) 3 0 in31 in
      let in21 = refused_if (not (finite second)) 2 1 in30 in
      in_range_valid (tick_of_date first second)
      (passed (beyond most_days second) 3 1 in4 (passed (beyond most_days first) 3 0 in31
      (passed (not (finite second)) 2 1 in30 (passed (not (finite first)) 2 0 in21 e))))

  seconds_valid : (seconds : Float) → read_of_seconds seconds ≡ Ok t → is_valid t ≡ true
  unfolding read_of_seconds
  seconds_valid seconds e =
      let in4 = in_range (tick_of_seconds seconds) in
      let in30 = refused_if (beyond most_seconds seconds) 3 0 in4 in
      in_range_valid (tick_of_seconds seconds) (passed (beyond most_seconds seconds) 3 0 in4 (passed (not (finite seconds)) 2 0 in30 e))

  utc_valid : (leaps : List ℤ) (day ticks : ℤ) → utc_read leaps day ticks ≡ Ok t → is_valid t ≡ true
  unfolding utc_read
  utc_valid leaps day ticks e = by (is_reading leaps day ticks) (is_valid (tai_of leaps day ticks)) refl e
    where
      by : (right valid : Bool) → is_valid (tai_of leaps day ticks) ≡ valid
          → cond right (cond valid (Ok (tai_of leaps day ticks)) (utc_refused 4)) (utc_refused 5) ≡ Ok t
          → is_valid t ≡ true
      by true true v e = let same : tai_of leaps day ticks ≡ t = cc in rw (← same) v
      by true false v e = unread e
      by false valid v e = unread e

  pub read_valid : (leaps : List ℤ) (reading : Reading) → read_of leaps reading ≡ Ok t → is_valid t ≡ true
  unfolding read_of
  read_valid leaps (TwoPart first second) e = parts_valid first second e
  read_valid leaps (SinceJ2000 seconds) e = seconds_valid seconds e
  read_valid leaps (Ticks tick) e = in_range_valid tick e
  read_valid leaps (Utc day ticks) e = utc_valid leaps day ticks e

-- ---- a step comes to a valid epoch
module _ (cs : List ℤ) (t : ℤ) (u : Epoch) where
  line_valid : (row : LineRow) → line_step row t ≡ Ok u → is_valid u.tick ≡ true
  line_valid row e = let a = took row t u e in rw (← same_tick a.is) a.to

  tdb_in_range : (kept : Option Table) → to_tdb kept cs t ≡ Ok u → is_valid u.tick ≡ true
  tdb_in_range None e = nowhere e
  tdb_in_range (Some table) e = let a = tdb_reached table cs t u e in rw (← same_tick a.is) a.valid

  tt_in_range : (kept : Option Table) → Held kept cs → to_tt kept cs t ≡ Ok u → is_valid u.tick ≡ true
  tt_in_range None h e = nowhere e
  tt_in_range (Some table) h e = rw (← same_tick (tt_reached table cs t u e).is) (tt_valid table cs (h.accepted table refl) t)

  step_valid : (kept : Option Table) → Held kept cs → (step : Step) → step_of kept cs step t ≡ Ok u
      → is_valid u.tick ≡ true
  step_valid kept h = each_step _
      (λ line. line_valid (line_row line))
      (λ line. line_valid (turned (line_row line)))
      (tdb_in_range kept)
      (tt_in_range kept h)

-- and so does a walk from one
walk_valid : (kept : Option Table) (cs : List ℤ) → Held kept cs → (p : List Step) (done : ℕ) (start : Epoch)
    → is_valid start.tick ≡ true → {epoch : Epoch} {n : ℕ} → walk_of kept cs p done start ≡ converted_to epoch n
    → is_valid epoch.tick ≡ true
unfolding walk_of
walk_valid kept cs h [] done start v {epoch} e = let same : start ≡ epoch = same_epoch e in rw (← same) v
walk_valid kept cs h (step ∷ more) done start v {epoch} {n} e =
    let x = stepping epoch n (walk_of kept cs more (suc done)) done (step_of kept cs step start.tick) e in
    walk_valid kept cs h more (suc done) x.at (step_valid cs start.tick x.at kept h step x.reached) x.onwards

-- ---- a conversion, over coefficients that the judged table has
pub held_by_lem : (table : Judged) (cs : List ℤ) → Lent table cs → Held (held_by table) cs
held_by_lem (Ok table) cs lent = accepted_held table cs (lent.accepted table refl)
held_by_lem (Err refusal) cs lent = nothing_held cs

module _ (reads writes : Purpose) (from to : ℕ) (fits right : Bool) (read : Read) (table : Judged) (cs : List ℤ)
    {epoch : Epoch} {n : ℕ}
    (accepted : convert_read reads writes from to fits right read table cs ≡ converted_to epoch n) where
  -- all was settled, and what was read was walked
  parts : (settled reads writes from to fits right table ≡ passes)
      × (between_of (named from) (named to) read (held_by table) cs ≡ converted_to epoch n)
  unfolding convert_read
  parts =
      accepted_settled (settled reads writes from to fits right table) (between_of (named from) (named to) read (held_by table) cs) accepted

  -- the lent lists fit and are right
  pub conversion_lent : (fits && right) ≡ true
  conversion_lent = settled_lent reads writes from to fits right table parts.0

  pub conversion_valid : Lent table cs → ((tick : ℤ) → read ≡ Ok tick → is_valid tick ≡ true)
      → is_valid epoch.tick ≡ true
  unfolding between_of
  conversion_valid lent valid = by read valid parts.1
    where
      by : (read : Read) → ((tick : ℤ) → read ≡ Ok tick → is_valid tick ≡ true)
          → between_of (named from) (named to) read (held_by table) cs ≡ converted_to epoch n
          → is_valid epoch.tick ≡ true
      by (Ok tick) v e =
          walk_valid (held_by table) cs (held_by_lem table cs lent) (path (named from) (named to)) 0 (record { scale = named from; tick = tick })
          (v tick refl) e
      by (Err refusal) v e = not_both refl e

-- ---- and of a reading, over bytes
pub bytes_lent : (bytes : List ℕ) → Lent (judged bytes) (coefficients_in bytes)
bytes_lent bytes = record { accepted = λ table e. rw (coefficients_are bytes table e) (accepted_of bytes table e) }

module _ (writes : Purpose) (from to : ℕ) (reading : Reading) (leaps : List ℤ) (bytes : List ℕ) {epoch : Epoch} {n : ℕ}
    (accepted : convert_into writes from to reading leaps bytes ≡ converted_to epoch n) where
  abbrev reads : Purpose
  reads = purpose_of reading

  abbrev fits : Bool
  fits = leaps_fit reads writes leaps

  abbrev right : Bool
  right = leaps_right reads writes leaps

  pub into_valid : is_valid epoch.tick ≡ true
  unfolding convert_into
  into_valid =
      conversion_valid reads writes from to fits right (read_of leaps reading) (judged bytes) (coefficients_in bytes) accepted
      (bytes_lent bytes) (λ tick e. read_valid tick leaps reading e)

  pub into_right : uses_leaps (purpose_of reading) writes ≡ true → is_list_right leaps ≡ true
  unfolding convert_into
  into_right uses =
      let lent = conversion_lent reads writes from to fits right (read_of leaps reading) (judged bytes) (coefficients_in bytes) accepted in
      right_used reads writes leaps (flags.both fits right lent).1 uses
