-- The order of refusals in the code's steps: what is asked is what is settled before the table is
-- looked at; a conversion by what is asked and what was read is the rule's. Assumes nothing.
use Rattle.scales.specs.Answers.{Read, Answer}
use Rattle.blocks.specs.Answers.{Judged}
use Rattle.image.specs.declared.table.Table.{Table}
use Rattle.std.specs.Prelude.{Err, None, Ok, Option, Result}
use mathlib.Core.Path.{◌≡◌, refl, sym, ◌∙◌, ap}
use mathlib.Core.Bool.{Bool, true, false, cond, ◌&&◌}
use mathlib.Core.List.{List, [], ◌∷◌, ◌++◌}
use Prim.Native.Nat.{ℕ}
use native.Mathlib.Omega.{arith}
use lib.IntN.{ℤ}
use Rattle.numbers.proofs.Flags.{never}
use Rattle.scales.specs.declared.refusal.Refusal.{Refusal}
use Rattle.scales.specs.declared.scale.Purpose.{Purpose}
use Rattle.scales.specs.declared.scale.Scale.{Scale}
use Rattle.scales.specs.Path.{path, crosses}
use Rattle.scales.specs.Scales.{is_code, named, scale_of}
use Rattle.blocks.specs.Judging.{judged}
use Rattle.dates.specs.declared.reading.Reading.{Reading}
use Rattle.dates.specs.Readings.{in_range, read_of, purpose_of}
use Rattle.walk.specs.Walk.{walk_between}
use Rattle.walk.proofs.Unseen.{walk_unseen}
use Rattle.desk.specs.declared.asked.Asked.{Asked}
use Rattle.desk.specs.declared.asked.Asked.TheVariants as A
use Rattle.desk.specs.Order.{Check, passes, refuses, unless, first_of, before_table, of_table}
use Rattle.desk.specs.Order.{if_crossed, settled, leaps_fit, leaps_right}
use Rattle.desk.specs.Conversion.{answering, started, between_of, held_by, convert_read}
use Rattle.desk.specs.Conversion.{convert_judged, convert_into}
use Rattle.opened.specs.Opened.{coefficients_in}
use Rattle.desk.specs.Inner.{asked_by, asked_of, lent_checks, convert_asked, asked_over}

-- ---- a code and its scale
module _ (purpose : Purpose) (code place : ℕ) where
  code_refused : (refusal : Refusal) → scale_of purpose code place ≡ Err refusal
      → (is_code purpose code ≡ false) × (refusal ≡ record { number = 1; place = place })
  code_refused refusal e = by (is_code purpose code) e
    where
      by : (t : Bool)
          → cond {A = Result Scale Refusal} t (Ok (named code)) (Err (record { number = 1; place = place }))
          ≡ Err refusal
          → (t ≡ false) × (refusal ≡ record { number = 1; place = place })
      by true e = let z : ◌≡◌ {A = ℕ} 0 1 = cc in let no : ⊥ = omega arith in absurd no
      by false e = (refl, cc)

  code_named : (scale : Scale) → scale_of purpose code place ≡ Ok scale
      → (is_code purpose code ≡ true) × (scale ≡ named code)
  code_named scale e = by (is_code purpose code) e
    where
      by : (t : Bool)
          → cond {A = Result Scale Refusal} t (Ok (named code)) (Err (record { number = 1; place = place })) ≡ Ok scale
          → (t ≡ true) × (scale ≡ named code)
      by true e = (refl, cc)
      by false e = let z : ◌≡◌ {A = ℕ} 0 1 = cc in let no : ⊥ = omega arith in absurd no

-- ---- what is asked, code by code
only : (check : Check) → check ≡ first_of (check ∷ [])
only passes = refl
only (refuses refusal) = refl

module _ (reads writes : Purpose) (from to : ℕ) (fits right : Bool) where
  pub from_refused : (refusal : Refusal) → scale_of reads from 0 ≡ Err refusal
      → Err refusal ≡ asked_of reads writes from to fits right
  unfolding asked_of
  from_refused refusal e =
      let c = code_refused reads from 0 refusal e in
      rw c.0 (ap Err c.1)

  module _ (start : Scale) (begins : scale_of reads from 0 ≡ Ok start) where
    pub to_refused : (refusal : Refusal) → scale_of writes to 1 ≡ Err refusal
        → Err refusal ≡ asked_of reads writes from to fits right
    unfolding asked_of
    to_refused refusal e =
        let c = code_refused writes to 1 refusal e in
        rw ((code_named reads from 0 start begins).0, c.0) (ap Err c.1)

    pub both_named : (end : Scale) → scale_of writes to 1 ≡ Ok end
        → asked_by (lent_checks fits right) start end ≡ asked_of reads writes from to fits right
    unfolding asked_of
    both_named end e =
        let f = code_named reads from 0 start begins in
        let t = code_named writes to 1 end e in
        rw (f.0, t.0, f.1, t.1)

-- ---- what is settled is what is asked, and then the table
abbrev pub settled_by : Result Asked Refusal → Judged → Check
settled_by (Ok (A.Plain start end)) table = passes
settled_by (Ok (A.Crossing start end)) table = of_table table
settled_by (Err refusal) table = refuses refusal

-- the scales asked for are the codes', and a plain path does not cross
abbrev pub Between : Scale → Scale → Result Asked Refusal → Type 0
Between from to (Ok (A.Plain start end)) = (start ≡ from) × (end ≡ to) × (crosses from to ≡ false)
Between from to (Ok (A.Crossing start end)) = (start ≡ from) × (end ≡ to)
Between from to (Err refusal) = Unit {0}

pub record Asks (reads writes : Purpose) (from to : ℕ) (fits right : Bool) (asked : Result Asked Refusal) : Type 0 where
  pub settles : (table : Judged) → settled reads writes from to fits right table ≡ settled_by asked table
  pub between : Between (named from) (named to) asked

-- the first of two lists that refuses
abbrev after : Check → Check → Check
after passes check = check
after (refuses refusal) check = refuses refusal

first_of_both : (checks more : List Check) → first_of (checks ++ more) ≡ after (first_of checks) (first_of more)
first_of_both [] more = refl
first_of_both (passes ∷ rest) more = first_of_both rest more
first_of_both (refuses refusal ∷ rest) more = refl

pub asks : (reads writes : Purpose) (from to : ℕ) (fits right : Bool)
    → Asks reads writes from to fits right (asked_of reads writes from to fits right)
unfolding asked_of settled
asks reads writes from to fits right =
    by (first_of (before_table reads writes from to fits right)) refl (crosses (named from) (named to)) refl
  where
    parts : (table : Judged) → settled reads writes from to fits right table
        ≡ after (first_of (before_table reads writes from to fits right))
        (first_of (if_crossed from to (of_table table) ∷ []))
    parts table = first_of_both (before_table reads writes from to fits right) (if_crossed from to (of_table table) ∷ [])

    by : (check : Check) → first_of (before_table reads writes from to fits right) ≡ check → (over : Bool)
        → crosses (named from) (named to) ≡ over
        → Asks reads writes from to fits right (asked_by check (named from) (named to))
    by passes e true o = rw o (record {
      settles = λ table. parts table ∙ rw (e, o) (sym (only (of_table table)));
      between = (refl, refl);
    })
    by passes e false o = rw o (record { settles = λ table. parts table ∙ rw (e, o); between = (refl, refl, o) })
    by (refuses refusal) e over o = record { settles = λ table. parts table ∙ rw e; between = tt }

-- lent lists that do not fit, or are not right, are a refusal, 8 or 7 if no other
unlent : (reads writes : Purpose) (from to : ℕ) (fits right : Bool) → (fits && right) ≡ false
    → (refusal : Refusal) × (asked_of reads writes from to fits right ≡ Err refusal)
unfolding asked_of
unlent reads writes from to fits right e = by (is_code reads from) (is_code writes to) fits right e
  where
    by : (p q f r : Bool) → (f && r) ≡ false → (refusal : Refusal)
        × (asked_by (first_of (unless p 1 0 ∷ unless q 1 1 ∷ unless f 8 0 ∷ unless r 7 0 ∷ [])) (named from) (named to)
        ≡ Err refusal)
    by true true false r e = (record { number = 8; place = 0 }, refl)
    by true true true false e = (record { number = 7; place = 0 }, refl)
    by true true true true e = never (sym e)
    by true false f r e = (record { number = 1; place = 1 }, refl)
    by false q f r e = (record { number = 1; place = 0 }, refl)

-- a path is no refusal
pub sound : (asked : Asked) (refusal : Refusal) → Ok asked ≡ Err refusal → ⊥
sound asked refusal e = let z : ◌≡◌ {A = ℕ} 0 1 = cc in omega arith

-- so that they fit and are right where what is asked is no refusal, and where all is settled
pub asked_lent : (reads writes : Purpose) (from to : ℕ) (fits right : Bool) (asked : Result Asked Refusal)
    → asked_of reads writes from to fits right ≡ asked
    → ((refusal : Refusal) → asked ≡ Err refusal → ⊥) → (fits && right) ≡ true
asked_lent reads writes from to fits right asked e sound = by (fits && right) refl
  where
    by : (lent : Bool) → (fits && right) ≡ lent → lent ≡ true
    by true l = refl
    by false l = let u = unlent reads writes from to fits right l in absurd (sound u.0 (sym e ∙ u.1))

pub settled_lent : (reads writes : Purpose) (from to : ℕ) (fits right : Bool) (table : Judged)
    → settled reads writes from to fits right table ≡ passes → (fits && right) ≡ true
settled_lent reads writes from to fits right table e = by (fits && right) refl
  where
    by : (lent : Bool) → (fits && right) ≡ lent → lent ≡ true
    by true l = refl
    by false l =
        let u = unlent reads writes from to fits right l in
        let no : passes ≡ refuses u.0 =
        sym e ∙ (asks reads writes from to fits right).settles table ∙ ap (λ (a : Result Asked Refusal). settled_by a table) u.1 in
        let z : ◌≡◌ {A = ℕ} 0 1 = cc in
        let impossible : ⊥ = omega arith in
        absurd impossible

-- ---- what was read, case by case
module _ (from to : Scale) (kept : Option Table) (cs : List ℤ) where
  pub between_tick : (tick : ℤ) → walk_between kept cs from to tick ≡ between_of from to (Ok tick) kept cs
  unfolding between_of
  between_tick tick = refl

  pub between_refusal : (refusal : Refusal) → Err refusal ≡ between_of from to (Err refusal) kept cs
  unfolding between_of
  between_refusal refusal = refl

-- ---- 'A path that doesn't cross never looks at the table'
module _ (start end : Scale) where
  started_same : (walk walk' : ℤ → Answer) → ((tick : ℤ) → walk tick ≡ walk' tick) → (read : Read)
      → started walk read ≡ started walk' read
  started_same walk walk' same (Ok tick) = same tick
  started_same walk walk' same (Err refusal) = refl

  pub between_unseen : crosses start end ≡ false → (read : Read) (kept kept' : Option Table) (cs cs' : List ℤ)
      → between_of start end read kept cs ≡ between_of start end read kept' cs'
  unfolding between_of
  between_unseen e read kept kept' cs cs' =
      started_same _ _ (λ tick. walk_unseen kept kept' cs cs' (path start end) e 0 (record { scale = start; tick = tick })) read

-- ---- a conversion by what is asked
module _ (from to : ℕ) (table : Judged) (cs : List ℤ) where
  by_between : (asked : Result Asked Refusal) → Between (named from) (named to) asked → (read : Read)
      → convert_asked asked read table cs
      ≡ answering (settled_by asked table) (between_of (named from) (named to) read (held_by table) cs)
  by_between (Ok (A.Plain start end)) b read =
      rw (b.0, b.1) (between_unseen (named from) (named to) b.2 read None (held_by table) [] cs)
  by_between (Ok (A.Crossing start end)) b read = rw (b.0, b.1)
  by_between (Err refusal) b read = refl

  pub by_asked : (reads writes : Purpose) (fits right : Bool) (asked : Result Asked Refusal) (read : Read)
      → asked_of reads writes from to fits right ≡ asked
      → convert_asked asked read table cs ≡ convert_read reads writes from to fits right read table cs
  unfolding convert_read
  by_asked reads writes fits right asked read is =
      let a = asks reads writes from to fits right in
      rw (← is) (by_between (asked_of reads writes from to fits right) a.between read ∙ rw (a.settles table))

pub of_tick : (purpose : Purpose) (from to : ℕ) (tick : ℤ) (table : Judged) (cs : List ℤ)
    (asked : Result Asked Refusal) (read : Read)
    → asked_of purpose purpose from to true true ≡ asked → read ≡ in_range tick
    → convert_asked asked read table cs ≡ convert_judged purpose from to tick table cs
of_tick purpose from to tick table cs asked read is was =
    rw (← was) (by_asked from to table cs purpose purpose true true asked read is)

pub into : (writes : Purpose) (from to : ℕ) (reading : Reading) (leaps : List ℤ) (bytes : List ℕ) (reads : Purpose)
    (asked : Result Asked Refusal) (read : Read) → reads ≡ purpose_of reading
    → asked_of reads writes from to (leaps_fit reads writes leaps) (leaps_right reads writes leaps) ≡ asked
    → read ≡ read_of leaps reading
    → asked_over asked read bytes ≡ convert_into writes from to reading leaps bytes
unfolding convert_into
into writes from to reading leaps bytes reads asked read reads-is is was =
    rw (← reads-is, ← was)
    (by_asked from to (judged bytes) (coefficients_in bytes) reads writes (leaps_fit reads writes leaps) (leaps_right reads writes leaps) asked read is)
