-- UTC in conversions: the list is looked at for code 7 alone, order 'as day first, then ticks, both
-- epochs over one and the same list', there and back. Assumes nothing.
use Rattle.scales.specs.Answers.{Answer, converted_to, answer_number, answer_tick, read_tick}
use Rattle.scales.specs.Answers.{Accepts}
use Rattle.written.specs.Answers.{UtcAnswer, utc_answer_number, utc_answer_place, utc_answer_day}
use Rattle.written.specs.Answers.{utc_answer_ticks}
use Rattle.utc.specs.Answers.{UtcWritten, utc_written_number, utc_written_day, utc_written_ticks}
use Rattle.std.specs.Prelude.{Err, Ok}
use mathlib.Core.Path.{◌≡◌, refl, sym, ◌∙◌, ap}
use mathlib.Core.Logic.{◌⊎◌, inl, inr, ⊎_elim}
use mathlib.Core.Bool.{true, false, Bool, cond}
use mathlib.Core.List.{List, [], ◌∷◌}
use Prim.Native.Nat.{ℕ, ◌%◌, ◌≤◌, ◌<◌}
use native.Mathlib.Decide.{dec_lt}
use native.Mathlib.Omega.{arith}
use borrow.Author.Tests.{le-leb, lt-leb}
use lib.IntN.{ℤ}
use lib.ListN.{length}
use lib.Signed.{◌≤ℤ◌, ◌<ℤ◌}
use Rattle.scales.specs.declared.scale.Purpose.{Purpose}
use Rattle.scales.specs.declared.scale.Purpose.TheVariants as P
use Rattle.scales.specs.Scales.{is_code, named}
use Rattle.utc.specs.Days.{EarlierUtc}
use Rattle.utc.proofs.Beside.{weak}
use Rattle.utc.proofs.InOrder.{utc_order, tai_order}
use Rattle.dates.specs.declared.reading.Reading.{Reading}
use Rattle.dates.specs.declared.reading.Reading.TheVariants.{TwoPart, SinceJ2000, Ticks, Utc}
use Rattle.dates.specs.Readings.{in_range, read_of, purpose_of}
use Rattle.desk.specs.Order.{settled, uses_leaps}
use Rattle.walk.specs.Walk.{answer_refused, walk_of}
use Rattle.desk.specs.Conversion.{convert_read, convert_into, convert_of, between_of}
use Rattle.promises.proofs.Answers.{reading_accepted, walked_from, tick_valid, ticks_read}
use Rattle.promises.proofs.Exactly.{converted, into_numbered, into_exactly, gives}
use Rattle.desk.proofs.Valid.{into_right}
use Rattle.promises.proofs.Order.{into_in_order}
use Rattle.promises.proofs.Walks.{apart, came_to}
use Rattle.utc.specs.Readings.{utc_read, utc_of, utc_written, is_writable}
use Rattle.written.specs.Written.{written_after, written_by, write_utc_of}
use Rattle.numbers.specs.Tests.{Test, only, verdict, ToldExactly}
use Rattle.numbers.proofs.Exactly.{told_exactly, verdict_behind, only_told, numbered_both}
use Rattle.numbers.proofs.Exactly.{passes_only}
use Rattle.numbers.proofs.Order.{≤-antisym, ≤-total}
use Rattle.promises.specs.Tests.{tests_into, written_tests}
use Rattle.promises.proofs.Told.{of_answer, conversion_told}
use Rattle.scales.specs.Path.{path}
use Rattle.scales.specs.declared.scale.Scale.TheVariants.{Tai}
use lib.Dec.{eqb}
use Rattle.utc.specs.Leaps.{is_list_right}
use Rattle.utc.proofs.ThereAndBack.{utc_tai_utc, tai_utc_tai}
use Rattle.promises.specs.Words.{table_in, Gives}
use Rattle.opened.specs.Opened.{coefficients_in}
use Rattle.scales.specs.Tick.{is_valid}
use Rattle.scales.specs.declared.answer.Epoch.{Epoch}
use Rattle.utc.proofs.Accepted.{read_as}

-- ---- 7 is the code of UTC, and no other
no_utc : (code : ℕ) → (code ≡ 7 → ⊥) → is_code P.Utc code ≡ false
no_utc code n = by (dec_lt code 7)
  where
    above : (code < 7 → ⊥) → (code ≡ 7 → ⊥) → 7 < code
    above l n = omega (arith, l, n)

    by : Dec (code < 7) → is_code P.Utc code ≡ false
    by (yes l) = rw (lt-leb 7 code l)
    by (no l) = let h = above l n in let g : 7 ≤ code = omega arith in rw (le-leb 7 code g, lt-leb code 7 h)

-- a conversion with neither code 7 gives the same answer whatever list is lent
pub list_unseen : (from to : ℕ) (reading : Reading) (leaps other : List ℤ) (bytes : List ℕ) → (from ≡ 7 → ⊥)
    → convert_of from to reading leaps bytes ≡ convert_of from to reading other bytes
unfolding convert_into convert_read settled read_of
list_unseen from to (TwoPart first second) leaps other bytes n = refl
list_unseen from to (SinceJ2000 seconds) leaps other bytes n = refl
list_unseen from to (Ticks tick) leaps other bytes n = refl
list_unseen from to (Utc day ticks) leaps other bytes n = by_code leaps ∙ sym (by_code other)
  where
    by_code : (l : List ℤ) → convert_of from to (Utc day ticks) l bytes ≡ answer_refused 1 0
    by_code l = rw (no_utc from n)

-- ---- order
-- of two UTC readings over one list the earlier, 'as day first, then ticks', never comes out later
pub utc_in_order : (writes : Purpose) (from to : ℕ) (leaps : List ℤ) (bytes : List ℕ) (day ticks other more : ℤ)
    → let early = convert_into writes from to (Utc day ticks) leaps bytes in
    let late = convert_into writes from to (Utc other more) leaps bytes in
    answer_number early ≡ 0 → answer_number late ≡ 0 → EarlierUtc day ticks other more
    → answer_tick early ≤ℤ answer_tick late
unfolding read_of
utc_in_order writes from to leaps bytes day ticks other more a b earlier =
    into_in_order writes from to leaps bytes (Utc day ticks) (Utc other more) a b
    (weak _ _
    (utc_order leaps (into_right writes from to (Utc day ticks) leaps bytes (converted writes from to (Utc day ticks) leaps bytes a) refl) day ticks other more
    (reading_accepted writes from to (Utc day ticks) leaps bytes a) (reading_accepted writes from to (Utc other more) leaps bytes b) earlier))

-- ---- a written UTC tells what was written of the tick
after_is : (steps : ℕ) (written : UtcWritten) → let answer = written_after steps written in
    (utc_answer_number answer ≡ utc_written_number written) × (utc_answer_day answer ≡ utc_written_day written)
    × (utc_answer_ticks answer ≡ utc_written_ticks written)
unfolding utc_answer_number utc_answer_day utc_answer_ticks utc_written_number utc_written_day utc_written_ticks
after_is steps (Ok utc) = (refl, refl, refl)
after_is steps (Err refusal) = (refl, refl, refl)

-- an accepted one comes of an accepted conversion
pub record Written (from to : ℕ) (reading : Reading) (leaps : List ℤ) (bytes : List ℕ) : Type 0 where
  pub accepted : answer_number (convert_into P.Utc from to reading leaps bytes) ≡ 0
  pub is : let written = utc_written leaps (answer_tick (convert_into P.Utc from to reading leaps bytes)) in
      let answer = write_utc_of from to reading leaps bytes in
      (utc_written_number written ≡ 0) × (utc_answer_day answer ≡ utc_written_day written)
      × (utc_answer_ticks answer ≡ utc_written_ticks written)

written_of : (from to : ℕ) (reading : Reading) (leaps : List ℤ) (bytes : List ℕ)
    → utc_answer_number (write_utc_of from to reading leaps bytes) ≡ 0 → Written from to reading leaps bytes
unfolding write_utc_of answer_number answer_tick utc_answer_number
written_of from to reading leaps bytes zero = by (convert_into P.Utc from to reading leaps bytes) refl zero
  where
    by : (answer : Answer) → convert_into P.Utc from to reading leaps bytes ≡ answer
        → utc_answer_number (written_by leaps answer) ≡ 0 → Written from to reading leaps bytes
    by (Ok converted) e z =
        let w = after_is converted.steps (utc_written leaps converted.epoch.tick) in
        record { accepted = rw e; is = rw e (sym w.0 ∙ z, w.1, w.2) }
    by (Err refusal) e z = apart (sym e ∙ converted P.Utc from to reading leaps bytes (rw e z))

-- ---- '5 .. a written one after the steps': each refusal of a written UTC exactly when
pub into_utc_exactly : (from to : ℕ) (reading : Reading) (leaps : List ℤ) (bytes : List ℕ)
    → let answer = write_utc_of from to reading leaps bytes in
    ToldExactly (written_tests from to reading leaps bytes) (utc_answer_number answer) (utc_answer_place answer)
unfolding write_utc_of utc_answer_number utc_answer_place utc_written answer_tick verdict
into_utc_exactly from to reading leaps bytes =
    told_exactly (written_tests from to reading leaps bytes) _ _
    (numbered_both (tests_into P.Utc from to reading leaps bytes) _ (into_numbered P.Utc from to reading leaps bytes) (omega arith, tt))
    (verdict_behind pair (0, 0) (tests_into P.Utc from to reading leaps bytes) (last answer)
    ∙ conversion_told pair (verdict pair (0, 0) (last answer)) P.Utc from to reading leaps bytes
    ∙ by answer)
  where
    pair : ℕ → ℕ → ℕ × ℕ
    pair n p = (n, p)

    answer : Answer
    answer = convert_into P.Utc from to reading leaps bytes

    last : Answer → List Test
    last answer = only 5 0 (is_writable leaps (answer_tick answer)) ∷ []

    by : (answer : Answer)
        → ◌≡◌ {A = ℕ × ℕ} (of_answer pair (verdict pair (0, 0) (last answer)) answer)
        (utc_answer_number (written_by leaps answer), utc_answer_place (written_by leaps answer))
    by (Ok converted) =
        only_told pair (0, 0) 5 0 [] (is_writable leaps converted.epoch.tick) ∙ told (is_writable leaps converted.epoch.tick)
      where
        written : Bool → UtcAnswer
        written right =
            written_after converted.steps
            (cond right (Ok (utc_of leaps converted.epoch.tick)) (Err (record { number = 5; place = 0 })))

        told : (right : Bool)
            → ◌≡◌ {A = ℕ × ℕ} (cond right (0, 0) (5, 0))
            (utc_answer_number (written right), utc_answer_place (written right))
        told true = refl
        told false = refl
    by (Err refusal) = refl

-- ---- of two epochs the earlier never gets the later UTC
-- day and ticks are the same, or the earlier as day first, then ticks
abbrev pub NotLater : ℤ → ℤ → ℤ → ℤ → Type 0
NotLater day ticks other more = EarlierUtc day ticks other more ⊎ ((day ≡ other) × (ticks ≡ more))

pub written_in_order : (from to : ℕ) (leaps : List ℤ) (bytes : List ℕ) (early late : Reading)
    → let one = write_utc_of from to early leaps bytes in
    let other = write_utc_of from to late leaps bytes in
    utc_answer_number one ≡ 0 → utc_answer_number other ≡ 0
    → read_tick (read_of leaps early) ≤ℤ read_tick (read_of leaps late)
    → NotLater (utc_answer_day one) (utc_answer_ticks one) (utc_answer_day other) (utc_answer_ticks other)
written_in_order from to leaps bytes early late a b l =
    let x = written_of from to early leaps bytes a in
    let y = written_of from to late leaps bytes b in
    let right = into_right P.Utc from to early leaps bytes (converted P.Utc from to early leaps bytes x.accepted) (uses early) in
    let ordered = into_in_order P.Utc from to leaps bytes early late x.accepted y.accepted l in
    rw (x.is.1, x.is.2, y.is.1, y.is.2) (⊎_elim
    (λ (h : _ ≤ℤ _). inr (let e = ≤-antisym _ _ ordered h in
    (ap (λ (t : ℤ). utc_written_day (utc_written leaps t)) e, ap (λ (t : ℤ). utc_written_ticks (utc_written leaps t)) e)))
    (λ (h : _ <ℤ _). inl (tai_order leaps right _ _ x.is.0 y.is.0 h))
    (≤-total _ _))
  where
    -- a code is read for UTC, whatever the reading
    uses : (reading : Reading) → uses_leaps (purpose_of reading) P.Utc ≡ true
    uses (TwoPart first second) = refl
    uses (SinceJ2000 seconds) = refl
    uses (Ticks tick) = refl
    uses (Utc day ticks) = refl

-- ---- there and back between UTC and TAI, code 2, over one list
module _ (leaps : List ℤ) (bytes : List ℕ) where
  -- a tick and a reading that pass, each by itself
  tick_goes : (writes : Purpose) (from to : ℕ) (reading : Reading) → path (named from) (named to) ≡ []
      → answer_number (convert_into writes from to reading leaps bytes) ≡ 0
      → answer_tick (convert_into writes from to reading leaps bytes) ≡ read_tick (read_of leaps reading)
  tick_goes writes from to reading here accepted =
      let w = walked_from writes from to reading leaps bytes accepted in
      let same = came_to _ _ (table_in bytes) (coefficients_in bytes) 0 _ (rw here at w) in
      sym (ap (λ (e : Epoch). e.tick) same)

  -- where the list passes, a valid tick of TAI is written as it is, and a right reading read
  module _ (fits : eqb (length leaps % 2) 0 ≡ true) (right : is_list_right leaps ≡ true) (tick : ℤ) where
    goes_into : is_valid tick ≡ true
        → convert_into P.Utc 2 7 (Ticks tick) leaps bytes ≡ converted_to (record { scale = Tai; tick = tick }) 0
    unfolding convert_into convert_read settled between_of read_of in_range walk_of
    goes_into valid = rw (fits, right, valid)

    comes_out : (day ticks : ℤ) → utc_read leaps day ticks ≡ Ok tick
        → convert_of 7 2 (Utc day ticks) leaps bytes ≡ converted_to (record { scale = Tai; tick = tick }) 0
    unfolding convert_into convert_read settled between_of read_of walk_of
    comes_out day ticks is = rw (fits, right, is)

  -- 'UTC to TAI to UTC over one list is exact'
  pub utc_and_back : (day ticks : ℤ) → let there = convert_of 7 2 (Utc day ticks) leaps bytes in
      answer_number there ≡ 0
      → let back = write_utc_of 2 7 (Ticks (answer_tick there)) leaps bytes in
      (utc_answer_number back ≡ 0) × (utc_answer_day back ≡ day) × (utc_answer_ticks back ≡ ticks)
  unfolding read_of write_utc_of
  utc_and_back day ticks accepted =
      let there = convert_of 7 2 (Utc day ticks) leaps bytes in
      let passed = (into_exactly P.Reading 7 2 (Utc day ticks) leaps bytes).accepted accepted in
      let fits = passes_only 8 0 (eqb (length leaps % 2) 0) passed.1.1.0 in
      let right = passes_only 7 0 (is_list_right leaps) passed.1.1.1.0 in
      let goes = tick_goes P.Reading 7 2 (Utc day ticks) refl accepted in
      let exact = utc_tai_utc leaps right day ticks (reading_accepted P.Reading 7 2 (Utc day ticks) leaps bytes accepted) in
      let written = after_is 0 (utc_written leaps (answer_tick there)) in
      rw (goes_into fits right (answer_tick there) (tick_valid P.Reading 7 2 (Utc day ticks) leaps bytes accepted), written.0, written.1, written.2, goes)
      exact

  -- a reading that is accepted is that tick
  read_tick_lem : (tick day ticks : ℤ) → Accepts (utc_read leaps day ticks) tick → utc_read leaps day ticks
      ≡ Ok tick
  unfolding utc_read
  read_tick_lem tick day ticks a =
      let r = read_as leaps day ticks a.0 in
      rw (r.reading, r.valid) (ap Ok (sym r.tick ∙ a.1))

  -- and TAI to UTC to TAI, where it is accepted
  pub tai_and_back : (tick : ℤ) → let there = write_utc_of 2 7 (Ticks tick) leaps bytes in
      utc_answer_number there ≡ 0
      → Gives (convert_of 7 2 (Utc (utc_answer_day there) (utc_answer_ticks there)) leaps bytes) Tai tick 0
  unfolding read_of
  tai_and_back tick accepted =
      let w = written_of 2 7 (Ticks tick) leaps bytes accepted in
      let passed = (into_exactly P.Utc 2 7 (Ticks tick) leaps bytes).accepted w.accepted in
      let fits = passes_only 8 0 (eqb (length leaps % 2) 0) passed.1.1.0 in
      let right = passes_only 7 0 (is_list_right leaps) passed.1.1.1.0 in
      let same = tick_goes P.Utc 2 7 (Ticks tick) refl w.accepted
      ∙ ticks_read tick (reading_accepted P.Utc 2 7 (Ticks tick) leaps bytes w.accepted) in
      let valid : is_valid tick ≡ true = rw same at (tick_valid P.Utc 2 7 (Ticks tick) leaps bytes w.accepted) in
      let number : utc_written_number (utc_written leaps tick) ≡ 0 = rw same at w.is.0 in
      rw (w.is.1, w.is.2, same)
      (gives _ _ _ _ (comes_out fits right tick _ _ (read_tick_lem tick _ _ (tai_utc_tai leaps right tick valid number))))
