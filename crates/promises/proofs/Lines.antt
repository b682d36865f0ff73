-- What a line is answered with and what is printed for it, by number and place: 'A code outside
-- 0..6 is refusal 1, after 9.' A line that is not understood is 9, whatever its codes are; one that
-- is understood is 1 where one of its codes is none, the from before the to; any other is the
-- conversion of its numbers. Assumes nothing.
use Rattle.line.specs.Answers.{Line, numbers_read, line_number, line_place, line_from, line_to}
use Rattle.line.specs.Answers.{line_tick}
use Rattle.blocks.specs.Answers.{Judged}
use Rattle.scales.specs.Answers.{Answer, answer_number, answer_place, answer_tick}
use Rattle.scales.specs.Answers.{answer_steps}
use Rattle.std.specs.Prelude.{Err, Ok}
use borrow.Author.Tests.{le-leb}
use mathlib.Core.Path.{◌≡◌, refl, sym, ap}
use mathlib.Core.Bool.{true}
use mathlib.Core.List.{List, []}
use Prim.Native.Nat.{ℕ, suc, ◌≤◌, ◌<◌, zero-le}
use native.Mathlib.Omega.{arith}
use lib.IntN.{ℤ, pos}
use lib.ListN.{length, get_or}
use Rattle.scales.specs.declared.refusal.Refusal.{Refusal}
use Rattle.scales.specs.declared.scale.Purpose.TheVariants as P
use Rattle.scales.specs.Scales.{highest_code, named, scale_of, lowest_code}
use Rattle.blocks.specs.Judging.{judged}
use Rattle.opened.specs.Opened.{coefficients_in}
use Rattle.dates.specs.declared.reading.Reading.TheVariants.{Ticks}
use Rattle.dates.specs.Readings.{read_of, in_range}
use Rattle.desk.specs.Order.{settled}
use Rattle.desk.specs.Conversion.{convert_of, convert_read, convert_into}
use Rattle.desk.specs.Inner.{asked_of}
use Rattle.desk.proofs.Asking.{of_tick, from_refused, to_refused}
use Rattle.line.specs.Lines.{code_of, line_read}
use Rattle.line.specs.Numbers.{fits_signed}
use Rattle.line.proofs.Codes.{code_inside, refused_outside}
use Rattle.printing.specs.Texts.{answer_text, answer_line, refused_line, line_text}
use Rattle.printing.proofs.Returning.{line_reads_back}
use Rattle.lines.specs.Output.{lines_of, greatest_line, lines_read, answer_of, to_of, printed_for}
use Rattle.lines.proofs.Numbering as numbering
use Rattle.promises.specs.Words.{OutsideCodes}
use Rattle.promises.proofs.Exactly.{converted}

-- ---- what a line's number means: 0 that it is understood, any other that it is not
module _ (text : List ℕ) (line : ℕ) where
  abbrev read : Line
  read = line_read text line

  -- '9: text line not understood', place 'line, from 1'
  read_refused : 0 < line_number read → (line_number read ≡ 9) × (line_place read ≡ line)
  unfolding line_number line_place
  read_refused h = by read refl h
    where
      by : (is : Line) → line_read text line ≡ is → 0 < line_number is → (line_number is ≡ 9) × (line_place is ≡ line)
      by (Ok numbers) e h = let no : ⊥ = omega arith in absurd no
      by (Err refusal) e h = rw (numbering.not_understood_lem text line refusal e) (refl, refl)

  understood : line_number read ≡ 0 → read ≡ numbers_read (line_from read) (line_to read) (line_tick read)
  unfolding line_number line_from line_to line_tick
  understood zero = by read refl zero
    where
      by : (is : Line) → line_read text line ≡ is → line_number is ≡ 0
          → is ≡ numbers_read (line_from is) (line_to is) (line_tick is)
      by (Ok numbers) e z = refl
      by (Err refusal) e z =
          let nine : refusal.number ≡ 9 = rw (numbering.not_understood_lem text line refusal e) in
          let no : ⊥ = omega arith in
          absurd no

-- ---- 'place: line, from 1': line k of an input, where it is not understood, is 9 with place k
pub place_of_9 : (input : List ℕ) (before : ℕ) (other : Line) → before < length (lines_of input)
    → before < greatest_line
    → let line = get_or (lines_read input) before other in
    0 < line_number line → (line_number line ≡ 9) × (line_place line ≡ suc before)
place_of_9 input before other h k =
    rw (numbering.line_read_lem input before other h k) (read_refused (get_or (lines_of input) before []) (suc before))

-- ---- a printed answer's line reads back as its three numbers
pub printed_back : (to tick : ℤ) (steps line : ℕ) → fits_signed to ≡ true → fits_signed tick ≡ true
    → fits_signed (pos steps) ≡ true
    → let read = line_read (answer_text to tick steps) line in
    (line_number read ≡ 0) × (line_from read ≡ to) × (line_to read ≡ tick) × (line_tick read ≡ pos steps)
unfolding line_number line_from line_to line_tick
printed_back to tick steps line a b c = rw (line_reads_back to tick steps line a b c) (refl, refl, refl, refl)

-- a code and its scale
code_named : (code place : ℕ) → code ≤ highest_code P.Line
    → scale_of P.Line (code_of (pos code)) place ≡ Ok (named code)
code_named code place h =
    rw (code_inside code (omega arith), le-leb (lowest_code P.Line) code zero-le, le-leb code (highest_code P.Line) h)

-- ---- a line's answer over judged table bytes and the coefficients that they hold
module _ (table : Judged) (coefficients : List ℤ) (text : List ℕ) (line : ℕ) where
  abbrev answer : Answer
  answer = answer_of table coefficients (read text line)

  -- one that is not understood is 9, whatever its codes are
  pub line_not_understood : 0 < line_number (read text line) → (answer_number answer ≡ 9) × (answer_place answer ≡ line)
  unfolding line_number answer_number answer_place
  line_not_understood h = by (read text line) refl h
    where
      by : (is : Line) → line_read text line ≡ is → 0 < line_number is
          → (answer_number (answer_of table coefficients is) ≡ 9)
          × (answer_place (answer_of table coefficients is) ≡ line)
      by (Ok numbers) e h = let no : ⊥ = omega arith in absurd no
      by (Err refusal) e h = rw (numbering.not_understood_lem text line refusal e) (refl, refl)

  asked_refused : (from to tick : ℤ) → read text line ≡ numbers_read from to tick → (refusal : Refusal)
      → Err refusal ≡ asked_of P.Line P.Line (code_of from) (code_of to) true true
      → answer ≡ Err refusal
  asked_refused from to tick understood refusal is =
      rw understood
      (sym (of_tick P.Line (code_of from) (code_of to) tick table coefficients (Err refusal) (in_range tick) (sym is) refl))

  -- one that is understood is 1 where its from is no code, else where its to is none
  module _ (zero : line_number (read text line) ≡ 0) where
    pub line_from_refused : OutsideCodes (line_from (read text line))
        → (answer_number answer ≡ 1) × (answer_place answer ≡ 0)
    unfolding answer_number answer_place
    line_from_refused outside =
        rw
        (asked_refused _ _ _ (understood text line zero) _
        (from_refused P.Line P.Line _ _ true true _ (refused_outside (line_from (read text line)) 0 outside)))
        (refl, refl)

    pub line_to_refused : (code : ℕ) → line_from (read text line) ≡ pos code → code ≤ highest_code P.Line
        → OutsideCodes (line_to (read text line)) → (answer_number answer ≡ 1) × (answer_place answer ≡ 1)
    unfolding answer_number answer_place
    line_to_refused code is inside outside =
        rw
        (asked_refused _ _ _ (understood text line zero) _
        (to_refused P.Line P.Line _ _ true true (named code) (rw is (code_named code 0 inside)) _ (refused_outside (line_to (read text line)) 1 outside)))
        (refl, refl)

  -- what is printed for a refusal: its number, whichever it is
  pub line_refused_printed : 0 < answer_number answer
      → printed_for table coefficients (read text line) ≡ refused_line (answer_number answer)
  unfolding printed_for answer_number
  line_refused_printed = by (to_of (read text line)) answer
    where
      by : (to : ℤ) (is : Answer) → 0 < answer_number is → line_text to is ≡ refused_line (answer_number is)
      by to (Ok converted) h = let no : ⊥ = omega arith in absurd no
      by to (Err refusal) h = refl

-- ---- over table bytes
module _ (bytes text : List ℕ) (line : ℕ) where
  abbrev answer_over : Line → Answer
  answer_over is = answer_of (judged bytes) (coefficients_in bytes) is

  as_asked : (from to : ℕ) (tick : ℤ) → read text line ≡ numbers_read (pos from) (pos to) tick
      → from ≤ highest_code P.Line → to ≤ highest_code P.Line
      → answer_over (read text line) ≡ convert_of from to (Ticks tick) [] bytes
  unfolding convert_into convert_read settled read_of
  as_asked from to tick understood f t = rw (understood, code_inside from (omega arith), code_inside to (omega arith))

  -- any other is answered as the conversion that it asks for: what is promised of conversions holds
  -- of lines
  pub line_as_conversion : (from to : ℕ) → line_number (read text line) ≡ 0
      → line_from (read text line) ≡ pos from → line_to (read text line) ≡ pos to
      → from ≤ highest_code P.Line → to ≤ highest_code P.Line
      → answer_over (read text line) ≡ convert_of from to (Ticks (line_tick (read text line))) [] bytes
  line_as_conversion from to zero from_is to_is f t =
      as_asked from to (line_tick (read text line)) (rw (from_is, to_is) at (understood text line zero)) f t

  -- what is printed for an accepted answer: the code asked, its tick and its steps
  pub line_accepted_printed : let answer = answer_over (read text line) in
      answer_number answer ≡ 0
      → printed_for (judged bytes) (coefficients_in bytes) (read text line)
      ≡ answer_line (line_to (read text line)) (answer_tick answer) (answer_steps answer)
  unfolding printed_for convert_into convert_read settled read_of answer_number line_to
  line_accepted_printed zero = by (read text line) refl zero
    where
      by : (is : Line) → line_read text line ≡ is → answer_number (answer_over is) ≡ 0
          → printed_for (judged bytes) (coefficients_in bytes) is
          ≡ answer_line (line_to is) (answer_tick (answer_over is)) (answer_steps (answer_over is))
      by (Ok numbers) e z = ap (line_text numbers.to) (converted P.Reading (code_of numbers.from) (code_of numbers.to) (Ticks numbers.tick) [] bytes z)
      by (Err refusal) e z =
          let nine : refusal.number ≡ 9 = rw (numbering.not_understood_lem text line refusal e) in
          let no : ⊥ = omega arith in
          absurd no
