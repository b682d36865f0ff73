-- The whole program: over the table as it was judged and taken, an input that comes in any pieces
-- is answered as `tickline_of` says. Assumes nothing.
use Rattle.line.specs.Answers.{Line}
use Rattle.scales.specs.Answers.{Read}
use Rattle.blocks.specs.Answers.{Judged, judged_number, judged_count, judged_degree}
use Rattle.std.specs.Prelude.{Err, Ok, Result}
use mathlib.Core.Path.{◌≡◌, refl, sym, ◌∙◌, ap}
use mathlib.Core.Bool.{true, false}
use mathlib.Core.List.{List, [], ◌∷◌, ◌++◌, map}
use mathlib.Core.Option.{Option, some, none}
use Prim.Native.Nat.{ℕ}
use lib.Dec.{leb}
use lib.IntN.{ℤ}
use lib.ListN.{length, take}
use lib.Seq.{append_snoc}
use Rattle.scales.specs.declared.refusal.Refusal.{Refusal}
use Rattle.scales.specs.declared.scale.Purpose.TheVariants as P
use Rattle.image.specs.Image.{coefficients_stored}
use Rattle.blocks.specs.Judging.{judged}
use Rattle.dates.specs.Readings.{in_range}
use Rattle.desk.specs.declared.asked.Asked.{Asked}
use Rattle.desk.specs.declared.asked.Asked.TheVariants as A
use Rattle.opened.specs.Opened.{coefficients_in}
use Rattle.desk.specs.Conversion.{convert_judged}
use Rattle.desk.specs.Inner.{asked_of, convert_asked}
use Rattle.desk.proofs.Asking.{of_tick}
use Rattle.opened.proofs.Opening.{coefficients_are}
use Rattle.line.specs.Numbers.{number_in}
use Rattle.line.specs.Lines.{fields, three_numbers, line_read}
use Rattle.printing.specs.Texts.{line_text}
use Rattle.line.proofs.Cases.{either}
use Rattle.lines.specs.Output.{lines_of, next_line, read_from, line_after, lines_read, printed_for}
use Rattle.lines.specs.Output.{printed_lines, output_from, tickline_of, has_newline, whole_lines}
use Rattle.lines.specs.Output.{kept_of, output_in_pieces, joined_pieces}
use Rattle.lines.proofs.Pieces.{output_whole, in_pieces}
use Rattle.lines.proofs.Splits.{whole_ended, whole_after, unfinished_after, lines_ended}

-- ---- a table that was refused has no use for coefficients
module _ (refusal : Refusal) (one other : List ℤ) where
  asked_any : (asked : Result Asked Refusal) (read : Read)
      → convert_asked asked read (Err refusal) one ≡ convert_asked asked read (Err refusal) other
  asked_any (Ok (A.Plain from to)) read = refl
  asked_any (Ok (A.Crossing from to)) read = refl
  asked_any (Err r) read = refl

  converted_any : (from to : ℕ) (tick : ℤ)
      → convert_judged P.Line from to tick (Err refusal) one
      ≡ convert_judged P.Line from to tick (Err refusal) other
  converted_any from to tick =
      let asked = asked_of P.Line P.Line from to true true in
      sym (of_tick P.Line from to tick (Err refusal) one asked (in_range tick) refl refl)
      ∙ asked_any asked (in_range tick)
      ∙ of_tick P.Line from to tick (Err refusal) other asked (in_range tick) refl refl

  line_any : (line : Line) → printed_for (Err refusal) one line ≡ printed_for (Err refusal) other line
  unfolding printed_for
  line_any (Ok numbers) = ap (line_text numbers.to) (converted_any _ _ _)
  line_any (Err r) = refl

  lines_any : (lines : List Line)
      → printed_lines (Err refusal) one lines ≡ printed_lines (Err refusal) other lines
  unfolding printed_lines
  lines_any [] = refl
  lines_any (line ∷ more) = rw (line_any line, lines_any more)

  output_any : (input : List ℕ)
      → output_from 1 (Err refusal) one input ≡ output_from 1 (Err refusal) other input
  unfolding output_from
  output_any input = lines_any (lines_read input)

-- ---- the program: lent are the coefficients that the bytes hold, where they are accepted; where
-- they are refused it does not matter which
pub however_cut : (bytes : List ℕ) (coefficients : List ℤ) (pieces : List (List ℕ))
    → let table = judged bytes in
    (judged_number table ≡ 0 → coefficients ≡ coefficients_stored bytes (judged_count table) (judged_degree table))
    → output_in_pieces 1 table coefficients [] pieces ≡ tickline_of bytes (joined_pieces pieces)
unfolding tickline_of output_from judged_number judged_count judged_degree
however_cut bytes coefficients pieces lent = in_pieces (judged bytes) coefficients 1 [] pieces ∙ by (judged bytes) refl lent
  where
    by : (table : Judged) → judged bytes ≡ table
        → (judged_number table ≡ 0 → coefficients
        ≡ coefficients_stored bytes (judged_count table) (judged_degree table))
        → output_from 1 table coefficients (joined_pieces pieces)
        ≡ output_from 1 table (coefficients_in bytes) (joined_pieces pieces)
    by (Ok table) is lent =
        ap (λ (l : List ℤ). output_from 1 (Ok table) l (joined_pieces pieces)) (lent refl ∙ sym (coefficients_are bytes table is))
    by (Err refusal) is lent = output_any refusal coefficients (coefficients_in bytes) (joined_pieces pieces)

-- ---- a line's number is not printed
module _ (table : Judged) (coefficients : List ℤ) (one other : ℕ) where
  numbers_any : (numbers : List (Option ℤ))
      → printed_for table coefficients (three_numbers numbers one)
      ≡ printed_for table coefficients (three_numbers numbers other)
  unfolding printed_for
  numbers_any [] = refl
  numbers_any (none ∷ more) = refl
  numbers_any (some from ∷ []) = refl
  numbers_any (some from ∷ none ∷ more) = refl
  numbers_any (some from ∷ some to ∷ []) = refl
  numbers_any (some from ∷ some to ∷ none ∷ more) = refl
  numbers_any (some from ∷ some to ∷ some tick ∷ []) = refl
  numbers_any (some from ∷ some to ∷ some tick ∷ extra ∷ more) = refl

  pub number_not_printed : (text : List ℕ)
      → printed_for table coefficients (line_read text one) ≡ printed_for table coefficients (line_read text other)
  unfolding line_read printed_for
  number_not_printed text = either (leb (length text) 64)
      (λ (e : leb (length text) 64 ≡ true). rw e (numbers_any (map number_in (fields text))))
      (λ (e : leb (length text) 64 ≡ false). rw e)

-- so the output is the same whatever the first line's number
module _ (table : Judged) (coefficients : List ℤ) where
  lines_numbered : (one other : ℕ) (texts : List (List ℕ))
      → printed_lines table coefficients (read_from one texts)
      ≡ printed_lines table coefficients (read_from other texts)
  unfolding read_from printed_lines
  lines_numbered one other [] = refl
  lines_numbered one other (text ∷ more) =
      rw (number_not_printed table coefficients one other text, lines_numbered (next_line one) (next_line other) more)

  pub numbers_not_printed : (one other : ℕ) (input : List ℕ)
      → output_from one table coefficients input ≡ output_from other table coefficients input
  unfolding output_from
  numbers_not_printed one other input = lines_numbered one other (lines_of input)

-- ---- 'A refusal .. changes nothing kept': what is answered up to a newline, accepted or refused,
-- changes nothing of what is answered after it
pub answered_apart : (bytes before more : List ℕ)
    → tickline_of bytes (before ++ (10 ∷ more)) ≡ tickline_of bytes (before ++ (10 ∷ [])) ++ tickline_of bytes more
unfolding tickline_of output_from
answered_apart bytes before more =
    let table = judged bytes in
    let coefficients = coefficients_in bytes in
    let whole = before ++ (10 ∷ []) in
    let all : output_from 1 table coefficients (whole ++ more) ≡
    output_from 1 table coefficients whole ++ output_from (line_after 1 (lines_of whole)) table coefficients more =
    rw (whole_ended before) at (output_whole table coefficients 1 whole more) in
    ap (output_from 1 table coefficients) (sym (append_snoc before 10 more))
    ∙ all
    ∙ ap (λ (l : List ℕ). output_from 1 table coefficients whole ++ l)
    (numbers_not_printed table coefficients (line_after 1 (lines_of whole)) 1 more)

-- and nothing of a line is kept but that it was one: what is kept after it is what is kept of the
-- text that follows, and the number is that of a text which begins with the next line
pub nothing_kept : (line : ℕ) (text more : List ℕ) → has_newline text ≡ false
    → (kept_of (text ++ (10 ∷ more)) ≡ kept_of more)
    × (line_after line (lines_of (whole_lines (text ++ (10 ∷ more))))
    ≡ line_after (next_line line) (lines_of (whole_lines more)))
unfolding kept_of line_after
nothing_kept line text more plain = (
  ap (take 65) (unfinished_after text more),
  ap (λ (l : List ℕ). line_after line (lines_of l)) (whole_after text more) ∙ ap (line_after line) (lines_ended text (whole_lines more) plain),
)
