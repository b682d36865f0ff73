-- An input that comes in pieces is answered as the whole of it. Assumes nothing.
use Rattle.line.specs.Answers.{Line}
use Rattle.blocks.specs.Answers.{Judged}
use mathlib.Core.Path.{◌≡◌, refl, sym, ◌∙◌, ap}
use mathlib.Core.Bool.{true, false}
use mathlib.Core.List.{List, [], ◌∷◌, ◌++◌, append_assoc, append-nil}
use Prim.Native.Nat.{ℕ, ◌≤◌, ◌<◌}
use native.Mathlib.Omega.{arith}
use borrow.Author.Tests.{lt-leb, leb-true, leb-false, eqb-true}
use lib.IntN.{ℤ}
use lib.ListN.{length, take, length-append}
use lib.Seq.{take_all, length-take-le, append_snoc}
use lib.Dec.{eqb, leb}
use Rattle.line.specs.Lines.{line_read}
use Rattle.printing.specs.Texts.{refused_line}
use Rattle.line.proofs.Cases.{either}
use Rattle.lines.specs.Output.{lines_of, next_line, read_from, line_after, printed_for}
use Rattle.lines.specs.Output.{printed_lines, output_from, has_newline, whole_lines, unfinished}
use Rattle.lines.specs.Output.{kept_of, output_in_pieces, joined_pieces}
use Rattle.lines.proofs.Numbering.{after_one, after_both, read_both, read_one}
use Rattle.lines.proofs.Splits.{plain_front, has_grown, whole_then, unfinished_plain, whole_ended}
use Rattle.lines.proofs.Splits.{lines_whole, lines_ended, lines_last}

module _ (table : Judged) (coefficients : List ℤ) where
  -- over one table
  abbrev printed : List ℕ → ℕ → List ℕ
  printed text line = printed_for table coefficients (line_read text line)

  abbrev lines : List Line → List ℕ
  lines = printed_lines table coefficients

  abbrev output : ℕ → List ℕ → List ℕ
  output line = output_from line table coefficients

  -- the number of the line after whole lines
  abbrev after : ℕ → List ℕ → ℕ
  after line text = line_after line (lines_of (whole_lines text))

  printed_both : (first second : List Line) → lines (first ++ second) ≡ lines first ++ lines second
  unfolding printed_lines
  printed_both [] second = refl
  printed_both (line ∷ more) second =
      rw (printed_both more second) (sym (append_assoc (printed_for table coefficients line) (lines more) (lines second)))

  printed_one : (line : Line) (more : List Line)
      → lines (line ∷ more) ≡ printed_for table coefficients line ++ lines more
  unfolding printed_lines
  printed_one line more = refl

  -- whole lines, and then any text
  pub output_whole : (line : ℕ) (text more : List ℕ)
      → output line (whole_lines text ++ more) ≡ output line (whole_lines text) ++ output (after line text) more
  unfolding output_from
  output_whole line text more =
      rw (lines_whole text more, read_both line (lines_of (whole_lines text)) (lines_of more))
      (printed_both (read_from line (lines_of (whole_lines text))) (read_from (after line text) (lines_of more)))

  -- a line and its newline, and then any text
  output_ended : (line : ℕ) (text more : List ℕ) → has_newline text ≡ false
      → output line (text ++ (10 ∷ more)) ≡ printed text line ++ output (next_line line) more
  unfolding output_from
  output_ended line text more plain =
      rw (lines_ended text more plain, read_one line text (lines_of more))
      (printed_one (line_read text line) (read_from (next_line line) (lines_of more)))

  pub output_nothing : (line : ℕ) → output line [] ≡ []
  unfolding output_from lines_of read_from printed_lines
  output_nothing line = refl

  pub empty : (line : ℕ) (text : List ℕ) → length text ≡ 0 → output line text ≡ []
  empty line [] h = output_nothing line
  empty line (byte ∷ more) h = let z : ⊥ = omega arith in absurd z

  -- a line whose newline is missing
  pub output_last : (line : ℕ) (text : List ℕ) → has_newline text ≡ false → 1 ≤ length text
      → output line text ≡ printed text line
  unfolding output_from read_from printed_lines
  output_last line text plain some = rw (lines_last text plain some) (append-nil _)

  -- a newline more: the line that was unfinished is answered, and the next one has the next number
  ended_is : (text : List ℕ) → whole_lines (text ++ (10 ∷ [])) ≡ whole_lines text ++ (unfinished text ++ (10 ∷ []))
  ended_is text =
      whole_ended text ∙ ap (λ (l : List ℕ). l ++ (10 ∷ [])) (sym (whole_then text)) ∙ append_assoc (whole_lines text) (unfinished text) (10 ∷ [])

  pub output_newline : (line : ℕ) (text : List ℕ)
      → output line (whole_lines (text ++ (10 ∷ [])))
      ≡ output line (whole_lines text) ++ printed (unfinished text) (after line text)
  output_newline line text =
      ap (output line) (ended_is text)
      ∙ output_whole line text (unfinished text ++ (10 ∷ []))
      ∙ ap (λ (l : List ℕ). output line (whole_lines text) ++ l)
      (output_ended (after line text) (unfinished text) [] (unfinished_plain text) ∙ rw (output_nothing (next_line (after line text))) (append-nil _))

  pub after_newline : (line : ℕ) (text : List ℕ) → after line (text ++ (10 ∷ [])) ≡ next_line (after line text)
  unfolding lines_of
  after_newline line text =
      ap (λ (l : List ℕ). line_after line (lines_of l)) (ended_is text)
      ∙ ap (line_after line) (lines_whole text (unfinished text ++ (10 ∷ [])))
      ∙ after_both line (lines_of (whole_lines text)) (lines_of (unfinished text ++ (10 ∷ [])))
      ∙ ap (line_after (after line text)) (lines_ended (unfinished text) [] (unfinished_plain text))
      ∙ after_one (after line text) (unfinished text)

  -- ---- of a line that is too long, it does not matter which
  too_long : (text : List ℕ) (line : ℕ) → 65 ≤ length text → printed text line ≡ refused_line 9
  unfolding printed_for line_read
  too_long text line long = rw (lt-leb (length text) 64 (omega arith))

  output_long : (line : ℕ) (first second more : List ℕ) → 65 ≤ length first → 65 ≤ length second
      → has_newline first ≡ false
      → has_newline second ≡ false
      → output line (first ++ more) ≡ output line (second ++ more)
  output_long line first second [] l m p q =
      rw (append-nil first, append-nil second)
      (output_last line first p (omega arith) ∙ too_long first line l ∙ sym (output_last line second q (omega arith) ∙ too_long second line m))
  output_long line first second (byte ∷ more) l m p q = either (eqb byte 10)
      (λ (e : eqb byte 10 ≡ true).
      rw (eqb-true byte 10 e)
      (output_ended line first more p ∙ rw (too_long first line l, too_long second line m) refl ∙ sym (output_ended line second more q)))
      (λ (e : eqb byte 10 ≡ false).
      let longer : (line : List ℕ) → 65 ≤ length line → 65 ≤ length (line ++ (byte ∷ [])) = λ line h. simp length-append (omega arith) in
      let plain : (line : List ℕ) → has_newline line ≡ false → has_newline (line ++ (byte ∷ [])) ≡ false = λ line h. has_grown byte e line ∙ h in
      rw (← append_snoc first byte more, ← append_snoc second byte more)
      (output_long line (first ++ (byte ∷ [])) (second ++ (byte ∷ [])) more (longer first l) (longer second m) (plain first p) (plain second q)))

  -- so that 65 bytes of an unfinished line are enough
  output_kept : (line : ℕ) (text more : List ℕ)
      → output line (kept_of text ++ more) ≡ output line (unfinished text ++ more)
  unfolding kept_of
  output_kept line text more =
      let rest = unfinished text in
      either (leb (length rest) 65)
      (λ (e : leb (length rest) 65 ≡ true). rw (take_all 65 rest (leb-true (length rest) 65 e)))
      (λ (e : leb (length rest) 65 ≡ false).
      let long : 65 < length rest = leb-false (length rest) 65 e in
      let size : length (take 65 rest) ≡ 65 = length-take-le 65 rest (omega arith) in
      output_long line (take 65 rest) rest more (omega arith) (omega arith) (plain_front 65 rest (unfinished_plain text)) (unfinished_plain text))

  -- ---- piece by piece
  pub in_pieces : (line : ℕ) (kept : List ℕ) (pieces : List (List ℕ))
      → output_in_pieces line table coefficients kept pieces ≡ output line (kept ++ joined_pieces pieces)
  unfolding output_in_pieces joined_pieces
  in_pieces line kept [] = rw (append-nil kept)
  in_pieces line kept (piece ∷ more) =
      let text = kept ++ piece in
      let next = after line text in
      ap (λ (l : List ℕ). output line (whole_lines text) ++ l)
      (in_pieces next (kept_of text) more ∙ output_kept next text (joined_pieces more))
      ∙ sym (output_whole line text (unfinished text ++ joined_pieces more))
      ∙ ap (output line) (sym (append_assoc (whole_lines text) (unfinished text) (joined_pieces more))
      ∙ ap (λ (l : List ℕ). l ++ joined_pieces more) (whole_then text) ∙ append_assoc kept piece (joined_pieces more))
