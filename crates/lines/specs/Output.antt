-- What the program prints: '`tickline` reads lines of standard input, `from to tick`, ..; the last
-- newline may be missing. .. It prints `to tick steps` .. or `refused N`, one line each, no
-- header.'
use Rattle.line.specs.Answers.{Line}
use Rattle.blocks.specs.Answers.{Judged}
use Rattle.scales.specs.Answers.{Answer}
use Rattle.std.specs.Prelude.{Err, Bool, false, cond, ◌||◌, List, [], ◌∷◌, ◌++◌, ℕ, suc, eqb, ltb}
use Rattle.std.specs.Prelude.{ℤ, pos, take, Ok}
use Rattle.scales.specs.declared.scale.Purpose.TheVariants as P
use Rattle.blocks.specs.Judging.{judged}
use Rattle.opened.specs.Opened.{coefficients_in}
use Rattle.desk.specs.Conversion.{convert_judged}
use Rattle.line.specs.Lines.{line_read, code_of, starting_with}
use Rattle.printing.specs.Texts.{line_text}
use Rattle.lines.specs.declared.Answered.{Answered}

-- the lines of an input, which is split at each newline. 'the last newline may be missing': text
-- after it is a line, nothing after it is none
unfoldable pub lines_of : List ℕ → List (List ℕ)
lines_of [] = []
lines_of (byte ∷ more) =
    cond (eqb byte 10) ([] ∷ lines_of more) (starting_with byte (lines_of more))

-- ---- the lines' numbers: '9: text line not understood', place 'line, from 1'
-- the greatest number of a line: a place has 64 bits
abbrev pub greatest_line : ℕ
greatest_line = 18446744073709551615

-- the number of the line after another. At the greatest, which no input comes to, it stays
abbrev pub next_line : ℕ → ℕ
next_line line = cond (ltb line greatest_line) (suc line) line

-- lines as they are read: the first has the number given, and each other the next one
unfoldable pub read_from : ℕ → List (List ℕ) → List Line
read_from line [] = []
read_from line (text ∷ more) = line_read text line ∷ read_from (next_line line) more

-- the number of the line after these
unfoldable pub line_after : ℕ → List (List ℕ) → ℕ
line_after line [] = line
line_after line (text ∷ more) = line_after (next_line line) more

-- an input's lines as they are read: 'from 1', so that line k of the input has the number k
abbrev pub lines_read : List ℕ → List Line
lines_read input = read_from 1 (lines_of input)

-- ---- the answers
-- what a line is answered with: the conversion's answer, or the refusal of a line that is not
-- understood
abbrev pub answer_of : Judged → List ℤ → Line → Answer
answer_of table coefficients (Ok numbers) =
    convert_judged P.Line (code_of numbers.from) (code_of numbers.to) numbers.tick
    table coefficients
answer_of table coefficients (Err refusal) = Err refusal

-- '`to` is the code asked'. A line that is not understood asks for none, and none is printed
abbrev pub to_of : Line → ℤ
to_of (Ok numbers) = numbers.to
to_of (Err refusal) = pos 0

abbrev pub answered_to : Judged → List ℤ → Line → Answered
answered_to table coefficients line =
    record { to = to_of line; answer = answer_of table coefficients line }

-- '`to tick steps` .. or `refused N`'
unfoldable pub printed_for : Judged → List ℤ → Line → List ℕ
printed_for table coefficients line = line_text (to_of line) (answer_of table coefficients line)

-- 'one line each, no header'
unfoldable pub printed_lines : Judged → List ℤ → List Line → List ℕ
printed_lines table coefficients [] = []
printed_lines table coefficients (line ∷ more) =
    printed_for table coefficients line ++ printed_lines table coefficients more

-- the output for an input whose first line has the number given, over table bytes that were judged
-- and the coefficients that they hold
unfoldable pub output_from : ℕ → Judged → List ℤ → List ℕ → List ℕ
output_from line table coefficients input =
    printed_lines table coefficients (read_from line (lines_of input))

-- the whole program: the bytes of `table.blk`, and standard input
unfoldable pub tickline_of : List ℕ → List ℕ → List ℕ
tickline_of bytes input =
    printed_lines (judged bytes) (coefficients_in bytes) (lines_read input)

-- ---- a part of the input
unfoldable pub has_newline : List ℕ → Bool
has_newline [] = false
has_newline (byte ∷ more) = eqb byte 10 || has_newline more

-- the whole lines at its front, with their newlines
unfoldable pub whole_lines : List ℕ → List ℕ
whole_lines [] = []
whole_lines (byte ∷ more) = cond (has_newline (byte ∷ more)) (byte ∷ whole_lines more) []

-- what comes after the last newline: the start of a line that is unfinished
unfoldable pub unfinished : List ℕ → List ℕ
unfinished [] = []
unfinished (byte ∷ more) = cond (has_newline (byte ∷ more)) (unfinished more) (byte ∷ more)

-- what is kept of an unfinished line: with 65 bytes it is too long, whatever follows
unfoldable pub kept_of : List ℕ → List ℕ
kept_of text = take 65 (unfinished text)

-- the output for an input that comes in pieces, by what is kept from piece to piece: an unfinished
-- line, and its number
unfoldable pub output_in_pieces : ℕ → Judged → List ℤ → List ℕ → List (List ℕ) → List ℕ
output_in_pieces line table coefficients kept [] = output_from line table coefficients kept
output_in_pieces line table coefficients kept (piece ∷ more) =
    output_from line table coefficients (whole_lines (kept ++ piece))
    ++ output_in_pieces (line_after line (lines_of (whole_lines (kept ++ piece)))) table
    coefficients
    (kept_of (kept ++ piece)) more

-- the pieces, one after the other
unfoldable pub joined_pieces : List (List ℕ) → List ℕ
joined_pieces [] = []
joined_pieces (piece ∷ more) = piece ++ joined_pieces more
