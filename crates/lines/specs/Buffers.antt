-- What the functions ask of the buffers that they are lent, and what they leave in them.
use Rattle.blocks.specs.Answers.{Judged}
use Rattle.std.specs.Prelude.{◌≡◌, false, List, ℕ, ◌+◌, ◌*◌, ◌≤◌, ℤ, length, take}
use Rattle.printing.specs.Buffers.{longest, TextPut}
use Rattle.lines.specs.declared.Places.{Places}
use Rattle.line.specs.Lines.{line_read}
use Rattle.lines.specs.Output.{lines_of, line_after, printed_for, output_from, has_newline}
use Rattle.lines.specs.Output.{whole_lines, kept_of}

-- ---- a line
pub record Printed (text : List ℕ) (line : ℕ) (table : Judged) (coefficients : List ℤ)
    (out : List ℕ) (at : ℕ) (out' : List ℕ) (next : ℕ) : Type 0 where
  pub put : TextPut out at (printed_for table coefficients (line_read text line)) out' next
  pub short : next ≤ at + longest

-- a last line: it has no newline
pub record Unfinished (text : List ℕ) (line : ℕ) (out : List ℕ) : Type 0 where
  pub counted : 1 ≤ line
  pub plain : has_newline text ≡ false
  pub room : longest ≤ length out

-- ---- the whole lines of a text
pub record LinesAnswered (text : List ℕ) (first : ℕ) (table : Judged) (coefficients : List ℤ)
    (out out' : List ℕ)
    (r : Places) : Type 0 where
  pub begins : r.text ≡ length (whole_lines text)
  pub put : TextPut out 0 (output_from first table coefficients (whole_lines text)) out' r.out
  pub next : r.line ≡ line_after first (lines_of (whole_lines text))

-- ---- a turn over the text's first bytes
pub record Moving (text : List ℕ) (start end : ℕ) : Type 0 where
  pub ordered : start ≤ end
  pub inside : end ≤ length text

-- a line has at least its newline, so that this is room enough
pub record TextFilled (text : List ℕ) (filled first : ℕ) (out : List ℕ) : Type 0 where
  pub counted : 1 ≤ first
  pub inside : filled ≤ length text
  pub room : longest * length text ≤ length out

pub record Fed (text : List ℕ) (filled first : ℕ) (table : Judged) (coefficients : List ℤ)
    (out text' out' : List ℕ) (r : Places) : Type 0 where
  pub kept : TextPut text 0 (kept_of (take filled text)) text' r.text
  pub put : TextPut out 0
      (output_from first table coefficients (whole_lines (take filled text)))
      out' r.out
  pub next : r.line ≡ line_after first (lines_of (whole_lines (take filled text)))
