-- The lines' numbers: line k of an input is read as line k, and is refused with 9 and place k where
-- it is not understood. Assumes nothing.
use Rattle.line.specs.Answers.{Line}
use Rattle.std.specs.Prelude.{Err}
use borrow.Author.Tests.{lt-ltb, le-ltb}
use mathlib.Core.Path.{◌≡◌, refl, ◌∙◌, ap}
use mathlib.Core.Bool.{true, false}
use mathlib.Core.List.{List, [], ◌∷◌, ◌++◌, map}
use mathlib.Core.Option.{Option, some, none}
use Prim.Native.Nat.{ℕ, zero, suc, ◌+◌, ◌≤◌, ◌<◌}
use native.Mathlib.Omega.{arith}
use lib.Dec.{ltb, leb}
use lib.IntN.{ℤ}
use lib.ListN.{length, get_or}
use Rattle.scales.specs.declared.refusal.Refusal.{Refusal}
use Rattle.line.specs.Numbers.{number_in}
use Rattle.line.specs.Lines.{fields, three_numbers, not_understood, line_read}
use Rattle.line.proofs.Cases.{either}
use Rattle.lines.specs.Output.{lines_of, greatest_line, next_line, read_from, line_after}
use Rattle.lines.specs.Output.{lines_read}

-- ---- the next line's number
pub next_is : (line : ℕ) → line < greatest_line → next_line line ≡ suc line
next_is line h = rw (lt-ltb line greatest_line h)

pub next_stays : (line : ℕ) → greatest_line ≤ line → next_line line ≡ line
next_stays line h = rw (le-ltb line greatest_line h)

next_counted : (line : ℕ) → 1 ≤ line → 1 ≤ next_line line
next_counted line h = either (ltb line greatest_line)
    (λ (e : ltb line greatest_line ≡ true). rw e (omega arith))
    (λ (e : ltb line greatest_line ≡ false). rw e h)

-- ---- the numbers of lines, and of others after them
pub after_one : (line : ℕ) (text : List ℕ) → line_after line (text ∷ []) ≡ next_line line
unfolding line_after
after_one line text = refl

pub after_both : (line : ℕ) (first second : List (List ℕ))
    → line_after line (first ++ second) ≡ line_after (line_after line first) second
unfolding line_after
after_both line [] second = refl
after_both line (text ∷ more) second = after_both (next_line line) more second

pub after_counted : (line : ℕ) (texts : List (List ℕ)) → 1 ≤ line → 1 ≤ line_after line texts
unfolding line_after
after_counted line [] h = h
after_counted line (text ∷ more) h = after_counted (next_line line) more (next_counted line h)

-- as many further on as there are lines
pub after_is : (line : ℕ) (texts : List (List ℕ)) → line + length texts ≤ greatest_line
    → line_after line texts ≡ line + length texts
unfolding line_after
after_is line [] h = omega arith
after_is line (text ∷ more) h =
    ap (λ (n : ℕ). line_after n more) (next_is line (omega arith))
    ∙ after_is (suc line) more (omega arith)
    ∙ omega arith

pub read_both : (line : ℕ) (first second : List (List ℕ))
    → read_from line (first ++ second) ≡ read_from line first ++ read_from (line_after line first) second
unfolding read_from line_after
read_both line [] second = refl
read_both line (text ∷ more) second = ap (λ (l : List Line). line_read text line ∷ l) (read_both (next_line line) more second)

pub read_one : (line : ℕ) (text : List ℕ) (more : List (List ℕ))
    → read_from line (text ∷ more) ≡ line_read text line ∷ read_from (next_line line) more
unfolding read_from
read_one line text more = refl

-- ---- 'line, from 1'
-- the line that has so many before it
read_at : (line : ℕ) (texts : List (List ℕ)) (before : ℕ) (other : Line) → before < length texts
    → line + before ≤ greatest_line
    → get_or (read_from line texts) before other ≡ line_read (get_or texts before []) (line + before)
unfolding read_from
read_at line [] before other h k = let z : ⊥ = omega arith in absurd z
read_at line (text ∷ more) zero other h k = ap (line_read text) (omega arith)
read_at line (text ∷ more) (suc before) other h k =
    ap (λ (n : ℕ). get_or (read_from n more) before other) (next_is line (omega arith))
    ∙ read_at (suc line) more before other (omega arith) (omega arith)
    ∙ ap (line_read (get_or more before [])) (omega arith)

-- the first line of an input is read as line 1, and each other as the next: line k as line k
pub line_read_lem : (input : List ℕ) (before : ℕ) (other : Line) → before < length (lines_of input)
    → before < greatest_line
    → get_or (lines_read input) before other ≡ line_read (get_or (lines_of input) before []) (suc before)
line_read_lem input before other h k =
    read_at 1 (lines_of input) before other h (omega arith)
    ∙ ap (line_read (get_or (lines_of input) before [])) (omega arith)

-- ---- '9: text line not understood', with the line's number as its place
numbers_refused : (numbers : List (Option ℤ)) (line : ℕ) (refusal : Refusal)
    → three_numbers numbers line ≡ Err refusal
    → refusal ≡ record { number = 9; place = line }
numbers_refused [] line refusal e = cc
numbers_refused (none ∷ more) line refusal e = cc
numbers_refused (some from ∷ []) line refusal e = cc
numbers_refused (some from ∷ none ∷ more) line refusal e = cc
numbers_refused (some from ∷ some to ∷ []) line refusal e = cc
numbers_refused (some from ∷ some to ∷ none ∷ more) line refusal e = cc
numbers_refused (some from ∷ some to ∷ some tick ∷ []) line refusal e = let z : ◌≡◌ {A = ℕ} 0 1 = cc in let no : ⊥ = omega arith in absurd no
numbers_refused (some from ∷ some to ∷ some tick ∷ extra ∷ more) line refusal e = cc

pub not_understood_lem : (text : List ℕ) (line : ℕ) (refusal : Refusal) → line_read text line ≡ Err refusal
    → refusal ≡ record { number = 9; place = line }
unfolding line_read
not_understood_lem text line refusal e = either (leb (length text) 64)
    (λ (h : leb (length text) 64 ≡ true). numbers_refused (map number_in (fields text)) line refusal (rw h at e))
    (λ (h : leb (length text) 64 ≡ false). let f : not_understood line ≡ Err refusal = rw h at e in cc)
