-- A text's whole lines and its unfinished one, byte by byte. Assumes nothing.
use mathlib.Core.Path.{◌≡◌, refl, sym, ◌∙◌, ap}
use mathlib.Core.Bool.{true, false}
use mathlib.Core.List.{List, [], ◌∷◌, ◌++◌}
use Prim.Native.Nat.{ℕ, zero, suc, ◌≤◌}
use native.Mathlib.Omega.{arith}
use lib.Dec.{eqb}
use lib.ListN.{length, take, drop, length-append}
use lib.Seq.{drop-append_seam}
use Rattle.numbers.proofs.Flags.{never, or_told, or_neither}
use Rattle.line.specs.Lines.{starting_with}
use Rattle.line.proofs.Cases.{either}
use Rattle.lines.specs.Output.{lines_of, has_newline, whole_lines, unfinished}

-- ---- the first byte
newline_after : (byte : ℕ) (more : List ℕ) → eqb byte 10 ≡ false → has_newline (byte ∷ more) ≡ true
    → has_newline more ≡ true
unfolding has_newline
newline_after byte more e h = or_told e h

plain_both : (byte : ℕ) (more : List ℕ) → has_newline (byte ∷ more) ≡ false
    → (eqb byte 10 ≡ false) × (has_newline more ≡ false)
unfolding has_newline
plain_both byte more h = either (eqb byte 10)
    (λ (e : eqb byte 10 ≡ true). never (sym (rw e at h)))
    (λ (e : eqb byte 10 ≡ false). (e, rw e at h))

plain_cons : (byte : ℕ) (more : List ℕ) → eqb byte 10 ≡ false → has_newline more ≡ false
    → has_newline (byte ∷ more) ≡ false
unfolding has_newline
plain_cons byte more e h = or_neither e h

-- ---- the two parts
pub whole_then : (text : List ℕ) → whole_lines text ++ unfinished text ≡ text
unfolding whole_lines unfinished
whole_then [] = refl
whole_then (byte ∷ more) = either (has_newline (byte ∷ more))
    (λ (e : has_newline (byte ∷ more) ≡ true). rw (e, whole_then more))
    (λ (e : has_newline (byte ∷ more) ≡ false). rw e)

pub whole_short : (text : List ℕ) → length (whole_lines text) ≤ length text
whole_short text = omega (arith, length-append (whole_lines text) (unfinished text), ap length (whole_then text))

pub after_whole : (text : List ℕ) → drop (length (whole_lines text)) text ≡ unfinished text
after_whole text = ap (drop (length (whole_lines text))) (sym (whole_then text)) ∙ drop-append_seam (whole_lines text) (unfinished text)

pub nothing_plain : has_newline [] ≡ false
unfolding has_newline
nothing_plain = refl

pub unfinished_plain : (text : List ℕ) → has_newline (unfinished text) ≡ false
unfolding unfinished
unfinished_plain [] = nothing_plain
unfinished_plain (byte ∷ more) = either (has_newline (byte ∷ more))
    (λ (e : has_newline (byte ∷ more) ≡ true). rw e (unfinished_plain more))
    (λ (e : has_newline (byte ∷ more) ≡ false). rw e e)

-- the front of a text that has no newline
pub plain_front : (size : ℕ) (text : List ℕ) → has_newline text ≡ false → has_newline (take size text) ≡ false
plain_front zero text h = nothing_plain
plain_front (suc size) [] h = nothing_plain
plain_front (suc size) (byte ∷ more) h = plain_cons byte _ (plain_both byte more h).0 (plain_front size more (plain_both byte more h).1)

-- ---- a newline, and then any text: the lines up to it are whole
has_ended : (text more : List ℕ) → has_newline (text ++ (10 ∷ more)) ≡ true
unfolding has_newline
has_ended [] more = refl
has_ended (byte ∷ text) more = either (eqb byte 10)
    (λ (e : eqb byte 10 ≡ true). rw e)
    (λ (e : eqb byte 10 ≡ false). rw e (has_ended text more))

pub whole_after : (text more : List ℕ) → whole_lines (text ++ (10 ∷ more)) ≡ text ++ (10 ∷ whole_lines more)
unfolding whole_lines
whole_after [] more = rw (has_ended [] more)
whole_after (byte ∷ text) more = rw (has_ended (byte ∷ text) more, whole_after text more)

pub unfinished_after : (text more : List ℕ) → unfinished (text ++ (10 ∷ more)) ≡ unfinished more
unfolding unfinished
unfinished_after [] more = rw (has_ended [] more)
unfinished_after (byte ∷ text) more = rw (has_ended (byte ∷ text) more, unfinished_after text more)

pub whole_ended : (text : List ℕ) → whole_lines (text ++ (10 ∷ [])) ≡ text ++ (10 ∷ [])
unfolding whole_lines
whole_ended text = whole_after text []

-- ---- another byte more: as many lines are whole
module _ (byte : ℕ) (plain : eqb byte 10 ≡ false) where
  pub has_grown : (text : List ℕ) → has_newline (text ++ (byte ∷ [])) ≡ has_newline text
  unfolding has_newline
  has_grown [] = rw plain
  has_grown (first ∷ more) = rw (has_grown more)

  pub whole_grown : (text : List ℕ) → whole_lines (text ++ (byte ∷ [])) ≡ whole_lines text
  unfolding whole_lines
  whole_grown [] = rw (has_grown [], nothing_plain)
  whole_grown (first ∷ more) = rw (has_grown (first ∷ more), whole_grown more)

-- ---- the lines of a text
one_line : (byte : ℕ) (more : List ℕ) → 1 ≤ length (lines_of (byte ∷ more))
unfolding lines_of
one_line byte more = either (eqb byte 10)
    (λ (e : eqb byte 10 ≡ true). rw e (omega arith))
    (λ (e : eqb byte 10 ≡ false). rw e (starts (lines_of more)))
  where
    starts : (lines : List (List ℕ)) → 1 ≤ length (starting_with byte lines)
    starts [] = omega arith
    starts (line ∷ others) = omega arith

starting_both : (byte : ℕ) (lines others : List (List ℕ)) → 1 ≤ length lines
    → starting_with byte (lines ++ others) ≡ starting_with byte lines ++ others
starting_both byte [] others h = let z : ⊥ = omega arith in absurd z
starting_both byte (line ∷ lines) others h = refl

some_whole : (text : List ℕ) → has_newline text ≡ true → 1 ≤ length (lines_of (whole_lines text))
unfolding whole_lines
some_whole [] e = never (rw nothing_plain at e)
some_whole (byte ∷ more) e = rw e (one_line byte (whole_lines more))

-- whole lines, and then any text
pub lines_whole : (text more : List ℕ) → lines_of (whole_lines text ++ more)
    ≡ lines_of (whole_lines text) ++ lines_of more
unfolding lines_of whole_lines
lines_whole [] more = refl
lines_whole (byte ∷ text) more = either (has_newline (byte ∷ text))
    (λ (h : has_newline (byte ∷ text) ≡ true). rw h (either (eqb byte 10)
    (λ (e : eqb byte 10 ≡ true). rw (e, lines_whole text more))
    (λ (e : eqb byte 10 ≡ false).
    rw (e, lines_whole text more)
    (starting_both byte (lines_of (whole_lines text)) (lines_of more) (some_whole text (newline_after byte text e h))))))
    (λ (h : has_newline (byte ∷ text) ≡ false). rw h)

-- a line and its newline, and then any text
pub lines_ended : (line more : List ℕ) → has_newline line ≡ false → lines_of (line ++ (10 ∷ more))
    ≡ line ∷ lines_of more
unfolding lines_of
lines_ended [] more h = refl
lines_ended (byte ∷ line) more h = let p = plain_both byte line h in rw (p.0, lines_ended line more p.1)

-- a line whose newline is missing
pub lines_last : (line : List ℕ) → has_newline line ≡ false → 1 ≤ length line → lines_of line ≡ line ∷ []
unfolding lines_of
lines_last [] h l = let z : ⊥ = omega arith in absurd z
lines_last (byte ∷ []) h l = rw (plain_both byte [] h).0
lines_last (byte ∷ next ∷ more) h l =
    let p = plain_both byte (next ∷ more) h in
    rw p.0 (ap (starting_with byte) (lines_last (next ∷ more) p.1 (omega arith)))
