-- `line::reading::read_line` meets its contract: each way out is one of the cases of three fields,
-- found one after the other. Assumes nothing.
use Rattle.line.specs.Answers.{numbers_read}
use mathlib.Core.Path.{◌≡◌, sym, ◌∙◌, ap}
use mathlib.Core.List.{List, ◌∷◌}
use mathlib.Core.Option.{Option, some}
use Prim.Native.Nat.{ℕ, ◌+◌, ◌≤◌, ◌<◌, zero-le}
use native.Mathlib.Omega.{arith}
use lib.IntN.{ℤ}
use lib.ListN.{length}
use mir.Syntax.{w64}
use mir.ValLaws.{to_z-of_z}
use Rattle.line.specs.Lines.{three_numbers, not_understood, line_read}
use Rattle.line.specs.Scan.{found_number, number_scanned}
use Rattle.std.specs.Prelude.{None}
use Rattle.line.proofs.Splitting.{numbers_from, one_more, wrong_at, number_more, number_last}
use Rattle.line.proofs.Splitting.{short_line, long_line}
use borrow.Author.Rules.{rules}
use Rattle.line.proofs.reading.read_line.Goals as goal
use Rattle.line.proofs.reading.read_line.Goals.{In-Some, In-Some-number_from}
use Rattle.line.proofs.reading.read_line.Goals.{In-Some-number_from-2, Start}

-- what is known once one, two and three numbers are found
record First (text : List ℕ) : Type 0 where
  short : length text ≤ 64
  from : ℤ
  end : ℕ
  found : number_scanned text 0 ≡ found_number from end

record Second (text : List ℕ) : Type 0 where
  one : First text
  more : one.end < length text
  to : ℤ
  end : ℕ
  found : number_scanned text (one.end + 1) ≡ found_number to end

record Third (text : List ℕ) : Type 0 where
  two : Second text
  more : two.end < length text
  tick : ℤ
  end : ℕ
  found : number_scanned text (two.end + 1) ≡ found_number tick end

module _ (text : List ℕ) (line : ℕ) where
  -- the line's numbers, as far as they are known
  line_is : length text ≤ 64 → (numbers : List (Option ℤ)) → numbers_from text 0 ≡ numbers
      → line_read text line ≡ three_numbers numbers line
  line_is short numbers e = short_line text line short ∙ ap (λ (l : List (Option ℤ)). three_numbers l line) e

  no_first : length text ≤ 64 → number_scanned text 0 ≡ None → line_read text line ≡ not_understood line
  no_first short w = line_is short _ (wrong_at text 0 w)

  module _ (one : First text) where
    one_only : length text ≤ one.end → line_read text line ≡ not_understood line
    one_only h = line_is one.short _ (number_last text 0 zero-le one.from one.end one.found h)

    after_first : one.end < length text → (rest : List (Option ℤ)) → numbers_from text (one.end + 1) ≡ rest
        → numbers_from text 0 ≡ some one.from ∷ rest
    after_first h rest e = number_more text 0 zero-le one.from one.end one.found h ∙ ap (λ (l : List (Option ℤ)). some one.from ∷ l) e

    no_second : one.end < length text → number_scanned text (one.end + 1) ≡ None
        → line_read text line ≡ not_understood line
    no_second h w = line_is one.short _ (after_first h _ (wrong_at text (one.end + 1) w))

  module _ (two : Second text) where
    inside : two.one.end + 1 ≤ length text
    inside = omega (arith, two.more)

    two_only : length text ≤ two.end → line_read text line ≡ not_understood line
    two_only h =
        line_is two.one.short _ (after_first two.one two.more _ (number_last text (two.one.end + 1) inside two.to two.end two.found h))

    after_second : two.end < length text → (rest : List (Option ℤ)) → numbers_from text (two.end + 1) ≡ rest
        → numbers_from text 0 ≡ some two.one.from ∷ some two.to ∷ rest
    after_second h rest e =
        after_first two.one two.more _
        (number_more text (two.one.end + 1) inside two.to two.end two.found h ∙ ap (λ (l : List (Option ℤ)). some two.to ∷ l) e)

    no_third : two.end < length text → number_scanned text (two.end + 1) ≡ None
        → line_read text line ≡ not_understood line
    no_third h w = line_is two.one.short _ (after_second h _ (wrong_at text (two.end + 1) w))

  module _ (all : Third text) where
    inside₂ : all.two.end + 1 ≤ length text
    inside₂ = omega (arith, all.more)

    all_three : length text ≤ all.end → line_read text line ≡ numbers_read all.two.one.from all.two.to all.tick
    all_three h =
        line_is all.two.one.short _
        (after_second all.two all.more _ (number_last text (all.two.end + 1) inside₂ all.tick all.end all.found h))

    too_many : all.end < length text → line_read text line ≡ not_understood line
    too_many h =
        line_is all.two.one.short _
        (after_second all.two all.more _ (number_more text (all.two.end + 1) inside₂ all.tick all.end all.found h))
        ∙ one_more text (all.end + 1) all.two.one.from all.two.to all.tick line

-- the same at the code's places
abbrev first : (c : In-Some) → First c.args.text.now
first c = record {
  short = omega arith;
  from = c.in-Some.first.number;
  end = c.in-Some.first.end;
  found = sym c.number_from.ensures ∙ c.in-Some.is;
}

abbrev second : (c : In-Some-number_from) → Second c.args.text.now
second c = record {
  one = first (goal.at.In-Some-number_from c).In-Some;
  more = c.if-first-text.false;
  to = c.in-Some-number_from.second.number;
  end = c.in-Some-number_from.second.end;
  found = sym c.number_from-2.ensures ∙ c.in-Some-number_from.is;
}

abbrev third : (c : In-Some-number_from-2) → Third c.args.text.now
third c = record {
  two = second (goal.at.In-Some-number_from-2 c).In-Some-number_from;
  more = c.if-second-text.false;
  tick = c.in-Some-number_from-2.third.number;
  end = c.in-Some-number_from-2.third.end;
  found = sym c.number_from-3.ensures ∙ c.in-Some-number_from-2.is;
}

pub returns-then-text-gt64 : goal.returns-then-text-gt64
returns-then-text-gt64 c = sym (long_line _ _ c.if-text-gt64.true)

pub returns-in_default : goal.returns-in_default
returns-in_default c = sym (no_first _ _ (omega arith) (sym c.number_from.ensures ∙ c.in_default.is))

pub returns-then-first-text : goal.returns-then-first-text
returns-then-first-text c = sym (one_only _ _ (first (goal.at.returns-then-first-text c).In-Some) c.if-first-text.true)

pub returns-in_default-number_from : goal.returns-in_default-number_from
returns-in_default-number_from c =
    sym (no_second _ _ (first (goal.at.returns-in_default-number_from c).In-Some) c.if-first-text.false (sym c.number_from-2.ensures
    ∙ c.in_default-number_from.is))

pub returns-then-second-text : goal.returns-then-second-text
returns-then-second-text c = sym (two_only _ _ (second (goal.at.returns-then-second-text c).In-Some-number_from) c.if-second-text.true)

pub returns-in_default-number_from-2 : goal.returns-in_default-number_from-2
returns-in_default-number_from-2 c =
    sym (no_third _ _ (second (goal.at.returns-in_default-number_from-2 c).In-Some-number_from) c.if-second-text.false (sym c.number_from-3.ensures
    ∙ c.in_default-number_from-2.is))

pub returns-then-third-text : goal.returns-then-third-text
returns-then-third-text c = sym (too_many _ _ (third (goal.at.returns-then-third-text c).In-Some-number_from-2) c.if-third-text.true)

pub returns : goal.returns
returns c =
    rw (
      to_z-of_z w64 c.in-Some.first.number (search rules),
      to_z-of_z w64 c.in-Some-number_from.second.number (search rules),
      to_z-of_z w64 c.in-Some-number_from-2.third.number (search rules),
    ) (sym (all_three _ _ (third (goal.at.returns c).In-Some-number_from-2) c.if-third-text.false))
