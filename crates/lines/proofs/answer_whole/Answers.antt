use Rattle.blocks.specs.Answers.{Judged}
use borrow.Author.Tests.{ne_eqb}
use mathlib.Core.Path.{◌≡◌, refl, sym, ◌∙◌, ap}
use mathlib.Core.List.{List, [], ◌∷◌, ◌++◌}
use Prim.Native.Nat.{ℕ, ◌+◌, ◌-◌, ◌*◌, ◌≤◌, ◌<◌}
use native.Mathlib.Numerals.{add-one}
use native.Mathlib.Omega.{arith}
use lib.IntN.{ℤ}
use lib.ListN.{length, get_or, take, drop, length-append}
use lib.Seq.{length-take-le, take-suc, take_all, take-add, drop_at}
use Rattle.printing.specs.Buffers.{longest, with_text}
use Rattle.printing.proofs.Filling.{length_kept, then_text}
use Rattle.line.specs.Lines.{line_read}
use Rattle.lines.specs.Output.{lines_of, next_line, line_after, output_from, whole_lines}
use Rattle.lines.specs.Output.{unfinished, printed_for}
use Rattle.lines.specs.Buffers.{LinesAnswered, Printed}
use Rattle.lines.proofs.Splits.{whole_short, after_whole, whole_grown, whole_ended}
use Rattle.lines.proofs.Parts.{put_nothing}
use Rattle.lines.proofs.Pieces.{output_newline, output_nothing, after_newline}
use Rattle.lines.proofs.answer_whole.Invariants.{Passed}
use Rattle.lines.proofs.answer_whole.Goals as goal

at_first : (text : List ℕ) (first : ℕ) (table : Judged) (coefficients : List ℤ) (out : List ℕ)
    → Passed text first table coefficients out out 0 0 first 0
unfolding whole_lines lines_of line_after
at_first text first table coefficients out =
    record {
      inside = omega arith;
      begins = refl;
      put = rw (output_nothing table coefficients first) (put_nothing out);
      next = refl;
      few = omega arith;
    }

-- the next byte
module _ {text : List ℕ} {first : ℕ} {table : Judged} {coefficients : List ℤ} {out₀ out : List ℕ}
    {start end line i : ℕ}
    (passed : Passed text first table coefficients out₀ out start end line i) where
  before : start ≤ i
  before = omega (arith, whole_short (take i text), length-take-le i text passed.inside, passed.begins)

  -- the line that ends here
  line_is : take (i - start) (drop start text) ≡ unfinished (take i text)
  line_is =
      let b = before in
      let e : start + (i - start) ≡ i = omega arith in
      let h : length (take start text) ≡ start = length-take-le start text (omega (arith, passed.inside)) in
      sym (drop_at (take start text) (take (i - start) (drop start text)) start h)
      ∙ ap (drop start) (sym (take-add start (i - start) text) ∙ ap (λ (n : ℕ). take n text) e)
      ∙ ap (λ (n : ℕ). drop n (take i text)) passed.begins
      ∙ after_whole (take i text)

  -- at the end
  at_last : length text ≤ i
      → LinesAnswered text first table coefficients out₀ out (record { text = start; out = end; line = line })
  at_last h =
      let e : take i text ≡ text = take_all i text h in
      record { begins = rw e at passed.begins; put = rw e at passed.put; next = rw e at passed.next }

  module _ (room : longest * length text ≤ length out₀) where
    same : length out ≡ length out₀
    same = length_kept passed.put (omega (arith, before, passed.few, passed.inside, passed.put.after))

    module _ (more : i < length text) where
      ready : end + longest ≤ length out
      ready = omega (arith, before, passed.few, same)

      grown : take (i + 1) text ≡ take i text ++ (get_or text i 0 ∷ [])
      grown = rw (add-one i) (take-suc text i 0 more)

      on : (get_or text i 0 ≡ 10 → ⊥) → Passed text first table coefficients out₀ out start end line (i + 1)
      on other =
          let w : whole_lines (take (i + 1) text) ≡ whole_lines (take i text) = ap whole_lines grown
          ∙ whole_grown (get_or text i 0) (ne_eqb (get_or text i 0) 10 other) (take i text) in
          record { inside = omega arith; begins = rw w passed.begins; put = rw w passed.put; next = rw w passed.next; few = passed.few }

      module _ {out' : List ℕ} {next number : ℕ} (newline : get_or text i 0 ≡ 10)
          (printed : Printed (take (i - start) (drop start text)) line table coefficients out end out' next)
          (follows : number ≡ next_line line) where
        whole : whole_lines (take (i + 1) text) ≡ whole_lines (take i text ++ (10 ∷ []))
        whole = ap whole_lines (grown ∙ ap (λ (byte : ℕ). take i text ++ (byte ∷ [])) newline)

        text_is : output_from first table coefficients (whole_lines (take (i + 1) text))
            ≡ output_from first table coefficients (whole_lines (take i text))
            ++ printed_for table coefficients (line_read (take (i - start) (drop start text)) line)
        text_is =
            rw (line_is, passed.next)
            (ap (output_from first table coefficients) whole ∙ output_newline table coefficients first (take i text))

        ended : Passed text first table coefficients out₀ out' (i + 1) next number (i + 1)
        ended = record {
          inside = omega arith;
          begins =
              sym
              (ap length (whole ∙ whole_ended (take i text))
              ∙ length-append (take i text) (10 ∷ [])
              ∙ ap (λ (n : ℕ). n + 1) (length-take-le i text passed.inside));
          put =
              rw text_is (then_text passed.put printed.put (omega (arith, before, passed.few, passed.put.after, printed.put.after, printed.short)));
          next =
              follows
              ∙ ap next_line passed.next
              ∙ sym (ap (λ (l : List ℕ). line_after first (lines_of l)) whole ∙ after_newline table coefficients first (take i text));
          few = omega (arith, before, passed.few, printed.short);
        }

      at_newline : let line_text =
          printed_for table coefficients (line_read (take (i - start) (drop start text)) line) in
          get_or text i 0 ≡ 10 → length line_text ≤ longest
          → Passed text first table coefficients out₀ (with_text out end line_text) (i + 1) (end + length line_text)
          (next_line line) (i + 1)
      at_newline newline few =
          ended newline (record { put = record { holds = refl; after = refl }; short = omega arith }) refl

pub loop-i-init : goal.loop-i-init
loop-i-init c = at_first _ _ _ _ _

pub bounds-text-i : goal.bounds-text-i
bounds-text-i c = omega arith

pub slice_bounds-answer_line-count : goal.slice_bounds-answer_line-count
slice_bounds-answer_line-count c = before c.loop-i.invariant

pub slice_bounds-answer_line-start : goal.slice_bounds-answer_line-start
slice_bounds-answer_line-start c = before c.loop-i.invariant

pub slice_bounds-answer_line-end : goal.slice_bounds-answer_line-end
slice_bounds-answer_line-end c = c.loop-i.invariant.inside

pub answer_line-end-requires : goal.answer_line-end-requires
answer_line-end-requires c = ready c.loop-i.invariant c.requires c.loop-i-test.true

pub next_line-line-requires : goal.next_line-line-requires
next_line-line-requires c = tt

pub loop-i-smaller : goal.loop-i-smaller
loop-i-smaller c = omega arith

-- by both cases of the byte: no test is named
pub loop-i-preserved : goal.loop-i-preserved
loop-i-preserved c =
    let p = c.loop-i.invariant in
    let room = c.requires in
    let more = c.loop-i-test.true in
    let other = on p room more in
    let newline = at_newline p room more in
    grind (arith, other, newline)

pub shape_of-out : goal.shape_of-out
shape_of-out c = same c.loop-i.invariant c.requires

pub returns : goal.returns
returns c = at_last c.loop-i.invariant c.loop-i-test.false
