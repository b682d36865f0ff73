-- `lines::answer_line` meets its contract: what the line is answered with is printed. Assumes
-- nothing.
use Rattle.blocks.specs.Answers.{Judged}
use borrow.Author.Rules.{rules}
use mathlib.Core.Path.{◌≡◌, subst}
use mathlib.Core.List.{List}
use Prim.Native.Nat.{ℕ, ◌≤◌}
use native.Mathlib.Omega.{arith}
use lib.IntN.{ℤ}
use lib.ListN.{length}
use mir.Syntax.{w64}
use mir.ValLaws.{to_z-of_z}
use Rattle.line.specs.Lines.{line_read}
use Rattle.printing.specs.Texts.{line_text}
use Rattle.printing.specs.Buffers.{longest, TextPut}
use Rattle.lines.specs.declared.Answered.{Answered}
use Rattle.lines.specs.Output.{answered_to, printed_for}
use Rattle.lines.specs.Buffers.{Printed}
use Rattle.lines.proofs.answer_line.Goals as goal

printed : {text : List ℕ} {line : ℕ} {table : Judged} {coefficients : List ℤ} {out : List ℕ} {at : ℕ}
    {out' : List ℕ} {next : ℕ} (answered : Answered)
    → answered ≡ answered_to table coefficients (line_read text line)
    → TextPut out at (line_text answered.to answered.answer) out' next
    → length (line_text answered.to answered.answer) ≤ longest
    → Printed text line table coefficients out at out' next
unfolding printed_for
printed {out = out} {at} {out'} {next} answered is put few = record {
  put = subst (λ (a : Answered). TextPut out at (line_text a.to a.answer) out' next) is put;
  short = omega (arith, put.after);
}

pub returns : goal.returns
returns c =
    let told = c.answer_to-answered in
    let to_is = to_z-of_z w64 told.result.to (record { sfits = search rules }) in
    printed told.result told.ensures (rw to_is at c.write_line.ensures.text) (rw to_is at c.write_line.ensures.short)
