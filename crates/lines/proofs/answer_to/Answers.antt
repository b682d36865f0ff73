-- `lines::answer_to` meets its contract: the line's numbers and their conversion, or its refusal.
-- Assumes nothing.
use Rattle.line.specs.Answers.{Line, numbers_read}
use Rattle.blocks.specs.Answers.{Judged}
use Rattle.scales.specs.Answers.{Answer}
use Rattle.std.specs.Prelude.{Err}
use borrow.Author.Rules.{rules}
use mathlib.Core.Path.{◌≡◌, sym, ◌∙◌, ap}
use mathlib.Core.List.{List}
use Prim.Native.Nat.{ℕ}
use lib.IntN.{ℤ, pos}
use mir.Syntax.{w64}
use mir.ValLaws.{to_z-of_z}
use Rattle.scales.specs.declared.refusal.Refusal.{Refusal}
use Rattle.scales.specs.declared.scale.Purpose.TheVariants as P
use Rattle.desk.specs.Conversion.{convert_judged}
use Rattle.line.specs.Lines.{code_of}
use Rattle.lines.specs.declared.Answered.{Answered}
use Rattle.lines.specs.Output.{answered_to}
use Rattle.lines.proofs.answer_to.Goals as goal

module _ {line : Line} (table : Judged) (coefficients : List ℤ) where
  -- a line that is understood
  understood : {from to tick : ℤ} {first second : ℕ} {answer : Answer} → line ≡ numbers_read from to tick
      → first ≡ code_of from → second ≡ code_of to
      → answer ≡ convert_judged P.Line first second tick table coefficients
      → ◌≡◌ {A = Answered} (record { to = to; answer = answer }) (answered_to table coefficients line)
  understood read one two converted = rw (read, ← one, ← two, ← converted)

  -- one that is not
  refused : {refusal : Refusal} → line ≡ Err refusal
      → ◌≡◌ {A = Answered} (record { to = pos 0; answer = Err refusal }) (answered_to table coefficients line)
  refused read = rw read

pub returns-in-Ok : goal.returns-in-Ok
returns-in-Ok c =
    let found = c.in-Ok.numbers in
    let from_is = to_z-of_z w64 found.from (record { sfits = search rules }) in
    let to_is = to_z-of_z w64 found.to (record { sfits = search rules }) in
    let tick_is = to_z-of_z w64 found.tick (record { sfits = search rules }) in
    ap (λ (to : ℤ). record { to = to; answer = c.convert_judged-answer.result }) to_is
    ∙ understood c.args.over.judged c.args.over.coefficients.now (sym c.read_line.ensures ∙ c.in-Ok.is) (c.code_of.ensures ∙ ap code_of from_is)
    (c.code_of-in-Ok.ensures ∙ ap code_of to_is) (rw tick_is at c.convert_judged-answer.ensures)

pub returns-in-Err : goal.returns-in-Err
returns-in-Err c = refused c.args.over.judged c.args.over.coefficients.now (sym c.read_line.ensures ∙ c.in-Err.is)
