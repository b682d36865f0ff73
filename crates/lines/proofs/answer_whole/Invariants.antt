-- `lines::answer_whole` meets its contract. The invariant: the whole lines of the bytes passed are
-- answered and counted. Assumes nothing.
use Rattle.blocks.specs.Answers.{Judged}
use mathlib.Core.Path.{◌≡◌}
use mathlib.Core.List.{List}
use Prim.Native.Nat.{ℕ, ◌-◌, ◌*◌, ◌≤◌}
use lib.IntN.{ℤ}
use lib.ListN.{length, take}
use Rattle.printing.specs.Buffers.{longest, TextPut}
use Rattle.lines.specs.Output.{lines_of, line_after, output_from, whole_lines}
use Rattle.lines.proofs.answer_whole.Given as goal

pub record Passed (text : List ℕ) (first : ℕ) (table : Judged) (coefficients : List ℤ) (out₀ : List ℕ) (out : List ℕ)
    (start end line i : ℕ) : Type 0 where
  pub inside : i ≤ length text
  pub begins : start ≡ length (whole_lines (take i text))
  pub put : TextPut out₀ 0 (output_from first table coefficients (whole_lines (take i text))) out end
  pub next : line ≡ line_after first (lines_of (whole_lines (take i text)))
  pub few : end ≤ longest * start

abbrev pub invariant-loop-i : goal.invariant-loop-i
invariant-loop-i l = Passed l.text l.first l.over.judged l.over.coefficients.now l.initial.out l.out l.start l.end l.line l.i

abbrev pub decreases-loop-i : goal.decreases-loop-i
decreases-loop-i l = length l.text - l.i
