-- `lines::keep` meets its contract. The invariant: as many bytes as are counted stand at the front;
-- those that are still to be moved are as they were, since none is moved to a place behind its own.
-- Assumes nothing.
use mathlib.Core.List.{List}
use Prim.Native.Nat.{ℕ, ◌+◌, ◌≤◌}
use lib.ListN.{take, drop}
use Rattle.printing.specs.Buffers.{TextPut}
use Rattle.lines.proofs.keep.Given as goal

-- the bytes that may be moved
abbrev pub part : List ℕ → ℕ → ℕ → List ℕ
part text start end = drop start (take end text)

pub record Moved (text₀ : List ℕ) (start end : ℕ) (text : List ℕ) (kept : ℕ) : Type 0 where
  pub few : kept ≤ 65
  pub inside : start + kept ≤ end
  pub put : TextPut text₀ 0 (take kept (part text₀ start end)) text kept

abbrev pub invariant-loop-kept : goal.invariant-loop-kept
invariant-loop-kept l = Moved l.initial.text l.start l.end l.text l.kept
