-- `words::check::lowest_unchecked` meets its contract. Every block passed has its check right.
-- Assumes nothing.
use Prim.Native.Nat.{ℕ, ◌<◌}
use Rattle.words.specs.Check.{is_checked}
use Rattle.words.specs.Words.{block}
use mathlib.Core.Bool.{true}
use mathlib.Core.Path.{◌≡◌}
use Rattle.words.proofs.check.lowest_unchecked.Given as goal

abbrev pub invariant-loop-k : goal.invariant-loop-k
invariant-loop-k l = (i : ℕ) → i < l.k → is_checked (block l.bytes i) ≡ true
