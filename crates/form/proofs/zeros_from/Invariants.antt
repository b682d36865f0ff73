-- `form::zeros_from` meets its contract: what makes up 0 is 0, byte by byte. Assumes nothing.
use Prim.Native.Nat.{ℕ, ◌*◌, ◌<◌}
use Rattle.words.specs.Words.{from}
use mathlib.Core.Path.{◌≡◌}
use Rattle.form.proofs.zeros_from.Given as goal

abbrev pub invariant-loop-word : goal.invariant-loop-word
invariant-loop-word l = (l.zeros ≡ 8 * l.word-index) × ((u : ℕ) → u < l.zeros → from l.bytes l.at u ≡ 0)
