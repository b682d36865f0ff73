-- `form::Shape::lowest_unformed` meets its contract. Outside: every block passed is formed. Inside:
-- every byte passed is right. Assumes nothing.
use Prim.Native.Nat.{ℕ, ◌-◌, ◌≤◌, ◌<◌}
use Rattle.form.specs.Form.{is_formed, is_right}
use Rattle.words.specs.Words.{block}
use Rattle.std.specs.Prelude.{None}
use mathlib.Core.Bool.{true}
use mathlib.Core.Path.{◌≡◌}
use Rattle.form.proofs.Shape.lowest_unformed.Given as goal

abbrev pub invariant-loop-j : goal.invariant-loop-j
invariant-loop-j l = (l.found ≡ None) × (l.j ≤ 508) × ((i : ℕ) → i < l.j → is_right l.self.count l.self.degree l.k (block l.bytes l.k) i ≡ true)

abbrev pub decreases-loop-j : goal.decreases-loop-j
decreases-loop-j l = 508 - l.j

abbrev pub invariant-blocks-2 : goal.invariant-blocks-2
invariant-blocks-2 l = (l.found ≡ None) × ((i : ℕ) → i < l.k → is_formed l.self.count l.self.degree i (block l.bytes i) ≡ true)
