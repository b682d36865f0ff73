-- The rank as code finds it, one rule after the other, each by its test's answer: that what it
-- returns is the rank is `search ranks`. Assumes nothing.
use mathlib.Core.Path.{◌≡◌, refl, sym, ◌∙◌}
use mathlib.Core.Bool.{Bool, true, false, not}
use mathlib.Core.List.{List, [], ◌∷◌}
use Prim.Native.Nat.{ℕ, ◌-◌}
use native.Mathlib.Omega.{arith}
use borrow.Author.Tests.{ltb-true, not-true, not-false}
use lib.Dec.{ltb}
use Rattle.numbers.specs.Tests.{Rule, rank}

module _ {A : Type 0} (x : Rule A) (xs : List (Rule A)) (a : A) (answer : Bool) (e : answer ≡ x.pass a) where
  pub rank_fails : not answer ≡ true → 0 ≡ rank (x ∷ xs) a
  unfolding rank
  rank_fails n = rw (sym e ∙ not-true answer n)

  pub rank_passes : (r : ℕ) → not answer ≡ false → ltb 0 r ≡ true → r - 1 ≡ rank xs a → r ≡ rank (x ∷ xs) a
  unfolding rank
  rank_passes r n some rest = rw (sym e ∙ not-false answer n) (omega (arith, ltb-true 0 r some))

pub rank_none : {A : Type 0} (a : A) → 0 ≡ rank {A = A} [] a
unfolding rank
rank_none a = refl

pub ruleset ranks = (rank_fails, rank_passes, rank_none)
