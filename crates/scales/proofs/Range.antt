-- What a valid tick is: one of size at most 6·10^18. Assumes nothing.
use borrow.Author.Tests.{leb-true}
use mathlib.Core.Path.{◌≡◌, sym, ◌∙◌}
use mathlib.Core.Bool.{true}
use Prim.Native.Nat.{◌≤◌}
use lib.IntN.{ℤ, nat_abs}
use Rattle.numbers.proofs.Machine.{size_test}
use Rattle.scales.specs.Tick.{furthest, is_valid}

pub valid_size : (t : ℤ) → is_valid t ≡ true → nat_abs t ≤ furthest
unfolding is_valid
valid_size t e = leb-true (nat_abs t) furthest (sym (size_test furthest t) ∙ e)
