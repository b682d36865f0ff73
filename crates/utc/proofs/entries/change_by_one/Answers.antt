-- `utc::entries::change_by_one` meets its contract: two numbers are one apart where the second is
-- one more than the first, or one less. Assumes nothing.
use borrow.Author.Tests.{eq-eqb}
use mathlib.Core.Path.{◌≡◌, sym, ◌∙◌, ap}
use native.Mathlib.Omega.{arith}
use Prim.Native.Nat.{◌≤◌}
use lib.Dec.{lit<}
use lib.IntN.{ℤ, pos, nat_abs, ◌+ℤ◌, ◌-ℤ◌}
use mir.Syntax.{w64}
use mir.Val.{SFits, of_z}
use Rattle.numbers.specs.Signs.{gap}
use Rattle.numbers.proofs.Differences.{rep, rep₂, lin, sizes}
use Rattle.numbers.proofs.Machine.{fits_small, read, read_is, same_bits, equal_test}
use Rattle.utc.proofs.entries.change_by_one.Goals as goal
use Rattle.utc.proofs.entries.change_by_one.Goals.{Start}

-- one more, one less, and nothing else
up : (x y : ℤ) → y ≡ x +ℤ pos 1 → gap x y ≡ 1
up = rep₂ _ (λ a b c d. simp sizes (omega arith))

down : (x y : ℤ) → y ≡ x -ℤ pos 1 → gap x y ≡ 1
down = rep₂ _ (λ a b c d. simp sizes (omega arith))

not_up : (x y : ℤ) → (y ≡ x +ℤ pos 1 → ⊥) → gap x y ≡ 1 → y ≡ x -ℤ pos 1
not_up = rep₂ _ (λ a b c d. simp sizes (omega arith))

-- both are small
more_small : (x : ℤ) → nat_abs x ≤ 100 → nat_abs (x +ℤ pos 1) ≤ 101
more_small = rep _ (λ a b. simp lin (omega arith))

less_small : (x : ℤ) → nat_abs x ≤ 100 → nat_abs (x -ℤ pos 1) ≤ 101
less_small = rep _ (λ a b. simp lin (omega arith))

from_is : (c : Start) → read c.args.from ≡ c.args.from
from_is c = read_is c.args.from c.ranges.from

more : (c : Start) → SFits w64 (c.args.from +ℤ pos 1)
more c = fits_small _ 101 (more_small c.args.from c.requires) (lit< tt)

less : (c : Start) → SFits w64 (c.args.from -ℤ pos 1)
less c = fits_small _ 101 (less_small c.args.from c.requires) (lit< tt)

pub overflow_add-from : goal.overflow_add-from
overflow_add-from c = rw (from_is c) (more c)

pub overflow_sub-result : goal.overflow_sub-result
overflow_sub-result c = rw (from_is c.before) (less c.before)

pub returns-then-to-from : goal.returns-then-to-from
returns-then-to-from c =
    let x = c.args.from in
    let y = c.args.to in
    let e = same_bits y (x +ℤ pos 1) c.ranges.to (more c.before) (rw (from_is c.before) at c.if-to-from.true) in
    eq-eqb _ _ c.if-to-from.true ∙ sym (eq-eqb (gap x y) 1 (up x y e))

pub returns-else-to-from : goal.returns-else-to-from
returns-else-to-from c =
    let x = c.args.from in
    let y = c.args.to in
    let no = rw (from_is c.before) at c.if-to-from.false in
    rw (from_is c.before)
    (equal_test y (x -ℤ pos 1) (gap x y) 1 c.ranges.to (less c.before) (down x y) (not_up x y (λ e. no (ap (of_z w64) e))))
