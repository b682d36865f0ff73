-- `granule::delay` meets its contract: v / 65536 rounded is half of v / 32768, rounded down, and
-- one. Assumes nothing.
use borrow.Author.Rules.{rules}
use mathlib.Core.Path.{◌≡◌, sym, ◌∙◌}
use Prim.Native.Nat.{◌+◌, ◌^◌, ◌≤◌}
use native.Mathlib.Nat.{le_refl}
use native.Mathlib.Omega.{arith}
use lib.Dec.{lit<}
use lib.IntN.{ℤ, pos, ◌+ℤ◌, nat_abs}
use lib.Signed.{shr_z}
use mir.Syntax.{w64}
use mir.Val.{SFits}
use Rattle.numbers.specs.Rounding.{floor_div}
use Rattle.numbers.proofs.Order.{size-+}
use Rattle.numbers.proofs.Machine.{fits, shr_floor, read, read_is, fits_size}
use Rattle.numbers.proofs.Rounding.{floor_small, nearest_twice}
use Rattle.granule.specs.Rule.{delay_of}
use Rattle.granule.proofs.delay.Goals as goal

-- the two shifts, in the words of the code
abbrev raised_of : ℤ → ℤ
raised_of v = read (shr_z (read v) 32768) +ℤ pos 1

record Safe (v : ℤ) : Type 0 where
  raised : SFits w64 (raised_of v)
  is : read (shr_z (read (raised_of v)) 2) ≡ delay_of v

safe : (v : ℤ) → SFits w64 v → Safe v
unfolding delay_of
safe v f =
    let low = floor_div v 32768 in
    let low_small : nat_abs low ≤ 2 ^ 48 = floor_small v 32768 (2 ^ 48) (lit< tt) (fits_size v f) in
    let up_small : nat_abs (low +ℤ pos 1) ≤ 2 ^ 48 + 1 = size-+ low (pos 1) low_small (le_refl 1) in
    let half_small : nat_abs (floor_div (low +ℤ pos 1) 2) ≤ 2 ^ 48 = floor_small (low +ℤ pos 1) 2 (2 ^ 48) (lit< tt) (omega arith) in
    let up_fits : SFits w64 (low +ℤ pos 1) = fits (low +ℤ pos 1) (omega arith) in
    let is : raised_of v ≡ low +ℤ pos 1 = rw (read_is v f, shr_floor v 32768, read_is low (fits low (omega arith))) in
    record {
      raised = rw is up_fits;
      is = rw (is, read_is (low +ℤ pos 1) up_fits, shr_floor (low +ℤ pos 1) 2)
          (read_is (floor_div (low +ℤ pos 1) 2) (fits (floor_div (low +ℤ pos 1) 2) (omega arith)) ∙ sym (nearest_twice v 32768 (lit< tt)));
    }

pub overflow_add-result : goal.overflow_add-result
overflow_add-result c = (safe c.args.v.0 (search rules)).raised

pub returns : goal.returns
returns c = (safe c.args.v.0 (search rules)).is
