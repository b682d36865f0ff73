-- `dates::span::Span::plus` meets its contract: numbers up to 2^61, and their sums, fit. Assumes
-- nothing.
use mathlib.Core.Path.{◌≡◌, ◌∙◌}
use Prim.Native.Nat.{◌≤◌}
use native.Mathlib.Omega.{arith}
use lib.IntN.{ℤ, nat_abs, ◌+ℤ◌}
use mir.Syntax.{w64}
use mir.Val.{SFits, to_z, of_z}
use mir.ValLaws.{to_z-of_z}
use Rattle.numbers.proofs.Order.{size-+}
use Rattle.numbers.proofs.Machine.{fits}
use Rattle.dates.proofs.span.Span.plus.Goals as goal

module _ (x y : ℤ) (h : nat_abs x ≤ 2305843009213693952) (k : nat_abs y ≤ 2305843009213693952) where
  back : (z : ℤ) → nat_abs z ≤ 2305843009213693952 → to_z w64 (of_z w64 z) ≡ z
  back z l = to_z-of_z w64 z (fits z (omega arith))

  added : SFits w64 (to_z w64 (of_z w64 x) +ℤ to_z w64 (of_z w64 y))
  added = rw (back x h, back y k) (fits (x +ℤ y) (omega (arith, size-+ x y h k)))

  sum_is : to_z w64 (of_z w64 (to_z w64 (of_z w64 x) +ℤ to_z w64 (of_z w64 y))) ≡ x +ℤ y
  sum_is = to_z-of_z w64 _ added ∙ rw (back x h, back y k)

pub overflow_add-result : goal.overflow_add-result
overflow_add-result c = added c.args.self.units c.args.other.units c.requires.one.units c.requires.other.units

pub overflow_add-result-2 : goal.overflow_add-result-2
overflow_add-result-2 c = added c.args.self.rest c.args.other.rest c.requires.one.rest c.requires.other.rest

pub returns : goal.returns
returns c =
    record {
      units_are = sum_is c.args.self.units c.args.other.units c.requires.one.units c.requires.other.units;
      rest_is = sum_is c.args.self.rest c.args.other.rest c.requires.one.rest c.requires.other.rest;
    }
