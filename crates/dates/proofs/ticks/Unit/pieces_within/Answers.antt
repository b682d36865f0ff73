-- `dates::ticks::Unit::pieces_within` meets its contract: so few digits are shifted without loss.
-- Assumes nothing.
use mathlib.Core.Path.{◌≡◌, refl, ap, ◌∙◌}
use Prim.Native.Nat.{◌*◌, ◌%◌, ◌^◌, ◌<◌, ◌≤◌}
use native.Mathlib.Nat.{le_trans, lt_of_lt_of_le, mul-le-mul_left, mul-lt-mul_of_pos_right}
use native.Mathlib.Nat.{mul_comm}
use native.Mathlib.Omega.{arith}
use lib.Dec.{lit≤, lit<}
use lib.IntN.{ℤ, pos, nat_abs, ◌*ℤ◌}
use lib.Pow.{pow_pos, pow_mono}
use mir.Syntax.{w64}
use mir.Val.{to_z, of_z}
use Rattle.numbers.specs.Rounding.{floor_div}
use Rattle.numbers.proofs.Machine.{fits_small, read_is, shl_is, shr_floor}
use Rattle.numbers.proofs.Order.{abs-*}
use Rattle.numbers.proofs.Ring.{one-*}
use Rattle.numbers.proofs.Rounding.{floor_small}
use Rattle.dates.specs.Inner.{left_by}
use Rattle.dates.proofs.Values.{pieces_are}
use Rattle.dates.proofs.ticks.Unit.pieces_within.Goals as goal
use Rattle.dates.proofs.ticks.Unit.pieces_within.Goals.{Start}

module _ (s : Start) where
  abbrev digits : ℤ
  digits = s.args.digits

  abbrev power : ℤ
  power = pos (2 ^ s.args.more)

  few : nat_abs digits * 2 ^ s.args.more < 2 ^ 63
  few =
      lt_of_lt_of_le (mul-lt-mul_of_pos_right s.requires.few (pow_pos s.args.more))
      (le_trans (mul-le-mul_left (2 ^ 53) (pow_mono s.requires.shift)) (lit≤ tt))

  all_is : to_z w64 (of_z w64 digits * 2 ^ s.args.more % 18446744073709551616) ≡ power *ℤ digits
  all_is = shl_is digits s.args.more few

  units_small : nat_abs (floor_div (power *ℤ digits) (2 ^ 31)) ≤ 2 ^ 59
  units_small =
      floor_small (power *ℤ digits) (2 ^ 31) (2 ^ 59) (pow_pos 31)
      (le_trans (omega (arith, few, abs-* power digits, mul_comm (nat_abs digits) (2 ^ s.args.more))) (lit≤ {m = 2 ^ 63} {n = 2 ^ 31 * 2 ^ 59} tt))

pub returns : goal.returns
returns c =
    let units = floor_div (power (goal.at.returns c).Start *ℤ digits (goal.at.returns c).Start) (2 ^ 31) in
    let fit = fits_small units (2 ^ 59) (units_small (goal.at.returns c).Start) (lit< tt) in
    rw (all_is (goal.at.returns c).Start, shr_floor (power (goal.at.returns c).Start *ℤ digits (goal.at.returns c).Start) (2 ^ 31), read_is units fit)
    (pieces_are c.args.self.odd (power (goal.at.returns c).Start *ℤ digits (goal.at.returns c).Start) units _ c.args.self.factored.small
    (units_small (goal.at.returns c).Start) refl
    (read_is c.cut_product.result (record { sfits = c.cut_product.type_inv })
    ∙ c.cut_product.ensures
    ∙ ap (λ (z : ℤ). floor_div (pos c.args.self.odd *ℤ z) (2 ^ 31))
    (read_is c.last_digits.result (record { sfits = c.last_digits.type_inv }) ∙ c.last_digits.ensures
    ∙ ap (left_by (2 ^ 31)) (one-* _ ∙ all_is (goal.at.returns c).Start))))
