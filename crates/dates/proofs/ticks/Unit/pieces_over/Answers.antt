-- `dates::ticks::Unit::pieces_over` meets its contract: 2^6 times the digits fit, and are shifted
-- back by what is too much. Assumes nothing.
use mathlib.Core.Path.{◌≡◌, sym, ap, ◌∙◌}
use Prim.Native.Nat.{ℕ, ◌-◌, ◌+◌, ◌*◌, ◌%◌, ◌^◌, ◌≤◌}
use native.Mathlib.Nat.{le_of_lt, le_trans, mul-le-mul_right}
use native.Mathlib.Omega.{arith}
use lib.Dec.{lit≤, lit<}
use lib.IntN.{ℤ, pos, nat_abs, ◌*ℤ◌}
use lib.Pow.{pow-add, pow_pos}
use mir.Syntax.{w64}
use mir.Val.{to_z, of_z}
use Rattle.numbers.specs.Rounding.{floor_div}
use Rattle.numbers.proofs.Differences.{rep, lin}
use Rattle.numbers.proofs.Machine.{fits_small, read_is, shl_is, shr_floor}
use Rattle.numbers.proofs.Order.{size-*}
use Rattle.numbers.proofs.Rounding.{floor_same, floor_small}
use Rattle.dates.specs.Inner.{left_by}
use Rattle.dates.proofs.Values.{pieces_are}
use Rattle.dates.proofs.ticks.Unit.pieces_over.Goals as goal
use Rattle.dates.proofs.ticks.Unit.pieces_over.Goals.{Start}

module _ (s : Start) where
  abbrev digits : ℤ
  digits = s.args.digits

  abbrev power : ℕ
  power = 2 ^ s.args.more

  abbrev back : ℕ
  back = 2 ^ (37 - s.args.more)

  shifted : to_z w64 (of_z w64 digits * 2 ^ 6 % 18446744073709551616) ≡ pos 64 *ℤ digits
  shifted = shl_is digits 6 (let h = s.requires.few in omega arith)

  -- both are so many 2^-31 of the digits
  units_are : floor_div (pos 64 *ℤ digits) back ≡ floor_div (pos power *ℤ digits) (2 ^ 31)
  units_are = floor_same (pos 64 *ℤ digits) (pos power *ℤ digits) back (2 ^ 31) (pow_pos (37 - s.args.more)) (pow_pos 31) (go back power digits powers)
    where
      powers : back * power ≡ 2 ^ 37
      powers = sym (pow-add 2 (37 - s.args.more) s.args.more) ∙ ap (λ (k : ℕ). 2 ^ k) (sum s.args.more s.requires.shift)
        where
          sum : (k : ℕ) → k ≤ 37 → 37 - k + k ≡ 37
          sum k h = omega arith

      go : (b p : ℕ) (z : ℤ) → b * p ≡ 137438953472 → pos 2147483648 *ℤ (pos 64 *ℤ z) ≡ pos b *ℤ (pos p *ℤ z)
      go b p = rep _ (λ x y. simp lin (λ e. omega (arith, ap (λ (k : ℕ). k * x) e, ap (λ (k : ℕ). k * y) e)))

  units_small : nat_abs (floor_div (pos 64 *ℤ digits) back) ≤ 2 ^ 59
  units_small =
      floor_small (pos 64 *ℤ digits) back (2 ^ 59) (pow_pos (37 - s.args.more))
      (le_trans (size-* (pos 64) digits (lit≤ {m = 64} {n = 64} tt) (le_of_lt s.requires.few))
      (omega (arith, mul-le-mul_right (2 ^ 59) (pow_pos (37 - s.args.more)))))

pub returns : goal.returns
returns c =
    let units = floor_div (pos 64 *ℤ digits (goal.at.returns c).Start) (back (goal.at.returns c).Start) in
    let fit = fits_small units (2 ^ 59) (units_small (goal.at.returns c).Start) (lit< tt) in
    let last = read_is c.last_digits.result (record { sfits = c.last_digits.type_inv }) in
    rw (shifted (goal.at.returns c).Start, shr_floor (pos 64 *ℤ digits (goal.at.returns c).Start) (back (goal.at.returns c).Start), read_is units fit)
    (pieces_are c.args.self.odd (pos (power (goal.at.returns c).Start) *ℤ digits (goal.at.returns c).Start) units _ c.args.self.factored.small
    (units_small (goal.at.returns c).Start) (units_are (goal.at.returns c).Start)
    (read_is c.cut_product.result (record { sfits = c.cut_product.type_inv })
    ∙ c.cut_product.ensures
    ∙ ap (λ (z : ℤ). floor_div (pos c.args.self.odd *ℤ z) (2 ^ 31))
    (last ∙ c.last_digits.ensures
    ∙ ap (λ (z : ℤ). left_by (2 ^ 31) (pos (power (goal.at.returns c).Start) *ℤ z)) (read_is (digits (goal.at.returns c).Start) c.ranges.digits))))
