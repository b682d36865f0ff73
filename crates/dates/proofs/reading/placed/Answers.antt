-- `dates::reading::placed` meets its contract: what is not refused for its units fits 64 bits.
-- Assumes nothing.
use mathlib.Core.Path.{◌≡◌, sym, ap, ◌∙◌}
use Prim.Native.Nat.{◌^◌, ◌≤◌}
use native.Mathlib.Omega.{arith}
use lib.Dec.{lit<}
use lib.IntN.{ℤ, pos, neg_ℤ, nat_abs, ◌+ℤ◌, ◌-ℤ◌, ◌*ℤ◌, +ℤ_idl, *ℤ_comm}
use mir.Syntax.{w64}
use mir.Val.{SFits}
use Rattle.numbers.proofs.Order.{abs_neg, size-+}
use Rattle.numbers.proofs.Machine.{fits, fits_small, lt_yes, lt_no, read, read_is}
use Rattle.dates.specs.Readings.{in_range}
use Rattle.dates.proofs.Spans.{too_late, too_early, units_size, most_size, per_size}
use Rattle.dates.proofs.reading.placed.Goals as goal
use Rattle.dates.proofs.reading.placed.Goals.{
  Else-units-unit-2,
  Start,
  then-units-unit-via-then-units-unit,
  then-units-unit-via-else-units-unit+then-units-unit-2,
}

module _ (s : Start) where
  abbrev units : ℤ
  units = s.args.span.units

  abbrev ticks : ℤ
  ticks = s.args.span.rest

  abbrev per : ℤ
  per = s.args.unit.per

  abbrev most : ℤ
  most = s.args.unit.most

  units_are : read units ≡ units
  units_are = read_is units (fits_small units (2 ^ 61) s.requires.units (lit< tt))

  ticks_are : read ticks ≡ ticks
  ticks_are = read_is ticks (fits_small ticks 10000000000000000 s.requires.rest (lit< tt))

  per_is : read per ≡ per
  per_is = read_is per (fits_small per 8640000000000000000 (per_size per most s.args.unit.reach) (lit< tt))

  most_is : read most ≡ most
  most_is = read_is most (fits_small most 8640000000000000000 (most_size per most s.args.unit.reach) (lit< tt))

  -- the other end
  minus_fits : SFits w64 (pos 0 -ℤ read most)
  minus_fits = rw (most_is, +ℤ_idl (neg_ℤ most)) (fits (neg_ℤ most) (omega (arith, abs_neg most, most_size per most s.args.unit.reach)))

  minus_is : read (pos 0 -ℤ read most) ≡ neg_ℤ most
  minus_is = read_is (pos 0 -ℤ read most) minus_fits ∙ rw most_is (+ℤ_idl (neg_ℤ most))

  -- the product and the sum fit
  module _ (l : nat_abs (units *ℤ per) ≤ 8640000000000000000) where
    product_fits : SFits w64 (read units *ℤ read per)
    product_fits = rw (units_are, per_is) (fits_small (units *ℤ per) 8640000000000000000 l (lit< tt))

    product_is : read (read units *ℤ read per) ≡ units *ℤ per
    product_is = read_is (read units *ℤ read per) product_fits ∙ rw (units_are, per_is)

    sum_fits : SFits w64 (read (read units *ℤ read per) +ℤ read ticks)
    sum_fits = rw (product_is, ticks_are) (fits_small (units *ℤ per +ℤ ticks) 8650000000000000000 (size-+ (units *ℤ per) ticks l s.requires.rest)
        (lit< tt))

    sum_is : read (read (read units *ℤ read per) +ℤ read ticks) ≡ per *ℤ units +ℤ ticks
    sum_is = read_is (read (read units *ℤ read per) +ℤ read ticks) sum_fits ∙ rw (product_is, ticks_are, *ℤ_comm units per)

pub overflow_sub-unit : goal.overflow_sub-unit
overflow_sub-unit c = minus_fits (goal.at.overflow_sub-unit c).Start

pub returns-then-units-unit : goal.returns-then-units-unit
returns-then-units-unit c =
    let start = (goal.at.returns-then-units-unit c).Start in
    let reach = c.args.unit.reach in
    c.refused.ensures
    ∙ sym (elim c.then-units-unit.branch [
      | then-units-unit-via-then-units-unit w ↦
          too_late (per start) (most start) reach c.args.span c.requires
          (lt_yes _ _ (rw (units_are start, most_is start) at w.if-units-unit.true))
      | then-units-unit-via-else-units-unit+then-units-unit-2 w ↦
          too_early (per start) (most start) reach c.args.span c.requires
          (lt_yes _ _ (rw (units_are start, minus_is start) at w.if-units-unit-2.true))
    ])

few : (c : Else-units-unit-2)
    → nat_abs (units (goal.at.Else-units-unit-2 c).Start *ℤ per (goal.at.Else-units-unit-2 c).Start)
    ≤ 8640000000000000000
few c =
    units_size (per (goal.at.Else-units-unit-2 c).Start) (most (goal.at.Else-units-unit-2 c).Start) c.args.unit.reach
    (units (goal.at.Else-units-unit-2 c).Start)
    (lt_no _ _ (rw (units_are (goal.at.Else-units-unit-2 c).Start, most_is (goal.at.Else-units-unit-2 c).Start) at c.if-units-unit.false))
    (lt_no _ _ (rw (units_are (goal.at.Else-units-unit-2 c).Start, minus_is (goal.at.Else-units-unit-2 c).Start) at c.if-units-unit-2.false))

pub overflow_mul-units : goal.overflow_mul-units
overflow_mul-units c = product_fits (goal.at.overflow_mul-units c).Start (few (goal.at.overflow_mul-units c).Else-units-unit-2)

pub overflow_add-units : goal.overflow_add-units
overflow_add-units c = sum_fits (goal.at.overflow_add-units c).Start (few (goal.at.overflow_add-units c).Else-units-unit-2)

pub returns : goal.returns
returns c = c.ranged.ensures ∙ ap in_range (sum_is (goal.at.returns c).Start (few (goal.at.returns c).Else-units-unit-2))
