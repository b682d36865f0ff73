-- `dates::ticks::Unit::count_of` meets its contract: x is digits / 2^places units. Assumes nothing.
use mathlib.Core.Path.{◌≡◌, refl, ◌∙◌}
use Prim.Native.Nat.{ℕ, ◌+◌, ◌-◌, ◌^◌, ◌≤◌}
use native.Mathlib.Nat.{le_trans, le_of_lt, le-add_right}
use native.Mathlib.Omega.{arith}
use lib.Dec.{lit≤, lit<}
use Rattle.numbers.proofs.Machine.{fits_small, read, read_is}
use Rattle.dates.proofs.Values.{below_one, exponent_reach, piece_part, small_part, tiny_part}
use Rattle.dates.proofs.ticks.Unit.count_of.Goals as goal
use Rattle.dates.proofs.ticks.Unit.count_of.Goals.{After-take_apart-parts}

-- the exponent of so few units
reach : (c : After-take_apart-parts) → c.take_apart-parts.result.exponent + c.args.self.twos ≤ 1065
reach c =
    let r = c.take_apart-parts.result in
    exponent_reach c.args.x r.digits r.exponent c.take_apart-parts.ensures c.args.self.twos c.args.self.factored.low c.requires

low : (c : After-take_apart-parts) → c.take_apart-parts.result.exponent ≤ 1075
low c = le_trans (le-add_right c.take_apart-parts.result.exponent c.args.self.twos) (le_trans (reach c) (lit≤ tt))

digits_are : (c : After-take_apart-parts) → read c.take_apart-parts.result.digits ≡ c.take_apart-parts.result.digits
digits_are c = let z = c.take_apart-parts.result.digits in read_is z (fits_small z (2 ^ 53) (le_of_lt c.take_apart-parts.ensures.small) (lit< tt))

pub overflow_sub-places : goal.overflow_sub-places
overflow_sub-places c = low (goal.at.overflow_sub-places c).After-take_apart-parts

pub cut_tiny-requires : goal.cut_tiny-requires
cut_tiny-requires c =
    let r = c.take_apart-parts.result in
    record {
      finitely = c.requires.finitely;
      small = below_one c.args.x r.digits r.exponent c.take_apart-parts.ensures (low (goal.at.cut_tiny-requires c).After-take_apart-parts)
          c.if-places-gt116.true;
    }

pub returns-then-places-gt116 : goal.returns-then-places-gt116
returns-then-places-gt116 c =
    let r = c.take_apart-parts.result in
    tiny_part c.args.x r.digits r.exponent c.take_apart-parts.ensures (low (goal.at.returns-then-places-gt116 c).After-take_apart-parts) c.if-places-gt116.true
    c.args.self.odd c.args.self.twos _ c.args.self.factored refl
    (read_is c.cut_tiny.result (record { sfits = c.cut_tiny.type_inv }) ∙ c.cut_tiny.ensures)

pub returns-then-places-self : goal.returns-then-places-self
returns-then-places-self c =
    let r = c.take_apart-parts.result in
    small_part c.args.x r.digits r.exponent c.take_apart-parts.ensures (low (goal.at.returns-then-places-self c).After-take_apart-parts) c.if-places-gt116.false
    c.args.self.odd c.args.self.twos _ c.args.self.factored c.if-places-self.true refl
    (read_is c.cut_product-rest.result (record { sfits = c.cut_product-rest.type_inv }) ∙ c.cut_product-rest.ensures
    ∙ rw (digits_are (goal.at.returns-then-places-self c).After-take_apart-parts))

-- the digits below a piece, and how many more there are than 2^31 of one
over : (e k : ℕ) → e + k ≤ 1065 → 47 + k - (1075 - e) ≤ 37
over e k h = omega arith

within : (e k : ℕ) → 37 + k ≤ 1075 - e → 47 + k - (1075 - e) ≤ 10
within e k h = omega arith

few : (k p : ℕ) → k ≤ 16 → p ≤ 47 + k → p ≤ 116
few k p h g = omega arith

pub pieces_over-requires : goal.pieces_over-requires
pieces_over-requires c =
    record {
      few = rw (digits_are (goal.at.pieces_over-requires c).After-take_apart-parts) c.take_apart-parts.ensures.small;
      shift = over _ _ (reach (goal.at.pieces_over-requires c).After-take_apart-parts);
    }

pub returns-then-places-self-2 : goal.returns-then-places-self-2
returns-then-places-self-2 c =
    let r = c.take_apart-parts.result in
    piece_part c.args.x r.digits r.exponent c.take_apart-parts.ensures (low (goal.at.returns-then-places-self-2 c).After-take_apart-parts)
    (few _ _ c.args.self.factored.low c.if-places-self.false)
    c.args.self.odd c.args.self.twos _ c.if-places-self.false
    (rw (digits_are (goal.at.returns-then-places-self-2 c).After-take_apart-parts) at c.pieces_over.ensures)

pub pieces_within-requires : goal.pieces_within-requires
pieces_within-requires c =
    record {
      few = rw (digits_are (goal.at.pieces_within-requires c).After-take_apart-parts) c.take_apart-parts.ensures.small;
      shift = within _ _ c.if-places-self-2.false;
    }

pub returns : goal.returns
returns c =
    let r = c.take_apart-parts.result in
    piece_part c.args.x r.digits r.exponent c.take_apart-parts.ensures (low (goal.at.returns c).After-take_apart-parts)
    (few _ _ c.args.self.factored.low c.if-places-self.false)
    c.args.self.odd c.args.self.twos _ c.if-places-self.false
    (rw (digits_are (goal.at.returns c).After-take_apart-parts) at c.pieces_within.ensures)
