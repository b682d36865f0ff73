-- `pieces::signed::rounded_product` meets its contract: with 2^31 added, the floor is the nearest.
-- Assumes nothing.
use mathlib.Core.Path.{◌≡◌, sym, ◌∙◌, ap}
use Prim.Native.Nat.{ℕ, ◌^◌, ◌<◌, ◌≤◌}
use native.Mathlib.Nat.{le_refl}
use native.Mathlib.Omega.{arith}
use lib.Dec.{lit<, lit≤}
use lib.IntN.{ℤ, pos, nat_abs, ◌+ℤ◌, ◌*ℤ◌}
use Rattle.numbers.specs.Rounding.{floor_div}
use Rattle.numbers.proofs.Order.{size-*, size-+}
use Rattle.numbers.proofs.Machine.{read_is}
use Rattle.numbers.proofs.Rounding.{nearest_even}
use Rattle.pieces.specs.Pieces.{base, signed}
use Rattle.pieces.proofs.signed.rounded_product.Goals as goal
use Rattle.pieces.proofs.signed.rounded_product.Goals.{After-multiply, Start}

abbrev other : Start → ℤ
other s = pos s.args.low +ℤ pos base *ℤ s.args.high

whole : (c : After-multiply)
    → signed c.multiply.result ≡ c.args.u *ℤ other c.before +ℤ pos (2 ^ 31)
whole c =
    c.multiply.ensures
    ∙ (λ i. read_is c.args.u c.ranges.u i *ℤ (pos c.args.low +ℤ pos base *ℤ read_is c.args.high c.ranges.high i) +ℤ pos (2 ^ 31))

-- 2^30·(2^32 + 2^63) and 2^31 more
small : (u high : ℤ) (low : ℕ) → nat_abs u ≤ 2 ^ 30 → nat_abs high ≤ 2 ^ 31 → low ≤ 2 ^ 32
    → nat_abs (u *ℤ (pos low +ℤ pos base *ℤ high) +ℤ pos (2 ^ 31)) < 2 ^ 95
small u high low ku kh kl =
    let upper = size-* (pos base) high (le_refl base) kh in
    let y = size-+ (pos low) (pos base *ℤ high) kl upper in
    let p = size-* u (pos low +ℤ pos base *ℤ high) ku y in
    omega (arith, size-+ (u *ℤ (pos low +ℤ pos base *ℤ high)) (pos (2 ^ 31)) p (le_refl (2 ^ 31)))

pub shifted-requires : goal.shifted-requires
shifted-requires c =
    record {
      small = rw (whole c) (small c.args.u c.args.high c.args.low c.requires.narrow c.requires.wide (omega (arith, c.ranges.low.fits)));
      few = lit≤ tt;
    }

pub returns : goal.returns
returns c =
    let s = c.before.before in
    read_is c.shifted.result (record { sfits = c.shifted.type_inv })
    ∙ c.shifted.ensures
    ∙ ap (λ (z : ℤ). floor_div z (2 ^ 32)) (whole c.before)
    ∙ sym (nearest_even (s.args.u *ℤ other s) (2 ^ 31) (lit< tt))
