-- `pieces::signed::multiply` meets its contract: the pieces of the two columns, each on top of the
-- one below. Assumes nothing.
use mathlib.Core.Path.{◌≡◌, sym, ◌∙◌, ap}
use mathlib.Core.List.{[]}
use Prim.Native.Nat.{ℕ, ◌≤◌, ◌<◌, ◌^◌}
use native.Mathlib.Nat.{le_trans}
use native.Mathlib.Omega.{arith}
use lib.Dec.{lit<, lit≤}
use lib.IntN.{ℤ, pos, nat_abs, ◌+ℤ◌, ◌-ℤ◌, ◌*ℤ◌}
use mir.Syntax.{w64}
use mir.Val.{SFits}
use Rattle.numbers.specs.Rounding.{floor_div}
use Rattle.numbers.proofs.Machine.{fits, read, read_is}
use Rattle.numbers.proofs.Rounding.{floor_small}
use Rattle.numbers.proofs.Solver.{ring, quote, all₆}
use Rattle.pieces.specs.Pieces.{base}
use Rattle.pieces.proofs.Signs.{placed, alone, within}
use Rattle.pieces.proofs.Machine.{read_small, above_small, above_of, piece_of}
use Rattle.pieces.proofs.signed.multiply.Goals as goal

-- the low column less its carry is the product less the high column
columns : (h x low high more f : ℤ)
    → x *ℤ low +ℤ more -ℤ h *ℤ f ≡ x *ℤ (low +ℤ h *ℤ high) +ℤ more -ℤ h *ℤ (x *ℤ high +ℤ f)
columns = all₆ _ (λ ρ. simp quote (ring ρ _ _ tt))

-- what stands above the high column's low piece is short, and above that is only the sign
sign_small : (h o s : ℤ) → SFits w64 h → o ≡ floor_div h base → s ≡ floor_div o base → nat_abs s < 2147483648
sign_small h o s k e f =
    let one : nat_abs s ≤ 1 = rw f (floor_small o base 1 (lit< tt) (rw e (le_trans (above_small h k) (lit≤ tt)))) in
    omega arith

low_fits : (n : ℕ) → n < base → SFits w64 (pos n)
low_fits n h = fits (pos n) (omega arith)

pub column-lower-requires : goal.column-lower-requires
column-lower-requires c =
    record {
      narrow = read_small c.args.x (2 ^ 30) c.ranges.x c.requires.narrow;
      piece = rw c.from.ensures (read_small (pos c.args.low) (2 ^ 32) (low_fits c.args.low c.ranges.low.fits) (omega (arith, c.ranges.low.fits)));
      little = read_small c.args.addend (2 ^ 32) c.ranges.addend c.requires.little;
    }

pub column-upper-requires : goal.column-upper-requires
column-upper-requires c =
    let lower = c.column-lower.result in
    let k : SFits w64 lower = record { sfits = c.column-lower.type_inv } in
    let e = above_of lower c.above.result k c.above.ensures in
    let little : nat_abs c.above.result ≤ 2 ^ 32 = rw e (le_trans (above_small lower k) (lit≤ tt)) in
    record {
      narrow = read_small c.args.x (2 ^ 30) c.ranges.x c.requires.narrow;
      piece = read_small c.args.high (2 ^ 32) c.ranges.high (le_trans c.requires.wide (lit≤ tt));
      little = read_small c.above.result (2 ^ 32) (record { sfits = c.above.type_inv }) little;
    }

pub returns : goal.returns
returns c =
    let x = c.args.x in
    let y = c.args.high in
    let low = pos c.args.low in
    let addend = c.args.addend in
    let lower = c.column-lower.result in
    let carry = c.above.result in
    let upper = c.column-upper.result in
    let over = c.above-over.result in
    let sign = c.above-2.result in
    let lower_fits : SFits w64 lower = record { sfits = c.column-lower.type_inv } in
    let carry_fits : SFits w64 carry = record { sfits = c.above.type_inv } in
    let upper_fits : SFits w64 upper = record { sfits = c.column-upper.type_inv } in
    let over_fits : SFits w64 over = record { sfits = c.above-over.type_inv } in
    let sign_fits : SFits w64 sign = record { sfits = c.above-2.type_inv } in
    let low_is : read c.from.result ≡ low = ap read c.from.ensures ∙ read_is low (low_fits c.args.low c.ranges.low.fits) in
    let lower_is : lower ≡ x *ℤ low +ℤ addend =
    c.column-lower.ensures ∙ (λ i. read_is x c.ranges.x i *ℤ low_is i +ℤ read_is addend c.ranges.addend i) in
    let carry_is : carry ≡ floor_div lower base = above_of lower carry lower_fits c.above.ensures in
    let upper_is : upper ≡ x *ℤ y +ℤ floor_div lower base =
    c.column-upper.ensures
    ∙ (λ i. read_is x c.ranges.x i *ℤ read_is y c.ranges.high i +ℤ (read_is carry carry_fits ∙ carry_is) i) in
    let over_is : over ≡ floor_div upper base = above_of upper over upper_fits c.above-over.ensures in
    let sign_is : sign ≡ floor_div over base = above_of over sign over_fits c.above-2.ensures in
    let sign_short = within 2147483648 sign (sign_small upper over sign upper_fits over_is sign_is) in
    let s₃ = alone _ sign (floor_div sign base) c.piece-4.type_inv sign_short (piece_of sign _ sign_fits c.piece-4.ensures) in
    let s₂ = placed _ _ [] over (floor_div over base) (piece_of over _ over_fits c.piece-3.ensures) (s₃ ∙ sign_is) in
    let s₁ = placed _ _ _ upper (floor_div upper base) (piece_of upper _ upper_fits c.piece-2.ensures) (s₂ ∙ over_is) in
    placed _ _ _ (x *ℤ (low +ℤ pos base *ℤ y) +ℤ addend) upper
    (piece_of lower _ lower_fits c.piece.ensures
    ∙ ap (λ (z : ℤ). z -ℤ pos base *ℤ floor_div lower base) lower_is
    ∙ columns (pos base) x low y addend (floor_div lower base)
    ∙ ap (λ (z : ℤ). x *ℤ (low +ℤ pos base *ℤ y) +ℤ addend -ℤ pos base *ℤ z) (sym upper_is))
    s₁
