-- `pieces::product::multiply` meets its contract: its four columns are the two rows of a product of
-- two pieces by two. Assumes nothing.
use borrow.Author.Rules.{rules}
use mathlib.Core.Path.{◌≡◌, ◌∙◌}
use mathlib.Core.List.{[], ◌∷◌}
use Prim.Native.Nat.{ℕ, ◌+◌, ◌*◌, ◌/◌, ◌%◌, ◌<◌}
use native.Mathlib.Omega.{arith}
use lib.Dec.{lit≤}
use Rattle.pieces.specs.Pieces.{base}
use Rattle.pieces.proofs.Values.{Split, split, two_pieces, row_from, product_of, product_is}
use Rattle.pieces.proofs.product.multiply.Goals as goal

-- a column adds the carry before what is added, and a row after it
column : (l h x y a c : ℕ) → l < base → l + h * base ≡ x * y + c + a → Split l h (x * y + a + c)
column l h x y a c k e = split l h (x * y + a + c) k (e ∙ omega arith)

pub returns : goal.returns
unfolding row_from product_of
returns c =
    let x = c.args.x in
    let y = c.args.y in
    let more = c.args.addend in
    let xs = c.halves-x0 in
    let ys = c.halves-y0 in
    let added = c.halves-a0 in
    let low = column _ _ _ _ added.result.0 0 (search rules) c.carrying_mul_add-low.ensures in
    let mid = column _ _ _ _ added.result.1 c.carrying_mul_add-low.result.1 (search rules) c.carrying_mul_add-mid.ensures in
    let side = column _ _ _ _ c.carrying_mul_add-mid.result.0 0 (search rules) c.carrying_mul_add-side.ensures in
    let high = column _ _ _ _ c.carrying_mul_add-mid.result.1 c.carrying_mul_add-side.result.1 (search rules) c.carrying_mul_add-high.ensures in
    rw (high.high, high.low, side.low, side.high, mid.low, mid.high, low.low, low.high)
    (rw (xs.ensures.low, xs.ensures.high, ys.ensures.low, ys.ensures.high, added.ensures.low, added.ensures.high)
    (product_is 2 (x % base ∷ x / base ∷ []) (y % base ∷ y / base ∷ []) (more % base ∷ more / base ∷ []) (lit≤ tt) (lit≤ tt)
    ∙ (λ i. two_pieces x i * two_pieces y i + two_pieces more i)))
