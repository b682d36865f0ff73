-- `pieces::share::half_unit` meets its contract: 2^(31 + by) above two pieces. Assumes nothing.
use mathlib.Core.Path.{◌≡◌, ◌∙◌, ap}
use mathlib.Core.List.{[], ◌∷◌}
use Prim.Native.Nat.{ℕ, ◌+◌, ◌*◌, ◌/◌, ◌%◌, ◌^◌, ◌≤◌}
use native.Mathlib.Nat.{one-mul}
use native.Mathlib.Omega.{arith}
use lib.Dec.{lit<}
use lib.Pow.{shl_exact}
use Rattle.pieces.specs.Pieces.{base, value}
use Rattle.pieces.proofs.Values.{two_pieces}
use Rattle.pieces.proofs.Rows.{above_64}
use Rattle.pieces.proofs.share.half_unit.Goals as goal

-- the half, as the code shifts it
shifted_half : (by : ℕ) → by ≤ 32 → 1 * 2 ^ (31 + by) % 2 ^ 64 ≡ 2 ^ (31 + by)
shifted_half by k = shl_exact {a = 1} 1 (31 + by) 64 (lit< tt) (omega arith) ∙ one-mul (2 ^ (31 + by))

-- two pieces above two that are 0
placed : (n : ℕ) → value (0 ∷ 0 ∷ n % base ∷ n / base ∷ []) ≡ 2 ^ 64 * n
unfolding value
placed n = omega (arith, two_pieces n)

pub returns : goal.returns
returns c =
    let by = c.args.by in
    rw (c.halves-low.ensures.low, c.halves-low.ensures.high) (placed _) ∙ ap (λ (n : ℕ). 2 ^ 64 * n) (shifted_half by c.requires) ∙ above_64 31 by
