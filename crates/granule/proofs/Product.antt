-- A rounded product by pieces: b is split at d, and with g·d = 2^32 the two parts are the pieces of
-- g·b, so that u·g·b / 2^32 is u·b / d. It is one law for both rounded products of the recurrence,
-- in the words of the code: `read` is what the machine makes of a number. Assumes nothing.
use mathlib.Core.Path.{◌≡◌, refl, sym, ◌∙◌, ap}
use mathlib.Core.Logic.{inl, inr}
use Prim.Native.Nat.{ℕ, ◌*◌, ◌-◌, ◌^◌, ◌%◌, ◌≤◌, ◌<◌}
use native.Mathlib.Nat.{mul-le-mul, mul-le-mul_right, mul-lt-mul_of_pos_right}
use native.Mathlib.Omega.{arith}
use lib.Dec.{lit<, lit≤}
use lib.IntN.{ℤ, pos, ◌+ℤ◌, ◌-ℤ◌, ◌*ℤ◌, nat_abs, *ℤ_comm}
use lib.Signed.{◌≤ℤ◌, ◌<ℤ◌, shr_z}
use mir.Syntax.{w64}
use mir.Val.{SFits, to_z, of_z}
use Rattle.numbers.specs.Rounding.{floor_div, nearest}
use Rattle.numbers.proofs.Differences.{rep₂, lin}
use Rattle.numbers.proofs.Machine.{shl_is, shr_floor, read, read_is, fits_small, floor_fits}
use Rattle.numbers.proofs.Ring.{*-left-comm}
use Rattle.numbers.proofs.Rounding.{floored, floor_rest, floor_small, nearest_reduced}
use Rattle.numbers.proofs.Solver.{ring, quote, all₄}
use Rattle.pieces.specs.Pieces.{base}
use Rattle.granule.specs.Asked.{IsDivisor}
use Rattle.pieces.proofs.Machine.{Piece, a_piece}

-- ---- the numbers themselves
abbrev high : ℤ → ℕ → ℤ
high b d = floor_div b d

abbrev taken : ℤ → ℕ → ℤ
taken b d = pos d *ℤ high b d

abbrev rest : ℤ → ℕ → ℤ
rest b d = b -ℤ taken b d

-- ---- as the code makes them, with d = 2^k and g = 2^(32 − k)
abbrev left : ℤ → ℕ → ℤ
left z k = to_z w64 (of_z w64 z * 2 ^ k % 18446744073709551616)

abbrev high_of : ℤ → ℕ → ℤ
high_of b k = shr_z (read b) (2 ^ k)

abbrev taken_of : ℤ → ℕ → ℤ
taken_of b k = left (high_of b k) k

abbrev rest_of : ℤ → ℕ → ℤ
rest_of b k = read b -ℤ taken_of b k

abbrev low_of : ℤ → ℕ → ℤ
low_of b k = left (rest_of b k) (32 - k)

-- the sizes of d and g
pub record Sizes (k : ℕ) : Type 0 where
  pub whole : 2 ^ (32 - k) * 2 ^ k ≡ base
  pub some : 0 < 2 ^ (32 - k)
  pub gain : 2 ^ (32 - k) ≤ 8
  pub least : 2 ^ 29 ≤ 2 ^ k
  pub most : 2 ^ k ≤ 2 ^ 30

pub sizes : (k : ℕ) → IsDivisor k → Sizes k
sizes k (inl e) = rw e (record { whole = refl; some = lit< tt; gain = lit≤ tt; least = lit≤ tt; most = lit≤ tt })
sizes k (inr e) = rw e (record { whole = refl; some = lit< tt; gain = lit≤ tt; least = lit≤ tt; most = lit≤ tt })

module _ (b : ℤ) (k : ℕ) (sized : Sizes k) (small : nat_abs b ≤ 2 ^ 60) where
  abbrev d : ℕ
  d = 2 ^ k

  abbrev g : ℕ
  g = 2 ^ (32 - k)

  l : 2 ^ 29 ≤ d
  l = sized.least

  pg : 0 < g
  pg = sized.some

  whole : g * d ≡ base
  whole = sized.whole

  high_small : nat_abs (high b d) ≤ 2 ^ 31
  high_small = floor_small b d (2 ^ 31) (omega arith) (omega (arith, mul-le-mul_right (2 ^ 31) l))

  rest_small : nat_abs (rest b d) ≤ 2 ^ 30
  rest_small = omega (arith, floor_rest b d (omega arith))

  b_kept : SFits w64 b
  b_kept = fits_small b (2 ^ 60) small (lit< tt)

  high_kept : SFits w64 (high b d)
  high_kept = floor_fits b d b_kept

  -- g times what d leaves of b is a piece
  low_piece : Piece (rest b d *ℤ pos g)
  low_piece =
      let f = floored b d (omega arith) in
      a_piece (rest b d *ℤ pos g) (from b (taken b d) f.under) (to b (taken b d) f.above)
    where
      from : (b t : ℤ) → t ≤ℤ b → pos 0 ≤ℤ ((b -ℤ t) *ℤ pos g)
      from = rep₂ _ (λ a b c e. simp lin (λ h. omega (arith, mul-le-mul_right g h)))

      to : (b t : ℤ) → b <ℤ (t +ℤ pos d) → ((b -ℤ t) *ℤ pos g) <ℤ pos base
      to = rep₂ _ (λ a b c e. simp lin (λ h. omega (arith, whole, mul-lt-mul_of_pos_right h pg)))

  high_made : high_of b k ≡ high b d
  high_made = rw (read_is b b_kept) (shr_floor b d)

  high_is : read (high_of b k) ≡ high b d
  high_is = rw high_made (read_is (high b d) high_kept)

  taken_is : taken_of b k ≡ taken b d
  taken_is = rw high_made (shl_is (high b d) k (omega (arith, mul-le-mul {n₂ = 2 ^ 31} {m₂ = 2 ^ 30} high_small sized.most)))

  rest_is : rest_of b k ≡ rest b d
  rest_is = rw (taken_is, read_is b b_kept) refl

  low_is : low_of b k ≡ rest b d *ℤ pos g
  low_is =
      rw rest_is (shl_is (rest b d) (32 - k) (omega (arith, mul-le-mul {n₂ = 2 ^ 30} {m₂ = 8} rest_small sized.gain)))
      ∙ *ℤ_comm (pos g) (rest b d)

  together : (n d g h : ℤ) → (n -ℤ d *ℤ h) *ℤ g +ℤ g *ℤ d *ℤ h ≡ g *ℤ n
  together = all₄ _ (λ ρ. simp quote (ring ρ _ _ tt))

  pieces_are : pos (nat_abs (low_of b k)) +ℤ pos base *ℤ read (high_of b k) ≡ pos g *ℤ b
  pieces_are = rw (low_is, high_is, low_piece.is, ← whole) (together b (pos d) (pos g) (high b d))

  -- the product of these pieces, as the code has it, is the one of b
  pub rounded_is : (u r : ℤ) → SFits w64 u → SFits w64 r
      → r ≡ nearest (read u *ℤ (pos (nat_abs (low_of b k)) +ℤ pos base *ℤ read (high_of b k))) (2 ^ 32)
      → read r ≡ nearest (u *ℤ b) d
  rounded_is u r ku kr e =
      read_is r kr
      ∙ e
      ∙ (λ i. nearest (read_is u ku i *ℤ pieces_are i) (2 ^ 32))
      ∙ ap (nearest (u *ℤ (pos g *ℤ b))) (sym whole)
      ∙ ap (λ (z : ℤ). nearest z (g * d)) (*-left-comm u (pos g) b)
      ∙ nearest_reduced (u *ℤ b) d g (omega arith) pg
