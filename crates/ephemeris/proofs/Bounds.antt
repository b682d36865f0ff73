-- What the bounds of a table say of its numbers in the code: H as an unsigned number, and the ticks
-- S, S + i and S + i − D, which fit. Assumes nothing.
use mathlib.Core.Path.{◌≡◌, sym, ◌∙◌, ap}
use Prim.Native.Nat.{ℕ, ◌*◌, ◌≤◌}
use native.Mathlib.Nat.{mul-le-mul}
use native.Mathlib.Omega.{arith}
use lib.Dec.{T}
use lib.IntN.{ℤ, pos, ◌+ℤ◌, ◌*ℤ◌, nat_abs}
use lib.Signed.{non_neg}
use mir.Syntax.{w64}
use mir.Val.{Fits, SFits}
use Rattle.numbers.proofs.Differences.{rep, lin}
use Rattle.numbers.proofs.Machine.{read, read_is, fits_small}
use Rattle.scales.specs.Tick.{furthest, is_valid}
use Rattle.scales.proofs.Range.{valid_size}
use Rattle.form.specs.Few.{most_granules}
use Rattle.image.specs.declared.table.Table.{Table}
use Rattle.granule.specs.Bounds.{shortest_length, longest_length}
use Rattle.image.specs.Bounds.{end_of}
use Rattle.image.proofs.Bounding.{natural, at_least, at_most, as_natural}
use Rattle.ephemeris.specs.Table.{S, H, last_place}
use Rattle.ephemeris.specs.Accepted.{Bounded}
pub use Rattle.image.proofs.Bounding.{not_negative}

-- a tick between two that are valid is no further than they are
amid : (m n i : ℕ) (s : ℤ) → nat_abs s ≤ m → nat_abs (s +ℤ pos n) ≤ m → i ≤ n → nat_abs (s +ℤ pos i) ≤ m
amid m n i = rep _ (λ a b. simp lin (omega arith))

module _ (T : Table) (B : Bounded T) where
  -- ---- H
  pub long : shortest_length ≤ H T
  long = at_least T B

  pub short : H T ≤ longest_length
  short = at_most T B

  -- as the code reads it
  pub length_is : read T.length ≡ T.length
  length_is = read_is T.length (fits_small T.length longest_length short (omega arith))

  pub length_cast : lib.Dec.T (non_neg (read T.length)) × Fits w64 (nat_abs (read T.length))
  length_cast = rw length_is (as_natural T B)

  -- ---- GH
  pub last_small : last_place T ≤ most_granules * longest_length
  unfolding last_place
  last_small = mul-le-mul B.few.granules short

  -- H is above 0, so S + G·H is the same tick over ℤ and over the places
  last_is : S T +ℤ pos (last_place T) ≡ end_of T
  unfolding last_place
  last_is = ap (λ (z : ℤ). S T +ℤ pos T.count *ℤ z) (sym (natural T B))

  -- ---- the ticks
  start_small : nat_abs (S T) ≤ furthest
  start_small = valid_size (S T) B.first

  pub tick_small : (i : ℕ) → i ≤ last_place T → nat_abs (S T +ℤ pos i) ≤ furthest
  tick_small i h =
      amid furthest (last_place T) i (S T) start_small (valid_size (S T +ℤ pos (last_place T)) (ap is_valid last_is ∙ B.last)) h

  pub start_is : read (S T) ≡ S T
  start_is = read_is (S T) (fits_small (S T) furthest start_small (omega arith))

  pub tick_fits : (i : ℕ) → i ≤ last_place T → SFits w64 (S T +ℤ pos i)
  tick_fits i h = fits_small (S T +ℤ pos i) furthest (tick_small i h) (omega arith)
