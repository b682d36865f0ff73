-- A tick and a delay, added or subtracted in the code: a tick is within 7·10^18 and D within 2^28,
-- so both fit. One law for the way from TT to TDB and for the way back. Assumes nothing.
use mathlib.Core.Path.{◌≡◌}
use Prim.Native.Nat.{◌+◌, ◌^◌, ◌≤◌}
use native.Mathlib.Omega.{arith}
use lib.IntN.{ℤ, nat_abs}
use mir.Syntax.{w64}
use mir.Val.{SFits}
use Rattle.numbers.proofs.Machine.{read, read_is, fits_small}
use Rattle.ephemeris.specs.Asked.{furthest_tdb, Movable}

pub record DelayedFits (op : ℤ → ℤ → ℤ) (t d : ℤ) : Type 0 where
  pub fits : SFits w64 (op (read t) (read d))
  pub is : read (op (read t) (read d)) ≡ op t d

pub delayed_fits : (op : ℤ → ℤ → ℤ) → ((x y : ℤ) → nat_abs (op x y) ≤ nat_abs x + nat_abs y) → (t d : ℤ) → Movable t d
    → DelayedFits op t d
delayed_fits op size t d m =
    let fit = fits_small (op t d) (furthest_tdb + 2 ^ 28) (omega (arith, size t d, m.near, m.little)) (omega arith) in
    let t_is = read_is t (fits_small t furthest_tdb m.near (omega arith)) in
    let d_is = read_is d (fits_small d (2 ^ 28) m.little (omega arith)) in
    record { fits = rw (t_is, d_is) fit; is = rw (t_is, d_is) (read_is (op t d) fit) }
