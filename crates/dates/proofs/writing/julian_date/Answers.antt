-- `dates::writing::julian_date` meets its contract: 86,400ths and halves are cast exactly, and
-- equal quotients are rounded alike. Assumes nothing.
use mathlib.Core.Path.{◌≡◌, refl}
use Prim.Native.Nat.{◌+◌, ◌*◌, ◌≤◌}
use native.Mathlib.Omega.{arith}
use lib.Dec.{lit<, lit≤}
use lib.IntN.{pos}
use lib.Ieee.{binary64, of_bits, of_int}
use Rattle.dates.proofs.Days.{castable}
use Rattle.dates.proofs.Division.{same_quotient}
use Rattle.dates.proofs.writing.julian_date.Goals as goal

pub int_to_float-result : goal.int_to_float-result
int_to_float-result c = castable _ (omega (arith, c.requires))

-- the source's 86,400.0
day : of_bits binary64 4680673776000565248 ≡ of_int binary64 (pos 86400)
unfolding of_bits of_int
day = refl

pub returns : goal.returns
returns c =
    let days = c.args.days in
    let few : days ≤ 140000 = c.requires in
    rw day
    (same_quotient (86400 * days + 205039684800) 86400 (2 * days + 4746289) 2
    (omega arith) (lit≤ tt) (omega arith) (lit≤ tt) (lit< tt) (lit< tt) (omega arith))
