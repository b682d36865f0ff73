-- `dates::writing::part_of_day` meets its contract: a day has fewer than 2^53 ticks. Assumes
-- nothing.
use mathlib.Core.Path.{◌≡◌, refl}
use native.Mathlib.Omega.{arith}
use lib.IntN.{pos}
use lib.Ieee.{binary64, of_bits, of_int}
use Rattle.dates.proofs.Days.{castable}
use Rattle.dates.proofs.writing.part_of_day.Goals as goal

pub int_to_float-result : goal.int_to_float-result
int_to_float-result c = castable c.args.ticks (omega (arith, c.requires))

-- the source's 86,400,000,000,000.0
day : of_bits binary64 4815374002031689728 ≡ of_int binary64 (pos 86400000000000)
unfolding of_bits of_int
day = refl

pub returns : goal.returns
returns c = rw day
