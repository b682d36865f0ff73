-- Two moments as each scale reads them: the first and the last tick of the table of P10 and P11,
-- walked from scale to scale.
use Rattle.std.specs.Prelude.{ℤ, pos, neg_ℤ}
use Rattle.scales.specs.declared.scale.Scale.{Scale}
use Rattle.scales.specs.declared.scale.Scale.TheVariants.{Gps, Tai, Tt, Tcg, Tdb, Tcb}

abbrev pub first : Scale → ℤ
first Gps = neg_ℤ (pos 51184000000)
first Tai = neg_ℤ (pos 32184000000)
first Tt = pos 0
first Tcg = pos 0
first Tdb = pos 1
first Tcb = pos 65501

abbrev pub last : Scale → ℤ
last Gps = neg_ℤ (pos 50184000000)
last Tai = neg_ℤ (pos 31184000000)
last Tt = pos 1000000000
last Tcg = pos 1000000001
last Tdb = pos 999999999
last Tcb = pos 1000065515
