-- A table: 'a first tick S (TT), a granule length H ticks, a count G and a degree n', and its
-- G·(n+1) coefficients, granule by granule, as one list. Its ticks are S + i, at the places i from
-- 0 to GH.
use Rattle.std.specs.Prelude.{Bool, ◌&&◌, List, ℕ, ◌*◌, ◌-◌, ◌/◌, min, ℤ, pos, nat_abs, ◌+ℤ◌, ◌-ℤ◌}
use Rattle.std.specs.Int.Signed.{le_z, lt_z}
use Rattle.numbers.specs.Lowest.{lowest}
use Rattle.granule.specs.Rule.{delay_at, exact_at}
use Rattle.image.specs.declared.table.Table.{Table}
use Rattle.image.specs.Image.{granule_in}

abbrev pub S : Table → ℤ
S T = T.start.0

abbrev pub H : Table → ℕ
H T = nat_abs T.length

-- ---- the ticks of a table
-- the place of 'the very last tick S+GH'
unfoldable pub last_place : Table → ℕ
last_place T = T.count * H T

unfoldable pub tick_at : Table → ℕ → ℤ
tick_at T i = S T +ℤ pos i

unfoldable pub is_inside : Table → ℤ → Bool
is_inside T t = le_z (S T) t && le_z t (tick_at T (last_place T))

-- t − S
unfoldable pub place_of : Table → ℤ → ℕ
place_of T t = nat_abs (t -ℤ S T)

-- ---- its granules
-- 'Granule g covers S+gH up to the tick before S+(g+1)H; the very last tick S+GH belongs to the
-- last granule.'
unfoldable pub granule_of : Table → ℕ → ℕ
granule_of T i = min (i / H T) (T.count - 1)

-- where in it the tick stands, t − start
unfoldable pub place_in : Table → ℕ → ℕ
place_in T i = i - granule_of T i * H T

-- its c_0, .., c_n
abbrev pub coefficients_of : Table → List ℤ → ℕ → List ℤ
coefficients_of T cs g = granule_in cs T.degree g

-- ---- D, TDB and the exact sum
unfoldable pub table_delay : Table → List ℤ → ℕ → ℤ
table_delay T cs i = delay_at (coefficients_of T cs (granule_of T i)) (place_in T i) (H T)

-- H^n times the exact sum, in units: 'It stands for TT − TDB at the geocentre'
unfoldable pub table_exact : Table → List ℤ → ℕ → ℤ
table_exact T cs i = exact_at (coefficients_of T cs (granule_of T i)) (place_in T i) (H T)

-- 'TDB = TT − D'
unfoldable pub tdb_of : Table → List ℤ → ℤ → ℤ
tdb_of T cs t = t -ℤ table_delay T cs (place_of T t)

unfoldable pub tdb_at : Table → List ℤ → ℕ → ℤ
tdb_at T cs i = tdb_of T cs (tick_at T i)

-- ---- 'TT from TDB: the earliest tick of the table whose TDB is at or after the one asked'
-- its place: the lowest at which TDB is not before the asked
unfoldable pub earliest_place : Table → List ℤ → ℤ → ℕ
earliest_place T cs asked = lowest (λ i. lt_z (tdb_at T cs i) asked) (last_place T)

unfoldable pub tt_of : Table → List ℤ → ℤ → ℤ
tt_of T cs asked = tick_at T (earliest_place T cs asked)

-- 'Refused (6) exactly when it is before the TDB of the first tick or after that of the last.'
unfoldable pub is_covered : Table → List ℤ → ℤ → Bool
is_covered T cs asked = le_z (tdb_at T cs 0) asked && le_z asked (tdb_at T cs (last_place T))
