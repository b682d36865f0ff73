-- What the inner functions ask of their callers, beside an accepted table.
use Rattle.std.specs.Prelude.{Bool, ◌&&◌, List, ℕ, ◌+◌, ◌^◌, ◌≤◌, min, ℤ, pos, negsuc}
use Rattle.std.specs.Prelude.{neg_ℤ, nat_abs}
use Rattle.std.specs.Int.Signed.{le_z}
use Rattle.image.specs.declared.table.Table.{Table}
use Rattle.ephemeris.specs.Table.{last_place, earliest_place}

-- ---- ticks
-- no TDB of a table is further: 6·10^18 and D, which is at most 2^28
abbrev pub furthest_tdb : ℕ
furthest_tdb = 7000000000000000000

unfoldable pub is_near : ℤ → Bool
is_near t = le_z (neg_ℤ (pos furthest_tdb)) t && le_z t (pos furthest_tdb)

-- a tick and a delay whose sum and difference fit
pub record Movable (tick delay : ℤ) : Type 0 where
  pub near : nat_abs tick ≤ furthest_tdb
  pub little : nat_abs delay ≤ 2 ^ 28

-- ---- the way back
-- z, held between 0 and n
unfoldable pub held_inside : ℤ → ℕ → ℕ
held_inside (pos k) n = min k n
held_inside (negsuc k) n = 0

-- the earliest tick is at the place i or at the one before
pub record ThisOrBefore (T : Table) (cs : List ℤ) (asked : ℤ) (i : ℕ) : Type 0 where
  pub inside : i ≤ last_place T
  pub from : i ≤ earliest_place T cs asked + 1
  pub to : earliest_place T cs asked ≤ i

-- it is at the place i or at one of the three after, so that a climb takes at most three turns
pub record FromHere (T : Table) (cs : List ℤ) (asked : ℤ) (i : ℕ) : Type 0 where
  pub from : i ≤ earliest_place T cs asked
  pub to : earliest_place T cs asked ≤ i + 3
