-- `ephemeris::places::Opened::tick_at` meets its contract: every tick of a table is a valid
-- epoch. Assumes nothing.
use mathlib.Core.Path.{◌≡◌}
use Prim.Native.Nat.{ℕ, ◌^◌, ◌≤◌, ◌<◌}
use native.Mathlib.Omega.{arith}
use lib.IntN.{pos, ◌+ℤ◌}
use mir.Syntax.{w64}
use mir.Val.{SFits, to_z}
use mir.ValLaws.{to_z_pos}
use Rattle.numbers.proofs.Machine.{read, read_is}
use Rattle.image.specs.declared.table.Table.{Table}
use Rattle.ephemeris.specs.Table.{S, last_place, tick_at}
use Rattle.ephemeris.specs.Accepted.{Bounded}
use Rattle.ephemeris.proofs.Bounds.{last_small, start_is, tick_fits}
use Rattle.ephemeris.proofs.places.Opened.tick_at.Goals as goal

-- the numbers in the words of the code
record Safe (T : Table) (i : ℕ) : Type 0 where
  cast : SFits w64 (pos i)
  tick : SFits w64 (read (S T) +ℤ to_z w64 i)
  is : read (read (S T) +ℤ to_z w64 i) ≡ tick_at T i

safe : (T : Table) (i : ℕ) → Bounded T → i ≤ last_place T → Safe T i
unfolding tick_at
safe T i B inside =
    let small : i < 2 ^ 63 = omega (arith, inside, last_small T B) in
    let fits = tick_fits T B i inside in
    record {
      cast = record { sfits = small };
      tick = rw (start_is T B, to_z_pos w64 i small) fits;
      is = rw (start_is T B, to_z_pos w64 i small, read_is _ fits);
    }

pub overflow_cast-result : goal.overflow_cast-result
overflow_cast-result c = (safe c.args.self.now.table c.args.place c.args.self.now.accepted.bounds c.requires).cast

pub overflow_add-result : goal.overflow_add-result
overflow_add-result c = (safe c.args.self.now.table c.args.place c.args.self.now.accepted.bounds c.requires).tick

pub returns : goal.returns
returns c = (safe c.args.self.now.table c.args.place c.args.self.now.accepted.bounds c.requires).is
