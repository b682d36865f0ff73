-- `ephemeris::places::Opened::place_of` meets its contract: the tick is inside the table, so the
-- difference is one of its places. Assumes nothing.
use borrow.Author.Rules.{rules}
use mathlib.Core.Path.{◌≡◌}
use Prim.Native.Nat.{◌*◌, ◌≤◌}
use native.Mathlib.Omega.{arith}
use mathlib.Core.Bool.{true}
use lib.Dec.{T}
use lib.IntN.{ℤ, ◌-ℤ◌, nat_abs}
use lib.Signed.{non_neg}
use mir.Syntax.{w64}
use mir.Val.{Fits, SFits}
use Rattle.numbers.proofs.Order.{0≤-}
use Rattle.numbers.proofs.Machine.{read, read_is, fits_small}
use Rattle.granule.specs.Bounds.{longest_length}
use Rattle.form.specs.Few.{most_granules}
use Rattle.image.specs.declared.table.Table.{Table}
use Rattle.ephemeris.specs.Table.{S, is_inside, place_of}
use Rattle.ephemeris.specs.Accepted.{Bounded}
use Rattle.ephemeris.proofs.Bounds.{last_small, start_is, not_negative}
use Rattle.ephemeris.proofs.Ticks.{inside_both, placed}
use Rattle.ephemeris.proofs.places.Opened.place_of.Goals as goal

-- the numbers in the words of the code
record Safe (T : Table) (t : ℤ) : Type 0 where
  sub : SFits w64 (read t -ℤ read (S T))
  cast : lib.Dec.T (non_neg (read (read t -ℤ read (S T)))) × Fits w64 (nat_abs (read (read t -ℤ read (S T))))
  is : nat_abs (read (read t -ℤ read (S T))) ≡ place_of T t

safe : (T : Table) (t : ℤ) → Bounded T → is_inside T t ≡ true → SFits w64 t → Safe T t
unfolding place_of
safe T t B inside f =
    let small : nat_abs (t -ℤ S T) ≤ most_granules * longest_length = omega (arith, placed T t inside, last_small T B) in
    let fits = fits_small (t -ℤ S T) (most_granules * longest_length) small (omega arith) in
    let low = 0≤- (S T) t (inside_both T t inside).0 in
    record {
      sub = rw (read_is t f, start_is T B) fits;
      cast = rw (read_is t f, start_is T B, read_is _ fits) (not_negative (t -ℤ S T) 0 low, record { fits = omega arith });
      is = rw (read_is t f, start_is T B, read_is _ fits);
    }

pub overflow_sub-result : goal.overflow_sub-result
overflow_sub-result c = (safe c.args.self.now.table c.args.tick.0 c.args.self.now.accepted.bounds c.requires (search rules)).sub

pub overflow_cast-result : goal.overflow_cast-result
overflow_cast-result c = (safe c.args.self.now.table c.args.tick.0 c.args.self.now.accepted.bounds c.requires (search rules)).cast

pub returns : goal.returns
returns c = (safe c.args.self.now.table c.args.tick.0 c.args.self.now.accepted.bounds c.requires (search rules)).is
