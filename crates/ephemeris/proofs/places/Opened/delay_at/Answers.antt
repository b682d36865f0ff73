-- `ephemeris::places::Opened::delay_at` meets its contract: the part of the list is granule g's
-- coefficients, and the place in it is i − gH. Assumes nothing.
use mathlib.Core.Path.{◌≡◌, ◌∙◌, ap}
use mathlib.Core.List.{List}
use Prim.Native.Nat.{ℕ, ◌+◌, ◌*◌, ◌-◌, ◌≤◌}
use native.Mathlib.Nat.{mul-le-mul_right}
use native.Mathlib.Omega.{arith}
use lib.IntN.{ℤ, nat_abs}
use lib.ListN.{length, take, drop}
use mir.Syntax.{w64}
use mir.Val.{Fits}
use Rattle.numbers.proofs.Machine.{read, read_is}
use Rattle.granule.specs.Rule.{delay_of, value_at, delay_at}
use Rattle.granule.specs.Asked.{Evaluable}
use Rattle.image.specs.declared.table.Table.{Table}
use Rattle.image.specs.Bounds.{most_coefficients}
use Rattle.image.specs.Image.{granule_in}
use Rattle.ephemeris.specs.Table.{last_place, granule_of, place_in, table_delay}
use Rattle.ephemeris.specs.Accepted.{Accepted}
use Rattle.ephemeris.proofs.Bounds.{length_is, last_small}
use Rattle.ephemeris.proofs.Granules.{at, evaluable}
use Rattle.ephemeris.proofs.places.Opened.delay_at.Goals as goal
use Rattle.ephemeris.proofs.places.Opened.delay_at.Goals.{After-granule_of-g}

-- the numbers and the part in the words of the code
abbrev from_of : Table → ℕ → ℕ
from_of T g = g * (T.degree + 1)

abbrev part_of : Table → List ℤ → ℕ → List ℤ
part_of T cs g = take (from_of T g + (T.degree + 1) - from_of T g) (drop (from_of T g) cs)

record Safe (T : Table) (cs : List ℤ) (i g : ℕ) : Type 0 where
  from : Fits w64 (from_of T g)
  to : Fits w64 (from_of T g + (T.degree + 1))
  bytes : Fits w64 (from_of T g * 8)
  end : from_of T g + (T.degree + 1) ≤ length cs
  start : Fits w64 (g * nat_abs (read T.length))
  low : g * nat_abs (read T.length) ≤ i
  asked : Evaluable (part_of T cs g) (i - g * nat_abs (read T.length)) (nat_abs (read T.length))
  is : delay_of (value_at (part_of T cs g) (i - g * nat_abs (read T.length)) (nat_abs (read T.length)))
      ≡ table_delay T cs i

safe : (T : Table) (cs : List ℤ) (i : ℕ) → Accepted T cs → i ≤ last_place T → Safe T cs i (granule_of T i)
unfolding table_delay delay_at granule_in place_in last_place
safe T cs i A inside =
    let B = A.bounds in
    let g = granule_of T i in
    let a = at T B i inside in
    let end : from_of T g + (T.degree + 1) ≤ length cs = omega (arith, A.whole, mul-le-mul_right (T.degree + 1) a.there) in
    let all : length cs ≤ most_coefficients = omega (arith, A.whole, mul-le-mul_right (T.degree + 1) B.few.granules, B.few.degree) in
    let part : from_of T g + (T.degree + 1) - from_of T g ≡ T.degree + 1 = omega arith in
    record {
      from = record { fits = omega arith };
      to = record { fits = omega arith };
      bytes = record { fits = omega arith };
      end = end;
      start = rw (length_is T B) (record { fits = omega (arith, a.low, inside, last_small T B) });
      low = rw (length_is T B) a.low;
      asked = rw (part, length_is T B) (evaluable T cs A i inside);
      is = rw (part, length_is T B);
    }

all : (c : After-granule_of-g)
    → Safe c.args.self.now.table c.args.self.now.coefficients.now c.args.place
    c.granule_of-g.result
all c = rw c.granule_of-g.ensures (safe c.args.self.now.table c.args.self.now.coefficients.now c.args.place c.args.self.now.accepted c.requires)

pub overflow_mul-from : goal.overflow_mul-from
overflow_mul-from c = (all (goal.at.overflow_mul-from c).After-granule_of-g).from

pub overflow_add-part : goal.overflow_add-part
overflow_add-part c = (all (goal.at.overflow_add-part c).After-granule_of-g).to

pub offset_bounds-self-from : goal.offset_bounds-self-from
offset_bounds-self-from c = (all (goal.at.offset_bounds-self-from c).After-granule_of-g).bytes

pub slice_bounds-part-end : goal.slice_bounds-part-end
slice_bounds-part-end c = (all (goal.at.slice_bounds-part-end c).After-granule_of-g).end

pub overflow_mul-g : goal.overflow_mul-g
overflow_mul-g c = (all (goal.at.overflow_mul-g c).After-granule_of-g).start

pub overflow_sub-place : goal.overflow_sub-place
overflow_sub-place c = (all (goal.at.overflow_sub-place c).After-granule_of-g).low

pub value-v-requires : goal.value-v-requires
value-v-requires c = (all (goal.at.value-v-requires c).After-granule_of-g).asked

pub returns : goal.returns
returns c =
    read_is _ (record { sfits = c.delay.type_inv })
    ∙ c.delay.ensures
    ∙ ap delay_of c.value-v.ensures
    ∙ (all (goal.at.returns c).After-granule_of-g).is
