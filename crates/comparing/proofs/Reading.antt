-- The coefficients of a granule where they lie, and what an accepted table says of them. Assumes
-- nothing.
use Rattle.std.specs.Prelude.{Ok}
use mathlib.Core.Path.{◌≡◌, sym, ◌∙◌, ap}
use mathlib.Core.Bool.{true}
use mathlib.Core.List.{List}
use Prim.Native.Nat.{ℕ, ◌+◌, ◌^◌, ◌≤◌, ◌<◌, max}
use native.Mathlib.Omega.{arith}
use lib.IntN.{pos}
use lib.ListN.{length, get_or, get_or-eq_default}
use Rattle.numbers.proofs.Order.{abs_minus}
use Rattle.numbers.proofs.Places.{up_to_at, up_to_length}
use Rattle.granule.specs.Tests.{is_small}
use Rattle.granule.proofs.Passing.{small_at}
use Rattle.image.specs.declared.table.Table.{Table}
use Rattle.image.specs.Image.{coefficient_at, granule_stored}
use Rattle.image.proofs.Back.{granule_same}
use Rattle.image.proofs.Slots.{stored_room}
use Rattle.granules.proofs.Accepting.{accepted_small}
use Rattle.blocks.specs.Judging.{judged}
use Rattle.blocks.proofs.Accepting.{stored_for, accepted_of, accepted_blocks}
use Rattle.comparing.specs.declared.differing.Change.{Change}
use Rattle.comparing.specs.Asked.{Readable, Pair, IsChange}
use Rattle.comparing.specs.Changes.{difference_at, longer, sum_to, sum_of}
use Rattle.comparing.proofs.Sums.{sum_bound, largest_at_most}

-- ---- coefficient k of a granule of degree n
module _ (b : List ℕ) (n g : ℕ) where
  pub granule_length : length (granule_stored b n g) ≡ n + 1
  unfolding granule_stored
  granule_length = up_to_length (coefficient_at b g) (n + 1)

  pub coefficient_there : (k : ℕ) → k ≤ n → coefficient_at b g k ≡ get_or (granule_stored b n g) k (pos 0)
  unfolding granule_stored
  coefficient_there k h = sym (up_to_at (coefficient_at b g) (n + 1) k (pos 0) (omega arith))

  pub coefficient_missing : (k : ℕ) → n < k → pos 0 ≡ get_or (granule_stored b n g) k (pos 0)
  coefficient_missing k h = sym (get_or-eq_default (granule_stored b n g) (pos 0) {n = k} (omega (arith, granule_length)))

-- ---- an accepted table
module _ (b : List ℕ) (t : Table) (accepted : judged b ≡ Ok t) (g : ℕ) (h : g < t.count) where
  granule_small : is_small (granule_stored b t.degree g) ≡ true
  granule_small =
      ap is_small (granule_same b t.count t.degree g h) ∙ accepted_small t (stored_for b t) (accepted_of b t accepted) g h

  pub readable : Readable b t.degree g
  readable =
      let few = (accepted_of b t accepted).bounds.few in
      record {
        degree = few.degree;
        stored = record { few = omega (arith, few.granules); long = stored_room t.count g (length b) h (accepted_blocks b t accepted) };
        small = granule_small;
      }

-- ---- the same granule of two tables
module _ (b d : List ℕ) (n m g : ℕ) where
  pub longer_is : longer (granule_stored b n g) (granule_stored d m g) ≡ max n m + 1
  longer_is = omega (arith, granule_length b n g, granule_length d m g)

  module _ (p : Pair b n d m g) where
    pub at_most_16 : max n m + 1 ≤ 16
    at_most_16 = omega (arith, p.first.degree, p.second.degree)

    -- no difference is above 2^41
    pub difference_small : (k : ℕ) → difference_at (granule_stored b n g) (granule_stored d m g) k ≤ 2 ^ 41
    difference_small k =
        let c = small_at (granule_stored b n g) k p.first.small in
        let e = small_at (granule_stored d m g) k p.second.small in
        omega (arith, abs_minus (get_or (granule_stored d m g) k (pos 0)) (get_or (granule_stored b n g) k (pos 0)))

    -- nor the sum of all above 2^45
    pub sum_small : (k : ℕ) → k ≤ 16 → sum_to (difference_at (granule_stored b n g) (granule_stored d m g)) k ≤ 2 ^ 45
    sum_small k h =
        omega (arith, sum_bound (difference_at (granule_stored b n g) (granule_stored d m g)) k (2 ^ 41) difference_small)

    -- so an entry's numbers fit
    pub change_small : (change : Change) → IsChange (granule_stored b n g) (granule_stored d m g) change
        → (change.largest ≤ 2 ^ 45) × (change.sum ≤ 2 ^ 45)
    unfolding sum_of
    change_small change is =
        let cs = granule_stored b n g in
        let ds = granule_stored d m g in
        let small = sum_small (longer cs ds) (omega (arith, longer_is, at_most_16)) in
        (omega (arith, is.largest, largest_at_most cs ds, small), omega (arith, is.sum, small))
