-- What a test that has passed says, in numbers: 14 of each coefficient, 15 of the weight, 16 of a
-- join. Assumes nothing.
use borrow.Author.Tests.{leb-true}
use mathlib.Core.Path.{◌≡◌, refl}
use mathlib.Core.Bool.{true, ◌&&◌}
use mathlib.Core.List.{List, [], ◌∷◌}
use Prim.Native.Nat.{ℕ, zero, suc, ◌+◌, ◌≤◌, zero-le}
use lib.Dec.{leb}
use lib.IntN.{ℤ, pos, ◌-ℤ◌, nat_abs}
use lib.ListN.{length, get_or, drop}
use Rattle.std.specs.List.{list_all}
use Rattle.std.proofs.lemmas.List.Recursion.{same_from_clauses}
use Rattle.numbers.proofs.Flags.{both}
use Rattle.granule.specs.Bounds.{most_degree, shortest_length}
use Rattle.granule.specs.Tests.{largest, heaviest, widest, is_within, is_small, is_light, is_joined, weight_of, plain_sum, alternating_sum, Passed, Meeting}

pub small_cons : (c : ℤ) (cs : List ℤ) → is_small (c ∷ cs) ≡ true → (nat_abs c ≤ largest) × (is_small cs ≡ true)
unfolding is_small
small_cons c cs e = let b = both (is_within c) (is_small cs) e in (leb-true (nat_abs c) largest b.0, b.1)

-- and in std's word
pub small_all : (cs : List ℤ) → list_all is_within cs ≡ is_small cs
unfolding is_small
small_all cs = same_from_clauses (list_all is_within) is_small (λ c b. is_within c && b) refl (λ _ _. refl) (λ _ _. refl) cs

pub small_drop : (cs : List ℤ) (k : ℕ) → is_small cs ≡ true → is_small (drop k cs) ≡ true
small_drop cs zero e = e
small_drop [] (suc k) e = e
small_drop (c ∷ cs) (suc k) e = small_drop cs k (small_cons c cs e).1

pub small_at : (cs : List ℤ) (k : ℕ) → is_small cs ≡ true → nat_abs (get_or cs k (pos 0)) ≤ largest
small_at [] k e = zero-le
small_at (c ∷ cs) zero e = (small_cons c cs e).0
small_at (c ∷ cs) (suc k) e = small_at cs k (small_cons c cs e).1

light_both : (weight H : ℕ) → is_light weight H ≡ true → (weight ≤ heaviest) × (weight ≤ H)
unfolding is_light
light_both weight H e = let b = both (leb weight heaviest) (leb weight H) e in (leb-true weight heaviest b.0, leb-true weight H b.1)

joined_near : (plain alternating : ℤ) → is_joined plain alternating ≡ true → nat_abs (plain -ℤ alternating) ≤ widest
unfolding is_joined
joined_near plain alternating e = leb-true (nat_abs (plain -ℤ alternating)) widest e

-- a granule, and a join, of which the tests have been passed
pub passed_of : (cs : List ℤ) (H : ℕ) → 1 ≤ length cs → length cs ≤ most_degree + 1 → shortest_length ≤ H
    → is_light (weight_of cs) H ≡ true → Passed cs H
passed_of cs H some few long e = let b = light_both (weight_of cs) H e in record { some = some; few = few; long = long; light = b.0; slow = b.1 }

pub meeting_of : (cs next : List ℤ) → length cs ≡ length next → is_joined (plain_sum cs) (alternating_sum next) ≡ true
    → Meeting cs next
meeting_of cs next same e = record { same = same; near = joined_near (plain_sum cs) (alternating_sum next) e }
