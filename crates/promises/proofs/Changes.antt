-- What changed between two tables, by number: what an accepted comparison lists, that the list is
-- rising and complete, that its sums bound the gap of the exact sums, that it is empty exactly
-- where all granules mean the same; and a refusal writes nothing and changes nothing kept. Assumes
-- nothing.
use Rattle.comparing.specs.Answers.{Compared, compared_refused, compared_number}
use Rattle.comparing.specs.Answers.{compared_entries, compared_left}
use Rattle.std.specs.Prelude.{Ok, Err}
use borrow.Author.Tests.{eq-eqb, eqb-true, eqb-false, le-leb, leb-true}
use mathlib.Core.Path.{◌≡◌, refl, sym, ◌∙◌, ap}
use mathlib.Core.Bool.{Bool, true, false, ◌&&◌}
use mathlib.Core.List.{List, [], ◌∷◌}
use mathlib.Core.Logic.{◌↔◌, ◌⊎◌, inl, inr, ⊎_elim, ⊎_map}
use Prim.Native.Nat.{ℕ, zero, suc, ◌+◌, ◌-◌, ◌*◌, ◌^◌, ◌≤◌, ◌<◌, max, zero-le}
use native.Mathlib.Nat.{mul-pos, not-suc-le-zero}
use native.Mathlib.Omega.{arith}
use lib.Dec.{eqb, leb}
use lib.IntN.{ℤ, pos, ◌*ℤ◌}
use lib.ListN.{length, get_or}
use Rattle.numbers.specs.Signs.{gap}
use Rattle.numbers.specs.Tests.{AllListsPass}
use Rattle.numbers.proofs.Exactly.{all_none_of}
use Rattle.numbers.proofs.Flags.{never, both}
use Rattle.numbers.proofs.Order.{gap_none, none_gap}
use Rattle.numbers.proofs.Verdicts.{all_none, single_is, single_told}
use Rattle.granule.specs.Bounds.{most_degree}
use Rattle.granule.specs.Rule.{exact_at}
use Rattle.image.specs.declared.table.Table.{Table}
use Rattle.image.specs.Bounds.{Bounded}
use Rattle.image.specs.Image.{table_of}
use Rattle.image.proofs.Bounding.{at_least}
use Rattle.blocks.specs.Answers.{judged_refused, judged_number}
use Rattle.blocks.specs.Judging.{judged, table_tests}
use Rattle.blocks.proofs.Accepting.{accepted_of}
use Rattle.blocks.proofs.Exactly.{judged_exactly}
use Rattle.ephemeris.specs.Table.{H}
use Rattle.comparing.specs.Asked.{BothAccepted}
use Rattle.comparing.specs.Changes.{Entry, entry_in, differs, sum_of}
use Rattle.comparing.specs.Comparing.{granules_of, changes_of, is_alike, compare_tests, compared_of}
use Rattle.comparing.specs.Comparing.{compared_into, list_put}
use Rattle.comparing.specs.Same.{SameCoefficients, SameSums}
use Rattle.comparing.proofs.Complete.{each, rising, complete, none_listed}
use Rattle.comparing.proofs.Entries.{Three, put_at, put_behind, put_length, put_none}
use Rattle.comparing.proofs.Exactly.{compare_exactly}
use Rattle.comparing.proofs.Gap.{sums_near}
use Rattle.comparing.proofs.Independent.{same_meaning}
use Rattle.comparing.proofs.Reading.{granule_length}
use Rattle.comparing.proofs.Sums.{largest_at_most, not_differs_same, same_not_differs}
use Rattle.comparing.proofs.Sums.{same_coefficients_sum}
use Rattle.comparing.proofs.Turned as turned
use Rattle.promises.specs.Words.{sum_told, Lists}
use Rattle.promises.proofs.Tables.{judged_is}

-- ---- the sum that a list tells of a granule
told_of : (es : List Entry) (g s : ℕ)
    → ((i : ℕ) → i < length es → (entry_in es i).granule ≡ g → (entry_in es i).sum ≡ s)
    → ((i : ℕ) × (i < length es) × ((entry_in es i).granule ≡ g)) ⊎ (s ≡ 0) → sum_told es g ≡ s
unfolding sum_told
told_of [] g s all found = ⊎_elim (λ f. absurd (not-suc-le-zero f.1)) (λ (none : s ≡ 0). sym none) found
told_of (e ∷ es) g s all found =
    by (eqb e.granule g) refl (told_of es g s (λ i h. all (suc i) (omega arith)))
  where
    later : eqb e.granule g ≡ false → (i : ℕ) → i < suc (length es) → (entry_in (e ∷ es) i).granule ≡ g
        → (i : ℕ) × (i < length es) × ((entry_in es i).granule ≡ g)
    later d zero h here = absurd (eqb-false e.granule g d here)
    later d (suc i) h here = (i, omega arith, here)

    by : (v : Bool) → eqb e.granule g ≡ v
        → (((i : ℕ) × (i < length es) × ((entry_in es i).granule ≡ g)) ⊎ (s ≡ 0) → sum_told es g ≡ s)
        → sum_told (e ∷ es) g ≡ s
    by true d rest = rw d (all 0 (omega arith) (eqb-true e.granule g d))
    by false d rest = rw d (rest (⊎_map (λ f. later d f.0 f.1 f.2) (λ none. none) found))

-- the greater of two degrees, by how many coefficients there are
by_degrees : (a b n m : ℕ) → a ≡ n + 1 → b ≡ m + 1
    → (max a b - a ≡ max n m - n) × (max a b - b ≡ max n m - m) × (max a b - 1 ≡ max n m)
by_degrees a b n m e f = rw (e, f) (omega arith, omega arith, omega arith)

-- granules that are all the same leave nothing to list
no_changes : (first second : List ℕ)
    → ((g : ℕ) → g < (table_of first).count → SameCoefficients (granules_of first g) (granules_of second g))
    → changes_of first second ≡ []
unfolding changes_of
no_changes first second same = none_listed (granules_of first) (granules_of second) (table_of first).count same

-- ---- what number 0 means
module _ (first second : List ℕ) (many : ℕ) (zero : compared_number (compared_of first second many) ≡ 0) where
  passes : AllListsPass (compare_tests first second many)
  passes = (compare_exactly first second many).accepted zero

  -- both tables are accepted
  first_accepted : judged first ≡ Ok (table_of first)
  unfolding judged
  first_accepted = all_none judged_refused (Ok (table_of first)) (table_tests first (table_of first)) passes.0

  second_accepted : judged second ≡ Ok (table_of second)
  unfolding judged
  second_accepted = all_none judged_refused (Ok (table_of second)) (table_tests second (table_of second)) passes.1.0

  alike : is_alike (table_of first) (table_of second) ≡ true
  alike = single_told 20 _ passes.1.1.0.0

  -- 'with equal S, H and G'
  pub equal_numbers : let t = table_of first in
      let u = table_of second in
      (t.start.0 ≡ u.start.0) × (t.length ≡ u.length) × (t.count ≡ u.count)
  unfolding is_alike
  equal_numbers =
      let t = table_of first in
      let u = table_of second in
      let a = both (eqb (gap t.start.0 u.start.0) 0 && eqb (gap t.length u.length) 0) (eqb t.count u.count) alike in
      let b = both (eqb (gap t.start.0 u.start.0) 0) (eqb (gap t.length u.length) 0) a.0 in
      (gap_none _ _ (eqb-true _ 0 b.0), gap_none _ _ (eqb-true _ 0 b.1), eqb-true _ _ a.1)

  -- and the list has room
  room : 3 * length (changes_of first second) ≤ many
  room = leb-true _ _ (single_told 8 _ passes.1.1.0.1.0)

  compared_is : compared_of first second many ≡ Ok (length (changes_of first second))
  unfolding compared_of
  compared_is = all_none_of compared_refused (Ok (length (changes_of first second))) (compare_tests first second many) passes

  -- 'its length is returned'
  pub length_told : compared_entries (compared_of first second many) ≡ length (changes_of first second)
  unfolding compared_entries
  length_told = rw compared_is

-- ---- an accepted comparison
module _ (first second : List ℕ) (entries : List ℤ)
    (zero : compared_number (compared_of first second (length entries)) ≡ 0) where
  put : compared_into first second entries ≡ list_put (changes_of first second) entries
  unfolding compared_into
  put = rw (compared_is first second (length entries) zero)

  -- 'The list goes to the front of a lent buffer': entry i is its numbers 3·i, 3·i + 1 and 3·i + 2
  pub at_the_front : (i : ℕ) → i < length (changes_of first second)
      → Three (compared_into first second entries) i (entry_in (changes_of first second) i)
  at_the_front i h = rw put (put_at (changes_of first second) entries i h)

  -- 'and the rest of the buffer stays'
  pub rest_stays : (j : ℕ) → 3 * length (changes_of first second) ≤ j
      → get_or (compared_into first second entries) j (pos 0) ≡ get_or entries j (pos 0)
  rest_stays j h = rw put (put_behind (changes_of first second) entries j h)

  pub as_long : length (compared_into first second entries) ≡ length entries
  as_long = rw put (put_length (changes_of first second) entries (room first second (length entries) zero))

-- ---- what is listed
module _ (first second : List ℕ) where
  abbrev changes : List Entry
  changes = changes_of first second

  -- 'in rising order'
  pub in_rising_order : (i j : ℕ) → i < j → j < length changes
      → (entry_in changes i).granule < (entry_in changes j).granule
  unfolding changes_of
  in_rising_order = rising (granules_of first) (granules_of second) (table_of first).count

  -- an entry for no granule but those that differ
  pub each_listed : (i : ℕ) → i < length changes → Lists first second (entry_in changes i)
  unfolding changes_of
  each_listed i h =
      let s = each (granules_of first) (granules_of second) (table_of first).count i h in
      record {
        inside = s.below;
        differs = λ same. never (sym (same_not_differs _ _ same) ∙ s.differ);
        largest = ap (λ (e : Entry). e.largest) s.is;
        total = ap (λ (e : Entry). e.sum) s.is;
      }

  pub largest_within_sum : (i : ℕ) → i < length changes → (entry_in changes i).largest ≤ (entry_in changes i).sum
  largest_within_sum i h =
      let e = each_listed i h in
      let g = (entry_in changes i).granule in
      omega (arith, e.largest, e.total, largest_at_most (granules_of first g) (granules_of second g))

  module _ (g : ℕ) (inside : g < (table_of first).count) where
    abbrev Listed : Type 0
    Listed = (i : ℕ) × (i < length changes) × ((entry_in changes i).granule ≡ g)

    -- a granule has an entry, or its coefficients are the same
    listed_or_same : Listed ⊎ SameCoefficients (granules_of first g) (granules_of second g)
    unfolding changes_of
    listed_or_same = by (differs (granules_of first g) (granules_of second g)) refl
      where
        by : (v : Bool) → differs (granules_of first g) (granules_of second g) ≡ v
            → Listed ⊎ SameCoefficients (granules_of first g) (granules_of second g)
        by true e =
            let f = complete (granules_of first) (granules_of second) (table_of first).count g inside e in
            inl (f.0, f.1, ap (λ (e : Entry). e.granule) f.2)
        by false e = inr (not_differs_same _ _ e)

    -- so each granule that differs has one
    pub all_listed : (SameCoefficients (granules_of first g) (granules_of second g) → ⊥) → Listed
    all_listed differ = ⊎_elim (λ (l : Listed). l)
        (λ (same : SameCoefficients (granules_of first g) (granules_of second g)). absurd (differ same)) listed_or_same

    -- and what the list tells of a granule is the sum of its differences, listed or not
    pub sum_told_lem : sum_told changes g ≡ sum_of (granules_of first g) (granules_of second g)
    sum_told_lem = told_of changes g _ (λ i h e. (each_listed i h).total ∙ rw e) (⊎_map (λ l. l) (same_coefficients_sum _ _) listed_or_same)

-- ---- what it means
module _ (first second : List ℕ) (many : ℕ) (zero : compared_number (compared_of first second many) ≡ 0) where
  abbrev t : Table
  t = table_of first

  abbrev u : Table
  u = table_of second

  bounded : Bounded t
  bounded = (accepted_of first t (first_accepted first second many zero)).bounds

  few : (b : List ℕ) (g : ℕ) → judged b ≡ Ok (table_of b) → length (granules_of b g) ≤ most_degree + 1
  few b g e = omega (arith, granule_length b (table_of b).degree g, (accepted_of b (table_of b) e).bounds.few.degree)

  -- two granules 'mean the same': equal exact sums at every tick, and equal coefficients
  pub means_the_same : (g : ℕ)
      → SameSums (granules_of first g) (granules_of second g) (H t)
      ↔ SameCoefficients (granules_of first g) (granules_of second g)
  means_the_same g =
      same_meaning (granules_of first g) (granules_of second g) (H t) (at_least t bounded)
      (few first g (first_accepted first second many zero)) (few second g (second_accepted first second many zero))

  -- 'Two tables give an empty list exactly when all granules mean the same'
  pub empty_exactly : (compared_entries (compared_of first second many) ≡ 0)
      ↔ ((g : ℕ) → g < t.count → SameSums (granules_of first g) (granules_of second g) (H t))
  empty_exactly = (same_of, none_of)
    where
      told : compared_entries (compared_of first second many) ≡ length (changes_of first second)
      told = length_told first second many zero

      same_of : compared_entries (compared_of first second many) ≡ 0 → (g : ℕ) → g < t.count
          → SameSums (granules_of first g) (granules_of second g) (H t)
      same_of none g h =
          (means_the_same g).1 (⊎_elim
          (λ l. let k = l.1 in let no : ⊥ = omega (arith, told) in absurd no)
          (λ (same : SameCoefficients (granules_of first g) (granules_of second g)). same)
          (listed_or_same first second g h))

      none_of : ((g : ℕ) → g < t.count → SameSums (granules_of first g) (granules_of second g) (H t))
          → compared_entries (compared_of first second many) ≡ 0
      none_of same = told ∙ ap length (no_changes first second (λ g h. (means_the_same g).0 (same g h)))

  -- 'That sum bounds the gap of the exact sums everywhere in the granule': at the place x/q ticks
  -- after its start, so at each of its ticks, where q is 1, and between them. `exact_at cs x P` is
  -- P^n times the exact sum there, P being H·q, and so both are brought over the greater degree
  pub gap_bounded : (g q x : ℕ) → g < t.count → 0 < q → x ≤ H t * q
      → let P = H t * q in
      let N = max t.degree u.degree in
      gap (pos (P ^ (N - t.degree)) *ℤ exact_at (granules_of first g) x P)
      (pos (P ^ (N - u.degree)) *ℤ exact_at (granules_of second g) x P)
      ≤ P ^ N * sum_told (changes_of first second) g
  gap_bounded g q x inside some place =
      let cs = granules_of first g in
      let ds = granules_of second g in
      let n = granule_length first t.degree g in
      let m = granule_length second u.degree g in
      let by = by_degrees (length cs) (length ds) t.degree u.degree n m in
      rw (sum_told_lem first second g inside)
      (rw (by.0, by.1, by.2) at (sums_near cs ds (H t * q) x place (mul-pos (omega (arith, at_least t bounded)) some) (omega (arith, n))))

-- ---- a table with itself, and two tables the other way round
alike_itself : (t : Table) → is_alike t t ≡ true
unfolding is_alike
alike_itself t =
    rw (none_gap t.start.0 t.start.0 refl, none_gap t.length t.length refl, eq-eqb t.count t.count refl)

pub with_itself : (b : List ℕ) (entries : List ℤ) → judged_number (judged b) ≡ 0
    → let answer = compared_of b b (length entries) in
    (compared_number answer ≡ 0) × (compared_entries answer ≡ 0) × (compared_into b b entries ≡ entries)
with_itself b entries number =
    let many = length entries in
    let passes = (judged_exactly b).accepted number in
    let same = no_changes b b (λ g h k. refl) in
    let some : leb (3 * length (changes_of b b)) many ≡ true = rw same (le-leb 0 many zero-le) in
    let accepted = (compare_exactly b b many).passing (passes, (passes, ((single_is 20 _ (alike_itself (table_of b)), (single_is 8 _ some, tt)), tt))) in (
      accepted,
      length_told b b many accepted ∙ ap length same,
      put b b entries accepted ∙ rw same (put_none entries),
    )

pub other_way_round : (first second : List ℕ) (entries : List ℤ) → judged_number (judged first) ≡ 0
    → judged_number (judged second) ≡ 0
    → (compared_of first second (length entries) ≡ compared_of second first (length entries))
    × (compared_into first second entries ≡ compared_into second first entries)
other_way_round first second entries number number' =
    let accepted : BothAccepted first (table_of first) second (table_of second) =
    record { first = judged_is first number; second = judged_is second number' } in
    let same = turned.other_way_round first second (table_of first) (table_of second) accepted entries in
    (same.answer, same.list)

-- ---- 'A refusal .. writes nothing and changes nothing kept'
left : (answer : Compared) (new old : List ℤ) → 0 < compared_number answer → compared_left answer new old ≡ old
unfolding compared_number
left (Ok many) new old h = let no : ⊥ = omega arith in absurd no
left (Err refused) new old h = refl

pub compare_untouched : (first second : List ℕ) (entries : List ℤ)
    → 0 < compared_number (compared_of first second (length entries)) → compared_into first second entries ≡ entries
unfolding compared_into
compare_untouched first second entries refused = left (compared_of first second (length entries)) _ entries refused

pub compare_after_refused : (first second : List ℕ) (entries : List ℤ)
    → 0 < compared_number (compared_of first second (length entries)) → (first' second' : List ℕ)
    → let left = compared_into first second entries in
    (compared_of first' second' (length left) ≡ compared_of first' second' (length entries))
    × (compared_into first' second' left ≡ compared_into first' second' entries)
compare_after_refused first second entries refused first' second' = rw (compare_untouched first second entries refused) (refl, refl)
