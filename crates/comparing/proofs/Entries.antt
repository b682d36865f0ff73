-- The list of the granules that differ: entry by entry as it is made, put, and there. Assumes
-- nothing.
use borrow.Author.Tests.{lt-ltb, le-ltb}
use Rattle.std.specs.List.{filter, range_with_len}
use mathlib.Core.Path.{◌≡◌, refl, sym, ◌∙◌, ap}
use mathlib.Core.Bool.{Bool, true, false}
use mathlib.Core.List.{List, [], ◌∷◌, ◌++◌}
use mathlib.Core.Logic.{⊎_elim}
use Prim.Native.Nat.{ℕ, zero, suc, ◌+◌, ◌-◌, ◌*◌, ◌≤◌, ◌<◌}
use native.Mathlib.Nat.{eq-or-lt_of_le, le_of_suc-le-suc, not-suc-le-zero}
use native.Mathlib.Numerals.{add-one}
use native.Mathlib.Omega.{arith}
use lib.Dec.{ltb}
use lib.IntN.{ℤ, pos}
use lib.ListN.{length, get_or, drop, set, length-append, length-drop, get_or-append}
use lib.Seq.{take_at, drop-append-add, drop-drop, sets-eq, get_or-append-add, get_or-drop}
use Rattle.comparing.specs.declared.differing.Change.{Change}
use Rattle.comparing.specs.Asked.{IsChange, entry_put}
use Rattle.comparing.specs.Changes.{Entry, entry_at, entry_in, differs, sum_of, changes_to}
use Rattle.comparing.specs.Changes.{flat}
use Rattle.comparing.specs.Comparing.{list_put}
use Rattle.comparing.proofs.Sums.{differs_sum}

-- ---- granule by granule
module _ (first second : ℕ → List ℤ) where
  pub changes_none : changes_to first second 0 ≡ []
  unfolding changes_to
  changes_none = refl

  module _ (g : ℕ) where
    pub changes_more : differs (first g) (second g) ≡ true
        → changes_to first second (g + 1) ≡ changes_to first second g ++ entry_at first second g ∷ []
    unfolding changes_to
    changes_more e = rw (add-one g, e)

    pub changes_stay : differs (first g) (second g) ≡ false → changes_to first second (g + 1)
        ≡ changes_to first second g
    unfolding changes_to
    changes_stay e = rw (add-one g, e)

    -- one more at most, and none is lost
    step : (length (changes_to first second g) ≤ length (changes_to first second (g + 1)))
        × (length (changes_to first second (g + 1)) ≤ length (changes_to first second g) + 1)
    step = by (differs (first g) (second g)) refl
      where
        by : (v : Bool) → differs (first g) (second g) ≡ v
            → (length (changes_to first second g) ≤ length (changes_to first second (g + 1)))
            × (length (changes_to first second (g + 1)) ≤ length (changes_to first second g) + 1)
        by true e = rw (changes_more e) (simp length-append (omega arith, omega arith))
        by false e = rw (changes_stay e) (omega arith, omega arith)

  -- counted by the sums, from granule a on
  abbrev changed : ℕ → Bool
  changed g = ltb 0 (sum_of (first g) (second g))

  abbrev many : ℕ → ℕ
  many n = length (changes_to first second n)

  abbrev among : ℕ → ℕ → ℕ
  among a n = length (filter changed (range_with_len a n))

  counted_from : (a n : ℕ) → many a + among a n ≡ many (a + n)
  counted_from a zero = let e : a + 0 ≡ a = omega arith in rw e (omega arith)
  counted_from a (suc n) = by (changed a) refl (counted_from (a + 1) n)
    where
      next : a + suc n ≡ a + 1 + n
      next = omega arith

      by : (v : Bool) → changed a ≡ v → many (a + 1) + among (a + 1) n ≡ many (a + 1 + n)
          → many a + among a (suc n) ≡ many (a + suc n)
      by true e rest =
          let more = ap length (changes_more a (differs_sum (first a) (second a) ∙ e)) in
          rw (e, next) (omega (arith, rest, simp length-append at more))
      by false e rest =
          let stay = ap length (changes_stay a (differs_sum (first a) (second a) ∙ e)) in
          rw (e, next) (omega (arith, rest, stay))

  pub counted : (n : ℕ) → among 0 n ≡ many n
  counted n =
      let all : 0 + n ≡ n = omega arith in
      let none = ap length changes_none in
      omega (arith, none, rw all at (counted_from 0 n))

  pub at_most : (n : ℕ) → length (changes_to first second n) ≤ n
  at_most zero = rw changes_none (omega arith)
  at_most (suc n) = rw (← add-one n) (omega (arith, (step n).1, at_most n))

  -- so a list with room for n granules has room for theirs
  pub within : (n many : ℕ) → 3 * n ≤ many → 3 * length (changes_to first second n) ≤ many
  within n many h = omega (arith, at_most n)

  pub grows : (n m : ℕ) → n ≤ m → length (changes_to first second n) ≤ length (changes_to first second m)
  grows n zero h = let e : n ≡ 0 = omega arith in rw e (omega arith)
  grows n (suc m) h = ⊎_elim
      (λ (e : n ≡ suc m). rw e (omega arith))
      (λ (l : n < suc m). rw (← add-one m) (omega (arith, (step m).0, grows n m (omega arith))))
      (eq-or-lt_of_le h)

  -- by what is found of a granule: its sum is 0 exactly where it does not differ
  module _ (g : ℕ) (change : Change) (is : IsChange (first g) (second g) change) where
    abbrev entry : Entry
    entry = record { granule = g; largest = change.largest; sum = change.sum }

    pub entry_added : 0 < change.sum → changes_to first second (g + 1) ≡ changes_to first second g ++ entry ∷ []
    entry_added h =
        changes_more g (differs_sum (first g) (second g) ∙ lt-ltb 0 _ (rw is.sum at h))
        ∙ rw (is.largest, is.sum)

    pub length_added : 0 < change.sum
        → length (changes_to first second (g + 1)) ≡ length (changes_to first second g) + 1
    length_added h = rw (entry_added h) (simp length-append)

    pub none_added : change.sum ≤ 0 → changes_to first second (g + 1) ≡ changes_to first second g
    none_added h = changes_stay g (differs_sum (first g) (second g) ∙ le-ltb 0 _ (rw is.sum at h))

-- ---- the three numbers of each entry
flat_length : (es : List Entry) → length (flat es) ≡ 3 * length es
unfolding flat
flat_length [] = refl
flat_length (e ∷ es) = omega (arith, flat_length es)

flat_append : (es ds : List Entry) → flat (es ++ ds) ≡ flat es ++ flat ds
unfolding flat
flat_append [] ds = refl
flat_append (e ∷ es) ds = rw (flat_append es ds)

-- ---- the list put to the front
pub put_length : (es : List Entry) (entries : List ℤ) → 3 * length es ≤ length entries
    → length (list_put es entries) ≡ length entries
put_length es entries h = simp (length-append, length-drop) (omega (arith, flat_length es))

pub put_none : (entries : List ℤ) → list_put [] entries ≡ entries
unfolding flat
put_none entries = refl

-- and one entry more, behind those that are there
put_three : (p entries : List ℤ) (k : ℕ) (x y z : ℤ) → length p ≡ k → k + 3 ≤ length entries
    → set (set (set (p ++ drop k entries) k x) (k + 1) y) (k + 2) z ≡ (p ++ x ∷ y ∷ z ∷ []) ++ drop (k + 3) entries
put_three p entries k x y z e h =
    let l = p ++ drop k entries in
    let one : k + 1 ≡ suc k = omega arith in
    let two : k + 2 ≡ suc (suc k) = omega arith in
    let room : k + 3 ≤ length l = simp (length-append, length-drop) (omega arith) in
    let rest : drop (k + 3) l ≡ drop (k + 3) entries = rw (← e) (drop-append-add p (drop (length p) entries) 3 ∙ drop-drop 3 (length p) entries) in
    rw (one, two) (sets-eq (x ∷ y ∷ z ∷ []) l k room ∙ rw (take_at p (drop k entries) k e, rest))

pub put_more : (es : List Entry) (entries : List ℤ) (at g : ℕ) (change : Change) → at ≡ 3 * length es
    → at + 3 ≤ length entries
    → entry_put (list_put es entries) at g change
    ≡ list_put (es ++ record { granule = g; largest = change.largest; sum = change.sum } ∷ []) entries
unfolding flat
put_more es entries at g change e h =
    let entry : Entry = record { granule = g; largest = change.largest; sum = change.sum } in
    let many : 3 * length (es ++ entry ∷ []) ≡ at + 3 = simp length-append (omega arith) in
    rw (many, flat_append es (entry ∷ []), ← e) (put_three (flat es) entries at _ _ _ (flat_length es ∙ sym e) h)

-- ---- the list place by place
-- where the three numbers of an entry stand, if it is entry i
pub record Three (l : List ℤ) (i : ℕ) (e : Entry) : Type 0 where
  pub granule : get_or l (3 * i) (pos 0) ≡ pos e.granule
  pub largest : get_or l (3 * i + 1) (pos 0) ≡ pos e.largest
  pub sum : get_or l (3 * i + 2) (pos 0) ≡ pos e.sum

flat_at : (es : List Entry) (i : ℕ) → i < length es → Three (flat es) i (entry_in es i)
unfolding flat
flat_at [] i h = absurd (not-suc-le-zero h)
flat_at (e ∷ es) zero h = record { granule = refl; largest = refl; sum = refl }
flat_at (e ∷ es) (suc i) h =
    let r = flat_at es i (le_of_suc-le-suc h) in
    let zeroth : 3 * suc i ≡ suc (suc (suc (3 * i))) = omega arith in
    let first : 3 * suc i + 1 ≡ suc (suc (suc (3 * i + 1))) = omega arith in
    let second : 3 * suc i + 2 ≡ suc (suc (suc (3 * i + 2))) = omega arith in
    record { granule = rw zeroth r.granule; largest = rw first r.largest; sum = rw second r.sum }

module _ (es : List Entry) (entries : List ℤ) where
  front_at : (k : ℕ) → k < 3 * length es → get_or (list_put es entries) k (pos 0) ≡ get_or (flat es) k (pos 0)
  front_at k h = get_or-append (flat es) (drop (3 * length es) entries) (pos 0) k (omega (arith, flat_length es))

  pub put_at : (i : ℕ) → i < length es → Three (list_put es entries) i (entry_in es i)
  put_at i h =
      let r = flat_at es i h in
      record {
        granule = front_at (3 * i) (omega arith) ∙ r.granule;
        largest = front_at (3 * i + 1) (omega arith) ∙ r.largest;
        sum = front_at (3 * i + 2) (omega arith) ∙ r.sum;
      }

  pub put_behind : (j : ℕ) → 3 * length es ≤ j → get_or (list_put es entries) j (pos 0) ≡ get_or entries j (pos 0)
  put_behind j h =
      let k = j - 3 * length es in
      let there : j ≡ length (flat es) + k = omega (arith, flat_length es) in
      let back : 3 * length es + k ≡ j = omega arith in
      ap (λ (x : ℕ). get_or (list_put es entries) x (pos 0)) there
      ∙ get_or-append-add (flat es) (drop (3 * length es) entries) k (pos 0)
      ∙ get_or-drop (3 * length es) entries k (pos 0)
      ∙ ap (λ (x : ℕ). get_or entries x (pos 0)) back
