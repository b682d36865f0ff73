-- The list is rising and complete: an entry for each granule that differs and for no other, in the
-- order of the granules; none of two tables whose granules are the same, and the same the other way
-- round. Assumes nothing.
use mathlib.Core.Path.{◌≡◌, refl, sym, ◌∙◌}
use mathlib.Core.Bool.{Bool, true, false}
use mathlib.Core.List.{List, [], ◌∷◌, ◌++◌}
use mathlib.Core.Logic.{◌⊎◌, ⊎_elim}
use Prim.Native.Nat.{ℕ, zero, suc, ◌≤◌, ◌<◌}
use native.Mathlib.Nat.{not-suc-le-zero, eq-or-lt_of_le, le_of_suc-le-suc}
use native.Mathlib.Numerals.{add-one}
use native.Mathlib.Omega.{arith}
use lib.IntN.{ℤ}
use lib.ListN.{length, length-append, get_or-append}
use lib.Seq.{get_or_at}
use Rattle.numbers.proofs.Flags.{never}
use Rattle.comparing.specs.Changes.{Entry, entry_at, entry_in, differs, changes_to}
use Rattle.comparing.specs.Same.{SameCoefficients}
use Rattle.comparing.proofs.Entries.{changes_none, changes_more, changes_stay}
use Rattle.comparing.proofs.Sums.{differs_turned, largest_turned, sum_turned, same_not_differs}

-- ---- a list with one entry more
behind : (es : List Entry) (e : Entry) → entry_in (es ++ e ∷ []) (length es) ≡ e
behind es e = get_or_at es e [] _ (length es) refl

before : (es : List Entry) (e : Entry) (i : ℕ) → i < length es → entry_in (es ++ e ∷ []) i ≡ entry_in es i
before es e i h = get_or-append es (e ∷ []) _ i h

-- a list has an entry
abbrev pub Has : List Entry → Entry → Type 0
Has list e = (i : ℕ) × (i < length list) × (entry_in list i ≡ e)

module _ (first second : ℕ → List ℤ) where
  -- what entry i of the list says: a granule, below n, that differs, and its numbers
  pub record Says (n : ℕ) (e : Entry) : Type 0 where
    pub below : e.granule < n
    pub differ : differs (first e.granule) (second e.granule) ≡ true
    pub is : e ≡ entry_at first second e.granule

  says_more : {n : ℕ} {e : Entry} → Says n e → Says (suc n) e
  says_more s = record { below = omega (arith, s.below); differ = s.differ; is = s.is }

  -- ---- the list of n + 1 granules, by whether granule n differs
  module _ (n : ℕ) where
    abbrev es : List Entry
    es = changes_to first second n

    abbrev new : Entry
    new = entry_at first second n

    stays : differs (first n) (second n) ≡ false → changes_to first second (suc n) ≡ es
    stays d = rw (add-one n) at (changes_stay first second n d)

    more : differs (first n) (second n) ≡ true → changes_to first second (suc n) ≡ es ++ new ∷ []
    more d = rw (add-one n) at (changes_more first second n d)

    -- an entry is the new one or one of those before
    fewer : (i : ℕ) → i < length (es ++ new ∷ []) → i ≤ length es
    fewer i h = let l = simp length-append at h in omega arith

  pub each : (n i : ℕ) → i < length (changes_to first second n) → Says n (entry_in (changes_to first second n) i)
  each zero i h = let z = rw (changes_none first second) at h in absurd (not-suc-le-zero z)
  each (suc n) i h = by (differs (first n) (second n)) refl (each n i)
    where
      by : (v : Bool) → differs (first n) (second n) ≡ v → (i < length (es n) → Says n (entry_in (es n) i))
          → Says (suc n) (entry_in (changes_to first second (suc n)) i)
      by false d rest = rw (stays n d) (says_more (rest (rw (stays n d) at h)))
      by true d rest =
          rw (more n d)
          (⊎_elim
          (λ (same : i ≡ length (es n)). rw (same, behind (es n) (new n)) (record { below = omega arith; differ = d; is = refl }))
          (λ (k : i < length (es n)). rw (before (es n) (new n) i k) (says_more (rest k)))
          (eq-or-lt_of_le (fewer n i (rw (more n d) at h))))

  -- ---- 'in rising order'
  pub rising : (n i j : ℕ) → i < j → j < length (changes_to first second n)
      → (entry_in (changes_to first second n) i).granule < (entry_in (changes_to first second n) j).granule
  rising zero i j l h = let z = rw (changes_none first second) at h in absurd (not-suc-le-zero z)
  rising (suc n) i j l h = by (differs (first n) (second n)) refl (rising n i j l)
    where
      by : (v : Bool) → differs (first n) (second n) ≡ v
          → (j < length (es n) → (entry_in (es n) i).granule < (entry_in (es n) j).granule)
          → (entry_in (changes_to first second (suc n)) i).granule
          < (entry_in (changes_to first second (suc n)) j).granule
      by false d rest = rw (stays n d) (rest (rw (stays n d) at h))
      by true d rest =
          rw (more n d)
          (⊎_elim
          (λ (same : j ≡ length (es n)).
          let k : i < length (es n) = omega arith in
          rw (same, behind (es n) (new n), before (es n) (new n) i k) (each n i k).below)
          (λ (k : j < length (es n)). let m : i < length (es n) = omega arith in rw (before (es n) (new n) i m, before (es n) (new n) j k) (rest k))
          (eq-or-lt_of_le (fewer n j (rw (more n d) at h))))

  -- ---- 'each granule that differs'
  pub complete : (n g : ℕ) → g < n → differs (first g) (second g) ≡ true
      → Has (changes_to first second n) (entry_at first second g)
  complete zero g h d = absurd (not-suc-le-zero h)
  complete (suc n) g h d = by (differs (first n) (second n)) refl (complete n g) (eq-or-lt_of_le (le_of_suc-le-suc h))
    where
      by : (v : Bool) → differs (first n) (second n) ≡ v
          → (g < n → differs (first g) (second g) ≡ true → Has (es n) (entry_at first second g))
          → (g ≡ n) ⊎ (g < n) → Has (changes_to first second (suc n)) (entry_at first second g)
      by false e rest here = ⊎_elim
          (λ (same : g ≡ n). never (sym (rw (← same) at e) ∙ d))
          (λ (k : g < n). rw (stays n e) (rest k d))
          here
      by true e rest here =
          rw (more n e)
          (⊎_elim
          (λ (same : g ≡ n). rw same (length (es n), (simp length-append (omega arith)), behind (es n) (new n)))
          (λ (k : g < n). let f = rest k d in (f.0, (simp length-append (omega (arith, f.1))), before (es n) (new n) f.0 f.1 ∙ f.2))
          here)

  -- ---- no entry exactly where all granules are the same
  pub none_listed : (n : ℕ) → ((g : ℕ) → g < n → SameCoefficients (first g) (second g)) → changes_to first second n ≡ []
  none_listed zero same = changes_none first second
  none_listed (suc n) same =
      stays n (same_not_differs (first n) (second n) (same n (omega arith))) ∙ none_listed n (λ g h. same g (omega arith))

-- ---- the other way round
pub changes_turned : (first second : ℕ → List ℤ) (n : ℕ) → changes_to first second n ≡ changes_to second first n
unfolding changes_to
changes_turned first second zero = refl
changes_turned first second (suc n) =
    rw (changes_turned first second n, differs_turned (first n) (second n), largest_turned (first n) (second n), sum_turned (first n) (second n))
