-- 'list each granule that differs, in rising order, with the largest coefficient difference and the
-- sum of the absolute differences, a missing coefficient counting as zero.' A granule's
-- coefficients are a list, c_0 first.
use Rattle.std.specs.Prelude.{Bool, cond, not, List, [], ◌∷◌, ◌++◌, ℕ, zero, suc, ◌+◌, max, eqb, ℤ}
use Rattle.std.specs.Prelude.{pos, length, get_or}
use Rattle.numbers.specs.Lowest.{every}
use Rattle.numbers.specs.Signs.{gap}

-- ---- two granules
-- the absolute difference of their coefficients k, 'a missing coefficient counting as zero'
abbrev pub difference_at : List ℤ → List ℤ → ℕ → ℕ
difference_at cs ds k = gap (get_or cs k (pos 0)) (get_or ds k (pos 0))

-- as many coefficients as the longer of both has
abbrev pub longer : List ℤ → List ℤ → ℕ
longer cs ds = max (length cs) (length ds)

-- a 'granule that differs'
unfoldable pub differs : List ℤ → List ℤ → Bool
differs cs ds = not (every (λ k. eqb (difference_at cs ds k) 0) (longer cs ds))

-- the largest, and the sum, of f 0, f 1, .. f (n − 1)
unfoldable pub largest_to : (ℕ → ℕ) → ℕ → ℕ
largest_to f zero = 0
largest_to f (suc n) = max (largest_to f n) (f n)

unfoldable pub sum_to : (ℕ → ℕ) → ℕ → ℕ
sum_to f zero = 0
sum_to f (suc n) = sum_to f n + f n

-- 'the largest coefficient difference and the sum of the absolute differences'
unfoldable pub largest_of : List ℤ → List ℤ → ℕ
largest_of cs ds = largest_to (difference_at cs ds) (longer cs ds)

unfoldable pub sum_of : List ℤ → List ℤ → ℕ
sum_of cs ds = sum_to (difference_at cs ds) (longer cs ds)

-- ---- two tables, by their granules
-- 'An entry is three whole numbers: granule, largest, sum.'
pub record Entry : Type 0 where
  pub granule : ℕ
  pub largest : ℕ
  pub sum : ℕ

abbrev pub entry_at : (ℕ → List ℤ) → (ℕ → List ℤ) → ℕ → Entry
entry_at first second g =
    record {
      granule = g;
      largest = largest_of (first g) (second g);
      sum = sum_of (first g) (second g);
    }

-- 'each granule that differs, in rising order', of granules 0 to n − 1
unfoldable pub changes_to : (ℕ → List ℤ) → (ℕ → List ℤ) → ℕ → List Entry
changes_to first second zero = []
changes_to first second (suc n) =
    cond (differs (first n) (second n)) (changes_to first second n ++ entry_at first second n ∷ [])
    (changes_to first second n)

-- entry i of a list
abbrev pub entry_in : List Entry → ℕ → Entry
entry_in es i = get_or es i (record { granule = 0; largest = 0; sum = 0 })

-- ---- as the host sees them: the three numbers of each entry, one after the other
unfoldable pub flat : List Entry → List ℤ
flat [] = []
flat (e ∷ es) = pos e.granule ∷ pos e.largest ∷ pos e.sum ∷ flat es
