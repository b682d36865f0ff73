-- 'Take two block images with equal S, H and G and list each granule that differs': the whole rule,
-- and what it leaves of the lent list.
use Rattle.comparing.specs.Answers.{Compared, compared_refused, compared_left}
use Rattle.std.specs.Prelude.{Ok, ◌≡◌, Bool, ◌&&◌, List, [], ◌∷◌, ◌++◌, ℕ, ◌*◌, eqb, leb, ℤ, length}
use Rattle.std.specs.Prelude.{drop}
use Rattle.numbers.specs.Signs.{gap}
use Rattle.numbers.specs.Tests.{Test, single, verdicts}
use Rattle.image.specs.declared.table.Table.{Table}
use Rattle.image.specs.Image.{table_of, granule_stored}
use Rattle.blocks.specs.Judging.{table_tests}
use Rattle.comparing.specs.Changes.{Entry, changes_to, flat}

-- the granules that bytes hold
abbrev pub granules_of : List ℕ → ℕ → List ℤ
granules_of b = granule_stored b (table_of b).degree

-- the list of what changed between two block images
unfoldable pub changes_of : List ℕ → List ℕ → List Entry
changes_of first second = changes_to (granules_of first) (granules_of second) (table_of first).count

-- what 20 asks: 'equal S, H and G'
unfoldable pub is_alike : Table → Table → Bool
is_alike t u =
    eqb (gap t.start.0 u.start.0) 0 && eqb (gap t.length u.length) 0
    && eqb t.count u.count

-- 'both tables judged in turn by 10 to 16, then 20 .., then 8 exactly when the buffer is shorter
-- than the list', the buffer being of so many numbers, three an entry; each list of tests with the
-- table that it is of, 0 where it is of both
abbrev pub compare_tests : List ℕ → List ℕ → ℕ → List (ℕ × List Test)
compare_tests first second many =
    (0, table_tests first (table_of first))
    ∷ (1, table_tests second (table_of second))
    ∷ (
      0,
      single 20 (is_alike (table_of first) (table_of second))
          ∷ single 8 (leb (3 * length (changes_of first second)) many)
          ∷ [],
    )
    ∷ []

-- 'its length is returned'
unfoldable pub compared_of : List ℕ → List ℕ → ℕ → Compared
compared_of first second many =
    verdicts compared_refused (Ok (length (changes_of first second)))
    (compare_tests first second many)

-- 'The list goes to the front of a lent buffer, all or nothing, .. and the rest of the buffer
-- stays.'
abbrev pub list_put : List Entry → List ℤ → List ℤ
list_put changes entries = flat changes ++ drop (3 * length changes) entries

unfoldable pub compared_into : List ℕ → List ℕ → List ℤ → List ℤ
compared_into first second entries =
    compared_left (compared_of first second (length entries))
    (list_put (changes_of first second) entries) entries

-- the answer of comparing, and the lent list's last content
pub record HasCompared (first second : List ℕ) (entries entries' : List ℤ) (r : Compared)
    : Type 0 where
  pub answer : r ≡ compared_of first second (length entries)
  pub list : entries' ≡ compared_into first second entries
