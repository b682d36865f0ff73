-- The tests of a table in their order, judging, reading and writing: 'the table 10 to 16 .., each
-- test over all blocks before the next (12 for block 0, 13, then 12 for the others)'.
use Rattle.blocks.specs.Answers.{Judged, judged_refused}
use Rattle.std.specs.Prelude.{Err, Ok, ◌≡◌, Bool, ◌&&◌, List, [], ◌∷◌, ◌++◌, ℕ, ◌*◌, ◌/◌, ◌%◌, eqb}
use Rattle.std.specs.Prelude.{leb, ℤ, length}
use Rattle.numbers.specs.Tests.{Test, test, single, verdict}
use Rattle.linear.specs.declared.steps.Tt.{Tt}
use Rattle.words.specs.Words.{block, most_blocks}
use Rattle.words.specs.Check.{is_checked}
use Rattle.form.specs.Form.{blocks_of, is_formed}
use Rattle.image.specs.declared.table.Table.{Table}
use Rattle.image.specs.Bounds.{is_bounded}
use Rattle.image.specs.Image.{how_many, table_of, granule_in, granule_stored, coefficients_stored}
use Rattle.image.specs.Image.{image_of}
use Rattle.granules.specs.Tests.{granule_tests}

-- the first refusal of a list of tests, or the table's numbers
abbrev pub judged_by : List Test → Table → Judged
judged_by tests t = verdict judged_refused (Ok t) tests

-- 10: 'bytes [are] 2 to 121 whole blocks'
unfoldable pub is_whole : ℕ → Bool
is_whole length = eqb (length % 512) 0 && leb (2 * 512) length && leb length (most_blocks * 512)

-- 12: block k of the bytes is formed, for a table of those numbers
abbrev pub is_formed_in : Table → List ℕ → ℕ → Bool
is_formed_in t b k = is_formed t.count t.degree k (block b k)

-- the tests of table bytes b that say they hold the table t. Block 0 has passed 12 when the others
-- are looked at, so that the place of 12 is a block's number
abbrev pub block_tests : List ℕ → Table → List Test
block_tests b t =
    single 10 (is_whole (length b))
    ∷ test 11 (length b / 512) (λ k. is_checked (block b k))
    ∷ single 12 (is_formed_in t b 0)
    ∷ single 13 (is_bounded t && eqb (length b / 512) (blocks_of t.count))
    ∷ test 12 (length b / 512) (is_formed_in t b)
    ∷ []

abbrev pub table_tests : List ℕ → Table → List Test
table_tests b t = block_tests b t ++ granule_tests t (granule_stored b t.degree)

unfoldable pub judged : List ℕ → Judged
judged b = judged_by (table_tests b (table_of b)) (table_of b)

-- a lent list, which stays as it was on a refusal
abbrev pub judged_left : {A : Type 0} → Judged → List A → List A → List A
judged_left (Ok t) new old = new
judged_left (Err r) new old = old

-- ---- reading into a list of so many: 'there 8 comes after the table's own numbers'
abbrev pub read_tests : List ℕ → Table → ℕ → List Test
read_tests b t many = table_tests b t ++ single 8 (eqb many (how_many t)) ∷ []

unfoldable pub read_judged : List ℕ → ℕ → Judged
read_judged b many = judged_by (read_tests b (table_of b) many) (table_of b)

unfoldable pub read_into : List ℕ → List ℤ → List ℤ
read_into b d =
    judged_left (read_judged b (length d))
    (coefficients_stored b (table_of b).count (table_of b).degree) d

-- the answer of reading, and the list's last content
pub record HasRead (b : List ℕ) (d d' : List ℤ) (r : Judged) : Type 0 where
  pub answer : r ≡ read_judged b (length d)
  pub list : d' ≡ read_into b d

-- ---- writing into a buffer of so many bytes: 'Writing refuses with 13 to 16 as reading does,
-- after 8'
abbrev pub table_from : Tt → ℤ → ℕ → ℕ → Table
table_from start length count degree =
    record { start = start; length = length; count = count; degree = degree }

abbrev pub size_tests : Table → List ℤ → ℕ → List Test
size_tests t c many =
    single 8 (eqb (length c) (how_many t) && eqb many (blocks_of t.count * 512))
    ∷ single 13 (is_bounded t)
    ∷ []

abbrev pub write_tests : Table → List ℤ → ℕ → List Test
write_tests t c many = size_tests t c many ++ granule_tests t (granule_in c t.degree)

unfoldable pub write_judged : Table → List ℤ → ℕ → Judged
write_judged t c many = judged_by (write_tests t c many) t

unfoldable pub write_into : Table → List ℤ → List ℕ → List ℕ
write_into t c image = judged_left (write_judged t c (length image)) (image_of t c) image

-- the answer of writing, and the buffer's last content
pub record Wrote (t : Table) (c : List ℤ) (image image' : List ℕ) (r : Judged) : Type 0 where
  pub answer : r ≡ write_judged t c (length image)
  pub buffer : image' ≡ write_into t c image
