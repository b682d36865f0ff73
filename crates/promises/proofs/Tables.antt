-- A table's bytes, judged, read and written, by number: what is written is accepted and reads back,
-- an accepted image written again gives the same bytes, and a refusal writes nothing and changes
-- nothing kept. Assumes nothing.
use Rattle.blocks.specs.Answers.{Judged, judged_refused, judged_number, judged_start, judged_length}
use Rattle.blocks.specs.Answers.{judged_count, judged_degree}
use Rattle.std.specs.Prelude.{Err, Ok}
use mathlib.Core.Path.{◌≡◌, refl}
use mathlib.Core.List.{List}
use Prim.Native.Nat.{ℕ, ◌<◌}
use native.Mathlib.Omega.{arith}
use lib.IntN.{ℤ}
use lib.ListN.{length, get_or}
use Rattle.numbers.proofs.Verdicts.{all_none}
use Rattle.image.specs.declared.table.Table.{Table}
use Rattle.image.specs.Image.{table_of, image_of}
use Rattle.blocks.specs.Judging.{judged, judged_left, table_tests, read_judged, read_into}
use Rattle.blocks.specs.Judging.{write_tests, write_judged, write_into}
use Rattle.blocks.proofs.Exactly.{judged_exactly, write_exactly}
use Rattle.blocks.proofs.RoundTrip as trip
use Rattle.opened.specs.Opened.{coefficients_in}
use Rattle.promises.specs.Words.{Tells}

-- ---- what number 0 means: the table is accepted, with its own numbers
pub judged_is : (b : List ℕ) → judged_number (judged b) ≡ 0 → judged b ≡ Ok (table_of b)
unfolding judged
judged_is b zero = all_none judged_refused (Ok (table_of b)) (table_tests b (table_of b)) ((judged_exactly b).accepted zero)

written_is : (t : Table) (c : List ℤ) (many : ℕ) → judged_number (write_judged t c many) ≡ 0
    → write_judged t c many ≡ Ok t
unfolding write_judged
written_is t c many zero = all_none judged_refused (Ok t) (write_tests t c many) ((write_exactly t c many).accepted zero)

tells : {judgement : Judged} {t : Table} → judgement ≡ Ok t → Tells judgement t
unfolding judged_number judged_start judged_length judged_count judged_degree
tells e = rw e (refl, refl, refl, refl, refl)

-- ---- what is written is accepted, and reads back to the same numbers and coefficients
module _ (t : Table) (c : List ℤ) (many : ℕ) (written : judged_number (write_judged t c many) ≡ 0) where
  pub written_accepted : Tells (judged (image_of t c)) t
  written_accepted = tells (trip.image_accepted t t c many (written_is t c many written))

  pub written_read : (d : List ℤ) → length d ≡ length c
      → Tells (read_judged (image_of t c) (length d)) t × (read_into (image_of t c) d ≡ c)
  written_read d long = let r = trip.image_read t t c many (written_is t c many written) d long in (tells r.0, r.1)

-- ---- an accepted image, written again into any buffer of its size, gives the same bytes
pub again_written : (b : List ℕ) → ((i : ℕ) → get_or b i 0 < 256) → judged_number (judged b) ≡ 0 → (image : List ℕ)
    → length image ≡ length b
    → Tells (write_judged (table_of b) (coefficients_in b) (length image)) (table_of b)
    × (write_into (table_of b) (coefficients_in b) image ≡ b)
unfolding coefficients_in
again_written b small accepted image long =
    let r = trip.image_again b (table_of b) small (judged_is b accepted) image long in
    (tells r.0, r.1)

-- ---- 'A refusal .. writes nothing': the lent list, and the lent buffer, stay as they were
left : {A : Type 0} (judgement : Judged) (new old : List A) → 0 < judged_number judgement
    → judged_left judgement new old ≡ old
unfolding judged_number
left (Ok t) new old h = let no : ⊥ = omega arith in absurd no
left (Err refusal) new old h = refl

pub read_untouched : (b : List ℕ) (d : List ℤ) → 0 < judged_number (read_judged b (length d)) → read_into b d ≡ d
unfolding read_into
read_untouched b d refused = left (read_judged b (length d)) _ d refused

pub write_untouched : (t : Table) (c : List ℤ) (image : List ℕ) → 0 < judged_number (write_judged t c (length image))
    → write_into t c image ≡ image
unfolding write_into
write_untouched t c image refused = left (write_judged t c (length image)) _ image refused

-- 'and changes nothing kept': the next call over that list or buffer answers and leaves what it
-- would have without the refused one
pub read_after_refused : (b : List ℕ) (d : List ℤ) → 0 < judged_number (read_judged b (length d)) → (b' : List ℕ)
    → let left = read_into b d in
    (read_judged b' (length left) ≡ read_judged b' (length d)) × (read_into b' left ≡ read_into b' d)
read_after_refused b d refused b' = rw (read_untouched b d refused) (refl, refl)

pub write_after_refused : (t : Table) (c : List ℤ) (image : List ℕ)
    → 0 < judged_number (write_judged t c (length image)) → (t' : Table) (c' : List ℤ)
    → let left = write_into t c image in
    (write_judged t' c' (length left) ≡ write_judged t' c' (length image))
    × (write_into t' c' left ≡ write_into t' c' image)
write_after_refused t c image refused t' c' = rw (write_untouched t c image refused) (refl, refl)
