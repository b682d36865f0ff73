-- What accepted bytes are: whole blocks, every check, every form, and an accepted table with its
-- coefficients. And back: bytes that are all that are accepted. Assumes nothing.
use Rattle.std.specs.Prelude.{Ok}
use mathlib.Core.Path.{◌≡◌, ◌∙◌, ap, subst}
use mathlib.Core.Bool.{true}
use mathlib.Core.List.{List}
use Prim.Native.Nat.{ℕ, ◌*◌, ◌/◌, ◌<◌}
use native.Mathlib.Nat.{le_of_eq}
use borrow.Author.Tests.{eqb-true, eq-eqb}
use lib.Dec.{eqb}
use lib.IntN.{ℤ}
use lib.ListN.{length}
use Rattle.numbers.proofs.Flags.{both}
use Rattle.numbers.proofs.Places.{all_pass, none_fails}
use Rattle.numbers.specs.Tests.{AllPass}
use Rattle.numbers.proofs.Verdicts.{pass_both, pass_join, single_is, single_told, all_none}
use Rattle.words.specs.Words.{block}
use Rattle.words.specs.Check.{is_checked}
use Rattle.form.specs.Form.{blocks_of}
use Rattle.image.specs.Bounds.{is_bounded}
use Rattle.image.specs.Image.{table_of, granule_stored, coefficients_stored}
use Rattle.image.specs.declared.table.Table.{Table}
use Rattle.image.proofs.Back.{stored_whole, granule_same}
use Rattle.image.proofs.Bounding.{bounds_told, bounds_is}
use Rattle.granules.specs.Tests.{granule_tests}
use Rattle.granules.specs.Accepted as table
use Rattle.granules.proofs.Accepting.{passed_accepted, accepted_passes}
use Rattle.blocks.specs.Answers.{judged_refused}
use Rattle.blocks.specs.Judging.{judged_by, is_whole, is_formed_in, block_tests, table_tests}
use Rattle.blocks.specs.Judging.{judged}
use Rattle.blocks.proofs.Past.{whole_told}
use Rattle.blocks.proofs.Telling.{same_accepted, all_passed}

-- the coefficients that the bytes hold, of a table of those numbers
abbrev pub stored_for : List ℕ → Table → List ℤ
stored_for b t = coefficients_stored b t.count t.degree

-- bytes that every test passes
pub record Sound (b : List ℕ) (t : Table) : Type 0 where
  pub whole : is_whole (length b) ≡ true
  pub checks : (k : ℕ) → k < length b / 512 → is_checked (block b k) ≡ true
  pub first : is_formed_in t b 0 ≡ true
  pub blocks : length b / 512 ≡ blocks_of t.count
  pub forms : (k : ℕ) → k < length b / 512 → is_formed_in t b k ≡ true
  pub accepted : table.Accepted t (stored_for b t)

module _ (b : List ℕ) (t : Table) where
  passed_sound : AllPass (table_tests b t) → Sound b t
  passed_sound p =
      let q = pass_both (block_tests b t) (granule_tests t (granule_stored b t.degree)) p in
      let o = q.0 in
      let h = both (is_bounded t) (eqb (length b / 512) (blocks_of t.count)) (single_told 13 _ o.1.1.1.0) in
      record {
        whole = single_told 10 _ o.0;
        checks = all_pass _ _ o.1.0;
        first = single_told 12 _ o.1.1.0;
        blocks = eqb-true _ _ h.1;
        forms = all_pass _ _ o.1.1.1.1.0;
        accepted =
            passed_accepted t (stored_for b t) (granule_stored b t.degree) (granule_same b t.count t.degree) (bounds_told t h.0)
            (stored_whole b t.count t.degree) q.1;
      }

  sound_passed : Sound b t → AllPass (table_tests b t)
  sound_passed s =
      pass_join (block_tests b t) (granule_tests t (granule_stored b t.degree)) (
        single_is 10 _ s.whole,
        (
          le_of_eq (none_fails _ _ s.checks),
          (
            single_is 12 _ s.first,
            (
              single_is 13 _ (rw (bounds_is t s.accepted.bounds, eq-eqb _ _ s.blocks)),
              (le_of_eq (none_fails _ _ s.forms), tt),
            ),
          ),
        ),
      )
      (accepted_passes t (stored_for b t) (granule_stored b t.degree) (granule_same b t.count t.degree) s.accepted)

-- ---- accepted bytes
pub accepted_table : (b : List ℕ) (t : Table) → judged b ≡ Ok t → table_of b ≡ t
unfolding judged
accepted_table b t e = same_accepted (table_tests b (table_of b)) (table_of b) t e

pub accepted_sound : (b : List ℕ) (t : Table) → judged b ≡ Ok t → Sound b t
unfolding judged
accepted_sound b t e =
    subst (Sound b) (accepted_table b t e) (passed_sound b (table_of b) (all_passed (table_tests b (table_of b)) (table_of b) t e))

pub sound_accepted : (b : List ℕ) (t : Table) → table_of b ≡ t → Sound b t → judged b ≡ Ok t
unfolding judged
sound_accepted b t e s =
    ap (λ (u : Table). judged_by (table_tests b u) u) e ∙ all_none judged_refused (Ok t) (table_tests b t) (sound_passed b t s)

-- what judging accepted is such a table, with the coefficients taken out granule by granule
pub accepted_of : (b : List ℕ) (t : Table) → judged b ≡ Ok t → table.Accepted t (stored_for b t)
accepted_of b t e = (accepted_sound b t e).accepted

-- and the bytes are its blocks
pub accepted_blocks : (b : List ℕ) (t : Table) → judged b ≡ Ok t → length b ≡ blocks_of t.count * 512
accepted_blocks b t e =
    let s = accepted_sound b t e in
    (whole_told (length b) s.whole).blocks ∙ ap (λ (k : ℕ). k * 512) s.blocks
