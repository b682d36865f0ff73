-- 'Reading what was written gives the same numbers, and an accepted block image written again gives
-- the same bytes.' Assumes nothing.
use Rattle.std.specs.Prelude.{Ok}
use mathlib.Core.Path.{◌≡◌, refl, sym, ◌∙◌, ap, subst}
use mathlib.Core.List.{List}
use Prim.Native.Nat.{ℕ, ◌+◌, ◌*◌, ◌/◌, ◌%◌, ◌≤◌, ◌<◌}
use native.Mathlib.Nat.{div-lt_iff_lt-mul, mod-lt, div-add-mod'}
use native.Mathlib.Decide.{dec_lt}
use native.Mathlib.Omega.{arith}
use borrow.Author.Tests.{eqb-true, eq-eqb}
use lib.Dec.{eqb}
use lib.IntN.{ℤ, pos}
use lib.ListN.{length, get_or, get_or-eq_default}
use mir.Syntax.{w64}
use mir.Val.{SFits}
use Rattle.numbers.proofs.Flags.{both}
use Rattle.numbers.proofs.Machine.{fits}
use Rattle.numbers.proofs.Verdicts.{pass_both, pass_join, single_is, single_told, all_none}
use Rattle.scales.proofs.Range.{valid_size}
use Rattle.granule.proofs.Passing.{small_at}
use Rattle.words.specs.Words.{most_blocks}
use Rattle.form.specs.Few.{most_granules}
use Rattle.form.specs.Form.{blocks_of}
use Rattle.image.specs.Image.{how_many, table_of, granule_in, image_of}
use Rattle.image.specs.declared.table.Table.{Table}
use Rattle.image.proofs.Back.{IsImage, image_is, Fitted, table_back, coefficients_back, check_back}
use Rattle.image.proofs.Back.{form_back, granule_at_lem}
use Rattle.image.proofs.Again.{HoldsTable, same_image}
use Rattle.image.proofs.Bounding.{bounds_told, bounds_is, at_most}
use Rattle.granules.specs.Tests.{granule_tests}
use Rattle.granules.specs.Accepted as table
use Rattle.granules.proofs.Accepting.{passed_accepted, accepted_passes, accepted_small}
use Rattle.blocks.specs.Answers.{judged_refused}
use Rattle.blocks.specs.Judging.{is_whole, judged, read_judged, read_into, size_tests, write_tests}
use Rattle.blocks.specs.Judging.{write_judged, write_into}
use Rattle.blocks.proofs.Telling.{all_passed}
use Rattle.blocks.proofs.Past.{whole_is}
use Rattle.blocks.proofs.Accepting.{stored_for, Sound, accepted_table, accepted_sound}
use Rattle.blocks.proofs.Accepting.{sound_accepted, accepted_of, accepted_blocks}
use Rattle.blocks.proofs.Taking.{is_new, read_accepted}

-- ---- what writing has tested
record Written (t : Table) (c : List ℤ) (many : ℕ) : Type 0 where
  size : many ≡ blocks_of t.count * 512
  accepted : table.Accepted t c

written_told : (t u : Table) (c : List ℤ) (many : ℕ) → write_judged t c many ≡ Ok u → Written t c many
unfolding write_judged
written_told t u c many e =
    let tests = granule_tests t (granule_in c t.degree) in
    let p = pass_both (size_tests t c many) tests (all_passed (write_tests t c many) t u e) in
    let d = both (eqb (length c) (how_many t)) _ (single_told 8 _ p.0.0) in
    let bounds = bounds_told t (single_told 13 _ p.0.1.0) in
    record {
      size = eqb-true _ _ d.1;
      accepted = passed_accepted t c (granule_in c t.degree) (λ g h. refl) bounds (eqb-true _ _ d.0) p.1;
    }

-- every coefficient is small, so it fits
module _ (t : Table) (c : List ℤ) (a : table.Accepted t c) where
  fitted : Fitted c
  fitted i = by (dec_lt i (length c))
    where
      nothing : SFits w64 (pos 0)
      nothing = record { sfits = omega arith }

      by : Dec (i < length c) → SFits w64 (get_or c i (pos 0))
      by (yes h) =
          let n = t.degree in
          let g = i / (n + 1) in
          let m = i % (n + 1) in
          let hg : g < t.count = (div-lt_iff_lt-mul {k = n + 1} {x = i} {y = t.count} (omega arith)).1 (subst (λ (l : ℕ). i < l) a.whole h) in
          let s = small_at (granule_in c n g) m (accepted_small t c a g hg) in
          let e = granule_at_lem c n g m (mod-lt i (omega arith)) ∙ ap (λ (k : ℕ). get_or c k (pos 0)) (div-add-mod' i (n + 1)) in
          subst (SFits w64) e (fits _ (omega (arith, s)))
      by (no h) = subst (SFits w64) (sym (get_or-eq_default c (pos 0) {n = i} (omega arith))) nothing

-- ---- what is written is accepted, and reads back to the same numbers
module _ (t : Table) (c : List ℤ) (a : table.Accepted t c) where
  abbrev b : List ℕ
  b = image_of t c

  img : IsImage t c b
  img = image_is t c

  table_same : table_of b ≡ t
  table_same =
      table_back t c b img (fits _ (omega (arith, valid_size t.start.0 a.bounds.first))) (fits _ (omega (arith, at_most t a.bounds)))
      (omega (arith, a.bounds.few.granules))

  coefficients_same : stored_for b t ≡ c
  coefficients_same = coefficients_back t c b img (record { bounds = a.bounds; whole = a.whole }) (fitted t c a)

  blocks_same : length b / 512 ≡ blocks_of t.count
  blocks_same = ap (λ (l : ℕ). l / 512) img.long ∙ whole_number (blocks_of t.count)
    where
      whole_number : (k : ℕ) → k * 512 / 512 ≡ k
      whole_number k = omega arith

  image_sound : Sound b t
  image_sound =
      record {
        whole = ap is_whole img.long ∙ whole_is (blocks_of t.count) (two t.count a.bounds.some) (many t.count a.bounds.few.granules);
        checks = λ k h. check_back t c b img k (subst (λ (l : ℕ). k < l) blocks_same h);
        first = form_back t c b img 0 (omega arith);
        blocks = blocks_same;
        forms = λ k h. form_back t c b img k (subst (λ (l : ℕ). k < l) blocks_same h);
        accepted = subst (table.Accepted t) (sym coefficients_same) a;
      }
    where
      two : (G : ℕ) → 1 ≤ G → 2 ≤ blocks_of G
      two G h = omega arith

      many : (G : ℕ) → G ≤ most_granules → blocks_of G ≤ most_blocks
      many G h = omega arith

-- a table that is written
module _ (t u : Table) (c : List ℤ) (many : ℕ) (e : write_judged t c many ≡ Ok u) where
  written : table.Accepted t c
  written = (written_told t u c many e).accepted

  -- its bytes are accepted
  pub image_accepted : judged (image_of t c) ≡ Ok t
  image_accepted = sound_accepted (image_of t c) t (table_same t c written) (image_sound t c written)

  -- and reading gives the same numbers and the same coefficients, into any list of their number
  pub image_read : (d : List ℤ) → length d ≡ length c
      → (read_judged (image_of t c) (length d) ≡ Ok t) × (read_into (image_of t c) d ≡ c)
  unfolding read_into
  image_read d l =
      let r = read_accepted (image_of t c) d t image_accepted (l ∙ written.whole) in
      (r, is_new _ t _ d r ∙ ap (stored_for (image_of t c)) (table_same t c written) ∙ coefficients_same t c written)

-- ---- an accepted image, written again, gives the same bytes
module _ (b : List ℕ) (t : Table) (small : (i : ℕ) → get_or b i 0 < 256) (e : judged b ≡ Ok t) where
  sound : Sound b t
  sound = accepted_sound b t e

  holds : HoldsTable b t
  holds =
      record {
        small = small;
        table = accepted_table b t e;
        long = accepted_blocks b t e;
        checks = λ k h. sound.checks k (subst (λ (l : ℕ). k < l) (sym sound.blocks) h);
        forms = λ k h. sound.forms k (subst (λ (l : ℕ). k < l) (sym sound.blocks) h);
      }

  again_same : image_of t (stored_for b t) ≡ b
  again_same = same_image b t holds

  again_accepted : write_judged t (stored_for b t) (length b) ≡ Ok t
  unfolding write_judged
  again_accepted =
      let c = stored_for b t in
      let a = accepted_of b t e in
      all_none judged_refused (Ok t) (write_tests t c (length b))
      (pass_join (size_tests t c (length b)) (granule_tests t (granule_in c t.degree))
      (single_is 8 _ (rw (eq-eqb _ _ a.whole, eq-eqb _ _ (accepted_blocks b t e))), (single_is 13 _ (bounds_is t a.bounds), tt))
      (accepted_passes t c (granule_in c t.degree) (λ g h. refl) a))

  -- into any buffer of its size
  pub image_again : (image : List ℕ) → length image ≡ length b
      → (write_judged t (stored_for b t) (length image) ≡ Ok t) × (write_into t (stored_for b t) image ≡ b)
  unfolding write_into
  image_again image l =
      let a = ap (write_judged t (stored_for b t)) l ∙ again_accepted in
      (a, is_new _ t _ image a ∙ again_same)
