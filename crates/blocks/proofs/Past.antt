-- Table bytes, one equation for each test passed: what is judged is what the tests left judge.
-- Assumes nothing.
use Rattle.std.specs.Prelude.{Ok, Option, None, Some}
use mathlib.Core.Path.{◌≡◌, refl, sym, ◌∙◌, subst}
use mathlib.Core.Bool.{Bool, true, false, ◌&&◌}
use mathlib.Core.List.{List, ◌∷◌}
use Prim.Native.Nat.{ℕ, ◌*◌, ◌/◌, ◌%◌, ◌≤◌, ◌<◌}
use native.Mathlib.Nat.{le_of_eq}
use native.Mathlib.Omega.{arith}
use borrow.Author.Tests.{eqb-true, eq-eqb, ne_eqb, leb-true, le-leb, le-ltb}
use lib.Dec.{leb, eqb}
use lib.ListN.{length}
use Rattle.std.specs.Option.{is_some}
use Rattle.numbers.specs.Lowest.{lowest, found}
use Rattle.numbers.specs.Tests.{Test, test, single}
use Rattle.numbers.proofs.Flags.{both}
use Rattle.numbers.proofs.Places.{all_pass, found_told, none_found}
use Rattle.numbers.proofs.Verdicts.{stops, goes, stop, go, one_stop, one_go}
use Rattle.words.specs.Words.{block, most_blocks}
use Rattle.words.specs.Check.{is_checked}
use Rattle.form.specs.Form.{blocks_of, is_free, fixed_byte, is_formed}
use Rattle.form.specs.Asked.{Search}
use Rattle.image.specs.Bounds.{is_bounded}
use Rattle.image.specs.Image.{granule_stored, table_of}
use Rattle.image.specs.declared.table.Table.{Table}
use Rattle.granules.specs.Tests.{granule_tests}
use Rattle.blocks.specs.Answers.{judged_refused}
use Rattle.blocks.specs.Judging.{judged_by, is_whole, is_formed_in, table_tests, judged}

-- ---- bytes in whole blocks
pub record Whole (length : ℕ) : Type 0 where
  pub blocks : length ≡ length / 512 * 512
  pub few : length / 512 ≤ most_blocks
  pub some : 2 ≤ length / 512

pub whole_told : (length : ℕ) → is_whole length ≡ true → Whole length
unfolding is_whole
whole_told length e =
    let a = both _ (leb length (most_blocks * 512)) e in
    let b = both (eqb (length % 512) 0) (leb (2 * 512) length) a.0 in
    in_numbers length (eqb-true _ _ b.0) (leb-true _ _ b.1) (leb-true _ _ a.1)
  where
    in_numbers : (length : ℕ) → length % 512 ≡ 0 → 2 * 512 ≤ length → length ≤ most_blocks * 512 → Whole length
    in_numbers length a b c = record { blocks = omega arith; few = omega arith; some = omega arith }

pub whole_is : (k : ℕ) → 2 ≤ k → k ≤ most_blocks → is_whole (k * 512) ≡ true
unfolding is_whole
whole_is k h l =
    rw (eq-eqb (k * 512 % 512) 0 (omega arith), le-leb (2 * 512) (k * 512) (omega arith), le-leb (k * 512) (most_blocks * 512) (omega arith))

-- ---- the tests that are left, from the last
abbrev pub from14 : List ℕ → Table → List Test
from14 b t = granule_tests t (granule_stored b t.degree)

abbrev pub from12 : List ℕ → Table → List Test
from12 b t = test 12 (length b / 512) (is_formed_in t b) ∷ from14 b t

abbrev is_right13 : List ℕ → Table → Bool
is_right13 b t = is_bounded t && eqb (length b / 512) (blocks_of t.count)

abbrev pub from13 : List ℕ → Table → List Test
from13 b t = single 13 (is_right13 b t) ∷ from12 b t

abbrev pub from_first : List ℕ → Table → List Test
from_first b t = single 12 (is_formed_in t b 0) ∷ from13 b t

abbrev from11 : List ℕ → Table → List Test
from11 b t = test 11 (length b / 512) (λ k. is_checked (block b k)) ∷ from_first b t

-- block 0's form asks nothing of the table's numbers
first_form : (G n : ℕ) (f : ℕ → ℕ) → is_formed 0 0 0 f ≡ is_formed G n 0 f
unfolding is_formed is_free fixed_byte
first_form G n f = refl

module _ (b : List ℕ) (t : Table) where
  -- what is judged, by the tests left
  abbrev By : List Test → Type 0
  By xs = judged_by (table_tests b t) t ≡ judged_by xs t

  -- and a refusal
  abbrev Is : ℕ → ℕ → Type 0
  Is number place = judged_refused number place ≡ judged_by (table_tests b t) t

  pub refused10 : is_whole (length b) ≡ false → Is 10 0
  refused10 e = stop judged_refused (Ok t) 10 (is_whole (length b)) (from11 b t) e

  pub past10 : is_whole (length b) ≡ true → By (from11 b t)
  past10 e = go judged_refused (Ok t) 10 (is_whole (length b)) (from11 b t) e

  module _ (p : By (from11 b t)) where
    pub refused11 : (r : ℕ) → Some r ≡ found (λ k. is_checked (block b k)) (length b / 512) → Is 11 r
    refused11 r e =
        let f = found_told (λ k. is_checked (block b k)) (length b / 512) r e in
        stops judged_refused (Ok t) 11 (length b / 512) (λ k. is_checked (block b k)) (from_first b t) r f.0 f.1 ∙ sym p

    pub past11 : None ≡ found (λ k. is_checked (block b k)) (length b / 512) → By (from_first b t)
    past11 e =
        p
        ∙ goes judged_refused (Ok t) 11 (length b / 512) (λ k. is_checked (block b k)) (from_first b t) _ refl
        (none_found (λ k. is_checked (block b k)) (length b / 512) e)

  module _ (p : By (from_first b t)) where
    same_form : {v : Bool} → is_formed 0 0 0 (block b 0) ≡ v → is_formed_in t b 0 ≡ v
    same_form e = sym (first_form t.count t.degree (block b 0)) ∙ e

    pub refused12_first : is_formed 0 0 0 (block b 0) ≡ false → Is 12 0
    refused12_first e = stop judged_refused (Ok t) 12 (is_formed_in t b 0) (from13 b t) (same_form e) ∙ sym p

    pub past_first : is_formed 0 0 0 (block b 0) ≡ true → By (from13 b t)
    past_first e = p ∙ go judged_refused (Ok t) 12 (is_formed_in t b 0) (from13 b t) (same_form e)

  module _ (p : By (from13 b t)) where
    pub refused13_bound : is_bounded t ≡ false → Is 13 0
    refused13_bound e = stop judged_refused (Ok t) 13 (is_right13 b t) (from12 b t) (rw e) ∙ sym p

    pub refused13_blocks : is_bounded t ≡ true → (length b / 512 ≡ blocks_of t.count → ⊥) → Is 13 0
    refused13_blocks e n =
        stop judged_refused (Ok t) 13 (is_right13 b t) (from12 b t) (rw (e, ne_eqb (length b / 512) (blocks_of t.count) n))
        ∙ sym p

    pub past13 : is_bounded t ≡ true → length b / 512 ≡ blocks_of t.count → By (from12 b t)
    past13 e d =
        p
        ∙ go judged_refused (Ok t) 13 (is_right13 b t) (from12 b t) (rw (e, eq-eqb (length b / 512) (blocks_of t.count) d))

  module _ (p : By (from12 b t)) where
    pub refused12 : (r : ℕ) → Some r ≡ found (is_formed_in t b) (length b / 512) → Is 12 r
    refused12 r e =
        let f = found_told (is_formed_in t b) (length b / 512) r e in
        stops judged_refused (Ok t) 12 (length b / 512) (is_formed_in t b) (from14 b t) r f.0 f.1 ∙ sym p

    pub past12 : None ≡ found (is_formed_in t b) (length b / 512) → By (from14 b t)
    past12 e =
        p
        ∙ goes judged_refused (Ok t) 12 (length b / 512) (is_formed_in t b) (from14 b t) _ refl
        (none_found (is_formed_in t b) (length b / 512) e)

-- a search that has found no block not formed
pub formed12 : (b : List ℕ) (t : Table) → None ≡ found (is_formed_in t b) (length b / 512)
    → length b / 512 ≡ blocks_of t.count → (k : ℕ) → k < blocks_of t.count → is_formed_in t b k ≡ true
formed12 b t e d k l =
    all_pass (is_formed_in t b) (length b / 512) (none_found (is_formed_in t b) (length b / 512) e) k (subst (λ (x : ℕ). k < x) (sym d) l)

-- the search for a block above 0 that is not formed
pub search_for : (b : List ℕ) (t : Table) → Whole (length b) → length b / 512 ≡ blocks_of t.count
    → is_formed 0 0 0 (block b 0) ≡ true → Search b t.count t.degree 1 (length b / 512)
search_for b t w d f =
    record {
      long = le_of_eq (sym w.blocks);
      within = le_of_eq d;
      start = omega (arith, w.some);
      before = λ k h.
          let y : k ≡ 0 = omega arith in
          subst (λ (i : ℕ). is_formed_in t b i ≡ true) (sym y) (sym (first_form t.count t.degree (block b 0)) ∙ f);
    }

-- ---- block 0 is looked at alone
pub first_unformed : (p : ℕ → Bool) (r : Option ℕ) → r ≡ found p 1 → is_some r ≡ true → p 0 ≡ false
first_unformed p None e h = absurd (cc)
first_unformed p (Some r) e h = let f = found_told p 1 r e in one_stop p r f.0 f.1

pub first_formed : (p : ℕ → Bool) (r : Option ℕ) → r ≡ found p 1 → is_some r ≡ false → p 0 ≡ true
first_formed p None e h = one_go p _ refl (none_found p 1 e)
first_formed p (Some r) e h = absurd (cc)

-- ---- refusal 12 of block 0, by the tests alone
none_told : (p : ℕ → Bool) (n : ℕ) → n ≤ lowest p n → None ≡ found p n
unfolding found
none_told p n h = rw (le-ltb (lowest p n) n h) refl

pub unformed_first : (b : List ℕ) → is_whole (length b) ≡ true
    → length b / 512 ≤ lowest (λ k. is_checked (block b k)) (length b / 512)
    → lowest (λ k. is_formed 0 0 k (block b k)) 1 < 1 → judged_refused 12 0 ≡ judged b
unfolding judged
unformed_first b w k h =
    let t = table_of b in
    let checked = none_told (λ k. is_checked (block b k)) (length b / 512) k in
    refused12_first b t (past11 b t (past10 b t w) checked) (one_stop (λ k. is_formed 0 0 k (block b k)) _ refl h)
