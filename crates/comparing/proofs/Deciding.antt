-- The answer of comparing: a refusal of either table, 20, 8, or the list. Assumes nothing.
use Rattle.comparing.specs.Answers.{Compared, refused_of, compared_refused, judged_as}
use Rattle.blocks.specs.Answers.{Judged, judged_refused}
use Rattle.std.specs.Prelude.{Err, Ok}
use Rattle.comparing.specs.declared.RefusedOf.{RefusedOf}
use native.Mathlib.Omega.{arith}
use borrow.Author.Tests.{eqb-true}
use mathlib.Core.Path.{◌≡◌, sym, ◌∙◌, ap}
use mathlib.Core.Bool.{true, false, ◌&&◌}
use mathlib.Core.List.{List, [], ◌∷◌}
use Prim.Native.Nat.{ℕ, ◌*◌}
use lib.Dec.{eqb, leb}
use lib.IntN.{ℤ}
use lib.ListN.{length}
use Rattle.numbers.specs.Signs.{gap}
use Rattle.numbers.specs.Tests.{Test, single, verdict, verdicts}
use Rattle.numbers.proofs.Flags.{both}
use Rattle.numbers.proofs.Verdicts.{stop, go, verdict_map}
use Rattle.scales.specs.declared.refusal.Refusal.{Refusal}
use Rattle.image.specs.declared.table.Table.{Table}
use Rattle.image.specs.Image.{table_of, granule_stored}
use Rattle.blocks.specs.Judging.{judged, table_tests}
use Rattle.blocks.proofs.Accepting.{accepted_table, accepted_of}
use Rattle.comparing.specs.Asked.{BothAccepted, Pairs, HasPut}
use Rattle.comparing.specs.Changes.{Entry, changes_to}
use Rattle.comparing.specs.Comparing.{changes_of, is_alike, compared_of, compared_into, list_put}
use Rattle.comparing.specs.Comparing.{HasCompared}
use Rattle.comparing.proofs.Reading.{readable}

-- ---- a table that was judged as one of two: accepted or refused as it was judged
pub accepted_as : (which : ℕ) (judgement : Judged) (t : Table) → judged_as which judgement ≡ Ok t → judgement ≡ Ok t
accepted_as which (Ok s) t e = let same : s ≡ t = cc in ap Ok same
accepted_as which (Err refusal) t e = let z : ◌≡◌ {A = ℕ} 0 1 = cc in let no : ⊥ = omega arith in absurd no

pub refused_as : (which : ℕ) (judgement : Judged) (told : RefusedOf) → judged_as which judgement ≡ Err told
    → (judgement ≡ Err told.refusal) × (told ≡ record { refusal = told.refusal; which = which })
refused_as which (Ok s) told e = let z : ◌≡◌ {A = ℕ} 0 1 = cc in let no : ⊥ = omega arith in absurd no
refused_as which (Err refusal) told e =
    let same : record { refusal = refusal; which = which } ≡ told = cc in (
      ap (λ (r : RefusedOf). Err r.refusal) same,
      sym same ∙ ap (λ (r : RefusedOf). record { refusal = r.refusal; which = which }) same,
    )

-- ---- in turn: a table's own refusal, or what is left
abbrev compared_by : ℕ → Judged → Compared → Compared
compared_by which (Ok t) rest = rest
compared_by which (Err refusal) rest = refused_of refusal which

by_judged : (b : List ℕ) (which : ℕ) (rest : Compared)
    → verdict (λ number place. compared_refused number place which) rest (table_tests b (table_of b))
    ≡ compared_by which (judged b) rest
unfolding judged
by_judged b which rest =
    sym (verdict_map (λ judgement. compared_by which judgement rest) judged_refused (Ok (table_of b)) (table_tests b (table_of b)))

-- 8, and before it 20, which are of both
abbrev refusing : ℕ → ℕ → Compared
refusing number place = compared_refused number place 0

abbrev length_told : List ℕ → List ℕ → Compared
length_told first second = Ok (length (changes_of first second))

abbrev from8 : List ℕ → List ℕ → ℕ → List Test
from8 first second many = single 8 (leb (3 * length (changes_of first second)) many) ∷ []

abbrev of_both : List ℕ → List ℕ → ℕ → Compared
of_both first second many =
    verdict refusing (length_told first second) (single 20 (is_alike (table_of first) (table_of second)) ∷ from8 first second many)

in_turn : (first second : List ℕ) (many : ℕ)
    → compared_of first second many
    ≡ compared_by 0 (judged first) (compared_by 1 (judged second) (of_both first second many))
unfolding compared_of verdicts
in_turn first second many =
    by_judged first 0 _ ∙ ap (compared_by 0 (judged first)) (by_judged second 1 (of_both first second many))

-- ---- what is left of the lent list
module _ (first second : List ℕ) (entries : List ℤ) where
  refused_left : (refusal : Refusal) (which : ℕ) → refused_of refusal which ≡ compared_of first second (length entries)
      → HasCompared first second entries entries (refused_of refusal which)
  unfolding compared_into
  refused_left refusal which e = record { answer = e; list = rw (← e) }

  listed_left : Ok (length (changes_of first second)) ≡ compared_of first second (length entries)
      → HasCompared first second entries (list_put (changes_of first second) entries)
      (Ok (length (changes_of first second)))
  unfolding compared_into
  listed_left e = record { answer = e; list = rw (← e) }

  -- ---- the refusal of the first table, and of the second
  pub first_refused : (refusal : Refusal) → judged first ≡ Err refusal
      → HasCompared first second entries entries (refused_of refusal 0)
  first_refused refusal e = refused_left refusal 0 (sym (in_turn first second (length entries) ∙ rw e))

  pub second_refused : (t : Table) (refusal : Refusal) → judged first ≡ Ok t → judged second ≡ Err refusal
      → HasCompared first second entries entries (refused_of refusal 1)
  second_refused t refusal a e = refused_left refusal 1 (sym (in_turn first second (length entries) ∙ rw (a, e)))

-- ---- two tables that were accepted
module _ (first second : List ℕ) (t u : Table) (accepted : BothAccepted first t second u) where
  -- their granules, by the numbers that were judged
  abbrev pub changes_found : List Entry
  changes_found = changes_to (granule_stored first t.degree) (granule_stored second u.degree) t.count

  changes_are : changes_of first second ≡ changes_found
  unfolding changes_of
  changes_are = rw (accepted_table first t accepted.first, accepted_table second u accepted.second)

  alike_is : is_alike (table_of first) (table_of second) ≡ is_alike t u
  alike_is = rw (accepted_table first t accepted.first, accepted_table second u accepted.second)

  of_both_lem : (many : ℕ) → compared_of first second many ≡ of_both first second many
  of_both_lem many = in_turn first second many ∙ rw (accepted.first, accepted.second)

  -- where S, H and G are the same, both have every granule
  pub same_count : is_alike t u ≡ true → t.count ≡ u.count
  unfolding is_alike
  same_count e =
      eqb-true _ _ (both (eqb (gap t.start.0 u.start.0) 0 && eqb (gap t.length u.length) 0) (eqb t.count u.count) e).1

  pub pairs : is_alike t u ≡ true → Pairs first t.degree second u.degree t.count
  pairs e =
      record {
        few = (accepted_of first t accepted.first).bounds.few.granules;
        each = λ g h.
            record {
              first = readable first t accepted.first g h;
              second = readable second u accepted.second g (rw (same_count e) at h);
            };
      }

  module _ (entries : List ℤ) where
    abbrev many : ℕ
    many = length entries

    pub unlike : is_alike t u ≡ false → HasCompared first second entries entries (compared_refused 20 0 0)
    unlike e =
        refused_left first second entries _ 0
        (stop refusing (length_told first second) 20 _ (from8 first second many) (alike_is ∙ e) ∙ sym (of_both_lem many))

    module _ (e : is_alike t u ≡ true) where
      past20 : compared_of first second many
          ≡ verdict refusing (length_told first second) (from8 first second many)
      past20 =
          of_both_lem many ∙ go refusing (length_told first second) 20 _ (from8 first second many) (alike_is ∙ e)

      fits_all : leb (3 * length (changes_of first second)) many ≡ leb (3 * length changes_found) many
      fits_all = ap (λ (list : List Entry). leb (3 * length list) many) changes_are

      pub too_short : leb (3 * length changes_found) many ≡ false
          → HasCompared first second entries entries (compared_refused 8 0 0)
      too_short h =
          refused_left first second entries _ 0
          (stop refusing (length_told first second) 8 _ [] (fits_all ∙ h) ∙ sym past20)

      pub put_all : leb (3 * length changes_found) many ≡ true → (n : ℕ) (list : List ℤ)
          → HasPut changes_found entries list n → HasCompared first second entries list (Ok n)
      unfolding verdict
      put_all h n list put =
          let past8 = go refusing (length_told first second) 8 _ [] (fits_all ∙ h) in
          rw (put.list, put.answer, ← changes_are) (listed_left first second entries (sym (past20 ∙ past8)))
