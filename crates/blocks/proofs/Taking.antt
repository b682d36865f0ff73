-- The answers of reading: the table's own refusal, 8, or the table. Assumes nothing.
use Rattle.blocks.specs.Answers.{Judged, judged_refused}
use Rattle.std.specs.Prelude.{Err, Ok}
use mathlib.Core.Path.{◌≡◌, sym, ◌∙◌, ap}
use mathlib.Core.List.{List, [], ◌∷◌}
use Prim.Native.Nat.{ℕ}
use borrow.Author.Tests.{eq-eqb, ne_eqb}
use lib.Dec.{eqb}
use lib.IntN.{ℤ}
use lib.ListN.{length}
use Rattle.scales.specs.declared.refusal.Refusal.{Refusal}
use Rattle.numbers.specs.Tests.{Test, single}
use Rattle.numbers.proofs.Verdicts.{stop, go, all_none, more_refused, more_passed}
use Rattle.image.specs.Image.{how_many, table_of, coefficients_stored}
use Rattle.image.specs.declared.table.Table.{Table}
use Rattle.blocks.specs.Judging.{judged_by, table_tests, judged, judged_left, read_judged}
use Rattle.blocks.specs.Judging.{read_into, HasRead}
use Rattle.blocks.proofs.Telling.{judged_tells, all_passed}
use Rattle.blocks.proofs.Accepting.{accepted_table}

-- what stays, and what is new
pub stays : {A : Type 0} (j : Judged) (r : Refusal) (new old : List A) → j ≡ Err r → judged_left j new old ≡ old
stays j r new old e = ap (λ (x : Judged). judged_left x new old) e

pub is_new : {A : Type 0} (j : Judged) (t : Table) (new old : List A) → j ≡ Ok t → judged_left j new old ≡ new
is_new j t new old e = ap (λ (x : Judged). judged_left x new old) e

-- an answer that is refused leaves the list
has_refused : (b : List ℕ) (d : List ℤ) (r : Refusal) → read_judged b (length d) ≡ Err r → HasRead b d d (Err r)
unfolding read_into
has_refused b d r e = record { answer = sym e; list = sym (stays _ r _ d e) }

module _ (b : List ℕ) (d : List ℤ) where
  abbrev s : Table
  s = table_of b

  abbrev last : List Test
  last = single 8 (eqb (length d) (how_many s)) ∷ []

  pub read_table_refused : (r : Refusal) → judged b ≡ Err r → HasRead b d d (Err r)
  unfolding judged read_judged
  read_table_refused r e = has_refused b d r (more_refused judged_refused (Ok s) (judged_tells s) (table_tests b s) last r.number r.place e)

  module _ (t : Table) (e : judged b ≡ Ok t) where
    by_last : read_judged b (length d) ≡ judged_by last s
    unfolding judged read_judged
    by_last = more_passed judged_refused (Ok s) (table_tests b s) last (all_passed (table_tests b s) s t e)

    same : how_many s ≡ how_many t
    same = ap how_many (accepted_table b t e)

    pub read_unfit : (length d ≡ how_many t → ⊥) → HasRead b d d (judged_refused 8 0)
    read_unfit n =
        has_refused b d _
        (by_last ∙ sym (stop judged_refused (Ok s) 8 (eqb (length d) (how_many s)) [] (ne_eqb _ _ (λ z. n (z ∙ same)))))

    pub read_accepted : length d ≡ how_many t → read_judged b (length d) ≡ Ok t
    read_accepted l =
        by_last
        ∙ go judged_refused (Ok s) 8 (eqb (length d) (how_many s)) [] (eq-eqb _ _ (l ∙ sym same))
        ∙ all_none judged_refused (Ok s) [] tt
        ∙ ap Ok (accepted_table b t e)

    pub read_done : (d' : List ℤ) → length d ≡ how_many t → d' ≡ coefficients_stored b t.count t.degree
        → HasRead b d d' (Ok t)
    unfolding read_into
    read_done d' l k =
        record {
          answer = sym (read_accepted l);
          list =
              k ∙ ap (λ (u : Table). coefficients_stored b u.count u.degree) (sym (accepted_table b t e))
              ∙ sym (is_new _ t _ d (read_accepted l));
        }
