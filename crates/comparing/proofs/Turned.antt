-- The other way round: two accepted tables give the same answer and the same list. Assumes nothing.
use Rattle.comparing.specs.Answers.{Compared}
use borrow.Author.Tests.{eq-eqb, ne_eqb, eqb-true, eqb-false}
use mathlib.Core.Path.{◌≡◌, refl, sym, ◌∙◌, ap}
use mathlib.Core.Bool.{Bool, true, false}
use mathlib.Core.List.{List}
use Prim.Native.Nat.{ℕ, ◌*◌}
use lib.Dec.{eqb, leb}
use lib.IntN.{ℤ}
use lib.ListN.{length}
use Rattle.numbers.proofs.Order.{gap_turned}
use Rattle.image.specs.declared.table.Table.{Table}
use Rattle.image.specs.Image.{granule_stored}
use Rattle.comparing.specs.Asked.{BothAccepted, HasPut}
use Rattle.comparing.specs.Changes.{Entry, changes_to}
use Rattle.comparing.specs.Comparing.{is_alike, compared_of, compared_into, list_put, HasCompared}
use Rattle.comparing.proofs.Complete.{changes_turned}
use Rattle.comparing.proofs.Deciding.{changes_found, same_count, unlike, too_short, put_all}

count_turned : (a b : ℕ) → eqb a b ≡ eqb b a
count_turned a b = by (eqb a b) refl
  where
    by : (v : Bool) → eqb a b ≡ v → v ≡ eqb b a
    by true e = sym (eq-eqb b a (sym (eqb-true a b e)))
    by false e = sym (ne_eqb b a (λ d. eqb-false a b e (sym d)))

alike_turned : (t u : Table) → is_alike t u ≡ is_alike u t
unfolding is_alike
alike_turned t u =
    rw (gap_turned t.start.0 u.start.0, gap_turned t.length u.length, count_turned t.count u.count)

-- ---- one answer and one list, both ways
record BothWays (first second : List ℕ) (entries : List ℤ) (r : Compared) (list : List ℤ) : Type 0 where
  there : HasCompared first second entries list r
  back : HasCompared second first entries list r

pub record SameBothWays (first second : List ℕ) (entries : List ℤ) : Type 0 where
  pub answer : compared_of first second (length entries) ≡ compared_of second first (length entries)
  pub list : compared_into first second entries ≡ compared_into second first entries

same_of : {first second : List ℕ} {entries list : List ℤ} {r : Compared} → BothWays first second entries r list
    → SameBothWays first second entries
same_of b =
    record {
      answer = sym b.there.answer ∙ b.back.answer;
      list = sym b.there.list ∙ b.back.list;
    }

module _ (first second : List ℕ) (t u : Table) (accepted : BothAccepted first t second u) (entries : List ℤ) where
  turned : BothAccepted second u first t
  turned = record { first = accepted.second; second = accepted.first }

  module _ (e : is_alike t u ≡ true) where
    e' : is_alike u t ≡ true
    e' = sym (alike_turned t u) ∙ e

    found_turned : changes_found first second t u accepted ≡ changes_found second first u t turned
    found_turned =
        changes_turned (granule_stored first t.degree) (granule_stored second u.degree) t.count
        ∙ ap (changes_to (granule_stored second u.degree) (granule_stored first t.degree)) (same_count first second t u accepted e)

    room : Bool
    room = leb (3 * length (changes_found first second t u accepted)) (length entries)

    room_turned : leb (3 * length (changes_found second first u t turned)) (length entries) ≡ room
    unfolding room
    room_turned = ap (λ (list : List Entry). leb (3 * length list) (length entries)) (sym found_turned)

    by_room : (v : Bool) → room ≡ v → SameBothWays first second entries
    unfolding room
    by_room false h =
        same_of
        (record {
          there = too_short first second t u accepted entries e h;
          back = too_short second first u t turned entries e' (room_turned ∙ h);
        })
    by_room true h =
        let list = list_put (changes_found first second t u accepted) entries in
        let n = length (changes_found first second t u accepted) in
        let back_put : HasPut (changes_found second first u t turned) entries list n =
        record { answer = ap length found_turned; list = ap (λ es. list_put es entries) found_turned } in
        same_of
        (record {
          there = put_all first second t u accepted entries e h n list (record { answer = refl; list = refl });
          back = put_all second first u t turned entries e' (room_turned ∙ h) n list back_put;
        })

  pub other_way_round : SameBothWays first second entries
  other_way_round = by (is_alike t u) refl
    where
      by : (v : Bool) → is_alike t u ≡ v → SameBothWays first second entries
      by false e =
          same_of
          (record {
            there = unlike first second t u accepted entries e;
            back = unlike second first u t turned entries (sym (alike_turned t u) ∙ e);
          })
      by true e = by_room e (room e) refl
