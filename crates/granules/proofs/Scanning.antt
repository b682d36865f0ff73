-- The one pass over the granules: what it keeps is the lowest rank among them, and at its end it
-- has told what the list of tests tells. `granule g` are the coefficients of granule g. Assumes
-- nothing.
use Rattle.granules.specs.Answers.{Tested, tested_refused, tested_by}
use Rattle.std.specs.Prelude.{Ok, Option, None, Some}
use mathlib.Core.Path.{◌≡◌, refl, sym, ◌∙◌, ap, subst}
use mathlib.Core.Bool.{Bool, true, false, cond, ◌||◌}
use mathlib.Core.List.{List, [], ◌∷◌}
use Prim.Native.Nat.{ℕ, zero, suc, ◌+◌, ◌<◌}
use native.Mathlib.Decide.{dec_lt, ℕ_discrete}
use native.Mathlib.Omega.{arith}
use borrow.Author.Tests.{eq-eqb, ne_eqb, lt-ltb, le-ltb}
use lib.Dec.{ltb, eqb}
use lib.IntN.{ℤ, nat_abs}
use Rattle.granule.specs.Tests.{is_small, plain_sum, alternating_sum, is_joined}
use Rattle.granule.proofs.Zeros.{plain_ignores, alternating_ignores}
use Rattle.image.specs.declared.table.Table.{Table}
use Rattle.numbers.specs.Tests.{over, rule, rank}
use Rattle.numbers.proofs.Verdicts.{Best, best_none, best_lower, best_still, best_first, rank_later}
use Rattle.numbers.proofs.Verdicts.{rank_more, by_rank}
use Rattle.granules.specs.declared.Scan.{Scan}
use Rattle.granules.specs.Tests.{is_join, own_rules, join_rank, none_rank, granule_rules}
use Rattle.granules.specs.Tests.{granule_tests}
use Rattle.granules.specs.Pass.{joined_rank, scan_after, scan_next, RankTold}
use Rattle.granules.proofs.Alike.{Alike, own_same}

-- ---- the rank of one granule
pub own_small : (H : ℕ) (c : List ℤ) → (rank (own_rules H) c ≡ 0 → ⊥) → is_small c ≡ true
own_small H c n = (rank_later _ _ c (above n)).0
  where
    above : {m : ℕ} → (m ≡ 0 → ⊥) → 0 < m
    above n = omega arith

-- a join, by the plain sum that the pass has kept
join_is : (granule : ℕ → List ℤ) (x : ℤ) (g : ℕ) → ((k : ℕ) → g ≡ suc k → x ≡ plain_sum (granule k))
    → (eqb g 0 || is_joined x (alternating_sum (granule g))) ≡ is_join granule g
unfolding is_join
join_is granule x zero h = refl
join_is granule x (suc g) h = rw (ne_eqb (suc g) 0 (λ z. some z), h g refl)
  where
    some : suc g ≡ 0 → ⊥
    some z = omega arith

join_rank_lem : (granule : ℕ → List ℤ) (g : ℕ)
    → cond (is_join granule g) none_rank join_rank ≡ join_rank + rank (rule 16 (is_join granule) ∷ []) g
unfolding rank
join_rank_lem granule g = by (is_join granule g)
  where
    by : (v : Bool) → cond v none_rank join_rank ≡ join_rank + cond v 1 0
    by true = refl
    by false = refl

abbrev with_join : ℕ → Bool → ℕ
with_join r v = cond (ltb r join_rank) r (cond v none_rank join_rank)

-- and with it
module _ (granule : ℕ → List ℤ) (H g : ℕ) (x : ℤ) (before : (k : ℕ) → g ≡ suc k → x ≡ plain_sum (granule k)) where
  rank_is : joined_rank (rank (own_rules H) (granule g)) g x (granule g) ≡ rank (granule_rules H granule) g
  unfolding joined_rank
  rank_is =
      ap (with_join (rank (own_rules H) (granule g))) (join_is granule x g before)
      ∙ ap (cond (ltb (rank (own_rules H) (granule g)) join_rank) (rank (own_rules H) (granule g))) (join_rank_lem granule g)
      ∙ sym (rank_more granule (own_rules H) (rule 16 (is_join granule) ∷ []) g)

  own_first : rank (own_rules H) (granule g) ≡ 0 → rank (granule_rules H granule) g ≡ 0
  own_first e =
      rank_more granule (own_rules H) (rule 16 (is_join granule) ∷ []) g
      ∙ rw e

joined_some : (own g : ℕ) (x : ℤ) (c : List ℤ) → (own ≡ 0 → ⊥) → 0 < joined_rank own g x c
unfolding joined_rank
joined_some own g x c n = by (ltb own join_rank) (eqb g 0 || is_joined x (alternating_sum c))
  where
    by : (v w : Bool) → 0 < cond v own (cond w none_rank join_rank)
    by true w = omega arith
    by false true = omega arith
    by false false = omega arith

-- coefficients that are alike are one to the pass
pub scan_alike : (scan : Scan) (g H : ℕ) {c d : List ℤ} → Alike c d → scan_next scan g c H ≡ scan_next scan g d H
unfolding scan_next joined_rank
scan_alike scan g H a = rw (own_same H a, a.same alternating_sum alternating_ignores, a.same plain_sum plain_ignores) refl

-- ---- what is so after the first g granules: none of them fails the first test
pub record Scanned (granule : ℕ → List ℤ) (H g : ℕ) (scan : Scan) : Type 0 where
  pub best : Best (rank (granule_rules H granule)) none_rank g scan.rank scan.place
  pub some : 0 < scan.rank
  pub plain : (k : ℕ) → g ≡ suc k → scan.plain.0 ≡ plain_sum (granule k)

pub scanned_none : (granule : ℕ → List ℤ) (H : ℕ) (scan : Scan) → scan.rank ≡ none_rank → Scanned granule H 0 scan
scanned_none granule H scan e =
    record {
      best = rw e (best_none (rank (granule_rules H granule)) none_rank scan.place);
      some = omega arith;
      plain = λ k z. let w : ⊥ = omega arith in absurd w;
    }

-- what the next granule is told
went_on : (r : ℕ) (x s : Scan) → cond (eqb r 0) None (Some x) ≡ Some s → (r ≡ 0 → ⊥) × (x ≡ s)
went_on r x s e = by (ℕ_discrete r 0)
  where
    by : Dec (r ≡ 0) → (r ≡ 0 → ⊥) × (x ≡ s)
    by (yes z) = let d : None ≡ Some s = rw (eq-eqb r 0 z) at e in let w : ◌≡◌ {A = ℕ} 0 1 = cc in let no : ⊥ = omega arith in absurd no
    by (no n) = let d : Some x ≡ Some s = rw (ne_eqb r 0 n) at e in (n, cc)

was_lowest : (r : ℕ) (x : Scan) → cond (eqb r 0) None (Some x) ≡ None → r ≡ 0
was_lowest r x e = by (ℕ_discrete r 0)
  where
    by : Dec (r ≡ 0) → r ≡ 0
    by (yes z) = z
    by (no n) = let d : Some x ≡ None = rw (ne_eqb r 0 n) at e in let w : ◌≡◌ {A = ℕ} 0 1 = cc in let no : ⊥ = omega arith in absurd no

module _ (granule : ℕ → List ℤ) (H g : ℕ) (scan : Scan) (sc : Scanned granule H g scan) where
  abbrev c : List ℤ
  c = granule g

  abbrev own : ℕ
  own = rank (own_rules H) c

  abbrev ranked : ℕ
  ranked = joined_rank own g scan.plain.0 c

  ranked_is : ranked ≡ rank (granule_rules H granule) g
  ranked_is = rank_is granule H g scan.plain.0 sc.plain

  kept : (k : ℕ) → g + 1 ≡ suc k → plain_sum c ≡ plain_sum (granule k)
  kept k z = ap (λ (n : ℕ). plain_sum (granule n)) (same z)
    where
      same : g + 1 ≡ suc k → g ≡ k
      same z = omega arith

  after : (own ≡ 0 → ⊥) → Scanned granule H (g + 1) (scan_after scan g ranked (plain_sum c))
  unfolding scan_after
  after n = by (dec_lt ranked scan.rank)
    where
      by : Dec (ranked < scan.rank) → Scanned granule H (g + 1) (scan_after scan g ranked (plain_sum c))
      by (yes h) =
          rw (lt-ltb ranked scan.rank h)
          (record {
            best = rw ranked_is (best_lower _ none_rank g scan.rank scan.place sc.best (rw ranked_is at h));
            some = joined_some own g scan.plain.0 c n;
            plain = kept;
          })
      by (no h) =
          rw (le-ltb ranked scan.rank (omega arith))
          (record {
            best = best_still _ none_rank g scan.rank scan.place sc.best (omega (arith, ranked_is));
            some = sc.some;
            plain = kept;
          })

  next_by_own : (s : Scan) → scan_next scan g c H ≡ Some s → Scanned granule H (g + 1) s
  unfolding scan_next
  next_by_own s e =
      let w = went_on own _ s e in
      subst (λ (z : Scan). Scanned granule H (g + 1) z) w.1 (after w.0)

  -- a granule that fails the first test ends the pass
  lowest_by_own : (t : Table) → H ≡ nat_abs t.length → g < t.count → scan_next scan g c H ≡ None
      → (answer : Tested) → RankTold 0 g answer → answer ≡ tested_by (granule_tests t granule)
  unfolding scan_next
  lowest_by_own t same h e answer a =
      let z = was_lowest own _ e in
      let f = own_first granule H g scan.plain.0 sc.plain z in
      a.is H granule
      ∙ by_rank tested_refused (Ok tt) (granule_rules H granule) t.count 0 g
      (best_first _ none_rank g scan.rank scan.place sc.best sc.some f t.count h)
      ∙ ap (λ (l : ℕ). tested_by (over t.count (granule_rules l granule))) same

-- what is looked at may be coefficients that the tests do not tell from the granule's own
module _ (granule : ℕ → List ℤ) (H g : ℕ) (scan : Scan) (c : List ℤ) (here : Alike c (granule g))
    (sc : Scanned granule H g scan) where
  by_alike : {n : Option Scan} → scan_next scan g c H ≡ n → scan_next scan g (granule g) H ≡ n
  by_alike e = sym (scan_alike scan g H here) ∙ e

  pub scanned_next : (s : Scan) → scan_next scan g c H ≡ Some s → Scanned granule H (g + 1) s
  scanned_next s e = next_by_own granule H g scan sc s (by_alike e)

  pub scanned_lowest : (t : Table) → H ≡ nat_abs t.length → g < t.count → scan_next scan g c H ≡ None
      → (answer : Tested) → RankTold 0 g answer → answer ≡ tested_by (granule_tests t granule)
  scanned_lowest t same h e answer a = lowest_by_own granule H g scan sc t same h (by_alike e) answer a

-- the end of the pass
pub scanned_all : (granule : ℕ → List ℤ) (t : Table) (H : ℕ) (scan : Scan) → H ≡ nat_abs t.length
    → Scanned granule H t.count scan
    → (answer : Tested) → RankTold scan.rank scan.place answer → answer ≡ tested_by (granule_tests t granule)
scanned_all granule t H scan same sc answer a =
    a.is H granule
    ∙ by_rank tested_refused (Ok tt) (granule_rules H granule) t.count scan.rank scan.place sc.best
    ∙ ap (λ (l : ℕ). tested_by (over t.count (granule_rules l granule))) same
