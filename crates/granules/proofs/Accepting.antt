-- What the tests of the coefficients leave where all pass, and that such coefficients pass.
-- Assumes nothing.
use Rattle.std.specs.Prelude.{Ok}
use mathlib.Core.Path.{◌≡◌, refl, sym, ◌∙◌, ap}
use mathlib.Core.Bool.{true}
use mathlib.Core.List.{List, [], ◌∷◌}
use Prim.Native.Nat.{ℕ, zero, suc, ◌<◌}
use native.Mathlib.Nat.{le_of_eq}
use native.Mathlib.Omega.{arith}
use lib.IntN.{ℤ, nat_abs}
use lib.ListN.{length}
use Rattle.numbers.specs.Tests.{Rule, rule, AllPass}
use Rattle.numbers.proofs.Places.{all_pass, none_fails}
use Rattle.numbers.proofs.Verdicts.{Telling, all_none, none_all, numbered_passes, same_pass}
use Rattle.granule.specs.Tests.{is_small, weight_of, is_light, plain_sum, alternating_sum}
use Rattle.granule.specs.Tests.{is_joined}
use Rattle.image.specs.declared.table.Table.{Table}
use Rattle.image.specs.Bounds.{Bounded}
use Rattle.image.specs.Image.{how_many, granule_in}
use Rattle.granules.specs.Answers.{tested_refused, tested_number, tested_place, tested_listed}
use Rattle.granules.specs.Tests.{is_join, own_rules, granule_rules, granule_tests}
use Rattle.granules.specs.Accepted.{Accepted}

-- ---- granules that are the same pass alike
module _ (f g : ℕ → List ℤ) (n : ℕ) (same : (i : ℕ) → i < n → f i ≡ g i) where
  join_same : (i : ℕ) → i < n → is_join f i ≡ is_join g i
  unfolding is_join
  join_same zero h = refl
  join_same (suc i) h =
      ap (λ (c : List ℤ). is_joined (plain_sum c) (alternating_sum (f (suc i)))) (same i (omega arith))
      ∙ ap (λ (c : List ℤ). is_joined (plain_sum (g i)) (alternating_sum c)) (same (suc i) h)

passed_same : (t : Table) (f g : ℕ → List ℤ) → ((i : ℕ) → i < t.count → f i ≡ g i)
    → AllPass (granule_tests t f) → AllPass (granule_tests t g)
passed_same t f g same =
    same_pass f g t.count same (own_rules (nat_abs t.length)) (rule 16 (is_join f) ∷ []) (rule 16 (is_join g) ∷ [])
    (λ p. (le_of_eq (none_fails _ _ (λ i h. sym (join_same f g t.count same i h) ∙ all_pass _ _ p.0 i h)), tt))

-- ---- what the answer tells of the tests
tells : Telling tested_refused (Ok tt)
unfolding tested_number tested_place
tells =
    record {
      number = tested_number;
      place = tested_place;
      number_is = λ n p. refl;
      place_is = λ n p. refl;
      apart = λ n p e. let z : ◌≡◌ {A = ℕ} 0 1 = cc in let no : ⊥ = omega arith in absurd no;
    }

-- ---- an accepted table
module _ (t : Table) (cs : List ℤ) where
  all_accepted : Accepted t cs → AllPass (granule_tests t (granule_in cs t.degree))
  unfolding tested_listed
  all_accepted a = none_all tested_refused (Ok tt) tells _ a.passed

  -- the granules are those of the list, wherever they are looked at
  module _ (granule : ℕ → List ℤ)
      (same : (g : ℕ) → g < t.count → granule g ≡ granule_in cs t.degree g) where
    pub passed_accepted : Bounded t → length cs ≡ how_many t → AllPass (granule_tests t granule) → Accepted t cs
    unfolding tested_listed
    passed_accepted bounds whole p =
        record {
          bounds = bounds;
          whole = whole;
          passed = all_none tested_refused (Ok tt) _ (passed_same t granule (granule_in cs t.degree) same p);
        }

    pub accepted_passes : Accepted t cs → AllPass (granule_tests t granule)
    accepted_passes a = passed_same t (granule_in cs t.degree) granule (λ g h. sym (same g h)) (all_accepted a)

  -- ---- test by test, each found by its number
  module _ (a : Accepted t cs) (g : ℕ) where
    abbrev rules : List (Rule ℕ)
    rules = granule_rules (nat_abs t.length) (granule_in cs t.degree)

    pub accepted_small : g < t.count → is_small (granule_in cs t.degree g) ≡ true
    accepted_small h = numbered_passes 14 t.count rules (all_accepted a) g h

    pub accepted_light : g < t.count
        → is_light (weight_of (granule_in cs t.degree g)) (nat_abs t.length) ≡ true
    accepted_light h = numbered_passes 15 t.count rules (all_accepted a) g h

    pub accepted_joined : suc g < t.count
        → is_joined (plain_sum (granule_in cs t.degree g)) (alternating_sum (granule_in cs t.degree (suc g))) ≡ true
    unfolding is_join
    accepted_joined h = numbered_passes 16 t.count rules (all_accepted a) (suc g) h
