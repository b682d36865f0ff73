-- What a list of tests tells, in numbers: a number and a place exactly where they are those of the
-- first test that fails, and 0 exactly where none does; and the same of lists with their indexes.
-- Assumes nothing.
use mathlib.Core.Path.{◌≡◌, refl, sym, ◌∙◌, ap}
use mathlib.Core.Bool.{Bool, true, false, cond, not, ◌&&◌}
use mathlib.Core.List.{List, [], ◌∷◌, ◌++◌}
use mathlib.Core.Option.{Option, some, none}
use Prim.Native.Nat.{ℕ, suc, ◌≤◌, ◌<◌}
use native.Mathlib.Nat.{le_of_eq}
use native.Mathlib.Omega.{arith}
use borrow.Author.Tests.{eq-eqb, ne_eqb, ltb-true}
use lib.Dec.{ltb, eqb}
use Rattle.numbers.specs.Lowest.{lowest}
use Rattle.numbers.specs.Tests.{Test, only, fails_at, verdict, told_by, AllPass, FirstFailing, ToldExactly}
use Rattle.numbers.specs.Tests.{verdicts, told_by_lists, AllListsPass, FirstFailingOf, ToldExactlyOf}
use Rattle.numbers.proofs.Flags.{both}
use Rattle.numbers.proofs.Places.{first_is, none_fails, not_same}
use Rattle.numbers.proofs.Verdicts.{Telling, stops, goes, verdict_map, none_all, all_none, refused_first, failing_refused}

-- ---- one list behind another
pub verdict_behind : {A : Type 0} (refused : ℕ → ℕ → A) (last : A) (xs ys : List Test)
    → verdict refused last (xs ++ ys) ≡ verdict refused (verdict refused last ys) xs
unfolding verdict
verdict_behind refused last [] ys = refl
verdict_behind refused last (x ∷ xs) ys =
    ap (cond (ltb (fails_at x) x.places) (refused x.number (fails_at x))) (verdict_behind refused last xs ys)

-- ---- a test of one place
module _ {A : Type 0} (refused : ℕ → ℕ → A) (last : A) (number place : ℕ) (xs : List Test) where
  found_there : place ≡ lowest (λ i. not (eqb i place)) (suc place)
  found_there =
      first_is (λ i. not (eqb i place)) (suc place) place
      (record {
        within = omega arith;
        before = λ i h. rw (ne_eqb i place (not_same h));
        found = λ h. rw (eq-eqb place place refl);
      })

  pub only_told : (passes : Bool) → verdict refused last (only number place passes ∷ xs)
      ≡ cond passes (verdict refused last xs) (refused number place)
  only_told true = goes refused last number (suc place) (λ i. true) xs (suc place) (none_fails (λ i. true) (suc place) (λ i h. refl)) (omega arith)
  only_told false = sym (stops refused last number (suc place) (λ i. not (eqb i place)) xs place found_there (omega arith))

-- ---- what is told, exactly when
abbrev pub found : ℕ → ℕ → Option (ℕ × ℕ)
found number place = some (number, place)

abbrev told_of : Option (ℕ × ℕ) → ℕ × ℕ
told_of none = (0, 0)
told_of (some told) = told

found_tells : Telling found none
found_tells =
    record {
      number = λ told. (told_of told).0;
      place = λ told. (told_of told).1;
      number_is = λ n p. refl;
      place_is = λ n p. refl;
      apart = λ n p e. let z : ◌≡◌ {A = ℕ} 0 1 = cc in omega arith;
    }

-- nothing told is not something told
pub unlike : {A : Type 0} {told : ℕ × ℕ} → none ≡ some told → A
unlike e = let z : ◌≡◌ {A = ℕ} 0 1 = cc in let no : ⊥ = omega arith in absurd no

-- a test of one place passes exactly where it says so
pub only_passes : (number place : ℕ) (v : Bool) → v ≡ true → suc place ≤ fails_at (only number place v)
only_passes number place v e = rw e (le_of_eq (none_fails (λ i. true) (suc place) (λ i h. refl)))

pub passes_only : (number place : ℕ) (v : Bool) → suc place ≤ fails_at (only number place v) → v ≡ true
passes_only number place v h = by v refl
  where
    by : (w : Bool) → v ≡ w → v ≡ true
    by true e = e
    by false e =
        let told : cond v (verdict found none []) (found number place) ≡ some (number, place) = rw e in
        unlike (sym (all_none found none (only number place v ∷ []) (h, tt)) ∙ only_told found none number place [] v ∙ told)

-- one thing told, whatever fails
pub same_told : {A : Type 0} (a : A) (xs : List Test) → verdict (λ n p. a) a xs ≡ a
unfolding verdict
same_told a [] = refl
same_told a (x ∷ xs) = by (ltb (fails_at x) x.places) (same_told a xs)
  where
    by : (v : Bool) → verdict (λ n p. a) a xs ≡ a → cond v a (verdict (λ n p. a) a xs) ≡ a
    by true e = refl
    by false e = e

told_is : (xs : List Test) → told_by xs ≡ told_of (verdict found none xs)
told_is xs = sym (verdict_map told_of found none xs)

-- no test of a list has the number 0, which means accepted
abbrev pub Numbered : List Test → Type 0
Numbered [] = Unit {0}
Numbered (x ∷ xs) = (0 < x.number) × Numbered xs

-- by computing, however many there are
abbrev is_numbered : List Test → Bool
is_numbered [] = true
is_numbered (x ∷ xs) = ltb 0 x.number && is_numbered xs

pub numbered : (xs : List Test) → is_numbered xs ≡ true → Numbered xs
numbered [] e = tt
numbered (x ∷ xs) e =
    let d = both (ltb 0 x.number) (is_numbered xs) e in
    (ltb-true 0 x.number d.0, numbered xs d.1)

pub numbered_both : (xs ys : List Test) → Numbered xs → Numbered ys → Numbered (xs ++ ys)
numbered_both [] ys p q = q
numbered_both (x ∷ xs) ys p q = (p.0, numbered_both xs ys p.1 q)

-- the first that fails has a number of its own
none_zero : (xs : List Test) {number place : ℕ} → Numbered xs → FirstFailing xs number place → number ≡ 0 → ⊥
none_zero xs Some-number f e =
    let here = numbered_at f.before f.first f.after (rw f.split at Some-number) in
    let same = f.is in
    omega arith
  where
    numbered_at : (before : List Test) (x : Test) (after : List Test) → Numbered (before ++ x ∷ after) → 0 < x.number
    numbered_at [] x after n = n.0
    numbered_at (y ∷ before) x after n = numbered_at before x after n.1

pub told_exactly : (xs : List Test) (number place : ℕ) → Numbered xs → told_by xs ≡ (number, place)
    → ToldExactly xs number place
told_exactly xs number place Some-number e =
    record {
      refused = λ n p h same same'. by_first n p h (verdict found none xs) refl (told ∙ rw (same, same'));
      failing = λ n p f.
          let d = sym e ∙ told_is xs ∙ ap told_of (failing_refused found none found_tells xs n p f) in
          (ap (λ (t : ℕ × ℕ). t.0) d, ap (λ (t : ℕ × ℕ). t.1) d);
      accepted = λ z. by_none (verdict found none xs) refl (ap (λ (t : ℕ × ℕ). t.0) told ∙ z);
      passing = λ p. ap (λ (t : ℕ × ℕ). t.0) (sym e ∙ all_none (λ n p. (n, p)) (0, 0) xs p);
    }
  where
    told : told_of (verdict found none xs) ≡ (number, place)
    told = sym (told_is xs) ∙ e

    by_first : (n p : ℕ) → 0 < n → (v : Option (ℕ × ℕ)) → verdict found none xs ≡ v → told_of v ≡ (n, p)
        → FirstFailing xs n p
    by_first n p h none q d = let z : 0 ≡ n = ap (λ (t : ℕ × ℕ). t.0) d in let no : ⊥ = omega arith in absurd no
    by_first n p h (some v) q d = refused_first found none found_tells xs n p (q ∙ ap some d)

    by_none : (v : Option (ℕ × ℕ)) → verdict found none xs ≡ v → (told_of v).0 ≡ 0 → AllPass xs
    by_none none q d = none_all found none found_tells xs q
    by_none (some v) q d = absurd (none_zero xs Some-number (refused_first found none found_tells xs v.0 v.1 q) d)

-- ---- the same of lists with their indexes
-- what is told of a list, the others being told so
abbrev told_before : ℕ × ℕ × ℕ → ℕ → Option (ℕ × ℕ) → ℕ × ℕ × ℕ
told_before others index none = others
told_before others index (some told) = (told.0, told.1, index)

lists_are : (l : ℕ × List Test) (more : List (ℕ × List Test))
    → told_by_lists (l ∷ more) ≡ told_before (told_by_lists more) l.0 (verdict found none l.1)
unfolding verdicts
lists_are l more = sym (verdict_map (told_before (told_by_lists more) l.0) found none l.1)

-- what is told, mapped
pub verdicts_map : {A B : Type 0} (f : A → B) (refused : ℕ → ℕ → ℕ → A) (last : A) (ls : List (ℕ × List Test))
    → f (verdicts refused last ls) ≡ verdicts (λ n p i. f (refused n p i)) (f last) ls
unfolding verdicts
verdicts_map f refused last [] = refl
verdicts_map f refused last (l ∷ more) =
    verdict_map f (λ n p. refused n p l.0) (verdicts refused last more) l.1
    ∙ ap (λ rest. verdict (λ n p. f (refused n p l.0)) rest l.1) (verdicts_map f refused last more)

pub all_none_of : {A : Type 0} (refused : ℕ → ℕ → ℕ → A) (last : A) (ls : List (ℕ × List Test)) → AllListsPass ls
    → verdicts refused last ls ≡ last
unfolding verdicts
all_none_of refused last [] p = refl
all_none_of refused last (l ∷ more) p =
    all_none (λ n q. refused n q l.0) _ l.1 p.0 ∙ all_none_of refused last more p.1

abbrev pub AllNumbered : List (ℕ × List Test) → Type 0
AllNumbered [] = Unit {0}
AllNumbered (l ∷ more) = Numbered l.1 × AllNumbered more

list_in_front : (l : ℕ × List Test) (more : List (ℕ × List Test)) (number place index : ℕ) → AllPass l.1
    → FirstFailingOf more number place index → FirstFailingOf (l ∷ more) number place index
list_in_front l more number place index p f =
    record {
      before = l ∷ f.before;
      tests = f.tests;
      after = f.after;
      split = ap (λ (ls : List (ℕ × List Test)). l ∷ ls) f.split;
      passed = (p, f.passed);
      first = f.first;
    }

lists_first : (ls : List (ℕ × List Test)) (number place index : ℕ) → 0 < number
    → told_by_lists ls ≡ (number, place, index) → FirstFailingOf ls number place index
unfolding verdicts
lists_first [] number place index h e = let z : 0 ≡ number = ap (λ (t : ℕ × ℕ × ℕ). t.0) e in let no : ⊥ = omega arith in absurd no
lists_first (l ∷ more) number place index h e =
    by (verdict found none l.1) refl (sym (lists_are l more) ∙ e) (lists_first more number place index h)
  where
    by : (told : Option (ℕ × ℕ)) → verdict found none l.1 ≡ told
        → told_before (told_by_lists more) l.0 told ≡ (number, place, index)
        → (told_by_lists more ≡ (number, place, index) → FirstFailingOf more number place index)
        → FirstFailingOf (l ∷ more) number place index
    by none q d rest = list_in_front l more number place index (none_all found none found_tells l.1 q) (rest d)
    by (some told) q d rest =
        let i : l.0 ≡ index = ap (λ (t : ℕ × ℕ × ℕ). t.2) d in
        let same : told ≡ (number, place) = ap (λ (t : ℕ × ℕ × ℕ). (t.0, t.1)) d in
        record {
          before = [];
          tests = l.1;
          after = more;
          split = ap (λ (j : ℕ). (j, l.1) ∷ more) i;
          passed = tt;
          first = refused_first found none found_tells l.1 number place (q ∙ ap some same);
        }

first_lists : (ls : List (ℕ × List Test)) (number place index : ℕ) → FirstFailingOf ls number place index
    → told_by_lists ls ≡ (number, place, index)
first_lists ls number place index f = ap told_by_lists f.split ∙ behind f.before f.passed
  where
    behind : (before : List (ℕ × List Test)) → AllListsPass before
        → told_by_lists (before ++ (index, f.tests) ∷ f.after) ≡ (number, place, index)
    behind [] p =
        lists_are (index, f.tests) f.after
        ∙ ap (told_before (told_by_lists f.after) index) (failing_refused found none found_tells f.tests number place f.first)
    behind (l ∷ before) p =
        lists_are l (before ++ (index, f.tests) ∷ f.after)
        ∙ ap (told_before (told_by_lists (before ++ (index, f.tests) ∷ f.after)) l.0) (all_none found none l.1 p.0)
        ∙ behind before p.1

lists_told : (ls : List (ℕ × List Test)) → AllNumbered ls → (told_by_lists ls).0 ≡ 0 → AllListsPass ls
unfolding verdicts
lists_told [] Some-number e = tt
lists_told (l ∷ more) Some-number e =
    by (verdict found none l.1) refl (ap (λ (t : ℕ × ℕ × ℕ). t.0) (sym (lists_are l more)) ∙ e) (lists_told more Some-number.1)
  where
    by : (told : Option (ℕ × ℕ)) → verdict found none l.1 ≡ told → (told_before (told_by_lists more) l.0 told).0 ≡ 0
        → ((told_by_lists more).0 ≡ 0 → AllListsPass more) → AllListsPass (l ∷ more)
    by none q d rest = (none_all found none found_tells l.1 q, rest d)
    by (some told) q d rest =
        absurd (none_zero l.1 Some-number.0 (refused_first found none found_tells l.1 told.0 told.1 q) d)

pub lists_exactly : (ls : List (ℕ × List Test)) (number place index : ℕ) → AllNumbered ls
    → told_by_lists ls ≡ (number, place, index) → ToldExactlyOf ls number place index
lists_exactly ls number place index Some-number e =
    record {
      refused = λ n p i h same same' same''. lists_first ls n p i h (e ∙ rw (same, same', same''));
      failing = λ n p i f.
          let d = sym e ∙ first_lists ls n p i f in
          (ap (λ (t : ℕ × ℕ × ℕ). t.0) d, ap (λ (t : ℕ × ℕ × ℕ). t.1) d, ap (λ (t : ℕ × ℕ × ℕ). t.2) d);
      accepted = λ z. lists_told ls Some-number (ap (λ (t : ℕ × ℕ × ℕ). t.0) e ∙ z);
      passing = λ p. ap (λ (t : ℕ × ℕ × ℕ). t.0) (sym e ∙ all_none_of (λ n q i. (n, q, i)) (0, 0, 0) ls p);
    }
