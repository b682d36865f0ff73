-- Laws of a list of tests: what it tells where its first test passes, and where it fails; that its
-- number is told exactly where its test is the first to fail; and, of tests of the same places,
-- that it tells the lowest rank and in it the lowest place. Assumes nothing.
use mathlib.Core.Path.{◌≡◌, refl, sym, ◌∙◌, ap, subst}
use mathlib.Core.Bool.{Bool, true, false, cond}
use mathlib.Core.List.{List, [], ◌∷◌, ◌++◌}
use mathlib.Core.Logic.{⊎_elim}
use Prim.Native.Nat.{ℕ, zero, suc, ◌+◌, ◌≤◌, ◌<◌, zero-le}
use native.Mathlib.Nat.{eq-or-lt_of_le, zero-add, le_of_eq, le_of_suc-le-suc, not-suc-le-zero}
use native.Mathlib.Decide.{dec_lt}
use native.Mathlib.Omega.{arith}
use borrow.Author.Tests.{lt-ltb, le-ltb, ltb-true, ltb-false}
use lib.Dec.{ltb, eqb}
use lib.ListN.{length, get_or}
use Rattle.numbers.specs.Lowest.{lowest}
use Rattle.numbers.specs.Tests.{Test, test, single, fails_at, verdict, numbers_of, AllPass, FirstFailing, Rule, along, over, rank, told}
use Rattle.numbers.proofs.Places.{first_is, none_fails, all_pass}

-- two lists, one behind the other
pub pass_both : (xs ys : List Test) → AllPass (xs ++ ys) → AllPass xs × AllPass ys
pass_both [] ys p = (tt, p)
pass_both (x ∷ xs) ys p = let q = pass_both xs ys p.1 in ((p.0, q.0), q.1)

pub pass_join : (xs ys : List Test) → AllPass xs → AllPass ys → AllPass (xs ++ ys)
pass_join [] ys p q = q
pass_join (x ∷ xs) ys p q = (p.0, pass_join xs ys p.1 q)

-- a test of the whole passes
pub single_is : (x : ℕ) (v : Bool) → v ≡ true → 1 ≤ fails_at (single x v)
unfolding lowest
single_is x v e = rw e (omega arith)

-- a search among one place
pub one_stop : (p : ℕ → Bool) (r : ℕ) → r ≡ lowest p 1 → r < 1 → p 0 ≡ false
unfolding lowest
one_stop p r e h = by (p 0) refl
  where
    by : (v : Bool) → p 0 ≡ v → p 0 ≡ false
    by false q = q
    by true q = let z : r ≡ 1 = rw q at e in let w : ⊥ = omega arith in absurd w

pub one_go : (p : ℕ → Bool) (r : ℕ) → r ≡ lowest p 1 → 1 ≤ r → p 0 ≡ true
unfolding lowest
one_go p r e h = by (p 0) refl
  where
    by : (v : Bool) → p 0 ≡ v → p 0 ≡ true
    by true q = q
    by false q = let z : r ≡ 0 = rw q at e in let w : ⊥ = omega arith in absurd w

pub single_told : (x : ℕ) (v : Bool) → 1 ≤ fails_at (single x v) → v ≡ true
single_told x v h = one_go (λ _. v) (fails_at (single x v)) refl h

-- ---- one test more
module _ {A : Type 0} (refused : ℕ → ℕ → A) (none : A) where
  module _ (x n : ℕ) (p : ℕ → Bool) (xs : List Test) (r : ℕ) (e : r ≡ lowest p n) where
    pub stops : r < n → refused x r ≡ verdict refused none (test x n p ∷ xs)
    unfolding verdict
    stops h = rw (← e, lt-ltb r n h)

    pub goes : n ≤ r → verdict refused none (test x n p ∷ xs) ≡ verdict refused none xs
    unfolding verdict
    goes h = rw (← e, le-ltb r n h)

  -- a test of the whole
  module _ (x : ℕ) (v : Bool) (xs : List Test) where
    pub stop : v ≡ false → refused x 0 ≡ verdict refused none (single x v ∷ xs)
    unfolding verdict lowest
    stop e = rw e

    pub go : v ≡ true → verdict refused none (single x v ∷ xs) ≡ verdict refused none xs
    unfolding verdict lowest
    go e = rw e

  -- where all pass
  pub all_none : (xs : List Test) → AllPass xs → verdict refused none xs ≡ none
  unfolding verdict
  all_none [] p = refl
  all_none (x ∷ xs) p = rw (le-ltb (fails_at x) x.places p.0) (all_none xs p.1)

  -- and more tests behind them
  pub more_passed : (xs ys : List Test) → AllPass xs
      → verdict refused none (xs ++ ys) ≡ verdict refused none ys
  unfolding verdict
  more_passed [] ys p = refl
  more_passed (x ∷ xs) ys p = rw (le-ltb (fails_at x) x.places p.0) (more_passed xs ys p.1)

  pub first_refused : (before : List Test) (x : Test) (after : List Test) → AllPass before
      → fails_at x < x.places
      → verdict refused none (before ++ x ∷ after) ≡ refused x.number (fails_at x)
  unfolding verdict
  first_refused [] x after p h = rw (lt-ltb (fails_at x) x.places h)
  first_refused (y ∷ before) x after p h =
      rw (le-ltb (fails_at y) y.places p.0) (first_refused before x after p.1 h)

-- what is told, mapped
pub verdict_map : {A B : Type 0} (f : A → B) (refused : ℕ → ℕ → A) (none : A) (xs : List Test)
    → f (verdict refused none xs) ≡ verdict (λ n p. f (refused n p)) (f none) xs
unfolding verdict
verdict_map f refused none [] = refl
verdict_map f refused none (x ∷ xs) = by (ltb (fails_at x) x.places) (verdict_map f refused none xs)
  where
    by : (v : Bool)
        → f (verdict refused none xs) ≡ verdict (λ n p. f (refused n p)) (f none) xs
        → f (cond v (refused x.number (fails_at x)) (verdict refused none xs))
        ≡ cond v (f (refused x.number (fails_at x))) (verdict (λ n p. f (refused n p)) (f none) xs)
    by true e = refl
    by false e = e

-- ---- what an answer tells of the list, where answers tell their number and place
pub record Telling {A : Type 0} (refused : ℕ → ℕ → A) (none : A) : Type 0 where
  pub number : A → ℕ
  pub place : A → ℕ
  pub number_is : (n p : ℕ) → number (refused n p) ≡ n
  pub place_is : (n p : ℕ) → place (refused n p) ≡ p
  pub apart : (n p : ℕ) → refused n p ≡ none → ⊥

in_front : (x : Test) (xs : List Test) (number place : ℕ) → x.places ≤ fails_at x
    → FirstFailing xs number place → FirstFailing (x ∷ xs) number place
in_front x xs number place h f =
    record {
      before = x ∷ f.before;
      first = f.first;
      after = f.after;
      split = ap (λ (l : List Test). x ∷ l) f.split;
      passed = (h, f.passed);
      fails = f.fails;
      lowest = f.lowest;
      is = f.is;
    }

module _ {A : Type 0} (refused : ℕ → ℕ → A) (none : A) (tells : Telling refused none) where
  pub none_all : (xs : List Test) → verdict refused none xs ≡ none → AllPass xs
  unfolding verdict
  none_all [] e = tt
  none_all (x ∷ xs) e = by (ltb (fails_at x) x.places) refl e (none_all xs)
    where
      by : (v : Bool) → ltb (fails_at x) x.places ≡ v
          → cond v (refused x.number (fails_at x)) (verdict refused none xs) ≡ none
          → (verdict refused none xs ≡ none → AllPass xs) → AllPass (x ∷ xs)
      by true q d h = absurd (tells.apart _ _ d)
      by false q d h = (ltb-false _ _ q, h d)

  pub refused_first : (xs : List Test) (number place : ℕ)
      → verdict refused none xs ≡ refused number place → FirstFailing xs number place
  unfolding verdict
  refused_first [] number place e = absurd (tells.apart number place (sym e))
  refused_first (x ∷ xs) number place e =
      by (ltb (fails_at x) x.places) refl e (refused_first xs number place)
    where
      by : (v : Bool) → ltb (fails_at x) x.places ≡ v
          → cond v (refused x.number (fails_at x)) (verdict refused none xs) ≡ refused number place
          → (verdict refused none xs ≡ refused number place → FirstFailing xs number place)
          → FirstFailing (x ∷ xs) number place
      by true q d h =
          let p : fails_at x ≡ place =
          sym (tells.place_is _ _) ∙ ap tells.place d ∙ tells.place_is number place in
          let n : x.number ≡ number =
          sym (tells.number_is _ _) ∙ ap tells.number d ∙ tells.number_is number place in
          let l = ltb-true (fails_at x) x.places q in
          record {
            before = [];
            first = x;
            after = xs;
            split = refl;
            passed = tt;
            fails = rw p at l;
            lowest = p;
            is = n;
          }
      by false q d h = in_front x xs number place (ltb-false _ _ q) (h d)

  pub failing_refused : (xs : List Test) (number place : ℕ) → FirstFailing xs number place
      → verdict refused none xs ≡ refused number place
  failing_refused xs number place f =
      let l = f.fails in
      ap (verdict refused none) f.split
      ∙ first_refused refused none f.before f.first f.after f.passed (rw f.lowest l)
      ∙ same f.is f.lowest
    where
      same : {a b c d : ℕ} → a ≡ b → c ≡ d → refused a c ≡ refused b d
      same p q = rw (p, q)

  -- more tests behind one that fails
  pub more_refused : (xs ys : List Test) (number place : ℕ)
      → verdict refused none xs ≡ refused number place
      → verdict refused none (xs ++ ys) ≡ refused number place
  unfolding verdict
  more_refused [] ys number place e = absurd (tells.apart number place (sym e))
  more_refused (x ∷ xs) ys number place e =
      by (ltb (fails_at x) x.places) (more_refused xs ys number place) e
    where
      by : (v : Bool)
          → (verdict refused none xs ≡ refused number place → verdict refused none (xs ++ ys) ≡ refused number place)
          → cond v (refused x.number (fails_at x)) (verdict refused none xs) ≡ refused number place
          → cond v (refused x.number (fails_at x)) (verdict refused none (xs ++ ys)) ≡ refused number place
      by true h d = d
      by false h d = h d

-- ---- the lowest rank
-- of the ranks f of the first n places, none is above `top`: the lowest, and the lowest place that
-- has it, where it is below the top
pub record Best (f : ℕ → ℕ) (top n r place : ℕ) : Type 0 where
  pub capped : r ≤ top
  pub least : (i : ℕ) → i < n → r ≤ f i
  pub inside : r < top → place < n
  pub found : r < top → f place ≡ r
  pub before : r < top → (i : ℕ) → i < place → r < f i

pub best_none : (f : ℕ → ℕ) (top place : ℕ) → Best f top 0 top place
best_none f top place =
    record {
      capped = omega arith;
      least = λ i h. let z : ⊥ = omega arith in absurd z;
      inside = λ h. let z : ⊥ = omega arith in absurd z;
      found = λ h. let z : ⊥ = omega arith in absurd z;
      before = λ h. let z : ⊥ = omega arith in absurd z;
    }

-- one place more: a lower rank is taken, with its place
module _ (f : ℕ → ℕ) (top n r place : ℕ) (b : Best f top n r place) where
  up_to : {P : ℕ → Type 0} → ((i : ℕ) → i < n → P i) → P n → (i : ℕ) → i < n + 1 → P i
  up_to {P} h p i l =
      ⊎_elim (λ (y : i ≡ n). subst P (sym y) p) (λ (y : i < n). h i y) (eq-or-lt_of_le (under l))
    where
      under : i < n + 1 → i ≤ n
      under l = omega arith

  pub best_lower : f n < r → Best f top (n + 1) (f n) n
  best_lower h =
      record {
        capped = omega (arith, b.capped);
        least = up_to (λ i l. omega (arith, b.least i l)) (omega arith);
        inside = λ _. omega arith;
        found = λ _. refl;
        before = λ _ i l. omega (arith, b.least i l);
      }

  pub best_still : r ≤ f n → Best f top (n + 1) r place
  best_still h =
      record {
        capped = b.capped;
        least = up_to b.least h;
        inside = λ l. omega (arith, b.inside l);
        found = b.found;
        before = b.before;
      }

  -- and of the first rule's rank no later place tells more
  pub best_first : 0 < r → f n ≡ 0 → (m : ℕ) → n < m → Best f top m 0 n
  best_first h e m l =
      record {
        capped = zero-le;
        least = λ _ _. zero-le;
        inside = λ _. l;
        found = λ _. e;
        before = λ _ i k. omega (arith, b.least i k);
      }

-- ---- so a list of tests of the same places tells the lowest rank, and in it the lowest place
pub rank_first : {A : Type 0} (x : Rule A) (xs : List (Rule A)) (a : A) → rank (x ∷ xs) a ≡ 0 → x.pass a ≡ false
unfolding rank
rank_first x xs a e = by (x.pass a) refl e
  where
    by : (v : Bool) → x.pass a ≡ v → cond v (suc (rank xs a)) 0 ≡ 0 → x.pass a ≡ false
    by true q d = let z : ⊥ = omega arith in absurd z
    by false q d = q

pub rank_later : {A : Type 0} (x : Rule A) (xs : List (Rule A)) (a : A) → 0 < rank (x ∷ xs) a
    → (x.pass a ≡ true) × (rank (x ∷ xs) a ≡ suc (rank xs a))
unfolding rank
rank_later x xs a e = by (x.pass a) refl e
  where
    by : (v : Bool) → x.pass a ≡ v → 0 < cond v (suc (rank xs a)) 0
        → (x.pass a ≡ true) × (cond v (suc (rank xs a)) 0 ≡ suc (rank xs a))
    by true q d = (q, refl)
    by false q d = let z : ⊥ = omega arith in absurd z

pub by_rank : {A : Type 0} (refused : ℕ → ℕ → A) (none : A) (xs : List (Rule ℕ)) (n r place : ℕ)
    → Best (rank xs) (length xs) n r place
    → told refused none xs r place ≡ verdict refused none (over n xs)
unfolding told
by_rank refused none [] n r place b = sym (all_none refused none [] tt)
by_rank refused none (x ∷ xs) n zero place b =
    stops refused none x.number n x.pass (over n xs) place
    (first_is x.pass n place
    (record {
      within = omega (arith, b.inside some);
      before = λ i h. (rank_later x xs i (b.before some i h)).0;
      found = λ _. rank_first x xs place (b.found some);
    })) (b.inside some)
  where
    some : 0 < suc (length xs)
    some = omega arith
by_rank refused none (x ∷ xs) n (suc r) place b =
    by_rank refused none xs n r place lower
    ∙ sym (goes refused none x.number n x.pass (over n xs) n (none_fails x.pass n (λ i h. (step i h).0)) (omega arith))
  where
    above : {m : ℕ} → suc r ≤ m → 0 < m
    above h = omega arith

    step : (i : ℕ) → i < n → (x.pass i ≡ true) × (rank (x ∷ xs) i ≡ suc (rank xs i))
    step i h = rank_later x xs i (above (b.least i h))

    under : r < length xs → suc r < suc (length xs)
    under h = omega arith

    lower : Best (rank xs) (length xs) n r place
    lower =
        record {
          capped = omega (arith, b.capped);
          least = λ i h. omega (arith, b.least i h, (step i h).1);
          inside = λ h. b.inside (under h);
          found = λ h. omega (arith, b.found (under h), (step place (b.inside (under h))).1);
          before = λ h i l. omega (arith, b.before (under h) i l, b.inside (under h), (step i (omega (arith, b.inside (under h)))).1);
        }

-- ---- what is told of a rank: a rule's number, by the list of their numbers
module _ {A : Type 0} (refused : ℕ → ℕ → A) (none : A) where
  pub told_rule : (xs : List (Rule ℕ)) (r place : ℕ) → r < length xs
      → refused (get_or (numbers_of (over 0 xs)) r 0) place ≡ told refused none xs r place
  unfolding told
  told_rule [] r place h = absurd (not-suc-le-zero h)
  told_rule (x ∷ xs) zero place h = refl
  told_rule (x ∷ xs) (suc r) place h = told_rule xs r place (le_of_suc-le-suc h)

  pub told_none : (xs : List (Rule ℕ)) (r place : ℕ) → length xs ≤ r → none ≡ told refused none xs r place
  unfolding told
  told_none [] r place h = refl
  told_none (x ∷ xs) zero place h = absurd (not-suc-le-zero h)
  told_none (x ∷ xs) (suc r) place h = told_none xs r place (le_of_suc-le-suc h)

-- ---- where every rule passes
-- so does the one of a number: what it says, and true where no rule has the number
abbrev pub pass_numbered : {A : Type 0} → ℕ → List (Rule A) → A → Bool
pass_numbered number [] a = true
pass_numbered number (x ∷ xs) a = cond (eqb number x.number) (x.pass a) (pass_numbered number xs a)

pub numbered_passes : (number n : ℕ) (xs : List (Rule ℕ)) → AllPass (over n xs) → (i : ℕ) → i < n
    → pass_numbered number xs i ≡ true
numbered_passes number n [] p i h = refl
numbered_passes number n (x ∷ xs) p i h =
    by (eqb number x.number) (all_pass x.pass n p.0 i h) (numbered_passes number n xs p.1 i h)
  where
    by : (v : Bool) → x.pass i ≡ true → pass_numbered number xs i ≡ true
        → cond v (x.pass i) (pass_numbered number xs i) ≡ true
    by true e d = e
    by false e d = d

-- and all pass too where the same stands at each place, with other rules behind
pub same_pass : {A : Type 0} (f g : ℕ → A) (n : ℕ) → ((i : ℕ) → i < n → f i ≡ g i)
    → (xs : List (Rule A)) (ys zs : List (Rule ℕ)) → (AllPass (over n ys) → AllPass (over n zs))
    → AllPass (over n (along f xs ++ ys)) → AllPass (over n (along g xs ++ zs))
same_pass f g n same [] ys zs h p = h p
same_pass f g n same (x ∷ xs) ys zs h p =
    (le_of_eq (none_fails _ n (λ i l. ap x.pass (sym (same i l)) ∙ all_pass _ n p.0 i l)), same_pass f g n same xs ys zs h p.1)

-- ---- rules behind others: their ranks come after
pub rank_more : {A : Type 0} (f : ℕ → A) (xs : List (Rule A)) (ys : List (Rule ℕ)) (i : ℕ)
    → rank (along f xs ++ ys) i
    ≡ cond (ltb (rank xs (f i)) (length xs)) (rank xs (f i)) (length xs + rank ys i)
unfolding rank
rank_more f [] ys i = sym (zero-add (rank ys i))
rank_more f (x ∷ xs) ys i = by (x.pass (f i)) (rank_more f xs ys i)
  where
    shift : (a b : ℕ) → suc (a + b) ≡ suc a + b
    shift a b = omega arith

    both_more : (a b : ℕ) → ltb (suc a) (suc b) ≡ ltb a b
    both_more a b =
        elim (dec_lt a b) [
          | yes h ↦ rw (lt-ltb a b h, lt-ltb (suc a) (suc b) (omega arith))
          | no h ↦ rw (le-ltb a b (omega arith), le-ltb (suc a) (suc b) (omega arith))
        ]

    later : (v : Bool) (a b : ℕ) → suc (cond v a b) ≡ cond v (suc a) (suc b)
    later true a b = refl
    later false a b = refl

    by : (v : Bool)
        → rank (along f xs ++ ys) i
        ≡ cond (ltb (rank xs (f i)) (length xs)) (rank xs (f i)) (length xs + rank ys i)
        → cond v (suc (rank (along f xs ++ ys) i)) 0
        ≡ cond (ltb (cond v (suc (rank xs (f i))) 0) (suc (length xs))) (cond v (suc (rank xs (f i))) 0)
        (suc (length xs) + rank ys i)
    by true e =
        ap suc e ∙ later (ltb (rank xs (f i)) (length xs)) _ _
        ∙ ap (cond (ltb (rank xs (f i)) (length xs)) (suc (rank xs (f i)))) (shift (length xs) (rank ys i))
        ∙ ap (λ (v : Bool). cond v (suc (rank xs (f i))) (suc (length xs) + rank ys i))
        (sym (both_more (rank xs (f i)) (length xs)))
    by false e = rw (lt-ltb 0 (suc (length xs)) (omega arith))
