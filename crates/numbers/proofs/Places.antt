-- Laws of the lowest place, of a test of every place, and of a list by its places. Assumes nothing.
use mathlib.Core.Path.{◌≡◌, refl, sym, ◌∙◌, ap, subst}
use mathlib.Core.Bool.{Bool, true, false, cond}
use mathlib.Core.List.{List, [], ◌∷◌, map}
use mathlib.Core.Logic.{⊎_elim}
use Prim.Native.Nat.{ℕ, zero, suc, ◌+◌, ◌≤◌, ◌<◌, zero-le}
use native.Mathlib.Nat.{le_of_suc-le-suc, not-suc-le-zero, eq-or-lt_of_le, le_refl, lt_irrefl}
use native.Mathlib.Decide.{dec_lt}
use native.Mathlib.Omega.{arith}
use borrow.Author.Count.{below_more}
use borrow.Author.Tests.{lt-ltb, le-ltb}
use lib.ListN.{length, get_or, set, length-map, length-set}
use lib.Seq.{ext_get_or, get_or-set_same, get_or-set_other}
use Rattle.std.specs.Prelude.{None, Some}
use Rattle.numbers.specs.Lowest.{lowest, found, every, up_to}
use Rattle.numbers.proofs.Flags.{never, both}

suc_le : {n m : ℕ} → n ≤ m → suc n ≤ suc m
suc_le h = omega arith

-- ---- the lowest place
-- what a search shows of its end
pub record First (p : ℕ → Bool) (n r : ℕ) : Type 0 where
  pub within : r ≤ n
  pub before : (k : ℕ) → k < r → p k ≡ true
  pub found : r < n → p r ≡ false

pub first_is : (p : ℕ → Bool) (n r : ℕ) → First p n r → r ≡ lowest p n
unfolding lowest
first_is p zero r f = omega (arith, f.within)
first_is p (suc n) zero f = let e = f.found (suc_le zero-le) in rw e
first_is p (suc n) (suc r) f =
    let e = f.before 0 (suc_le zero-le) in
    rw e
    (ap suc
    (first_is (λ i. p (suc i)) n r
    (record {
      within = le_of_suc-le-suc f.within;
      before = λ k h. f.before (suc k) (suc_le h);
      found = λ h. f.found (suc_le h);
    })))

pub lowest_first : (p : ℕ → Bool) (n : ℕ) → First p n (lowest p n)
unfolding lowest
lowest_first p zero = record { within = zero-le; before = λ k h. absurd (not-suc-le-zero h); found = λ h. absurd (not-suc-le-zero h) }
lowest_first p (suc n) = go (p 0) refl (lowest_first (λ i. p (suc i)) n)
  where
    back : (r k : ℕ) → p 0 ≡ true → First (λ i. p (suc i)) n r → k < suc r → p k ≡ true
    back r zero e f h = e
    back r (suc k) e f h = f.before k (le_of_suc-le-suc h)

    go : (t : Bool) → p 0 ≡ t → First (λ i. p (suc i)) n (lowest (λ i. p (suc i)) n)
        → First p (suc n) (cond t (suc (lowest (λ i. p (suc i)) n)) 0)
    go true e f =
        record { within = suc_le f.within; before = λ k h. back _ k e f h; found = λ h. f.found (le_of_suc-le-suc h) }
    go false e f = record { within = zero-le; before = λ k h. absurd (not-suc-le-zero h); found = λ _. e }

-- none fails
pub none_fails : (p : ℕ → Bool) (n : ℕ) → ((k : ℕ) → k < n → p k ≡ true) → n ≡ lowest p n
none_fails p n h = first_is p n n (record { within = le_refl n; before = h; found = λ l. absurd (lt_irrefl n l) })

pub all_pass : (p : ℕ → Bool) (n : ℕ) → n ≤ lowest p n → (k : ℕ) → k < n → p k ≡ true
all_pass p n e k h = (lowest_first p n).before k (omega arith)

-- a search that hands out the place, or none
pub found_some : (p : ℕ → Bool) (n i : ℕ) → i < n → ((k : ℕ) → k < i → p k ≡ true) → p i ≡ false → Some i ≡ found p n
unfolding found
found_some p n i h before here =
    let e : i ≡ lowest p n = first_is p n i (record { within = omega arith; before = before; found = λ _. here }) in
    rw (← e, lt-ltb i n h)

pub found_none : (p : ℕ → Bool) (n : ℕ) → ((k : ℕ) → k < n → p k ≡ true) → None ≡ found p n
unfolding found
found_none p n all = rw (← none_fails p n all, le-ltb n n (le_refl n))

-- and what it tells
pub found_told : (p : ℕ → Bool) (n i : ℕ) → Some i ≡ found p n → (i ≡ lowest p n) × (i < n)
unfolding found
found_told p n i e = go (dec_lt (lowest p n) n)
  where
    go : Dec (lowest p n < n) → (i ≡ lowest p n) × (i < n)
    go (yes h) = let d : Some i ≡ Some (lowest p n) = rw (lt-ltb (lowest p n) n h) at e in let z : i ≡ lowest p n = cc in (z, rw z h)
    go (no h) = let d : Some i ≡ None = rw (le-ltb (lowest p n) n (omega arith)) at e in absurd (cc)

pub none_found : (p : ℕ → Bool) (n : ℕ) → None ≡ found p n → n ≤ lowest p n
unfolding found
none_found p n e = go (dec_lt (lowest p n) n)
  where
    go : Dec (lowest p n < n) → n ≤ lowest p n
    go (yes h) = let d : None ≡ Some (lowest p n) = rw (lt-ltb (lowest p n) n h) at e in absurd (cc)
    go (no h) = omega arith

-- ---- every place
pub every_is : (p : ℕ → Bool) (n : ℕ) → ((k : ℕ) → k < n → p k ≡ true) → every p n ≡ true
unfolding every
every_is p zero h = refl
every_is p (suc n) h = let e = h n (omega arith) in rw e (every_is p n (λ k l. h k (omega arith)))

pub every_at : (p : ℕ → Bool) (n k : ℕ) → every p n ≡ true → k < n → p k ≡ true
unfolding every
every_at p zero k e h = absurd (not-suc-le-zero h)
every_at p (suc n) k e h =
    let d = both (p n) (every p n) e in
    ⊎_elim (λ (x : k ≡ n). ap p x ∙ d.0) (λ (l : k < n). every_at p n k d.1 l) (eq-or-lt_of_le (le_of_suc-le-suc h))

pub every_not : (p : ℕ → Bool) (n k : ℕ) → k < n → p k ≡ false → every p n ≡ false
every_not p n k h e = go (every p n) refl
  where
    go : (t : Bool) → every p n ≡ t → t ≡ false
    go true x = never (sym e ∙ every_at p n k x h)
    go false x = refl

pub every_same : (p q : ℕ → Bool) (n : ℕ) → ((k : ℕ) → k < n → p k ≡ q k) → every p n ≡ every q n
unfolding every
every_same p q zero h = refl
every_same p q (suc n) h = rw (h n (omega arith), every_same p q n (λ k l. h k (omega arith)))

-- ---- a list by its places
pub up_to_length : {A : Type 0} (f : ℕ → A) (n : ℕ) → length (up_to f n) ≡ n
unfolding up_to
up_to_length f zero = refl
up_to_length f (suc n) = ap suc (up_to_length (λ i. f (suc i)) n)

pub up_to_at : {A : Type 0} (f : ℕ → A) (n i : ℕ) (d : A) → i < n → get_or (up_to f n) i d ≡ f i
unfolding up_to
up_to_at f zero i d h = absurd (not-suc-le-zero h)
up_to_at f (suc n) zero d h = refl
up_to_at f (suc n) (suc i) d h = up_to_at (λ j. f (suc j)) n i d (le_of_suc-le-suc h)

pub is_up_to : {A : Type 0} (f : ℕ → A) (n : ℕ) (d : A) (l : List A) → length l ≡ n
    → ((i : ℕ) → i < n → get_or l i d ≡ f i) → l ≡ up_to f n
is_up_to f n d l e h =
    ext_get_or d l (up_to f n) (e ∙ sym (up_to_length f n)) (λ i k. h i (subst (λ (m : ℕ). i < m) e k) ∙ sym (up_to_at f n i d (subst (λ (m : ℕ). i < m) e k)))

pub up_to_same : {A : Type 0} (f g : ℕ → A) (n : ℕ) → ((i : ℕ) → i < n → f i ≡ g i) → up_to f n ≡ up_to g n
unfolding up_to
up_to_same f g zero h = refl
up_to_same f g (suc n) h =
    rw (h 0 (suc_le zero-le), up_to_same (λ i. f (suc i)) (λ i. g (suc i)) n (λ i l. h (suc i) (suc_le l)))

-- each place made of the same place of another list
pub map_at : {A B : Type 0} (f : A → B) (l : List A) (d : A) (e : B) (i : ℕ) → i < length l
    → get_or (map f l) i e ≡ f (get_or l i d)
map_at f [] d e i h = absurd (not-suc-le-zero h)
map_at f (a ∷ l) d e zero h = refl
map_at f (a ∷ l) d e (suc i) h = map_at f l d e i (le_of_suc-le-suc h)

pub is_map : {A B : Type 0} (f : A → B) (l : List A) (m : List B) (d : A) (e : B) → length m ≡ length l
    → ((i : ℕ) → i < length l → get_or m i e ≡ f (get_or l i d))
    → m ≡ map f l
is_map f l m d e long each =
    ext_get_or e m (map f l) (long ∙ sym (length-map l f)) (λ i h. let k = subst (λ (n : ℕ). i < n) long h in each i k ∙ sym (map_at f l d e i k))

-- ---- a list written place by place
pub not_same : {a b : ℕ} → a < b → a ≡ b → ⊥
not_same h e = omega arith

-- the first i places hold what they should, and so does one more
pub written_more : {A : Type 0} (l : List A) (i : ℕ) (x d : A) (of : ℕ → A) → i < length l
    → ((j : ℕ) → j < i → get_or l j d ≡ of j) → x ≡ of i
    → (j : ℕ) → j < i + 1 → get_or (set l i x) j d ≡ of j
written_more l i x d of h before here =
    below_more (λ j. get_or (set l i x) j d ≡ of j) i
    (λ j k. get_or-set_other l i j x d (not_same k) ∙ before j k)
    (get_or-set_same l i x d h ∙ here)

-- each of the first i places of a list is made of what it held, the others are as they were
pub record Mapped {A : Type 0} (f : A → A) (d : A) (old l : List A) (i : ℕ) : Type 0 where
  pub long : length l ≡ length old
  pub made : (j : ℕ) → j < i → get_or l j d ≡ f (get_or old j d)
  pub left : (j : ℕ) → i ≤ j → get_or l j d ≡ get_or old j d

module _ {A : Type 0} (f : A → A) (d : A) (old : List A) where
  pub mapped_none : Mapped f d old old 0
  mapped_none = record { long = refl; made = λ j h. absurd (not-suc-le-zero h); left = λ j h. refl }

  pub mapped_more : {l : List A} {i : ℕ} (x : A) → i < length l → Mapped f d old l i → x ≡ f (get_or l i d)
      → Mapped f d old (set l i x) (i + 1)
  mapped_more {l} {i} x h m e =
      record {
        long = length-set l i x ∙ m.long;
        made = written_more l i x d (λ j. f (get_or old j d)) h m.made (e ∙ ap f (m.left i (le_refl i)));
        left = λ j k. get_or-set_other l i j x d (λ z. let no : ⊥ = omega arith in no) ∙ m.left j (omega arith);
      }

  pub mapped_all : {l : List A} {i : ℕ} → length l ≤ i → Mapped f d old l i → l ≡ map f old
  mapped_all h m = is_map f old _ d d m.long (λ j k. m.made j (omega (arith, k, m.long, h)))
