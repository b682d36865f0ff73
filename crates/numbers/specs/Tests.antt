-- A list of tests, and what it tells: 'each test over all blocks before the next', each naming the
-- lowest place.
use Rattle.std.specs.Prelude.{◌≡◌, Bool, cond, not, ◌||◌, List, [], ◌∷◌, ◌++◌, ℕ, zero, suc, ◌≤◌}
use Rattle.std.specs.Prelude.{◌<◌, ltb, eqb}
use Rattle.numbers.specs.Lowest.{lowest}

-- a test: its number, how many places it looks at, and which of them pass
pub record Test : Type 0 where
  pub number : ℕ
  pub places : ℕ
  pub pass : ℕ → Bool

abbrev pub test : ℕ → ℕ → (ℕ → Bool) → Test
test number places pass = record { number = number; places = places; pass = pass }

-- a test of the whole, whose place is 0
abbrev pub single : ℕ → Bool → Test
single number passes = test number 1 (λ _. passes)

-- a test that has one place of its own
abbrev pub only : ℕ → ℕ → Bool → Test
only number place passes = test number (suc place) (λ i. passes || not (eqb i place))

-- the lowest place at which a test fails, or how many it has
abbrev pub fails_at : Test → ℕ
fails_at x = lowest x.pass x.places

-- the first test that fails, told with its lowest place; `none` where none does
unfoldable pub verdict : {A : Type 0} → (ℕ → ℕ → A) → A → List Test → A
verdict refused none [] = none
verdict refused none (x ∷ xs) =
    cond (ltb (fails_at x) x.places) (refused x.number (fails_at x)) (verdict refused none xs)

-- the numbers of the tests of a list
abbrev pub numbers_of : List Test → List ℕ
numbers_of [] = []
numbers_of (x ∷ xs) = x.number ∷ numbers_of xs

-- the number and the place that a list tells, 0 and 0 where none fails
abbrev pub told_by : List Test → ℕ × ℕ
told_by xs = verdict (λ number place. (number, place)) (0, 0) xs

-- every test of a list passes at each of its places
abbrev pub AllPass : List Test → Type 0
AllPass [] = Unit {0}
AllPass (x ∷ xs) = (x.places ≤ fails_at x) × AllPass xs

-- the first test of a list that fails, and its lowest place
pub record FirstFailing (xs : List Test) (number place : ℕ) : Type 0 where
  pub before : List Test
  pub first : Test
  pub after : List Test
  pub split : xs ≡ before ++ first ∷ after
  pub passed : AllPass before
  pub fails : place < first.places
  pub lowest : fails_at first ≡ place
  pub is : first.number ≡ number

-- 'each refusal is given exactly when that page says': what is told of a list of tests. A number
-- and its place are told exactly where they are those of the first test that fails, and the number
-- 0, for accepted, exactly where none does
pub record ToldExactly (xs : List Test) (number place : ℕ) : Type 0 where
  pub refused : (n p : ℕ) → 0 < n → number ≡ n → place ≡ p → FirstFailing xs n p
  pub failing : (n p : ℕ) → FirstFailing xs n p → (number ≡ n) × (place ≡ p)
  pub accepted : number ≡ 0 → AllPass xs
  pub passing : AllPass xs → number ≡ 0

-- ---- lists of tests one after the other, each with its index
-- what the first list tells that has a test which fails, and its index
unfoldable pub verdicts : {A : Type 0} → (ℕ → ℕ → ℕ → A) → A → List (ℕ × List Test) → A
verdicts refused none [] = none
verdicts refused none (l ∷ more) =
    verdict (λ number place. refused number place l.0) (verdicts refused none more) l.1

-- the number, the place and the index that lists tell, all 0 where none fails
abbrev pub told_by_lists : List (ℕ × List Test) → ℕ × ℕ × ℕ
told_by_lists ls = verdicts (λ number place index. (number, place, index)) (0, 0, 0) ls

abbrev pub AllListsPass : List (ℕ × List Test) → Type 0
AllListsPass [] = Unit {0}
AllListsPass (l ∷ more) = AllPass l.1 × AllListsPass more

-- the first list with a test that fails, by its index, and in it the first such test
pub record FirstFailingOf (ls : List (ℕ × List Test)) (number place index : ℕ) : Type 0 where
  pub before : List (ℕ × List Test)
  pub tests : List Test
  pub after : List (ℕ × List Test)
  pub split : ls ≡ before ++ (index, tests) ∷ after
  pub passed : AllListsPass before
  pub first : FirstFailing tests number place

-- and a number, its place and its index likewise
pub record ToldExactlyOf (ls : List (ℕ × List Test)) (number place index : ℕ) : Type 0 where
  pub refused : (n p i : ℕ) → 0 < n → number ≡ n → place ≡ p → index ≡ i
      → FirstFailingOf ls n p i
  pub failing : (n p i : ℕ) → FirstFailingOf ls n p i
      → (number ≡ n) × (place ≡ p) × (index ≡ i)
  pub accepted : number ≡ 0 → AllListsPass ls
  pub passing : AllListsPass ls → number ≡ 0

-- ---- tests of the same places
-- a rule: its number, and what passes
pub record Rule (A : Type 0) : Type 0 where
  pub number : ℕ
  pub pass : A → Bool

abbrev pub rule : {A : Type 0} → ℕ → (A → Bool) → Rule A
rule number pass = record { number = number; pass = pass }

-- the rules for what stands at each place
abbrev pub along : {A : Type 0} → (ℕ → A) → List (Rule A) → List (Rule ℕ)
along f [] = []
along f (x ∷ xs) = rule x.number (λ i. x.pass (f i)) ∷ along f xs

-- a test of so many places for each rule
abbrev pub over : ℕ → List (Rule ℕ) → List Test
over n [] = []
over n (x ∷ xs) = test x.number n x.pass ∷ over n xs

-- the rank of the first rule that fails; how many there are where none does
unfoldable pub rank : {A : Type 0} → List (Rule A) → A → ℕ
rank [] a = 0
rank (x ∷ xs) a = cond (x.pass a) (suc (rank xs a)) 0

-- what is told of a rank and a place
unfoldable pub told : {A B : Type 0} → (ℕ → ℕ → A) → A → List (Rule B) → ℕ → ℕ → A
told refused none [] r place = none
told refused none (x ∷ xs) zero place = refused x.number place
told refused none (x ∷ xs) (suc r) place = told refused none xs r place
