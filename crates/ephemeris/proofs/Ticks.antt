-- Ticks of a table and their places: which ticks are inside, and that the tick S + i has the place
-- i. Assumes nothing.
use borrow.Author.Tests.{not-false}
use mathlib.Core.Path.{◌≡◌, refl, sym, ◌∙◌, ap}
use mathlib.Core.Bool.{Bool, true, false, cond, not}
use mathlib.Core.List.{List}
use Prim.Native.Nat.{ℕ, ◌≤◌}
use native.Mathlib.Omega.{arith}
use lib.IntN.{ℤ, pos, ◌+ℤ◌, ◌-ℤ◌, nat_abs}
use lib.Signed.{◌≤ℤ◌, ◌<ℤ◌, le_z, lt_z}
use Rattle.std.proofs.Common.{Less, Equal, Greater}
use Rattle.std.specs.Ordering.{int_cmp, is_lt, is_le, is_ge}
use Rattle.numbers.proofs.Differences.{rep, rep₂, lin, sizes}
use Rattle.numbers.proofs.Flags.{both, and_right}
use Rattle.numbers.proofs.Machine.{yes_le, le_yes, no_le, lt_yes, no_lt, not_lt}
use Rattle.image.specs.declared.table.Table.{Table}
use Rattle.ephemeris.specs.Table.{S, last_place, tick_at, is_inside, place_of, table_delay, tdb_of}
use Rattle.ephemeris.specs.Table.{tdb_at}

-- ---- over plain numbers
there : (s t : ℤ) → s ≤ℤ t → s +ℤ pos (nat_abs (t -ℤ s)) ≡ t
there = rep₂ _ (λ a b c d. simp sizes (omega arith))

back : (s : ℤ) (i : ℕ) → nat_abs ((s +ℤ pos i) -ℤ s) ≡ i
back s i = rep (λ s. nat_abs ((s +ℤ pos i) -ℤ s) ≡ i) (λ a b. simp sizes (omega arith)) s

far : (s t : ℤ) (n : ℕ) → s ≤ℤ t → t ≤ℤ (s +ℤ pos n) → nat_abs (t -ℤ s) ≤ n
far s t n = rep₂ (λ s t. s ≤ℤ t → t ≤ℤ (s +ℤ pos n) → nat_abs (t -ℤ s) ≤ n) (λ a b c d. simp lin (omega arith)) s t

after : (s : ℤ) (i : ℕ) → s ≤ℤ (s +ℤ pos i)
after s i = rep (λ s. s ≤ℤ (s +ℤ pos i)) (λ a b. simp lin (omega arith)) s

more : (s : ℤ) (i j : ℕ) → i ≤ j → (s +ℤ pos i) ≤ℤ (s +ℤ pos j)
more s i j h = rep (λ s. (s +ℤ pos i) ≤ℤ (s +ℤ pos j)) (λ a b. simp lin (omega arith)) s

-- ---- as the code compares two ticks of a scale
less : (b d : Bool) → is_lt (cond b Less (cond d Greater Equal)) ≡ b
less false false = refl
less false true = refl
less true d = refl

not_less : (b d : Bool) → is_ge (cond b Less (cond d Greater Equal)) ≡ not b
not_less false false = refl
not_less false true = refl
not_less true d = refl

at_most : (b d : Bool) → (d ≡ true → b ≡ false) → is_le (cond b Less (cond d Greater Equal)) ≡ not d
at_most false false h = refl
at_most false true h = refl
at_most true false h = refl
at_most true true h = h refl

pub less_is : (x y : ℤ) → is_lt (int_cmp x y) ≡ lt_z x y
less_is x y = less (lt_z x y) (lt_z y x)

pub reached : (x y : ℤ) → is_ge (int_cmp x y) ≡ true → y ≤ℤ x
reached x y e = le_yes y x (sym (not_less (lt_z x y) (lt_z y x) ∙ not_lt x y) ∙ e)

pub unreached : (x y : ℤ) → is_ge (int_cmp x y) ≡ false → x <ℤ y
unreached x y e = lt_yes x y (not-false (lt_z x y) (sym (not_less (lt_z x y) (lt_z y x)) ∙ e))

pub at_most_is : (x y : ℤ) → is_le (int_cmp x y) ≡ le_z x y
at_most_is x y = at_most (lt_z x y) (lt_z y x) (λ e. no_lt x y (below (lt_yes y x e))) ∙ not_lt y x
  where
    below : y <ℤ x → y ≤ℤ x
    below = rep₂ (λ y x. y <ℤ x → y ≤ℤ x) (λ a b c d. simp lin (omega arith)) y x

-- ---- inside
module _ (T : Table) where
  pub inside_both : (t : ℤ) → is_inside T t ≡ true → (S T ≤ℤ t) × (t ≤ℤ tick_at T (last_place T))
  unfolding is_inside
  inside_both t e = let b = both (le_z (S T) t) (le_z t (tick_at T (last_place T))) e in (le_yes (S T) t b.0, le_yes t (tick_at T (last_place T)) b.1)

  pub inside_yes : (t : ℤ) → S T ≤ℤ t → t ≤ℤ tick_at T (last_place T) → is_inside T t ≡ true
  unfolding is_inside
  inside_yes t l h = let x = yes_le (S T) t l in let y = yes_le t (tick_at T (last_place T)) h in rw (x, y)

  pub before_no : (t : ℤ) → t <ℤ S T → is_inside T t ≡ false
  unfolding is_inside
  before_no t l = let x = no_le (S T) t l in rw x

  pub after_no : (t : ℤ) → tick_at T (last_place T) <ℤ t → is_inside T t ≡ false
  unfolding is_inside
  after_no t l = and_right (le_z (S T) t) (no_le t (tick_at T (last_place T)) l)

  -- ---- places
  pub placed : (t : ℤ) → is_inside T t ≡ true → place_of T t ≤ last_place T
  unfolding place_of tick_at
  placed t e = let b = inside_both t e in far (S T) t (last_place T) b.0 b.1

  pub tick_inside : (i : ℕ) → i ≤ last_place T → is_inside T (tick_at T i) ≡ true
  unfolding tick_at
  tick_inside i h = inside_yes (S T +ℤ pos i) (after (S T) i) (more (S T) i (last_place T) h)

  pub place_of_tick : (i : ℕ) → place_of T (tick_at T i) ≡ i
  unfolding place_of tick_at
  place_of_tick i = back (S T) i

  pub tick_of_place : (t : ℤ) → S T ≤ℤ t → tick_at T (place_of T t) ≡ t
  unfolding place_of tick_at
  tick_of_place t h = there (S T) t h

  -- ---- TDB at a place, and of a tick
  pub tdb_of_lem : (cs : List ℤ) (t : ℤ) → S T ≤ℤ t → tdb_of T cs t ≡ tdb_at T cs (place_of T t)
  unfolding tdb_at
  tdb_of_lem cs t h = ap (tdb_of T cs) (sym (tick_of_place t h))

  pub tdb_at_place : (cs : List ℤ) (i : ℕ) → tdb_at T cs i ≡ (S T +ℤ pos i) -ℤ table_delay T cs i
  unfolding tdb_at tdb_of tick_at place_of
  tdb_at_place cs i = ap (λ (j : ℕ). (S T +ℤ pos i) -ℤ table_delay T cs j) (back (S T) i)
