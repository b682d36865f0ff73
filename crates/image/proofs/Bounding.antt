-- What the bounds say in numbers, and the ways out of their test. Assumes nothing.
use mathlib.Core.Path.{◌≡◌, refl, sym, ◌∙◌}
use mathlib.Core.Bool.{Bool, true, false, ◌&&◌}
use Prim.Native.Nat.{ℕ, ◌*◌, ◌≤◌, ◌<◌}
use native.Mathlib.Omega.{arith}
use borrow.Author.Tests.{leb-true, le-leb, lt-leb}
use lib.Dec.{T, leb}
use lib.IntN.{ℤ, pos, negsuc, nat_abs, ◌+ℤ◌, ◌*ℤ◌}
use lib.Signed.{◌≤ℤ◌, ◌<ℤ◌, le_z, non_neg}
use mir.Syntax.{w64}
use mir.Val.{SFits, Fits, to_z, of_z}
use mir.ValLaws.{to_z-of_z}
use Rattle.std.proofs.lemmas.Int.{ints}
use Rattle.std.specs.Prelude.{Some}
use Rattle.std.specs.Cmp.{int_ranks}
use Rattle.std.specs.Ordering.{MatchOrdering, int_cmp, nat_cmp, is_le}
use Rattle.std.specs.Range.{range_inclusive_start, range_inclusive_end, range_inclusive_exhausted, range_inclusive_contains}
use Rattle.std.specs.declared.cmp.Ordering.{Ordering}
use Rattle.std.specs.declared.cmp.Ordering.TheVariants.{Less, Equal, Greater}
use Rattle.std.specs.declared.ops.RangeInclusive.{RangeInclusive}
use Rattle.std.proofs.lemmas.Bool.Decides.{nat_tests}
use Rattle.numbers.proofs.Differences.{rep, lin, sizes}
use Rattle.numbers.proofs.Order.{size-+, size-*}
use Rattle.numbers.proofs.Machine.{fits, le_yes, yes_le, no_le}
use Rattle.scales.specs.Tick.{furthest, is_valid}
use Rattle.scales.proofs.Range.{valid_size}
use Rattle.numbers.proofs.Flags.{both, never}
use Rattle.granule.specs.Bounds.{most_degree, shortest_length, longest_length}
use Rattle.form.specs.Few.{most_granules}
use Rattle.image.specs.declared.table.Table.{Table}
use Rattle.image.specs.Bounds.{end_of, is_bounded, Bounded}

-- ---- a number between two naturals
natural_from : (z : ℤ) (m : ℕ) → pos m ≤ℤ z → z ≡ pos (nat_abs z)
natural_from (pos n) m h = refl
natural_from (negsuc n) m h = absurd h.le

pub not_negative : (z : ℤ) (m : ℕ) → pos m ≤ℤ z → T (non_neg z)
not_negative (pos k) m h = tt
not_negative (negsuc k) m h = absurd h.le

size_from : (z : ℤ) (m : ℕ) → pos m ≤ℤ z → m ≤ nat_abs z
size_from z m = rep (λ z. pos m ≤ℤ z → m ≤ nat_abs z) (λ a b. simp sizes (omega arith)) z

size_to : (z : ℤ) (m n : ℕ) → pos m ≤ℤ z → z ≤ℤ pos n → nat_abs z ≤ n
size_to z m n = rep (λ z. pos m ≤ℤ z → z ≤ℤ pos n → nat_abs z ≤ n) (λ a b. simp lin (omega arith)) z

-- ---- the bounds
pub bounds_told : (t : Table) → is_bounded t ≡ true → Bounded t
unfolding is_bounded
bounds_told t e =
    let a = both _ (is_valid (end_of t)) e in
    let b = both _ (is_valid t.start.0) a.0 in
    let c = both _ (leb t.count most_granules) b.0 in
    let d = both _ (leb 1 t.count) c.0 in
    let f = both _ (le_z t.length (pos longest_length)) d.0 in
    let g = both (leb t.degree most_degree) (le_z (pos shortest_length) t.length) f.0 in
    record {
      few = record { granules = leb-true _ _ c.1; degree = leb-true _ _ g.0 };
      some = leb-true _ _ d.1;
      long = le_yes _ _ g.1;
      short = le_yes _ _ f.1;
      first = b.1;
      last = a.1;
    }

pub bounds_is : (t : Table) → Bounded t → is_bounded t ≡ true
unfolding is_bounded
bounds_is t o =
    rw (
      le-leb _ _ o.few.degree,
      yes_le _ _ o.long,
      yes_le _ _ o.short,
      le-leb _ _ o.some,
      le-leb _ _ o.few.granules,
      o.first,
      o.last,
    )

-- ---- H is a natural number, within its bounds
module _ (t : Table) (o : Bounded t) where
  pub natural : t.length ≡ pos (nat_abs t.length)
  natural = natural_from t.length shortest_length o.long

  pub at_least : shortest_length ≤ nat_abs t.length
  at_least = size_from t.length shortest_length o.long

  pub at_most : nat_abs t.length ≤ longest_length
  at_most = size_to t.length shortest_length longest_length o.long o.short

  pub as_natural : T (non_neg t.length) × Fits w64 (nat_abs t.length)
  as_natural = (not_negative t.length shortest_length o.long, record { fits = omega (arith, at_most) })

-- ---- GH, and S + GH, are far from what 64 bits hold
module _ (g : ℕ) (h s : ℤ) (hg : g ≤ most_granules) (long : pos shortest_length ≤ℤ h)
    (short : h ≤ℤ pos longest_length) where
  span_size : nat_abs (pos g *ℤ h) ≤ most_granules * longest_length
  span_size = size-* (pos g) h {m = most_granules} {n = longest_length} hg (size_to h shortest_length longest_length long short)

  pub span_fits : SFits w64 (pos g *ℤ h)
  span_fits = fits (pos g *ℤ h) (omega (arith, span_size))

  pub end_fits : is_valid s ≡ true → SFits w64 (s +ℤ pos g *ℤ h)
  end_fits v =
      fits (s +ℤ pos g *ℤ h)
      (omega (arith, size-+ s (pos g *ℤ h) {m = furthest} {n = most_granules * longest_length} (valid_size s v) span_size))

-- ---- the ways out of the test, in its order
-- the library's tests of a range
int_le : (a b : ℤ) → is_le (int_cmp a b) ≡ le_z a b
int_le a b = go (int_cmp a b) (int_ranks a b)
  where
    go : (o : Ordering) → MatchOrdering o (a <ℤ b) (a ≡ b) (b <ℤ a) → is_le o ≡ le_z a b
    go Less h = sym (yes_le a b (omega (arith, ints)))
    go Equal h = sym (yes_le a b (omega (arith, ints)))
    go Greater h = sym (no_le a b h)

nat_le : (a b : ℕ) → is_le (nat_cmp a b) ≡ leb a b
nat_le a b = grind (arith, nat_tests)

pub int_within : (r : RangeInclusive ℤ) (a b z : ℤ) → range_inclusive_start r ≡ a → range_inclusive_end r ≡ b
    → range_inclusive_exhausted r ≡ false
    → range_inclusive_contains (λ x y. Some (int_cmp x y)) r z ≡ le_z a z && le_z z b
int_within r a b z p q e = rw (p, q, e, int_le a z, int_le z b)

pub nat_within : (r : RangeInclusive ℕ) (a b n : ℕ) → range_inclusive_start r ≡ a → range_inclusive_end r ≡ b
    → range_inclusive_exhausted r ≡ false
    → range_inclusive_contains (λ x y. Some (nat_cmp x y)) r n ≡ leb a n && leb n b
nat_within r a b n p q e = rw (p, q, e, nat_le a n, nat_le n b)

-- whether H and G are within their bounds
abbrev pub length_within : Table → Bool
length_within t = le_z (pos shortest_length) t.length && le_z t.length (pos longest_length)

abbrev pub count_within : Table → Bool
count_within t = leb 1 t.count && leb t.count most_granules

neither2 : (b c d e f g : Bool) → b && c ≡ false → false ≡ (b && c && d && e && f && g)
neither2 true true d e f g h = never (sym h)
neither2 true false d e f g h = refl
neither2 false c d e f g h = refl

neither4 : (d e f g : Bool) → d && e ≡ false → false ≡ (d && e && f && g)
neither4 true true f g h = never (sym h)
neither4 true false f g h = refl
neither4 false e f g h = refl

pub length_is : (r : RangeInclusive ℤ) (t : Table) (v w : Bool) → range_inclusive_start r ≡ pos shortest_length
    → range_inclusive_end r ≡ pos longest_length → range_inclusive_exhausted r ≡ false
    → v ≡ range_inclusive_contains (λ x y. Some (int_cmp x y)) r (to_z w64 (of_z w64 t.length)) → v ≡ w
    → SFits w64 t.length → length_within t ≡ w
length_is r t v w p q e d h f =
    sym (rw (to_z-of_z w64 t.length f) at d ∙ int_within r (pos shortest_length) (pos longest_length) t.length p q e) ∙ h

pub count_is : (r : RangeInclusive ℕ) (t : Table) (v w : Bool) → range_inclusive_start r ≡ 1
    → range_inclusive_end r ≡ most_granules → range_inclusive_exhausted r ≡ false
    → v ≡ range_inclusive_contains (λ x y. Some (nat_cmp x y)) r t.count → v ≡ w
    → count_within t ≡ w
count_is r t v w p q e d h = sym (d ∙ nat_within r 1 most_granules t.count p q e) ∙ h

pub count_back : (t : Table) → count_within t ≡ true → to_z w64 (of_z w64 (pos t.count)) ≡ pos t.count
count_back t d =
    let q = both (leb 1 t.count) _ d in
    let k : t.count ≤ most_granules = leb-true _ _ q.1 in
    to_z-of_z w64 (pos t.count) (fits (pos t.count) (omega arith))

pub span_within : (t : Table) → length_within t ≡ true → count_within t ≡ true → SFits w64 (pos t.count *ℤ t.length)
span_within t b d =
    let p = both (le_z (pos shortest_length) t.length) _ b in
    let q = both (leb 1 t.count) _ d in
    span_fits t.count t.length t.start.0 (leb-true _ _ q.1) (le_yes _ _ p.0) (le_yes _ _ p.1)

module _ (t : Table) where
  pub high_degree : most_degree < t.degree → false ≡ is_bounded t
  unfolding is_bounded
  high_degree h = rw (lt-leb _ _ h)

  module _ (a : t.degree ≤ most_degree) where
    pub length_out : length_within t ≡ false → false ≡ is_bounded t
    unfolding is_bounded
    length_out b = rw (le-leb _ _ a) (neither2 (le_z (pos shortest_length) t.length) (le_z t.length (pos longest_length)) (leb 1 t.count)
        (leb t.count most_granules) (is_valid t.start.0)
        (is_valid (end_of t)) b)

    module _ (b : length_within t ≡ true) where
      pub count_out : count_within t ≡ false → false ≡ is_bounded t
      unfolding is_bounded
      count_out d = let p = both (le_z (pos shortest_length) t.length) _ b in
          rw (le-leb _ _ a, p.0, p.1) (neither4 (leb 1 t.count) (leb t.count most_granules) (is_valid t.start.0) (is_valid (end_of t)) d)

      module _ (d : count_within t ≡ true) where
        pub start_out : is_valid t.start.0 ≡ false → false ≡ is_bounded t
        unfolding is_bounded
        start_out e =
            let p = both (le_z (pos shortest_length) t.length) _ b in
            let q = both (leb 1 t.count) _ d in
            rw (le-leb _ _ a, p.0, p.1, q.0, q.1, e)

        module _ (e : is_valid t.start.0 ≡ true) where
          pub end_told : is_valid (end_of t) ≡ is_bounded t
          unfolding is_bounded
          end_told =
              let p = both (le_z (pos shortest_length) t.length) _ b in
              let q = both (leb 1 t.count) _ d in
              rw (le-leb _ _ a, p.0, p.1, q.0, q.1, e)

          pub end_within : SFits w64 (t.start.0 +ℤ pos t.count *ℤ t.length)
          end_within =
              let p = both (le_z (pos shortest_length) t.length) _ b in
              let q = both (leb 1 t.count) _ d in
              end_fits t.count t.length t.start.0 (leb-true _ _ q.1) (le_yes _ _ p.0) (le_yes _ _ p.1) e
