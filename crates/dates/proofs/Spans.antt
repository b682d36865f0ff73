-- What a span is worth: a sum's, and whether that is in the range. Assumes nothing.
use Rattle.std.specs.Prelude.{Ok}
use mathlib.Core.Path.{◌≡◌, refl}
use mathlib.Core.Bool.{Bool, true, false, not}
use Prim.Native.Nat.{ℕ, zero, suc, ◌+◌, ◌*◌, ◌≤◌, ◌<◌}
use native.Mathlib.Nat.{le_trans, mul_comm, zero-mul, suc-mul, mul-le-mul_left}
use native.Mathlib.Omega.{arith}
use lib.IntN.{ℤ, pos, negsuc, neg_ℤ, nat_abs, ◌+ℤ◌, ◌*ℤ◌}
use lib.Signed.{◌≤ℤ◌, ◌<ℤ◌}
use Rattle.numbers.proofs.Differences.{rep, rep₂, rep₄, lin, sizes}
use Rattle.numbers.proofs.Order.{size-+}
use Rattle.scales.specs.Tick.{furthest, is_valid}
use Rattle.scales.proofs.Range.{valid_size}
use Rattle.dates.specs.declared.span.Span.{Span}
use Rattle.dates.specs.Readings.{in_range, refused_with, refused_if}
use Rattle.dates.specs.Inner.{Reach, Spanned, SpanWithin, few_ticks, modest, worth}

-- ---- the range: with p·m ticks in 100,000 days, beyond m units of p ticks either way a span is
-- outside, and up to there it fits 64 bits
module _ (p m : ℕ) (w : p * m ≡ 8640000000000000000) where
  far_above : (u t : ℤ) → pos m <ℤ u → nat_abs t ≤ 10000000000000000 → furthest < nat_abs (pos p *ℤ u +ℤ t)
  far_above = rep₂ _ (λ a b c d. simp sizes (λ h k. omega (arith, mul-le-mul_left p h)))

  far_below : (u t : ℤ) → u <ℤ neg_ℤ (pos m) → nat_abs t ≤ 10000000000000000 → furthest < nat_abs (pos p *ℤ u +ℤ t)
  far_below = rep₂ _ (λ a b c d. simp sizes (λ h k. omega (arith, mul-le-mul_left p h)))

  near : (u : ℤ) → u ≤ℤ pos m → neg_ℤ (pos m) ≤ℤ u → nat_abs (u *ℤ pos p) ≤ 8640000000000000000
  near = rep _ (λ a b. simp lin (λ h k. omega (arith, mul-le-mul_left p h, mul-le-mul_left p k)))

pub outside : (z : ℤ) → furthest < nat_abs z → in_range z ≡ refused_with 4 0
unfolding in_range
outside z h = go (is_valid z) (valid_size z)
  where
    go : (b : Bool) → (b ≡ true → nat_abs z ≤ furthest) → refused_if (not b) 4 0 (Ok z) ≡ refused_with 4 0
    go true f = let l = f refl in let no : ⊥ = omega arith in absurd no
    go false f = refl

module _ (per most : ℤ) (reach : Reach per most) where
  pub too_late : (span : Span) → SpanWithin modest few_ticks span → most <ℤ span.units
      → in_range (worth per span) ≡ refused_with 4 0
  too_late span m h =
      rw reach.per_is
      (outside (worth (pos (nat_abs per)) span)
      (far_above (nat_abs per) (nat_abs most) reach.days span.units span.rest (rw reach.most_is at h) m.rest))

  pub too_early : (span : Span) → SpanWithin modest few_ticks span → span.units <ℤ neg_ℤ most
      → in_range (worth per span) ≡ refused_with 4 0
  too_early span m h =
      rw reach.per_is
      (outside (worth (pos (nat_abs per)) span)
      (far_below (nat_abs per) (nat_abs most) reach.days span.units span.rest (rw reach.most_is at h) m.rest))

  pub most_size : nat_abs most ≤ 8640000000000000000
  most_size = go (nat_abs per) (nat_abs most) reach.days
    where
      go : (p m : ℕ) → p * m ≡ 8640000000000000000 → m ≤ 8640000000000000000
      go zero m w = let z : ⊥ = omega (arith, zero-mul m) in absurd z
      go (suc p) m w = omega (arith, suc-mul p m)

  pub per_size : nat_abs per ≤ 8640000000000000000
  per_size = go (nat_abs per) (nat_abs most) reach.days
    where
      go : (p m : ℕ) → p * m ≡ 8640000000000000000 → p ≤ 8640000000000000000
      go p zero w = let z : ⊥ = omega (arith, mul_comm p zero, zero-mul p) in absurd z
      go p (suc m) w = omega (arith, mul_comm p (suc m), suc-mul m p)

  pub units_size : (u : ℤ) → u ≤ℤ most → neg_ℤ most ≤ℤ u → nat_abs (u *ℤ per) ≤ 8640000000000000000
  units_size u h k = rw reach.per_is (near (nat_abs per) (nat_abs most) reach.days u (rw reach.most_is at h) (rw reach.most_is at k))

-- ---- sums
-- the size of a sum, by the sizes of the two
pub sum_sized : {u v r q : ℕ} (a b sum : Span) → SpanWithin u r a → SpanWithin v q b
    → Spanned sum (a.units +ℤ b.units) (a.rest +ℤ b.rest) → SpanWithin (u + v) (r + q) sum
sum_sized a b sum p q e = record {
  units = rw e.units_are (size-+ a.units b.units p.units q.units);
  rest = rw e.rest_is (size-+ a.rest b.rest p.rest q.rest);
}

pub looser : {u v r q : ℕ} (span : Span) → u ≤ v → r ≤ q → SpanWithin u r span → SpanWithin v q span
looser span h k w = record { units = le_trans w.units h; rest = le_trans w.rest k }

pub worth_plus : (per : ℕ) (a b sum : Span) → Spanned sum (a.units +ℤ b.units) (a.rest +ℤ b.rest)
    → worth (pos per) sum ≡ worth (pos per) a +ℤ worth (pos per) b
worth_plus per a b sum e = rw (e.units_are, e.rest_is) (go a.units a.rest b.units b.rest)
  where
    go : (s t u v : ℤ) → pos per *ℤ (s +ℤ u) +ℤ (t +ℤ v) ≡ pos per *ℤ s +ℤ t +ℤ (pos per *ℤ u +ℤ v)
    go = rep₄ _ (λ a b c d e f g h. simp lin (omega arith))

-- J2000 past the origin, and the origin taken off
abbrev pub j2000_span : Span
j2000_span = record { units = pos 725803167; rest = pos 816000000 }

abbrev pub origin_span : Span
origin_span = record { units = negsuc 2443143; rest = negsuc 43232183999999 }
