-- A date is read by the exact sum of its parts alone: the same sum, split in any two ways, is the
-- same tick; a smaller sum is never the later tick; and the parts may be swapped. Assumes nothing.
use Rattle.scales.specs.Answers.{Read, Accepts, read_number, read_tick}
use Rattle.std.specs.Prelude.{Ok}
use mathlib.Core.Path.{◌≡◌, refl, ap, ◌∙◌}
use mathlib.Core.Logic.{◌⊎◌, inl, inr}
use mathlib.Core.Bool.{Bool, true, false, not}
use Prim.Native.Nat.{ℕ}
use native.Mathlib.Omega.{arith}
use lib.IntN.{ℤ, pos, ◌-ℤ◌, ◌*ℤ◌}
use lib.Signed.{◌≤ℤ◌}
use lib.Ieee.{Float}
use lib.Ieee.Scale.{finite}
use Rattle.numbers.proofs.Differences.{rep₃, lin}
use Rattle.numbers.proofs.Order.{*-mono}
use Rattle.numbers.proofs.Ring.{*-left-comm}
use Rattle.numbers.proofs.Rounding.{nearest_keeps, nearest_same}
use Rattle.scales.specs.Tick.{is_valid}
use Rattle.dates.specs.Doubles.{beyond}
use Rattle.dates.specs.Ticks.{day_ticks, origin, sum_numerator, sum_denominator, tick_of_sum}
use Rattle.dates.specs.Ticks.{tick_of_date}
use Rattle.dates.specs.Readings.{in_range, most_days, read_of_parts, refused_if}
use Rattle.dates.specs.Splits.{Passes, SameSum, SumNotLater}
use Rattle.dates.proofs.Sums.{sum_pos, swapped_tick}

-- what passes 2 and 3 is judged by its sum's tick
passed : (a b : Float) → Passes a b → read_of_parts a b ≡ in_range (tick_of_date a b)
unfolding read_of_parts
passed a b p = rw (p.first_finite, p.second_finite, p.first_within, p.second_within)

module _ (a b c d : Float) where
  abbrev m : ℤ
  m = sum_numerator a b

  abbrev n : ℤ
  n = sum_numerator c d

  abbrev k : ℕ
  k = sum_denominator a b

  abbrev l : ℕ
  l = sum_denominator c d

  -- ---- 'Any two splits that pass 2 and 3 and have the same exact sum give the same tick, or both
  -- 4.'
  pub same_tick : SameSum a b c d → tick_of_date a b ≡ tick_of_date c d
  unfolding tick_of_date tick_of_sum
  same_tick e =
      ap (λ (z : ℤ). z -ℤ pos origin)
      (nearest_same (pos day_ticks *ℤ m) (pos day_ticks *ℤ n) k l (sum_pos a b) (sum_pos c d)
      (*-left-comm (pos l) (pos day_ticks) m ∙ ap (λ (z : ℤ). pos day_ticks *ℤ z) e ∙ *-left-comm (pos day_ticks) (pos k) n))

  pub same_reading : Passes a b → Passes c d → SameSum a b c d → read_of_parts a b ≡ read_of_parts c d
  same_reading p q e = rw (passed a b p, passed c d q) (ap in_range (same_tick e))

  -- ---- of two dates the one with the smaller exact sum is never the later tick
  ticks_in_order : SumNotLater a b c d → tick_of_date a b ≤ℤ tick_of_date c d
  unfolding tick_of_date tick_of_sum
  ticks_in_order h =
      moved _ _ (pos origin)
      (nearest_keeps (pos day_ticks *ℤ m) (pos day_ticks *ℤ n) k l (sum_pos a b) (sum_pos c d)
      (rw (*-left-comm (pos l) (pos day_ticks) m, *-left-comm (pos k) (pos day_ticks) n) (*-mono day_ticks (pos l *ℤ m) (pos k *ℤ n) h)))
    where
      moved : (x y z : ℤ) → x ≤ℤ y → (x -ℤ z) ≤ℤ (y -ℤ z)
      moved = rep₃ _ (λ a b c d e f. simp lin (omega arith))

-- an accepted date's tick is the rule's
accepted : (a b : Float) (tick : ℤ) → Accepts (read_of_parts a b) tick → tick_of_date a b ≡ tick
unfolding read_of_parts in_range read_number read_tick
accepted a b tick h = go (finite a) (finite b) (beyond most_days a) (beyond most_days b) (is_valid (tick_of_date a b)) h.0 h.1
  where
    answer : (f g p q v : Bool) → Read
    answer f g p q v =
        refused_if (not f) 2 0 (refused_if (not g) 2 1 (refused_if p 3 0 (refused_if q 3 1 (refused_if (not v) 4 0 (Ok (tick_of_date a b))))))

    go : (f g p q v : Bool) → read_number (answer f g p q v) ≡ 0 → read_tick (answer f g p q v) ≡ tick
        → tick_of_date a b ≡ tick
    go true true false false true n t = t
    go true true false false false n t = let no : ⊥ = omega arith in absurd no
    go true true false true v n t = let no : ⊥ = omega arith in absurd no
    go true true true q v n t = let no : ⊥ = omega arith in absurd no
    go true false p q v n t = let no : ⊥ = omega arith in absurd no
    go false g p q v n t = let no : ⊥ = omega arith in absurd no

pub earlier_dates : (a b c d : Float) (s t : ℤ) → SumNotLater a b c d → Accepts (read_of_parts a b) s
    → Accepts (read_of_parts c d) t → s ≤ℤ t
earlier_dates a b c d s t h p q = rw (← accepted a b s p, ← accepted c d t q) (ticks_in_order a b c d h)

-- ---- swapped parts have the same number and the same tick, and but for 2 and 3 the same answer
pub record Swapped (one other : Read) : Type 0 where
  pub number : read_number one ≡ read_number other
  pub tick : read_tick one ≡ read_tick other
  pub place : ((read_number one ≡ 2) ⊎ (read_number one ≡ 3)) ⊎ (one ≡ other)

pub swapped : (a b : Float) → Swapped (read_of_parts a b) (read_of_parts b a)
unfolding read_of_parts read_number read_tick
swapped a b = rw (swapped_tick a b) (go (finite a) (finite b) (beyond most_days a) (beyond most_days b))
  where
    sum : Read
    sum = in_range (tick_of_date a b)

    answer : (f g p q : Bool) → Read
    answer f g p q = refused_if (not f) 2 0 (refused_if (not g) 2 1 (refused_if p 3 0 (refused_if q 3 1 sum)))

    go : (f g p q : Bool) → Swapped (answer f g p q) (answer g f q p)
    go true true false false = record { number = refl; tick = refl; place = inr refl }
    go true true false true = record { number = refl; tick = refl; place = inl (inr refl) }
    go true true true false = record { number = refl; tick = refl; place = inl (inr refl) }
    go true true true true = record { number = refl; tick = refl; place = inl (inr refl) }
    go true false p q = record { number = refl; tick = refl; place = inl (inl refl) }
    go false true p q = record { number = refl; tick = refl; place = inl (inl refl) }
    go false false p q = record { number = refl; tick = refl; place = inl (inl refl) }
