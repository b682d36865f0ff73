-- `utc::writing::latest_day` meets its contract: day 41317 is 1827 days before 43144. Assumes
-- nothing.
use mathlib.Core.Path.{◌≡◌, refl, sym, ◌∙◌, ap}
use Prim.Native.Nat.{ℕ, ◌+◌, ◌*◌, ◌/◌, ◌≤◌, ◌<◌}
use native.Mathlib.Omega.{arith}
use lib.Dec.{T, lit<}
use lib.IntN.{ℤ, pos, nat_abs, ◌+ℤ◌, ◌*ℤ◌}
use lib.Signed.{◌≤ℤ◌, non_neg, pos-nat_abs}
use mir.Syntax.{w64}
use mir.Val.{Fits, SFits, to_z}
use mir.ValLaws.{to_z_pos}
use Rattle.numbers.specs.Rounding.{floor_div}
use Rattle.numbers.proofs.Differences.{rep, rep₂, lin}
use Rattle.numbers.proofs.Machine.{fits_small, natural_cast, read, read_is}
use Rattle.numbers.proofs.Rounding.{floor_plus}
use Rattle.scales.specs.Tick.{furthest}
use Rattle.utc.specs.Days.{day_ticks, second_ticks}
use Rattle.utc.specs.Asked.{Writable, first_tick, latest_day}
use Rattle.utc.proofs.writing.latest_day.Goals as goal
use Rattle.utc.proofs.writing.latest_day.Goals.{Start}

abbrev since : ℤ → ℤ
since tick = tick +ℤ pos 157852885184000000

abbrev most : ℕ
most = 6157852885184000000

counted : (t : ℤ) → first_tick ≤ℤ t → pos 0 ≤ℤ since t
counted = rep _ (λ a b. simp lin (omega arith))

sized : (t : ℤ) → nat_abs t ≤ furthest → nat_abs (since t) ≤ most
sized = rep _ (λ a b. simp lin (omega arith))

-- 1827 days on
moved : (t : ℤ) → since t ≡ (t +ℤ pos (32184000000 + 53 * second_ticks)) +ℤ pos day_ticks *ℤ pos 1827
moved = rep _ (λ a b. simp lin (omega arith))

back : (x y : ℤ) → y ≡ x +ℤ pos 1827 → pos 41317 +ℤ y ≡ pos 43144 +ℤ x
back = rep₂ _ (λ a b c d. simp lin (omega arith))

floor_pos : (n : ℕ) → floor_div (pos n) day_ticks ≡ pos (n / day_ticks)
unfolding floor_div
floor_pos n = refl

module _ (t : ℤ) (w : Writable t) where
  fits : SFits w64 (since t)
  fits = fits_small (since t) most (sized t w.valid) (lit< tt)

  cast : T (non_neg (since t)) × Fits w64 (nat_abs (since t))
  cast = natural_cast (since t) fits (counted t w.begun)

  few : nat_abs (since t) / day_ticks < 100000
  few = omega (arith, sized t w.valid)

  days : to_z w64 (nat_abs (since t) / day_ticks) ≡ pos (nat_abs (since t) / day_ticks)
  days = to_z_pos w64 (nat_abs (since t) / day_ticks) (omega (arith, few))

  days_fit : SFits w64 (pos (nat_abs (since t) / day_ticks))
  days_fit = record { sfits = omega (arith, few) }

  day_fits : SFits w64 (pos 41317 +ℤ pos (nat_abs (since t) / day_ticks))
  day_fits = record { sfits = omega (arith, few) }

  is : pos 41317 +ℤ pos (nat_abs (since t) / day_ticks) ≡ latest_day t
  unfolding latest_day
  is =
      let x = t +ℤ pos (32184000000 + 53 * second_ticks) in
      let whole = pos-nat_abs (since t) cast.0 in
      back (floor_div x day_ticks) (pos (nat_abs (since t) / day_ticks))
      (sym (floor_pos (nat_abs (since t))) ∙ ap (λ (z : ℤ). floor_div z day_ticks) (whole ∙ moved t) ∙ floor_plus x (pos 1827) day_ticks (lit< tt))

tick_is : (c : Start) → read c.args.tick ≡ c.args.tick
tick_is c = read_is c.args.tick c.ranges.tick

since_is : (c : Start) → read (since c.args.tick) ≡ since c.args.tick
since_is c = read_is _ (fits c.args.tick c.requires)

pub overflow_add-since : goal.overflow_add-since
overflow_add-since c = rw (tick_is c) (fits c.args.tick c.requires)

pub overflow_cast-since : goal.overflow_cast-since
overflow_cast-since c = rw (tick_is c, since_is c) (cast c.args.tick c.requires)

pub overflow_cast-result-2 : goal.overflow_cast-result-2
overflow_cast-result-2 c = rw (tick_is c, since_is c) (days_fit c.args.tick c.requires)

pub overflow_add-result : goal.overflow_add-result
overflow_add-result c = rw (tick_is c, since_is c, days c.args.tick c.requires) (day_fits c.args.tick c.requires)

pub returns : goal.returns
returns c = rw (tick_is c, since_is c, days c.args.tick c.requires, read_is _ (day_fits c.args.tick c.requires)) (is c.args.tick c.requires)
