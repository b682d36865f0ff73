-- `ephemeris::places::Opened::pointed` meets its contract. Assumes nothing.
use mathlib.Core.Path.{◌≡◌, sym, ◌∙◌}
use mathlib.Core.Bool.{true, false}
use mathlib.Core.Logic.{⊎_elim}
use Prim.Native.Nat.{ℕ}
use native.Mathlib.Nat.{le_refl}
use native.Mathlib.Omega.{arith}
use lib.IntN.{ℤ, pos, ◌+ℤ◌, ◌-ℤ◌}
use lib.Signed.{◌≤ℤ◌, ◌<ℤ◌, lt_z}
use Rattle.numbers.proofs.Differences.{rep₂, lin}
use Rattle.numbers.proofs.Flags.{never}
use Rattle.numbers.proofs.Order.{0≤-, ≤-total}
use Rattle.numbers.proofs.Machine.{lt_yes, lt_no, read_is}
use Rattle.image.specs.declared.table.Table.{Table}
use Rattle.ephemeris.specs.Table.{S, last_place, tick_at, is_inside, place_of}
use Rattle.ephemeris.specs.Asked.{held_inside}
use Rattle.ephemeris.proofs.Ticks.{inside_both, inside_yes, less_is}
use Rattle.ephemeris.proofs.Closing.{held_inside_lem, held_low, held_high, held_between}
use Rattle.ephemeris.proofs.places.Opened.pointed.Goals as goal
use Rattle.ephemeris.proofs.places.Opened.pointed.Goals.{After-tt_of-tick}

-- ---- over plain numbers
not_over : (n : ℕ) (t s : ℤ) → t ≤ℤ (s +ℤ pos n) → (t -ℤ s) ≤ℤ pos n
not_over n = rep₂ _ (λ a b c d. simp lin (omega arith))

under : (t s : ℤ) → t <ℤ s → (t -ℤ s) ≤ℤ pos 0
under = rep₂ _ (λ a b c d. simp lin (omega arith))

over : (n : ℕ) (t s : ℤ) → (s +ℤ pos n) <ℤ t → pos n ≤ℤ ((t -ℤ s) +ℤ pos 0)
over n = rep₂ _ (λ a b c d. simp lin (omega arith))

-- ---- a tick inside the table is held at its place, one outside at the nearer end
module _ (T : Table) (t : ℤ) where
  held_here : is_inside T t ≡ true → place_of T t ≡ held_inside (t -ℤ S T) (last_place T)
  unfolding place_of tick_at
  held_here e =
      let b = inside_both T t e in
      held_between (t -ℤ S T) (last_place T) (0≤- (S T) t b.0) (not_over (last_place T) t (S T) b.1)

  held_first : lt_z t (S T) ≡ true → 0 ≡ held_inside (t -ℤ S T) (last_place T)
  held_first e = omega (arith, held_low (t -ℤ S T) (last_place T) 0 (under t (S T) (lt_yes t (S T) e)))

  held_last : is_inside T t ≡ false → lt_z t (S T) ≡ false → last_place T ≡ held_inside (t -ℤ S T) (last_place T)
  unfolding tick_at
  held_last out e = ⊎_elim
      (λ (h : t ≤ℤ tick_at T (last_place T)). never (sym out ∙ inside_yes T t (lt_no t (S T) e) h))
      (λ (h : tick_at T (last_place T) <ℤ t). omega (
        arith,
        held_inside_lem (t -ℤ S T) (last_place T),
        held_high (t -ℤ S T) (last_place T) (last_place T) 0 (le_refl (last_place T)) (over (last_place T) t (S T) h),
      ))
      (≤-total t (tick_at T (last_place T)))

tick_is : (c : After-tt_of-tick) → c.tt_of-tick.result.0 ≡ c.args.asked.0 +ℤ c.args.delay
tick_is c = rw (read_is c.args.delay c.ranges.delay) at c.tt_of-tick.ensures

pub tt_of-tick-requires : goal.tt_of-tick-requires
tt_of-tick-requires c = rw (read_is c.args.delay c.ranges.delay) c.requires

pub returns-then-inside : goal.returns-then-inside
returns-then-inside c =
    rw (← tick_is (goal.at.returns-then-inside c).After-tt_of-tick)
    (c.place_of.ensures ∙ held_here c.args.self.now.table c.tt_of-tick.result.0 (sym c.inside.ensures ∙ c.if-inside.true))

pub returns-then-lt : goal.returns-then-lt
returns-then-lt c =
    let before = less_is c.tt_of-tick.result.0 c.args.self.now.table.start.0 in
    rw (← tick_is (goal.at.returns-then-lt c).After-tt_of-tick)
    (held_first c.args.self.now.table c.tt_of-tick.result.0 (sym before ∙ sym c.lt.ensures ∙ c.if-lt.true))

pub returns : goal.returns
returns c =
    rw (← tick_is (goal.at.returns c).After-tt_of-tick)
    (c.last_place.ensures
    ∙ held_last c.args.self.now.table c.tt_of-tick.result.0 (sym c.inside.ensures ∙ c.if-inside.false)
    (sym (less_is c.tt_of-tick.result.0 c.args.self.now.table.start.0) ∙ sym c.lt.ensures ∙ c.if-lt.false))
