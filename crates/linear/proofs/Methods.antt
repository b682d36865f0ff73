-- What the methods of the structs come to, and the steps by them: a number's bits are read back, a
-- mere shift is exact, a valid tick is near enough, and what the step comes to is kept. Assumes
-- nothing.
use Rattle.scales.specs.Answers.{Stepped, kept_in}
use Rattle.scales.specs.declared.answer.Outside.TheVariants as Outside
use Rattle.std.specs.Prelude.{Err}
use mathlib.Core.Path.{◌≡◌, ◌∙◌, ap, subst}
use mathlib.Core.Bool.{true, false}
use Prim.Native.Nat.{◌≤◌}
use native.Mathlib.Omega.{arith}
use lib.IntN.{ℤ, neg_ℤ, nat_abs, ◌+ℤ◌, ◌-ℤ◌}
use mir.Syntax.{w64}
use mir.Val.{SFits}
use Rattle.numbers.proofs.Order.{size-+, abs_neg}
use Rattle.numbers.proofs.Machine.{read, read_is, fits}
use Rattle.scales.specs.Linear.{nearest_tick}
use Rattle.scales.specs.Rows.{LineRow, line_step}
use Rattle.scales.specs.Tick.{furthest, is_valid}
use Rattle.linear.specs.declared.drift.Drift.{Drift}
use Rattle.linear.specs.Drift.{drift_at}
use Rattle.linear.proofs.Fractions.{shifted}

-- ---- what a method comes to from a valid tick, which is near enough that it fits
module _ (t : ℤ) (near : nat_abs t ≤ furthest) where
  tick_is : read t ≡ t
  tick_is = read_is t (fits t (omega (arith, near)))

  moved : (x : ℤ) → nat_abs x ≤ 1000000000000000000 → read (read t +ℤ x) ≡ t +ℤ x
  moved x little = rw tick_is (read_is (t +ℤ x) (fits (t +ℤ x) (omega (arith, size-+ t x near little))))

  -- a mere shift is exact
  pub shift_is : (by : ℤ) → nat_abs by ≤ 1000000000000000000
      → read (read t +ℤ by) ≡ nearest_tick (record { times = 1; over = 1; plus = by }) t
  shift_is by little = moved by little ∙ shifted t by

  -- what is gained is added, and what is lost taken off
  module _ (d : Drift) (r : ℤ) (is : r ≡ drift_at d (read t)) (little : nat_abs r ≤ 2000000000000) where
    drift_read : read r ≡ drift_at d t
    drift_read = read_is r (fits r (omega (arith, little))) ∙ is ∙ ap (drift_at d) tick_is

    drift_little : nat_abs (drift_at d t) ≤ 2000000000000
    drift_little = subst (λ (x : ℤ). nat_abs x ≤ 2000000000000) (is ∙ ap (drift_at d) tick_is) little

    pub gained : read (read t +ℤ read r) ≡ t +ℤ drift_at d t
    gained = rw drift_read (moved (drift_at d t) (omega (arith, drift_little)))

    pub lost : read (read t -ℤ read r) ≡ t -ℤ drift_at d t
    lost = rw drift_read (moved (neg_ℤ (drift_at d t)) (omega (arith, abs_neg (drift_at d t), drift_little)))

-- ---- a step from a tick
module _ (row : LineRow) (t : ℤ) where
  pub step_no : is_valid t ≡ false → (Err Outside.Range) ≡ line_step row t
  unfolding line_step
  step_no invalid = rw invalid

  -- kept is what the method came to from the tick as the code reads it
  pub step_yes : (r : ℤ) {answer : Stepped} → SFits w64 t → SFits w64 r → is_valid t ≡ true
      → answer ≡ kept_in row.to (read r) → r ≡ nearest_tick row.by (read t) → answer ≡ line_step row t
  unfolding line_step
  step_yes r ft fr valid kept is =
      rw valid (kept ∙ ap (kept_in row.to) (read_is r fr ∙ (rw (read_is t ft) at is)))
