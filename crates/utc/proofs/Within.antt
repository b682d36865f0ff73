-- A tick within a day: from the tick at which the day begins to the one before that at which the
-- next day does. A right reading is a tick within its day; a tick is within one day only, and an
-- earlier tick within no later day. Assumes nothing.
use mathlib.Core.Path.{◌≡◌, ◌∙◌}
use mathlib.Core.Bool.{true, ◌&&◌}
use mathlib.Core.List.{List}
use mathlib.Core.Logic.{⊎_elim}
use Prim.Native.Nat.{◌*◌, ◌≤◌}
use native.Mathlib.Omega.{arith}
use lib.IntN.{ℤ, pos, nat_abs, ◌+ℤ◌, ◌-ℤ◌}
use lib.Signed.{◌≤ℤ◌, ◌<ℤ◌, ≤ℤ_refl, le_z, le_z_yes, lt_z}
use Rattle.numbers.proofs.Differences.{rep₂, rep₃, rep₄, lin}
use Rattle.numbers.proofs.Flags.{both}
use Rattle.numbers.proofs.Machine.{le_yes, lt_yes, yes_le, yes_lt}
use Rattle.numbers.proofs.Order.{≤-antisym, ≤-total}
use Rattle.utc.specs.Leaps.{is_list_right, list_day}
use Rattle.utc.specs.Days.{day_ticks, seconds_on, is_reading, length_of, day_start, tai_by, tai_of}
use Rattle.utc.proofs.Tiling.{days_tile, later_start, length_cases}

-- ---- a right reading, part by part
pub record Reading (leaps : List ℤ) (day ticks : ℤ) : Type 0 where
  pub begun : pos list_day ≤ℤ day
  pub low : pos 0 ≤ℤ ticks
  pub high : ticks <ℤ length_of leaps day

pub reading : (leaps : List ℤ) (day ticks : ℤ) → is_reading leaps day ticks ≡ true → Reading leaps day ticks
unfolding is_reading
reading leaps day ticks e =
    let outer = both (le_z (pos list_day) day && le_z (pos 0) ticks) (lt_z ticks (length_of leaps day)) e in
    let inner = both (le_z (pos list_day) day) (le_z (pos 0) ticks) outer.0 in
    record { begun = le_yes _ _ inner.0; low = le_yes _ _ inner.1; high = lt_yes _ _ outer.1 }

pub is_reading_lem : {leaps : List ℤ} {day ticks : ℤ} → Reading leaps day ticks → is_reading leaps day ticks ≡ true
unfolding is_reading
is_reading_lem {leaps} {day} {ticks} h =
    let begun = yes_le (pos list_day) day h.begun in
    let low = yes_le (pos 0) ticks h.low in
    let high = yes_lt ticks (length_of leaps day) h.high in
    rw (begun, low, high)

-- two days of ticks at most, for a bound
pub reading_size : {leaps : List ℤ} {day ticks : ℤ} → Reading leaps day ticks → nat_abs ticks ≤ 2 * day_ticks
unfolding length_of
reading_size {leaps} {day} {ticks} h =
    size ticks (length_of leaps day) h.low h.high
    (length_cases (λ z. z ≤ℤ pos (2 * day_ticks)) (seconds_on leaps day) (seconds_on leaps (day +ℤ pos 1)) (λ _. le_z_yes tt) (λ _. le_z_yes tt)
    (λ _ _. le_z_yes tt))
  where
    size : (k l : ℤ) → pos 0 ≤ℤ k → k <ℤ l → l ≤ℤ pos (2 * day_ticks) → nat_abs k ≤ 2 * day_ticks
    size = rep₂ _ (λ a b c d. simp lin (omega arith))

-- ---- a tick is its day's start and its ticks
tai_by_lem : (seconds day ticks : ℤ) → tai_by seconds day ticks ≡ tai_by seconds day (pos 0) +ℤ ticks
unfolding tai_by
tai_by_lem = rep₃ _ (λ a b c d e f. simp lin (omega arith))

pub tai_from : (leaps : List ℤ) (day ticks : ℤ) → tai_of leaps day ticks ≡ day_start leaps day +ℤ ticks
unfolding day_start tai_of
tai_from leaps day ticks = tai_by_lem (seconds_on leaps day) day ticks

pub record Within (leaps : List ℤ) (tick day : ℤ) : Type 0 where
  pub begun : pos list_day ≤ℤ day
  pub from : day_start leaps day ≤ℤ tick
  pub until : tick <ℤ day_start leaps (day +ℤ pos 1)

-- linear facts on a start s, a length l and the next start n = s + l
from_start : (s k : ℤ) → pos 0 ≤ℤ k → s ≤ℤ (s +ℤ k)
from_start = rep₂ _ (λ a b c d. simp lin (omega arith))

until_next : (s k l n : ℤ) → n ≡ s +ℤ l → k <ℤ l → (s +ℤ k) <ℤ n
until_next = rep₄ _ (λ a b c d e f g h. simp lin (omega arith))

since : (s t : ℤ) → s ≤ℤ t → pos 0 ≤ℤ (t -ℤ s)
since = rep₂ _ (λ a b c d. simp lin (omega arith))

short : (s t l n : ℤ) → n ≡ s +ℤ l → t <ℤ n → (t -ℤ s) <ℤ l
short = rep₄ _ (λ a b c d e f g h. simp lin (omega arith))

back : (s t : ℤ) → s +ℤ (t -ℤ s) ≡ t
back = rep₂ _ (λ a b c d. simp lin (omega arith))

pub forth : (s k : ℤ) → (s +ℤ k) -ℤ s ≡ k
forth = rep₂ _ (λ a b c d. simp lin (omega arith))

-- of two days in order, what begins on the later is not before the end of the earlier
crossed : (t u n s : ℤ) → t ≤ℤ u → u <ℤ n → n ≤ℤ s → s ≤ℤ t → ⊥
crossed = rep₄ _ (λ a b c d e f g h. simp lin (omega arith))

pub tai_back : (leaps : List ℤ) (tick day : ℤ) → tai_of leaps day (tick -ℤ day_start leaps day) ≡ tick
tai_back leaps tick day = tai_from leaps day (tick -ℤ day_start leaps day) ∙ back (day_start leaps day) tick

module _ (leaps : List ℤ) (e : is_list_right leaps ≡ true) where
  pub reading_within : (day ticks : ℤ) → Reading leaps day ticks → Within leaps (tai_of leaps day ticks) day
  reading_within day ticks h =
      let s = day_start leaps day in
      rw (tai_from leaps day ticks)
      (record {
        begun = h.begun;
        from = from_start s ticks h.low;
        until = until_next s ticks (length_of leaps day) (day_start leaps (day +ℤ pos 1)) (days_tile leaps e day h.begun) h.high;
      })

  pub within_reading : (tick day : ℤ) → Within leaps tick day → Reading leaps day (tick -ℤ day_start leaps day)
  within_reading tick day w =
      let s = day_start leaps day in record {
        begun = w.begun;
        low = since s tick w.from;
        high = short s tick (length_of leaps day) (day_start leaps (day +ℤ pos 1)) (days_tile leaps e day w.begun) w.until;
      }

  pub no_later_day : (t u day other : ℤ) → t ≤ℤ u → Within leaps t day → Within leaps u other → day ≤ℤ other
  no_later_day t u day other l v w =
      ⊎_elim (λ (h : day ≤ℤ other). h)
      (λ (h : other <ℤ day).
      absurd (crossed t u (day_start leaps (other +ℤ pos 1)) (day_start leaps day) l w.until (later_start leaps e other day w.begun h) v.from))
      (≤-total day other)

  pub one_day : (tick day other : ℤ) → Within leaps tick day → Within leaps tick other → day ≡ other
  one_day tick day other v w =
      ≤-antisym day other (no_later_day tick tick day other (≤ℤ_refl tick) v w) (no_later_day tick tick other day (≤ℤ_refl tick) w v)
