-- Days tile the line of TAI ticks: each begins where the one before ends, so a later day begins
-- later. Assumes nothing.
use mathlib.Core.Path.{◌≡◌, sym, ◌∙◌, ap}
use mathlib.Core.Bool.{true}
use mathlib.Core.List.{List}
use mathlib.Core.Logic.{⊎_elim}
use Prim.Native.Nat.{◌*◌, ◌≤◌}
use native.Mathlib.Omega.{arith}
use lib.IntN.{ℤ, pos, neg_ℤ, ◌+ℤ◌, ◌-ℤ◌, ◌*ℤ◌}
use lib.Signed.{◌≤ℤ◌, ◌<ℤ◌, ≤ℤ_refl}
use Rattle.numbers.specs.Signs.{gap}
use Rattle.numbers.proofs.Differences.{rep₂, rep₃, rep₄, lin}
use Rattle.numbers.proofs.Machine.{yes_lt, no_lt}
use Rattle.numbers.proofs.Order.{≤-total}
use Rattle.utc.specs.Leaps.{is_list_right, list_day}
use Rattle.utc.specs.Days.{day_ticks, second_ticks, seconds_on, length_by, length_of, day_start}
use Rattle.utc.specs.Days.{tai_by, tai_of}
use Rattle.utc.proofs.Beside.{is_next, up}
use Rattle.utc.proofs.Rules.{Right, right}
use Rattle.utc.proofs.Standing.{seconds_moderate, seconds_move}

-- ---- a length by the change of the seconds
rise : (x y : ℤ) → x <ℤ y → gap x y ≤ 1 → pos (86401 * second_ticks) ≡ pos day_ticks +ℤ (y -ℤ x) *ℤ pos second_ticks
rise = rep₂ _ (λ a b c d. simp lin (omega arith))

fall : (x y : ℤ) → y <ℤ x → gap x y ≤ 1 → pos (86399 * second_ticks) ≡ pos day_ticks +ℤ (y -ℤ x) *ℤ pos second_ticks
fall = rep₂ _ (λ a b c d. simp lin (omega arith))

same : (x y : ℤ) → x ≤ℤ y → y ≤ℤ x → pos day_ticks ≡ pos day_ticks +ℤ (y -ℤ x) *ℤ pos second_ticks
same = rep₂ _ (λ a b c d. simp lin (omega arith))

pub length_cases : (P : ℤ → Type 0) (x y : ℤ) → (x <ℤ y → P (pos (86401 * second_ticks)))
    → (y <ℤ x → P (pos (86399 * second_ticks)))
    → (x ≤ℤ y → y ≤ℤ x → P (pos day_ticks))
    → P (length_by x y)
unfolding length_by
length_cases P x y up down level =
    ⊎_elim
    (λ (l : y ≤ℤ x). let neither = no_lt x y l in rw neither (⊎_elim
    (λ (g : x ≤ℤ y). let nor = no_lt y x g in rw nor (level g l))
    (λ (g : y <ℤ x). let falls = yes_lt y x g in rw falls (down g)) (≤-total x y)))
    (λ (l : x <ℤ y). let rises = yes_lt x y l in rw rises (up l))
    (≤-total y x)

length_by_lem : (x y : ℤ) → gap x y ≤ 1 → length_by x y ≡ pos day_ticks +ℤ (y -ℤ x) *ℤ pos second_ticks
length_by_lem x y h =
    length_cases (λ z. z ≡ pos day_ticks +ℤ (y -ℤ x) *ℤ pos second_ticks) x y (λ l. rise x y l h) (λ l. fall x y l h) (λ l g. same x y l g)

next_start : (day x y : ℤ)
    → tai_by y (day +ℤ pos 1) (pos 0) ≡ tai_by x day (pos 0) +ℤ (pos day_ticks +ℤ (y -ℤ x) *ℤ pos second_ticks)
unfolding tai_by
next_start = rep₃ _ (λ a b c d e f. simp lin (omega arith))

-- seconds of at most 126 s apart are less than a day
next_but_one : (day other x y : ℤ) → (day +ℤ pos 1) <ℤ other → x ≤ℤ pos 73 → neg_ℤ (pos 53) ≤ℤ y
    → tai_by x (day +ℤ pos 1) (pos 0) ≤ℤ tai_by y other (pos 0)
unfolding tai_by
next_but_one = rep₄ _ (λ a b c d e f g h. simp lin (omega arith))

further : (day other : ℤ) → pos list_day ≤ℤ day → (day +ℤ pos 1) <ℤ other → pos list_day ≤ℤ other
further = rep₂ _ (λ a b c d. simp lin (omega arith))

module _ (leaps : List ℤ) (e : is_list_right leaps ≡ true) where
  r : Right leaps
  r = right leaps e

  -- 'The day before a rise has 86,401 s, before a fall 86,399', so a day begins where the one
  -- before it ends
  pub days_tile : (day : ℤ) → pos list_day ≤ℤ day
      → day_start leaps (day +ℤ pos 1) ≡ day_start leaps day +ℤ length_of leaps day
  unfolding day_start tai_of length_of
  days_tile day h =
      let x = seconds_on leaps day in
      let y = seconds_on leaps (day +ℤ pos 1) in
      next_start day x y ∙ ap (λ (z : ℤ). tai_by x day (pos 0) +ℤ z) (sym (length_by_lem x y (seconds_move r day h)))

  pub later_start : (day other : ℤ) → pos list_day ≤ℤ day → day <ℤ other
      → day_start leaps (day +ℤ pos 1) ≤ℤ day_start leaps other
  unfolding day_start tai_of
  later_start day other h l =
      ⊎_elim
      (λ (n : other ≤ℤ (day +ℤ pos 1)). rw (← is_next day other l n) (≤ℤ_refl (day_start leaps other)))
      (λ (g : (day +ℤ pos 1) <ℤ other). next_but_one day other (seconds_on leaps (day +ℤ pos 1)) (seconds_on leaps other) g
      (seconds_moderate r (day +ℤ pos 1) (up (pos list_day) day h)).high (seconds_moderate r other (further day other h g)).low)
      (≤-total other (day +ℤ pos 1))
