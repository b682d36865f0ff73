-- What a right list has: its rules one by one, and nothing else; so days that rise from any entry
-- to any later one, and seconds that stay from −53 to 73. Assumes nothing.
use borrow.Author.Tests.{eq-eqb, eqb-true, le-leb, leb-true}
use mathlib.Core.Path.{◌≡◌}
use mathlib.Core.Bool.{true, ◌&&◌}
use mathlib.Core.List.{List}
use mathlib.Core.Logic.{◌↔◌, ⊎_elim}
use Prim.Native.Nat.{ℕ, zero, suc, ◌-◌, ◌≤◌, ◌<◌}
use native.Mathlib.Nat.{le_of_suc-le-suc, not-suc-le-zero, eq-or-lt_of_le}
use native.Mathlib.Omega.{arith}
use lib.Dec.{eqb, leb}
use lib.IntN.{ℤ, pos, neg_ℤ, nat_abs}
use lib.Signed.{◌≤ℤ◌, ◌<ℤ◌, lt_z}
use Rattle.numbers.specs.Signs.{gap}
use Rattle.numbers.specs.Lowest.{every}
use Rattle.numbers.proofs.Differences.{rep, rep₂, lin, sizes}
use Rattle.numbers.proofs.Flags.{both}
use Rattle.numbers.proofs.Machine.{lt_yes, yes_lt}
use Rattle.numbers.proofs.Order.{gap_none, none_gap}
use Rattle.numbers.proofs.Places.{every_at, every_is}
use Rattle.utc.proofs.Beside.{<-trans}
use Rattle.utc.specs.Leaps.{entries, first_day, seconds, list_day, list_seconds, most_entries}
use Rattle.utc.specs.Leaps.{is_start_right, is_count_right, is_next_right, is_list_right}

pub record Right (leaps : List ℤ) : Type 0 where
  pub some : 1 ≤ entries leaps
  pub few : entries leaps ≤ most_entries
  pub day : first_day leaps 0 ≡ pos list_day
  pub first : seconds leaps 0 ≡ pos list_seconds
  pub rises : (k : ℕ) → suc k < entries leaps → first_day leaps k <ℤ first_day leaps (suc k)
  pub changes : (k : ℕ) → suc k < entries leaps → gap (seconds leaps k) (seconds leaps (suc k)) ≡ 1

-- 'starts with day 41317 and 10 s'
pub starts : (leaps : List ℤ) → is_start_right leaps ≡ true
    → (first_day leaps 0 ≡ pos list_day) × (seconds leaps 0 ≡ pos list_seconds)
unfolding is_start_right
starts leaps e =
    let b = both (eqb (gap (first_day leaps 0) (pos list_day)) 0) (eqb (gap (seconds leaps 0) (pos list_seconds)) 0) e in (
      gap_none (first_day leaps 0) (pos list_day) (eqb-true _ 0 b.0),
      gap_none (seconds leaps 0) (pos list_seconds) (eqb-true _ 0 b.1),
    )

each : (leaps : List ℤ) → every (is_next_right leaps) (entries leaps - 1) ≡ true → (k : ℕ) → suc k < entries leaps
    → (lt_z (first_day leaps k) (first_day leaps (suc k)) ≡ true)
    × (eqb (gap (seconds leaps k) (seconds leaps (suc k))) 1 ≡ true)
unfolding is_next_right
each leaps e k h =
    both (lt_z (first_day leaps k) (first_day leaps (suc k))) (eqb (gap (seconds leaps k) (seconds leaps (suc k))) 1)
    (every_at (is_next_right leaps) (entries leaps - 1) k e (omega arith))

pub right : (leaps : List ℤ) → is_list_right leaps ≡ true → Right leaps
unfolding is_list_right is_count_right
right leaps e =
    let outer = both (is_count_right leaps && is_start_right leaps) (every (is_next_right leaps) (entries leaps - 1)) e in
    let inner = both (is_count_right leaps) (is_start_right leaps) outer.0 in
    let counted = both (leb 1 (entries leaps)) (leb (entries leaps) most_entries) inner.0 in
    let begun = starts leaps inner.1 in
    record {
      some = leb-true 1 (entries leaps) counted.0;
      few = leb-true (entries leaps) most_entries counted.1;
      day = begun.0;
      first = begun.1;
      rises = λ k h. lt_yes _ _ (each leaps outer.1 k h).0;
      changes = λ k h. eqb-true _ 1 (each leaps outer.1 k h).1;
    }

-- the rule by its tests
pub all_right : (leaps : List ℤ) → 1 ≤ entries leaps → entries leaps ≤ most_entries → is_start_right leaps ≡ true
    → ((k : ℕ) → k < entries leaps - 1 → is_next_right leaps k ≡ true)
    → is_list_right leaps ≡ true
unfolding is_list_right is_count_right
all_right leaps some few start each =
    let one = le-leb 1 (entries leaps) some in
    let most = le-leb (entries leaps) most_entries few in
    let all = every_is (is_next_right leaps) (entries leaps - 1) each in
    rw (one, most, start, all)

is_right : (leaps : List ℤ) → Right leaps → is_list_right leaps ≡ true
unfolding is_start_right is_next_right
is_right leaps r =
    let day = eq-eqb (gap (first_day leaps 0) (pos list_day)) 0 (none_gap (first_day leaps 0) (pos list_day) r.day) in
    let first = eq-eqb (gap (seconds leaps 0) (pos list_seconds)) 0 (none_gap (seconds leaps 0) (pos list_seconds) r.first) in
    all_right leaps r.some r.few (rw (day, first)) (λ k h.
    let rise = yes_lt (first_day leaps k) (first_day leaps (suc k)) (r.rises k (omega arith)) in
    let change = eq-eqb (gap (seconds leaps k) (seconds leaps (suc k))) 1 (r.changes k (omega arith)) in
    rw (rise, change))

-- refusal '7 exactly when the list breaks a rule above'
pub right_exactly : (leaps : List ℤ) → (is_list_right leaps ≡ true) ↔ Right leaps
right_exactly leaps = (right leaps, is_right leaps)

-- ---- days
pub days_rise : {leaps : List ℤ} → Right leaps → (j k : ℕ) → j < k → k < entries leaps
    → first_day leaps j <ℤ first_day leaps k
days_rise r j zero h l = absurd (not-suc-le-zero h)
days_rise {leaps} r j (suc k) h l =
    ⊎_elim
    (λ (e : j ≡ k). rw e (r.rises k l))
    (λ (i : j < k). <-trans (first_day leaps j) (first_day leaps k) (first_day leaps (suc k)) (days_rise r j k i (omega arith)) (r.rises k l))
    (eq-or-lt_of_le (le_of_suc-le-suc h))

-- a day before an entry's first is before that of each later one
pub before_later : {leaps : List ℤ} → Right leaps → (day : ℤ) (j k : ℕ) → j ≤ k → k < entries leaps
    → day <ℤ first_day leaps j → day <ℤ first_day leaps k
before_later {leaps} r day j k h l b =
    ⊎_elim
    (λ (e : j ≡ k). (rw e at b))
    (λ (i : j < k). <-trans day (first_day leaps j) (first_day leaps k) b (days_rise r j k i l))
    (eq-or-lt_of_le h)

-- ---- seconds
-- how far they have come from the first
nearer : (k : ℕ) (x y : ℤ) → gap (pos list_seconds) x ≤ k → gap x y ≡ 1 → gap (pos list_seconds) y ≤ suc k
nearer k = rep₂ _ (λ a b c d. simp sizes (omega arith))

start : (x : ℤ) → x ≡ pos list_seconds → gap (pos list_seconds) x ≤ 0
start = rep _ (λ a b. simp sizes (omega arith))

come : {leaps : List ℤ} → Right leaps → (k : ℕ) → k < entries leaps → gap (pos list_seconds) (seconds leaps k) ≤ k
come {leaps} r zero h = start (seconds leaps 0) r.first
come {leaps} r (suc k) h = nearer k (seconds leaps k) (seconds leaps (suc k)) (come r k (omega arith)) (r.changes k h)

-- at most 63 s: the least and the most that 64 entries come to
pub record Moderate (seconds : ℤ) : Type 0 where
  pub low : neg_ℤ (pos 53) ≤ℤ seconds
  pub high : seconds ≤ℤ pos 73

pub moderate : {leaps : List ℤ} → Right leaps → (k : ℕ) → k < entries leaps → Moderate (seconds leaps k)
moderate {leaps} r k h =
    let n : gap (pos list_seconds) (seconds leaps k) ≤ 63 = omega (arith, come r k h, r.few) in
    record { low = least (seconds leaps k) n; high = most (seconds leaps k) n }
  where
    least : (x : ℤ) → gap (pos list_seconds) x ≤ 63 → neg_ℤ (pos 53) ≤ℤ x
    least = rep _ (λ a b. simp lin (omega arith))

    most : (x : ℤ) → gap (pos list_seconds) x ≤ 63 → x ≤ℤ pos 73
    most = rep _ (λ a b. simp lin (omega arith))

pub moderate_size : {seconds : ℤ} → Moderate seconds → nat_abs seconds ≤ 100
moderate_size {seconds} m = small seconds m.low m.high
  where
    small : (x : ℤ) → neg_ℤ (pos 53) ≤ℤ x → x ≤ℤ pos 73 → nat_abs x ≤ 100
    small = rep _ (λ a b. simp lin (omega arith))
