-- Of two readings of seconds the earlier is never the later tick. Assumes nothing.
use Rattle.scales.specs.Answers.{Read, Accepts, read_number, read_tick}
use Rattle.std.specs.Prelude.{Ok}
use mathlib.Core.Path.{◌≡◌}
use mathlib.Core.Logic.{◌⊎◌, inl, inr}
use mathlib.Core.Bool.{Bool, true, false, ◌||◌, not, false≢true}
use Prim.Native.Nat.{ℕ, ◌*◌, ◌^◌}
use native.Mathlib.Nat.{le_of_lt, le_of_eq, mul_comm}
use native.Mathlib.Omega.{arith}
use lib.Dec.{T, eqb, ltb→lt, eqb→eq}
use lib.IntN.{ℤ, pos, ◌+ℤ◌, ◌*ℤ◌}
use lib.Signed.{◌≤ℤ◌}
use lib.Ieee.{Float, nan, inf, fin, up, down, le, lt, eq, below, level}
use lib.Ieee.Fits.{and_l, and_r}
use lib.Ieee.Scale.{finite}
use Rattle.numbers.proofs.Differences.{rep₃, lin}
use Rattle.numbers.proofs.Ring.{*-left-comm, one-*}
use Rattle.numbers.proofs.Order.{*-mono, le_pos}
use Rattle.numbers.proofs.Rounding.{nearest_keeps}
use Rattle.scales.specs.Tick.{is_valid}
use Rattle.numbers.specs.Signs.{signed}
use Rattle.dates.specs.Doubles.{numerator, denominator, beyond}
use Rattle.dates.specs.Ticks.{ticks_rounded, second_ticks, j2000, tick_of_seconds}
use Rattle.dates.specs.Readings.{in_range, refused_if, most_seconds, read_of_seconds}
use Rattle.dates.specs.Inner.{Far, Readable}
use Rattle.dates.proofs.Values.{den_pos, signed_times}

-- ---- the order of two doubles is that of their exact values
either : (a b : Bool) → a || b ≡ true → (T a) ⊎ (T b)
either true b h = inl tt
either false true h = inr tt
either false false h = absurd (false≢true h)

-- a part of the comparison that holds: below, or level
ordered : (s t : Bool) (a b : ℕ) → (T (below s a t b)) ⊎ (T (level s a t b)) → signed s a ≤ℤ signed t b
ordered false false a b (inl u) = le_pos a b (le_of_lt (ltb→lt a b u))
ordered false false a b (inr u) = le_pos a b (le_of_eq (eqb→eq a b (and_l (eqb a b) true u)))
ordered false true a b (inl u) = absurd u
ordered false true a b (inr u) =
    let e = eqb→eq a b (and_l (eqb a b) (eqb a 0) u) in
    let z = eqb→eq a 0 (and_r (eqb a b) (eqb a 0) u) in
    simp lin (omega arith)
ordered true false a b h = simp lin (omega arith)
ordered true true a b (inl u) = let l = ltb→lt b a u in simp lin (omega arith)
ordered true true a b (inr u) = let l = eqb→eq a b (and_l (eqb a b) true u) in simp lin (omega arith)

-- x / c ≤ y / d, for the exact values: d·x ≤ c·y
abbrev NotLater : Float → Float → Type 0
NotLater x y = (pos (denominator y) *ℤ numerator x) ≤ℤ (pos (denominator x) *ℤ numerator y)

doubles_in_order : (x y : Float) → T (finite x) → T (finite y) → le x y ≡ true → NotLater x y
unfolding le numerator denominator lt eq
doubles_in_order nan y f g h = absurd f
doubles_in_order (inf s) y f g h = absurd f
doubles_in_order (fin s m e) nan f g h = absurd g
doubles_in_order (fin s m e) (inf t) f g h = absurd g
doubles_in_order (fin s m e) (fin t n d) f g h =
    rw (signed_times s (down d) (m * up e), signed_times t (down e) (n * up d), mul_comm (down d) (m * up e), mul_comm (down e) (n * up d))
    (ordered s t (m * up e * down d) (n * up d * down e)
    (either (below s (m * up e * down d) t (n * up d * down e)) (level s (m * up e * down d) t (n * up d * down e)) h))

-- at or after 2^20 days
pub far_yes : (x : Float) → Readable 5000000 x → le (fin false 1 (pos 20)) x ≡ true → Far x
unfolding numerator denominator
far_yes x r h =
    let l = doubles_in_order (fin false 1 (pos 20)) x tt r.finitely h in
    record { readable = r; far = rw (mul_comm (2 ^ 20) (denominator x)) (rw (one-* (numerator x)) at l) }

-- ---- and the nearest ticks keep it
seconds_keep : (x y : Float) → NotLater x y → ticks_rounded second_ticks x ≤ℤ ticks_rounded second_ticks y
unfolding ticks_rounded
seconds_keep x y h =
    nearest_keeps (pos second_ticks *ℤ numerator x) (pos second_ticks *ℤ numerator y) (denominator x) (denominator y) (den_pos x) (den_pos y)
    (rw
    (*-left-comm (pos (denominator y)) (pos second_ticks) (numerator x), *-left-comm (pos (denominator x)) (pos second_ticks) (numerator y))
    (*-mono second_ticks (pos (denominator y) *ℤ numerator x) (pos (denominator x) *ℤ numerator y) h))

moved : (x y k : ℤ) → x ≤ℤ y → (x +ℤ k) ≤ℤ (y +ℤ k)
moved = rep₃ _ (λ a b c d e f. simp lin (omega arith))

ticks_in_order : (x y : Float) → NotLater x y → tick_of_seconds x ≤ℤ tick_of_seconds y
unfolding tick_of_seconds
ticks_in_order x y h = moved (ticks_rounded second_ticks x) (ticks_rounded second_ticks y) j2000 (seconds_keep x y h)

-- ---- an accepted reading of seconds is finite, and its tick is the rule's
accepted : (x : Float) (tick : ℤ) → Accepts (read_of_seconds x) tick → (T (finite x)) × (tick_of_seconds x ≡ tick)
unfolding read_of_seconds in_range read_number read_tick
accepted x tick h = go (finite x) (beyond most_seconds x) (is_valid (tick_of_seconds x)) h.0 h.1
  where
    answer : (f b v : Bool) → Read
    answer f b v = refused_if (not f) 2 0 (refused_if b 3 0 (refused_if (not v) 4 0 (Ok (tick_of_seconds x))))

    go : (f b v : Bool) → read_number (answer f b v) ≡ 0 → read_tick (answer f b v) ≡ tick
        → (T f) × (tick_of_seconds x ≡ tick)
    go true false true n t = (tt, t)
    go true false false n t = let no : ⊥ = omega arith in absurd no
    go true true v n t = let no : ⊥ = omega arith in absurd no
    go false b v n t = let no : ⊥ = omega arith in absurd no

pub earlier_seconds : (x y : Float) (a b : ℤ) → le x y ≡ true → Accepts (read_of_seconds x) a
    → Accepts (read_of_seconds y) b → a ≤ℤ b
earlier_seconds x y a b h p q =
    let f = accepted x a p in
    let g = accepted y b q in
    rw (← f.1, ← g.1) (ticks_in_order x y (doubles_in_order x y f.0 g.0 h))
