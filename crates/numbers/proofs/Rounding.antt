-- Floor division and nearest: the two bounds that determine each, and what follows from them. A
-- kernel's proof shows the bounds of the number that it computes and ends by `floor_is` or
-- `nearest_is`; nothing above this file opens the two definitions. Assumes nothing.
use mathlib.Core.Path.{◌≡◌, sym, ap, ap₂, ◌∙◌}
use mathlib.Core.Logic.{⊎_elim}
use Prim.Native.Nat.{ℕ, ◌+◌, ◌*◌, ◌/◌, ◌≤◌, ◌<◌}
use native.Mathlib.Nat.{le_of_lt, div-add-mod', mod-lt, mul_comm, mul_left_comm, mul-suc, mul-pos, mul-le-mul_right, mul-le-mul_left}
use native.Mathlib.Nat.{mul-lt-mul_of_pos_left, le_of_mul-le-mul_left, lt_of_mul-lt-mul_left}
use native.Mathlib.Omega.{arith}
use lib.IntN.{ℤ, pos, negsuc, ◌+ℤ◌, ◌-ℤ◌, ◌*ℤ◌, nat_abs, +ℤ_comm}
use lib.Signed.{◌≤ℤ◌, ◌<ℤ◌, ≤ℤ_refl}
use Rattle.numbers.specs.Rounding.{floor_div, nearest}
use Rattle.numbers.proofs.Differences.{rep, rep₂, rep₃, rep₄, lin, sizes}
use Rattle.numbers.proofs.Ring.{*-assoc}
use Rattle.numbers.proofs.Order.{≤-antisym, ≤-total, 0≤*, abs-*, le_pos}
use lib.Dec.{lit<}

-- ---- floor: d·q ≤ x < d·q + d
pub record Floored (x : ℤ) (d : ℕ) (q : ℤ) : Type 0 where
  pub under : (pos d *ℤ q) ≤ℤ x
  pub above : x <ℤ (pos d *ℤ q +ℤ pos d)

pub floored : (x : ℤ) (d : ℕ) → 0 < d → Floored x d (floor_div x d)
unfolding floor_div
floored (pos n) d h = record {
  under = simp lin (omega (arith, div-add-mod' n d, mul_comm d (n / d)));
  above = simp lin (omega (arith, div-add-mod' n d, mod-lt n h, mul_comm d (n / d)));
}
floored (negsuc n) d h = record {
  under = simp lin (omega (arith, div-add-mod' n d, mod-lt n h, mul_comm d (n / d), mul-suc d (n / d)));
  above = simp lin (omega (arith, div-add-mod' n d, mul_comm d (n / d), mul-suc d (n / d)));
}

-- what its multiples of the divisor leave of a number
left : (d : ℕ) (x m : ℤ) → m ≤ℤ x → x <ℤ (m +ℤ pos d) → nat_abs (x -ℤ m) ≤ d
left d = rep₂ _ (λ a b c e. simp lin (omega arith))

pub floor_rest : (x : ℤ) (d : ℕ) → 0 < d → nat_abs (x -ℤ pos d *ℤ floor_div x d) ≤ d
floor_rest x d h = let f = floored x d h in left d x (pos d *ℤ floor_div x d) f.under f.above

-- of two numbers in order the floors are in order; so a number has one floor
next_up : (d : ℕ) (q f : ℤ) → f <ℤ q → (pos d *ℤ f +ℤ pos d) ≤ℤ (pos d *ℤ q)
next_up d = rep₂ _ (λ a b c e. simp lin (λ h. omega (arith, mul-le-mul_right d h)))

crossed : (x y z w : ℤ) → x ≤ℤ y → z ≤ℤ x → y <ℤ w → w ≤ℤ z → ⊥
crossed = rep₄ _ (λ a b c d e f g h. simp lin (omega arith))

in_order : (x y q f : ℤ) (d : ℕ) → x ≤ℤ y → Floored x d q → Floored y d f → q ≤ℤ f
in_order x y q f d l a b =
    ⊎_elim (λ (h : q ≤ℤ f). h) (λ (h : f <ℤ q). absurd (crossed x y (pos d *ℤ q) (pos d *ℤ f +ℤ pos d) l a.under b.above (next_up d q f h))) (≤-total q f)

pub floor_is : (x q : ℤ) (d : ℕ) → 0 < d → Floored x d q → floor_div x d ≡ q
floor_is x q d h a =
    let f = floored x d h in
    ≤-antisym (floor_div x d) q (in_order x x (floor_div x d) q d (≤ℤ_refl x) f a) (in_order x x q (floor_div x d) d (≤ℤ_refl x) a f)

pub floor_order : (x y : ℤ) (d : ℕ) → 0 < d → x ≤ℤ y → floor_div x d ≤ℤ floor_div y d
floor_order x y d h l = in_order x y (floor_div x d) (floor_div y d) d l (floored x d h) (floored y d h)

moved_under : (d : ℕ) (x q k : ℤ) → (pos d *ℤ q) ≤ℤ x → (pos d *ℤ (q +ℤ k)) ≤ℤ (x +ℤ pos d *ℤ k)
moved_under d = rep₃ _ (λ a b c e f g. simp lin (omega arith))

moved_above : (d : ℕ) (x q k : ℤ) → x <ℤ (pos d *ℤ q +ℤ pos d) → (x +ℤ pos d *ℤ k) <ℤ (pos d *ℤ (q +ℤ k) +ℤ pos d)
moved_above d = rep₃ _ (λ a b c e f g. simp lin (omega arith))

-- a multiple of the divisor goes through
pub floor_plus : (x k : ℤ) (d : ℕ) → 0 < d → floor_div (x +ℤ pos d *ℤ k) d ≡ floor_div x d +ℤ k
floor_plus x k d h =
    let f = floored x d h in
    floor_is (x +ℤ pos d *ℤ k) (floor_div x d +ℤ k) d h
    (record { under = moved_under d x (floor_div x d) k f.under; above = moved_above d x (floor_div x d) k f.above })

-- less than the divisor either way is none, or one below
pub floor_none : (z : ℤ) (d : ℕ) → pos 0 ≤ℤ z → nat_abs z < d → floor_div z d ≡ pos 0
floor_none z d l h = floor_is z (pos 0) d (omega arith) (record { under = low z l; above = high z h })
  where
    low : (z : ℤ) → pos 0 ≤ℤ z → (pos d *ℤ pos 0) ≤ℤ z
    low = rep _ (λ a b. simp lin (omega arith))

    high : (z : ℤ) → nat_abs z < d → z <ℤ (pos d *ℤ pos 0 +ℤ pos d)
    high = rep _ (λ a b. simp sizes (omega arith))

pub floor_below : (z : ℤ) (d : ℕ) → z <ℤ pos 0 → nat_abs z ≤ d → floor_div z d ≡ negsuc 0
floor_below z d l h = floor_is z (negsuc 0) d (some z l h) (record { under = low z l h; above = high z l })
  where
    some : (z : ℤ) → z <ℤ pos 0 → nat_abs z ≤ d → 0 < d
    some = rep _ (λ a b. simp lin (omega arith))

    low : (z : ℤ) → z <ℤ pos 0 → nat_abs z ≤ d → (pos d *ℤ negsuc 0) ≤ℤ z
    low = rep _ (λ a b. simp lin (omega arith))

    high : (z : ℤ) → z <ℤ pos 0 → z <ℤ (pos d *ℤ negsuc 0 +ℤ pos d)
    high = rep _ (λ a b. simp lin (omega arith))

-- so a factor that leads no further changes nothing
pub floor_tiny : (z : ℤ) (d k : ℕ) → 0 < k → k * nat_abs z < d → floor_div (pos k *ℤ z) d ≡ floor_div z d
floor_tiny z d k h l = ⊎_elim
    (λ (s : pos 0 ≤ℤ z). floor_none (pos k *ℤ z) d (0≤* (pos k) z (le_pos 0 k (le_of_lt h)) s) many ∙ sym (floor_none z d s one))
    (λ (s : z <ℤ pos 0). floor_below (pos k *ℤ z) d (minus z h s) (le_of_lt many) ∙ sym (floor_below z d s (le_of_lt one)))
    (≤-total (pos 0) z)
  where
    many : nat_abs (pos k *ℤ z) < d
    many = rw (abs-* (pos k) z) l

    one : nat_abs z < d
    one = omega (arith, mul-le-mul_right (nat_abs z) h)

    minus : (z : ℤ) → 0 < k → z <ℤ pos 0 → (pos k *ℤ z) <ℤ pos 0
    minus = rep _ (λ a b. simp lin (λ h s. omega (arith, mul-lt-mul_of_pos_left s h)))

-- a multiple of the divisor is divided exactly
pub floor_exact : (q : ℤ) (d : ℕ) → 0 < d → floor_div (pos d *ℤ q) d ≡ q
floor_exact q d h = floor_is (pos d *ℤ q) q d h (record { under = ≤ℤ_refl (pos d *ℤ q); above = high q h })
  where
    high : (q : ℤ) → 0 < d → (pos d *ℤ q) <ℤ (pos d *ℤ q +ℤ pos d)
    high = rep _ (λ a b. simp lin (omega arith))

pub *-cancel : (d : ℕ) (x y : ℤ) → 0 < d → pos d *ℤ x ≡ pos d *ℤ y → x ≡ y
*-cancel d x y h e = sym (floor_exact x d h) ∙ ap (λ (z : ℤ). floor_div z d) e ∙ floor_exact y d h

-- a fraction may be reduced: a common factor g goes out
pub floor_reduced : (z : ℤ) (d g : ℕ) → 0 < d → 0 < g → floor_div (pos g *ℤ z) (g * d) ≡ floor_div z d
floor_reduced z d g h k =
    let f = floored z d h in
    floor_is (pos g *ℤ z) (floor_div z d) (g * d) (omega (arith, mul-le-mul_right d k))
    (record { under = low z (floor_div z d) f.under; above = high z (floor_div z d) f.above })
  where
    low : (z q : ℤ) → (pos d *ℤ q) ≤ℤ z → (pos (g * d) *ℤ q) ≤ℤ (pos g *ℤ z)
    low = rep₂ _ (λ a b c e. simp lin (λ h. omega (arith, mul-le-mul_left g h)))

    high : (z q : ℤ) → z <ℤ (pos d *ℤ q +ℤ pos d) → (pos g *ℤ z) <ℤ (pos (g * d) *ℤ q +ℤ pos (g * d))
    high = rep₂ _ (λ a b c e. simp lin (λ h. omega (arith, mul-le-mul_left g h)))

-- equal fractions, z / b and w / d, have one floor
pub floor_same : (z w : ℤ) (b d : ℕ) → 0 < b → 0 < d → pos d *ℤ z ≡ pos b *ℤ w → floor_div z b ≡ floor_div w d
floor_same z w b d h k e =
    sym (floor_reduced z b d h k) ∙ ap (λ (x : ℤ). floor_div x (d * b)) e ∙ ap (floor_div (pos b *ℤ w)) (mul_comm d b) ∙ floor_reduced w d b k h

-- the floor of a sum of two fractions, x / b and y / d, of which the first is a whole number
pub floor_sum : (x y w : ℤ) (b d : ℕ) → 0 < b → 0 < d → x ≡ pos b *ℤ w
    → floor_div (pos d *ℤ x +ℤ pos b *ℤ y) (b * d) ≡ w +ℤ floor_div y d
floor_sum x y w b d h k e =
    ap (λ (z : ℤ). floor_div (pos d *ℤ z +ℤ pos b *ℤ y) (b * d)) e
    ∙ ap (λ (z : ℤ). floor_div z (b * d)) (out y w)
    ∙ floor_reduced (y +ℤ pos d *ℤ w) d b k h
    ∙ floor_plus y w d k
    ∙ +ℤ_comm (floor_div y d) w
  where
    out : (y w : ℤ) → pos d *ℤ (pos b *ℤ w) +ℤ pos b *ℤ y ≡ pos b *ℤ (y +ℤ pos d *ℤ w)
    out = rep₂ _ (λ a c e f. simp lin (omega arith))

-- a floor of a floor is one
pub floor_of_floor : (z : ℤ) (d e : ℕ) → 0 < d → 0 < e → floor_div (floor_div z d) e ≡ floor_div z (d * e)
floor_of_floor z d e h k =
    let f = floor_div z d in
    let q = floor_div f e in
    let i = floored z d h in
    let o = floored f e k in
    sym (floor_is z q (d * e) (mul-pos h k) (record { under = low z f q o.under i.under; above = high z f q o.above i.above }))
  where
    low : (z f q : ℤ) → (pos e *ℤ q) ≤ℤ f → (pos d *ℤ f) ≤ℤ z → (pos (d * e) *ℤ q) ≤ℤ z
    low = rep₃ _ (λ a b c g i j. simp lin (λ h k. omega (arith, mul-le-mul_left d h)))

    high : (z f q : ℤ) → f <ℤ (pos e *ℤ q +ℤ pos e) → z <ℤ (pos d *ℤ f +ℤ pos d)
        → z <ℤ (pos (d * e) *ℤ q +ℤ pos (d * e))
    high = rep₃ _ (λ a b c g i j. simp lin (λ h k. omega (arith, mul-le-mul_left d h)))

-- ---- nearest: 2·d·q ≤ 2z + d < 2·d·q + 2·d
pub record Near (z : ℤ) (d : ℕ) (q : ℤ) : Type 0 where
  pub under : (pos 2 *ℤ (pos d *ℤ q)) ≤ℤ (pos 2 *ℤ z +ℤ pos d)
  pub above : (pos 2 *ℤ z +ℤ pos d) <ℤ (pos 2 *ℤ (pos d *ℤ q) +ℤ pos 2 *ℤ pos d)

twice : (d : ℕ) (q : ℤ) → pos (2 * d) *ℤ q ≡ pos 2 *ℤ (pos d *ℤ q)
twice d q = *-assoc (pos 2) (pos d) q

pub near : (z : ℤ) (d : ℕ) → 0 < d → Near z d (nearest z d)
unfolding nearest
near z d h =
    let f = floored (pos 2 *ℤ z +ℤ pos d) (2 * d) (omega arith) in
    let e = twice d (floor_div (pos 2 *ℤ z +ℤ pos d) (2 * d)) in
    record { under = rw e at f.under; above = rw e at f.above }

pub nearest_is : (z q : ℤ) (d : ℕ) → 0 < d → Near z d q → nearest z d ≡ q
unfolding nearest
nearest_is z q d h a =
    floor_is (pos 2 *ℤ z +ℤ pos d) q (2 * d) (omega arith) (record { under = rw (twice d q) a.under; above = rw (twice d q) a.above })

doubled : (d : ℕ) (x y : ℤ) → x ≤ℤ y → (pos 2 *ℤ x +ℤ pos d) ≤ℤ (pos 2 *ℤ y +ℤ pos d)
doubled d = rep₂ _ (λ a b c e. simp lin (omega arith))

pub nearest_order : (x y : ℤ) (d : ℕ) → 0 < d → x ≤ℤ y → nearest x d ≤ℤ nearest y d
unfolding nearest
nearest_order x y d h l = floor_order (pos 2 *ℤ x +ℤ pos d) (pos 2 *ℤ y +ℤ pos d) (2 * d) (omega arith) (doubled d x y l)

halved : (d : ℕ) (y z : ℤ) → (pos 2 *ℤ y) ≤ℤ (pos 2 *ℤ z +ℤ pos d)
    → (pos 2 *ℤ z +ℤ pos d) <ℤ (pos 2 *ℤ y +ℤ pos 2 *ℤ pos d) → nat_abs (pos 2 *ℤ (y -ℤ z)) ≤ d
halved d = rep₂ _ (λ a b c e. simp lin (omega arith))

-- a rounding is at most a half off: |2·(d·nearest − z)| ≤ d
pub within_half : (z : ℤ) (d : ℕ) → 0 < d → nat_abs (pos 2 *ℤ (pos d *ℤ nearest z d -ℤ z)) ≤ d
within_half z d h = let n = near z d h in halved d (pos d *ℤ nearest z d) z n.under n.above

carried_under : (d : ℕ) (z q k : ℤ) → (pos 2 *ℤ (pos d *ℤ q)) ≤ℤ (pos 2 *ℤ z +ℤ pos d)
    → (pos 2 *ℤ (pos d *ℤ (q +ℤ k))) ≤ℤ (pos 2 *ℤ (z +ℤ pos d *ℤ k) +ℤ pos d)
carried_under d = rep₃ _ (λ a b c e f g. simp lin (omega arith))

carried_above : (d : ℕ) (z q k : ℤ) → (pos 2 *ℤ z +ℤ pos d) <ℤ (pos 2 *ℤ (pos d *ℤ q) +ℤ pos 2 *ℤ pos d)
    → (pos 2 *ℤ (z +ℤ pos d *ℤ k) +ℤ pos d) <ℤ (pos 2 *ℤ (pos d *ℤ (q +ℤ k)) +ℤ pos 2 *ℤ pos d)
carried_above d = rep₃ _ (λ a b c e f g. simp lin (omega arith))

-- a multiple of the divisor goes through
pub nearest_plus : (z k : ℤ) (d : ℕ) → 0 < d → nearest (z +ℤ pos d *ℤ k) d ≡ nearest z d +ℤ k
nearest_plus z k d h =
    let n = near z d h in
    nearest_is (z +ℤ pos d *ℤ k) (nearest z d +ℤ k) d h
    (record { under = carried_under d z (nearest z d) k n.under; above = carried_above d z (nearest z d) k n.above })

-- a fraction may be reduced: a common factor g goes out
pub nearest_reduced : (z : ℤ) (d g : ℕ) → 0 < d → 0 < g → nearest (pos g *ℤ z) (g * d) ≡ nearest z d
unfolding nearest
nearest_reduced z d g h k =
    ap₂ floor_div (out z) (mul_left_comm 2 g d) ∙ floor_reduced (pos 2 *ℤ z +ℤ pos d) (2 * d) g (omega arith) k
  where
    out : (z : ℤ) → pos 2 *ℤ (pos g *ℤ z) +ℤ pos (g * d) ≡ pos g *ℤ (pos 2 *ℤ z +ℤ pos d)
    out = rep _ (λ a b. simp lin (omega arith))

-- equal fractions, z / b and w / d, are rounded alike
pub nearest_same : (z w : ℤ) (b d : ℕ) → 0 < b → 0 < d → pos d *ℤ z ≡ pos b *ℤ w → nearest z b ≡ nearest w d
nearest_same z w b d h k e =
    sym (nearest_reduced z b d h k) ∙ ap (λ (x : ℤ). nearest x (d * b)) e ∙ ap (nearest (pos b *ℤ w)) (mul_comm d b) ∙ nearest_reduced w d b k h

-- fractions in order, z / b ≤ w / d, are rounded in order
pub nearest_keeps : (z w : ℤ) (b d : ℕ) → 0 < b → 0 < d → (pos d *ℤ z) ≤ℤ (pos b *ℤ w) → nearest z b ≤ℤ nearest w d
nearest_keeps z w b d h k l =
    let left : nearest (pos d *ℤ z) (d * b) ≡ nearest z b = nearest_reduced z b d h k in
    let right : nearest (pos b *ℤ w) (d * b) ≡ nearest w d = ap (nearest (pos b *ℤ w)) (mul_comm d b) ∙ nearest_reduced w d b k h in
    rw (← left, ← right) (nearest_order (pos d *ℤ z) (pos b *ℤ w) (d * b) (mul-pos k h) l)

-- the nearest of a sum of two fractions, x / b and y / d, of which the first is a whole number
pub nearest_sum : (x y w : ℤ) (b d : ℕ) → 0 < b → 0 < d → x ≡ pos b *ℤ w
    → nearest (pos d *ℤ x +ℤ pos b *ℤ y) (b * d) ≡ w +ℤ nearest y d
unfolding nearest
nearest_sum x y w b d h k e =
    ap₂ floor_div (out x y) (mul_left_comm 2 b d) ∙ floor_sum x (pos 2 *ℤ y +ℤ pos d) w b (2 * d) h (omega arith) e
  where
    out : (x y : ℤ)
        → pos 2 *ℤ (pos d *ℤ x +ℤ pos b *ℤ y) +ℤ pos (b * d) ≡ pos (2 * d) *ℤ x +ℤ pos b *ℤ (pos 2 *ℤ y +ℤ pos d)
    out = rep₂ _ (λ a c e f. simp lin (omega arith))

-- less than half of the divisor is none
pub nearest_none : (z : ℤ) (d : ℕ) → 2 * nat_abs z < d → nearest z d ≡ pos 0
nearest_none z d h = nearest_is z (pos 0) d (omega arith) (record { under = low z h; above = high z h })
  where
    low : (z : ℤ) → 2 * nat_abs z < d → (pos 2 *ℤ (pos d *ℤ pos 0)) ≤ℤ (pos 2 *ℤ z +ℤ pos d)
    low = rep _ (λ a b. simp sizes (omega arith))

    high : (z : ℤ) → 2 * nat_abs z < d → (pos 2 *ℤ z +ℤ pos d) <ℤ (pos 2 *ℤ (pos d *ℤ pos 0) +ℤ pos 2 *ℤ pos d)
    high = rep _ (λ a b. simp sizes (omega arith))

-- ---- numbers at most a divisor apart are rounded to numbers at most one apart
one_up : (d : ℕ) (x y : ℤ) → nat_abs (x -ℤ y) ≤ d → (y ≤ℤ (x +ℤ pos d *ℤ pos 1)) × (x ≤ℤ (y +ℤ pos d *ℤ pos 1))
one_up d x y h = (up x y h, down x y h)
  where
    up : (x y : ℤ) → nat_abs (x -ℤ y) ≤ d → y ≤ℤ (x +ℤ pos d *ℤ pos 1)
    up = rep₂ _ (λ a b c e. simp lin (omega arith))

    down : (x y : ℤ) → nat_abs (x -ℤ y) ≤ d → x ≤ℤ (y +ℤ pos d *ℤ pos 1)
    down = rep₂ _ (λ a b c e. simp lin (omega arith))

one_apart : (q r : ℤ) → r ≤ℤ (q +ℤ pos 1) → q ≤ℤ (r +ℤ pos 1) → nat_abs (q -ℤ r) ≤ 1
one_apart = rep₂ _ (λ a b c e. simp lin (omega arith))

pub nearest_moves : (x y : ℤ) (d : ℕ) → 0 < d → nat_abs (x -ℤ y) ≤ d → nat_abs (nearest x d -ℤ nearest y d) ≤ 1
nearest_moves x y d h k =
    let o = one_up d x y k in
    one_apart (nearest x d) (nearest y d)
    (rw (nearest_plus x (pos 1) d h) at (nearest_order y (x +ℤ pos d *ℤ pos 1) d h o.0))
    (rw (nearest_plus y (pos 1) d h) at (nearest_order x (y +ℤ pos d *ℤ pos 1) d h o.1))

-- ---- sizes
from : (d n : ℕ) (x y : ℤ) → nat_abs (pos 2 *ℤ (x -ℤ y)) ≤ d → nat_abs y ≤ n → 2 * nat_abs x ≤ d + 2 * n
from d n = rep₂ _ (λ a b c e. simp sizes (omega arith))

half : (d m q : ℕ) → 0 < d → 2 * (d * q) ≤ d + 2 * (d * m) → q ≤ m
half d m q h k = let l : 2 * q ≤ 1 + 2 * m = le_of_mul-le-mul_left {k = d} (omega arith) h in omega arith

-- a number of at most m divisors is rounded to at most m
pub nearest_small : (z : ℤ) (d m : ℕ) → 0 < d → nat_abs z ≤ d * m → nat_abs (nearest z d) ≤ m
nearest_small z d m h k =
    let q = nearest z d in
    half d m (nat_abs q) h (omega (arith, from d (d * m) (pos d *ℤ q) z (within_half z d h) k, abs-* (pos d) q))

pub floor_small : (x : ℤ) (d m : ℕ) → 0 < d → nat_abs x ≤ d * m → nat_abs (floor_div x d) ≤ m
unfolding floor_div
floor_small (pos n) d m h k = le_of_mul-le-mul_left {k = d} (omega (arith, div-add-mod' n d, mul_comm d (n / d))) h
floor_small (negsuc n) d m h k =
    let l : n / d < m = lt_of_mul-lt-mul_left d (omega (arith, div-add-mod' n d, mul_comm d (n / d))) in omega arith

-- ---- a divisor by two floors: half of what the first leaves of it is added before the second
cut_under : (d half : ℕ) (x f q : ℤ) → (pos (2 * half) *ℤ q) ≤ℤ (f +ℤ pos half) → (pos d *ℤ f) ≤ℤ x
    → (pos 2 *ℤ (pos (d * (2 * half)) *ℤ q)) ≤ℤ (pos 2 *ℤ x +ℤ pos (d * (2 * half)))
cut_under d half = rep₃ _ (λ a b c e g i. simp lin (λ h k. omega (arith, mul-le-mul_left d h)))

cut_above : (d half : ℕ) (x f q : ℤ) → (f +ℤ pos half) <ℤ (pos (2 * half) *ℤ q +ℤ pos (2 * half))
    → x <ℤ (pos d *ℤ f +ℤ pos d)
    → (pos 2 *ℤ x +ℤ pos (d * (2 * half))) <ℤ (pos 2 *ℤ (pos (d * (2 * half)) *ℤ q) +ℤ pos 2 *ℤ pos (d * (2 * half)))
cut_above d half = rep₃ _ (λ a b c e g i. simp lin (λ h k. omega (arith, mul-le-mul_left d h)))

pub nearest_cut : (z : ℤ) (d half : ℕ) → 0 < d → 0 < half
    → nearest z (d * (2 * half)) ≡ floor_div (floor_div z d +ℤ pos half) (2 * half)
nearest_cut z d half h k =
    let f = floor_div z d in
    let q = floor_div (f +ℤ pos half) (2 * half) in
    let i = floored z d h in
    let o = floored (f +ℤ pos half) (2 * half) (omega arith) in
    nearest_is z q (d * (2 * half)) (mul-pos h (omega arith))
    (record { under = cut_under d half z f q o.under i.under; above = cut_above d half z f q o.above i.above })

-- an even divisor
pub nearest_even : (z : ℤ) (half : ℕ) → 0 < half → nearest z (2 * half) ≡ floor_div (z +ℤ pos half) (2 * half)
unfolding nearest
nearest_even z half h =
    ap (λ (x : ℤ). floor_div x (2 * (2 * half))) (out z) ∙ floor_reduced (z +ℤ pos half) (2 * half) 2 (omega arith) (lit< tt)
  where
    out : (z : ℤ) → pos 2 *ℤ z +ℤ pos (2 * half) ≡ pos 2 *ℤ (z +ℤ pos half)
    out = rep _ (λ a b. simp lin (omega arith))

-- a fraction may be cut to an even part of one before it is rounded
pub nearest_of_floor : (z : ℤ) (d half : ℕ) → 0 < d → 0 < half
    → nearest z d ≡ nearest (floor_div (pos (2 * half) *ℤ z) d) (2 * half)
nearest_of_floor z d half h k =
    sym (nearest_reduced z d (2 * half) h (omega arith))
    ∙ ap (nearest (pos (2 * half) *ℤ z)) (mul_comm (2 * half) d)
    ∙ nearest_cut (pos (2 * half) *ℤ z) d half h k
    ∙ sym (nearest_even (floor_div (pos (2 * half) *ℤ z) d) half k)

pub nearest_twice : (z : ℤ) (d : ℕ) → 0 < d → nearest z (2 * d) ≡ floor_div (floor_div z d +ℤ pos 1) 2
nearest_twice z d h = ap (nearest z) (mul_comm 2 d) ∙ nearest_cut z d 1 h (lit< tt)

-- ---- a product u·b with b split at d: where b = d·h + l, its floor is u·h + ⌊u·l / d⌋
split : (d u b h : ℤ) → d *ℤ (u *ℤ h) +ℤ u *ℤ (b -ℤ d *ℤ h) ≡ u *ℤ b
split = rep₄ _ (λ a b c d e f g h. simp lin (omega arith))

pub floor_split : (u b h : ℤ) (d : ℕ) → 0 < d → u *ℤ h +ℤ floor_div (u *ℤ (b -ℤ pos d *ℤ h)) d ≡ floor_div (u *ℤ b) d
floor_split u b h d k =
    +ℤ_comm (u *ℤ h) (floor_div (u *ℤ (b -ℤ pos d *ℤ h)) d)
    ∙ sym (floor_plus (u *ℤ (b -ℤ pos d *ℤ h)) (u *ℤ h) d k)
    ∙ ap (λ (x : ℤ). floor_div x d) (+ℤ_comm (u *ℤ (b -ℤ pos d *ℤ h)) (pos d *ℤ (u *ℤ h)) ∙ split (pos d) u b h)
