-- What an `i64` of the code says of integers: that a number fits and reads back from its bits, what
-- a test of two of them leaves, tests that say the same, and that >> is a floor and << a product.
-- Assumes nothing.
use mathlib.Core.Path.{◌≡◌, refl, sym, ap, subst, ◌∙◌}
use mathlib.Core.Bool.{Bool, true, false, not, ◌&&◌}
use mathlib.Core.Logic.{⊎_elim}
use Prim.Native.Nat.{ℕ, suc, ◌+◌, ◌-◌, ◌*◌, ◌%◌, ◌^◌, ◌<◌, ◌≤◌, zero-le}
use native.Mathlib.Nat.{zero-lt-suc, le_trans, le_of_eq, div-le_self, add-mul, mul_comm, mul-one, mul-pos, mul-le-mul_left, mod-eq_of_lt}
use native.Mathlib.Omega.{arith}
use borrow.Author.Tests.{eq-eqb, ne_eqb, eqb-true, eqb-false}
use lib.Dec.{T, eqb, leb, leb→le, le→leb, lt→ltb, ltb→lt}
use lib.IntN.{ℤ, pos, negsuc, neg_ℤ, nat_abs, ◌+ℤ◌, ◌-ℤ◌, ◌*ℤ◌, +ℤ_idl}
use lib.Pow.{pow_pos}
use lib.Signed.{◌≤ℤ◌, ◌<ℤ◌, lt_z, le_z, lt_z_no, shr_z, non_neg}
use Rattle.numbers.proofs.Differences.{rep₂, lin, rep}
use Rattle.numbers.proofs.Order.{le_pos, ≤-total, abs_neg, gap_none, none_gap}
use mir.Syntax.{w64}
use mir.Val.{Fits, SFits, to_z, of_z}
use Rattle.numbers.specs.Rounding.{floor_div}
use Rattle.numbers.specs.Signs.{gap}
use mir.ValLaws.{to_z-of_z, to_z_pos}
use mir.Facts.{and_yes, yes_and}

-- a number below 2^63 either way fits
pub fits : (z : ℤ) → nat_abs z < 2 ^ 63 → SFits w64 z
fits (pos n) h = record { sfits = h }
fits (negsuc n) h = record { sfits = omega arith }

-- ---- the two outcomes of a test, as a branch leaves them
pub lt_yes : (x y : ℤ) → lt_z x y ≡ true → x <ℤ y
lt_yes x y e = record { lt = subst T (sym e) tt }

pub lt_no : (x y : ℤ) → lt_z x y ≡ false → y ≤ℤ x
lt_no x y e = lt_z_no {a = x} {b = y} (subst (λ (b : Bool). T (not b)) (sym e) tt)

pub le_yes : (x y : ℤ) → le_z x y ≡ true → x ≤ℤ y
le_yes x y e = record { le = subst T (sym e) tt }

pub clash : (x y : ℤ) → x <ℤ y → y ≤ℤ x → ⊥
clash = rep₂ _ (λ a b c d. simp lin (omega arith))

pub is_true : (b : Bool) → T b → b ≡ true
is_true true t = refl
is_true false t = absurd t

is_false : (b : Bool) → (T b → ⊥) → b ≡ false
is_false true n = absurd (n tt)
is_false false n = refl

-- ---- and the test's value, from what holds
pub yes_le : (x y : ℤ) → x ≤ℤ y → le_z x y ≡ true
yes_le x y h = is_true (le_z x y) h.le

pub yes_lt : (x y : ℤ) → x <ℤ y → lt_z x y ≡ true
yes_lt x y h = is_true (lt_z x y) h.lt

pub no_lt : (x y : ℤ) → y ≤ℤ x → lt_z x y ≡ false
no_lt x y h = is_false (lt_z x y) (λ t. clash x y (record { lt = t }) h)

pub no_le : (x y : ℤ) → y <ℤ x → le_z x y ≡ false
no_le x y h = is_false (le_z x y) (λ t. clash y x h (record { le = t }))

-- `!(x < y)` is y ≤ x
pub not_lt : (x y : ℤ) → not (lt_z x y) ≡ le_z y x
not_lt x y = ⊎_elim
    (λ (h : y ≤ℤ x). let a = no_lt x y h in let b = yes_le y x h in rw (a, b))
    (λ (h : x <ℤ y). let a = yes_lt x y h in let b = no_le y x h in rw (a, b))
    (≤-total y x)

-- ---- z >> k is the floor of z / 2^k
pub shr_floor : (z : ℤ) (d : ℕ) → shr_z z d ≡ floor_div z d
unfolding floor_div
shr_floor (pos n) d = refl
shr_floor (negsuc n) d = refl

-- ---- the bits of a number, read back
abbrev pub read : ℤ → ℤ
read z = to_z w64 (of_z w64 z)

pub read_is : (z : ℤ) → SFits w64 z → read z ≡ z
read_is z f = to_z-of_z w64 z f

pub fits_size : (z : ℤ) → SFits w64 z → nat_abs z ≤ 2 ^ 63
fits_size (pos n) f = let h = f.sfits in omega arith
fits_size (negsuc n) f = let h = f.sfits in omega arith

pub fits_small : (z : ℤ) (m : ℕ) → nat_abs z ≤ m → m < 2 ^ 63 → SFits w64 z
fits_small z m s k = fits z (omega arith)

-- what fits lies from −2^63 to below 2^63, and back
pub fits_under : (z : ℤ) → SFits w64 z → z <ℤ pos (2 ^ 63)
fits_under (pos n) f = record { lt = lt→ltb n (2 ^ 63) f.sfits }
fits_under (negsuc n) f = record { lt = tt }

pub fits_range : (z : ℤ) → negsuc 9223372036854775807 ≤ℤ z → z <ℤ pos (2 ^ 63) → SFits w64 z
fits_range (pos n) l g = record { sfits = ltb→lt n (2 ^ 63) g.lt }
fits_range (negsuc n) l g = let h = leb→le n 9223372036854775807 l.le in record { sfits = omega arith }

-- so a floor of what fits does too
pub floor_fits : (z : ℤ) (d : ℕ) → SFits w64 z → SFits w64 (floor_div z d)
unfolding floor_div
floor_fits (pos n) d f = let h = f.sfits in record { sfits = omega (arith, div-le_self n d) }
floor_fits (negsuc n) d f = let h = f.sfits in record { sfits = omega (arith, div-le_self n d) }

-- ---- x·y + z, as the code makes it
pub record Sum (x y z : ℤ) : Type 0 where
  pub product_fits : SFits w64 (read x *ℤ read y)
  pub sum_fits : SFits w64 (read (read x *ℤ read y) +ℤ read z)
  pub is : read (read (read x *ℤ read y) +ℤ read z) ≡ x *ℤ y +ℤ z

pub summed : (x y z : ℤ) → SFits w64 x → SFits w64 y → SFits w64 z → SFits w64 (x *ℤ y) → SFits w64 (x *ℤ y +ℤ z)
    → Sum x y z
summed x y z kx ky kz p s = record {
  product_fits = rw (read_is x kx, read_is y ky) p;
  sum_fits = rw (read_is x kx, read_is y ky, read_is z kz, read_is (x *ℤ y) p) s;
  is = rw (read_is x kx, read_is y ky, read_is z kz, read_is (x *ℤ y) p) (read_is (x *ℤ y +ℤ z) s);
}

-- ---- two numbers of the same bits are the same
pub same_bits : (x y : ℤ) → SFits w64 x → SFits w64 y → of_z w64 x ≡ of_z w64 y → x ≡ y
same_bits x y f g e = sym (read_is x f) ∙ ap (to_z w64) e ∙ read_is y g

-- so `x == y` is a test of two naturals that are the same exactly where x and y are
pub equal_test : (x y : ℤ) (n m : ℕ) → SFits w64 x → SFits w64 y → (x ≡ y → n ≡ m) → (n ≡ m → x ≡ y)
    → eqb (of_z w64 x) (of_z w64 y) ≡ eqb n m
equal_test x y n m f g to back = by (eqb (of_z w64 x) (of_z w64 y)) refl
  where
    by : (t : Bool) → eqb (of_z w64 x) (of_z w64 y) ≡ t → t ≡ eqb n m
    by true e = sym (eq-eqb n m (to (same_bits x y f g (eqb-true _ _ e))))
    by false e = sym (ne_eqb n m (λ d. eqb-false (of_z w64 x) (of_z w64 y) e (ap (of_z w64) (back d))))

-- and that the two are none apart
pub none_apart : (x y : ℤ) → SFits w64 x → SFits w64 y → eqb (of_z w64 x) (of_z w64 y) ≡ eqb (gap x y) 0
none_apart x y f g = equal_test x y (gap x y) 0 f g (none_gap x y) (gap_none x y)

-- ---- two tests that hold together are one
same_test : (a b : Bool) → (T a → T b) → (T b → T a) → a ≡ b
same_test true true f g = refl
same_test true false f g = absurd (f tt)
same_test false true f g = absurd (g tt)
same_test false false f g = refl

pub same_le : (x y z w : ℤ) → (x ≤ℤ y → z ≤ℤ w) → (z ≤ℤ w → x ≤ℤ y) → le_z x y ≡ le_z z w
same_le x y z w f g = same_test (le_z x y) (le_z z w) (λ t. (f (record { le = t })).le) (λ t. (g (record { le = t })).le)

-- a bound of a size is two tests
size_low : (n : ℕ) (z : ℤ) → nat_abs z ≤ n → neg_ℤ (pos n) ≤ℤ z
size_low n = rep _ (λ a b. simp lin (omega arith))

size_high : (n : ℕ) (z : ℤ) → nat_abs z ≤ n → z ≤ℤ pos n
size_high n = rep _ (λ a b. simp lin (omega arith))

size_both : (n : ℕ) (z : ℤ) → neg_ℤ (pos n) ≤ℤ z → z ≤ℤ pos n → nat_abs z ≤ n
size_both n = rep _ (λ a b. simp lin (omega arith))

pub size_test : (n : ℕ) (z : ℤ) → (le_z (neg_ℤ (pos n)) z && le_z z (pos n)) ≡ leb (nat_abs z) n
size_test n z = same_test (le_z (neg_ℤ (pos n)) z && le_z z (pos n)) (leb (nat_abs z) n)
    (λ t. let b = and_yes (le_z (neg_ℤ (pos n)) z) (le_z z (pos n)) t in le→leb (nat_abs z) n (size_both n z (record { le = b.0 }) (record { le = b.1 })))
    (λ t. let h = leb→le (nat_abs z) n t in yes_and (le_z (neg_ℤ (pos n)) z) (le_z z (pos n)) (size_low n z h).le (size_high n z h).le)

-- ---- −n, for an n that the code has as a `u64`: `-(n as i64)`
module _ (n : ℕ) (h : n < 2 ^ 63) where
  minus_read : pos 0 -ℤ to_z w64 n ≡ neg_ℤ (pos n)
  minus_read = rw (to_z_pos w64 n h) (+ℤ_idl (neg_ℤ (pos n)))

  pub minus_fits : SFits w64 (pos 0 -ℤ to_z w64 n)
  minus_fits = rw minus_read (fits (neg_ℤ (pos n)) (omega (arith, abs_neg (pos n))))

  pub minus_is : to_z w64 (of_z w64 (pos 0 -ℤ to_z w64 n)) ≡ neg_ℤ (pos n)
  minus_is = to_z-of_z w64 _ minus_fits ∙ minus_read

-- ---- −1 − z, for a z below 0: it fits where −z does not, and is one short of |z|
pub flip : (k : ℕ) → negsuc 0 -ℤ negsuc k ≡ pos k
flip k = over (negsuc k) refl
  where
    over : (x : ℤ) → x ≡ negsuc k → negsuc 0 -ℤ x ≡ pos k
    over = rep _ (λ a b. simp lin (omega arith))

pub record Flipped (z : ℤ) : Type 0 where
  pub fits : SFits w64 (negsuc 0 -ℤ z)
  pub cast : T (non_neg (negsuc 0 -ℤ z)) × Fits w64 (nat_abs (negsuc 0 -ℤ z))
  pub sum : Fits w64 (nat_abs (negsuc 0 -ℤ z) + 1)
  pub is : nat_abs (negsuc 0 -ℤ z) + 1 ≡ nat_abs z

pub flipped : (z : ℤ) → SFits w64 z → z <ℤ pos 0 → Flipped z
flipped (pos n) f l = absurd (clash (pos n) (pos 0) l (le_pos 0 n zero-le))
flipped (negsuc k) f l = let h = f.sfits in record {
  fits = rw (flip k) (record { sfits = h });
  cast = rw (flip k) (tt, record { fits = omega arith });
  sum = rw (flip k) (record { fits = omega arith });
  is = rw (flip k) (omega arith);
}

-- and a z that is not below 0 is its size
pub natural_cast : (z : ℤ) → SFits w64 z → pos 0 ≤ℤ z → T (non_neg z) × Fits w64 (nat_abs z)
natural_cast (pos k) f l = let h = f.sfits in (tt, record { fits = omega arith })
natural_cast (negsuc k) f l = absurd l.le

-- ---- z << k is 2^k·z, where that fits
shl_bits : (n p : ℕ) → 0 < p → suc n * p < 9223372036854775808
    → (18446744073709551616 - suc n) * p % 18446744073709551616 ≡ 18446744073709551616 - suc (suc n * p - 1)
shl_bits n p h l =
    let some : suc n ≤ suc n * p = le_trans (le_of_eq (sym (mul-one (suc n)))) (mul-le-mul_left (suc n) h) in
    let all = add-mul (suc n) (18446744073709551616 - suc n) p in
    let whole : suc n + (18446744073709551616 - suc n) ≡ 18446744073709551616 = omega arith in
    omega (arith, all, ap (λ (c : ℕ). c * p) whole)

shl_sign : (n p : ℕ) → 0 < suc n * p → negsuc (suc n * p - 1) ≡ pos p *ℤ negsuc n
shl_sign n p h = simp lin (omega (arith, mul_comm (suc n) p))

pub shl_is : (z : ℤ) (k : ℕ) → nat_abs z * 2 ^ k < 2 ^ 63
    → to_z w64 (of_z w64 z * 2 ^ k % 18446744073709551616) ≡ pos (2 ^ k) *ℤ z
shl_is (pos n) k h =
    let small : n * 2 ^ k < 18446744073709551616 = omega arith in
    ap (to_z w64) (mod-eq_of_lt small) ∙ to_z_pos w64 (n * 2 ^ k) h ∙ ap pos (mul_comm n (2 ^ k))
shl_is (negsuc n) k h =
    ap (to_z w64) (shl_bits n (2 ^ k) (pow_pos k) h)
    ∙ to_z-of_z w64 (negsuc (suc n * 2 ^ k - 1)) (record { sfits = omega arith })
    ∙ shl_sign n (2 ^ k) (mul-pos (zero-lt-suc n) (pow_pos k))
