-- What shifts of the code do to numbers, and a product in two pieces, of which the sum is cut:
-- every number on the way fits 64 bits. Nothing here is about doubles. `read` is what the machine
-- makes of a number. Assumes nothing.
use mathlib.Core.Path.{◌≡◌, refl, sym, ap, ◌∙◌}
use Prim.Native.Nat.{ℕ, suc, ◌+◌, ◌-◌, ◌*◌, ◌/◌, ◌%◌, ◌^◌, ◌≤◌, ◌<◌}
use native.Mathlib.Nat.{one-mul, div-add-mod', mod-lt, mod-eq_of_lt, mul-le-mul_right}
use native.Mathlib.Omega.{arith}
use lib.Bits.{bit_and, and_mask}
use lib.Dec.{lit<}
use lib.IntN.{ℤ, pos, negsuc, nat_abs, ◌+ℤ◌, ◌-ℤ◌, ◌*ℤ◌}
use lib.Pow.{pow-add, pow_pos, pow_mono}
use lib.Signed.{shr_z, ◌≤ℤ◌, ◌<ℤ◌}
use mir.Syntax.{w64}
use mir.Val.{SFits, to_z, of_z}
use mir.ValLaws.{to_z_pos}
use Rattle.numbers.specs.Rounding.{floor_div}
use Rattle.numbers.proofs.Differences.{rep, rep₂, rep₃, lin}
use Rattle.numbers.proofs.Order.{size-*, size-+}
use Rattle.numbers.proofs.Machine.{fits, fits_range, fits_size, fits_small, fits_under, read}
use Rattle.numbers.proofs.Machine.{read_is, shr_floor}
use Rattle.numbers.proofs.Rounding.{floored, floor_of_floor, floor_plus, floor_rest, floor_small}
use Rattle.numbers.proofs.Rounding.{floor_split}
use Rattle.dates.specs.Inner.{Cut, left_by}

-- ---- whole multiples of the divisor change nothing of what is left
left_plus : (d : ℕ) (z t : ℤ) → 0 < d → left_by d (z +ℤ pos d *ℤ t) ≡ left_by d z
left_plus d z t h = rw (floor_plus z t d h) (go z t (floor_div z d))
  where
    go : (z t f : ℤ) → z +ℤ pos d *ℤ t -ℤ pos d *ℤ (f +ℤ t) ≡ z -ℤ pos d *ℤ f
    go = rep₃ _ (λ a b c e f g. simp lin (omega arith))

left_pos : (d n : ℕ) → pos (n % d) ≡ left_by d (pos n)
unfolding floor_div
left_pos d n = go n (n / d) (n % d) (div-add-mod' n d)
  where
    go : (n q r : ℕ) → q * d + r ≡ n → pos r ≡ pos n -ℤ pos d *ℤ pos q
    go n q r e = simp lin (omega arith)

-- ---- the bits of a number, and of a shifted one, are multiples of 2^64 off
record Off (z bits : ℤ) : Type 0 where
  times : ℤ
  is : bits ≡ z +ℤ pos 18446744073709551616 *ℤ times

bits_off : (z : ℤ) → SFits w64 z → Off z (pos (of_z w64 z))
bits_off (pos n) f = record { times = pos 0; is = go (pos n) }
  where
    go : (z : ℤ) → z ≡ z +ℤ pos 18446744073709551616 *ℤ pos 0
    go = rep _ (λ a b. simp lin (omega arith))
bits_off (negsuc n) f = record { times = pos 1; is = go n f.sfits (negsuc n) refl }
  where
    go : (n : ℕ) → n < 9223372036854775808 → (z : ℤ) → z ≡ negsuc n
        → pos (18446744073709551616 - suc n) ≡ z +ℤ pos 18446744073709551616 *ℤ pos 1
    go n h = rep _ (λ a b. simp lin (omega arith))

shifted_off : (z : ℤ) (p : ℕ) → SFits w64 z → Off (pos p *ℤ z) (pos (of_z w64 z * p % 18446744073709551616))
shifted_off z p f =
    let n = of_z w64 z in
    let o = bits_off z f in
    let q = n * p / 18446744073709551616 in
    record {
      times = pos p *ℤ o.times -ℤ pos q;
      is = go n q (n * p % 18446744073709551616) (div-add-mod' (n * p) 18446744073709551616) z o.times o.is;
    }
  where
    go : (n q r : ℕ) → q * 18446744073709551616 + r ≡ n * p → (z t : ℤ)
        → pos n ≡ z +ℤ pos 18446744073709551616 *ℤ t
        → pos r ≡ pos p *ℤ z +ℤ pos 18446744073709551616 *ℤ (pos p *ℤ t -ℤ pos q)
    go n q r e = rep₂ _ (λ a b c d. simp lin (λ i. omega (arith, ap (λ (x : ℕ). x * p) i)))

-- ---- 1 << k
one_shl : (k : ℕ) → k ≤ 62 → to_z w64 (1 * 2 ^ k % 18446744073709551616) ≡ pos (2 ^ k)
one_shl k h =
    let l : 2 ^ k ≤ 4611686018427387904 = pow_mono {i = k} {j = 62} h in
    let g : 2 ^ k < 18446744073709551616 = omega arith in
    ap (λ (z : ℕ). to_z w64 (z % 18446744073709551616)) (one-mul (2 ^ k)) ∙ ap (to_z w64) (mod-eq_of_lt g) ∙ to_z_pos w64 (2 ^ k) (omega arith)

-- ---- (z << more), and of that the last digits
module _ (many : ℕ) (few : many ≤ 62) where
  abbrev M : ℕ
  M = 2 ^ many

  M_small : M ≤ 4611686018427387904
  M_small = pow_mono {i = many} {j = 62} few

  abbrev one : ℤ
  one = to_z w64 (1 * M % 18446744073709551616)

  mask : one -ℤ pos 1 ≡ pos (M - 1)
  mask = go M (pow_pos many) one (one_shl many few)
    where
      go : (m : ℕ) → 0 < m → (z : ℤ) → z ≡ pos m → z -ℤ pos 1 ≡ pos (m - 1)
      go m h = rep _ (λ a b. simp lin (omega arith))

  pub mask_fits : SFits w64 (one -ℤ pos 1)
  mask_fits = rw mask (let s = M_small in fits (pos (M - 1)) (omega arith))

  pub last_digits_are : (z : ℤ) (p : ℕ) → SFits w64 z
      → to_z w64 (bit_and (of_z w64 z * p % 18446744073709551616) (of_z w64 (one -ℤ pos 1))) ≡ left_by M (pos p *ℤ z)
  last_digits_are z p f =
      let r = of_z w64 z * p % 18446744073709551616 in
      let o = shifted_off z p f in
      ap (λ (w : ℤ). to_z w64 (bit_and r (of_z w64 w))) mask
      ∙ ap (to_z w64) (and_mask r many)
      ∙ to_z_pos w64 (r % M) (let s = M_small in let l = mod-lt r (pow_pos many) in omega arith)
      ∙ left_pos M r
      ∙ ap (left_by M) (o.is ∙ ap (λ (w : ℤ). pos p *ℤ z +ℤ w) (split o.times))
      ∙ left_plus M (pos p *ℤ z) (pos (2 ^ (64 - many)) *ℤ o.times) (pow_pos many)
    where
      powers : M * 2 ^ (64 - many) ≡ 18446744073709551616
      powers = sym (pow-add 2 many (64 - many)) ∙ ap (λ (k : ℕ). 2 ^ k) (go many few)
        where
          go : (k : ℕ) → k ≤ 62 → k + (64 - k) ≡ 64
          go k h = omega arith

      split : (t : ℤ) → pos 18446744073709551616 *ℤ t ≡ pos M *ℤ (pos (2 ^ (64 - many)) *ℤ t)
      split = go M (2 ^ (64 - many)) powers
        where
          go : (m c : ℕ) → m * c ≡ 18446744073709551616 → (t : ℤ)
              → pos 18446744073709551616 *ℤ t ≡ pos m *ℤ (pos c *ℤ t)
          go m c e = rep _ (λ a b. simp lin (omega (arith, ap (λ (x : ℕ). x * a) e, ap (λ (x : ℕ). x * b) e)))

-- ---- the numbers of a product: b is split at 2^31, and the low product cut there
abbrev high : ℤ → ℤ
high b = floor_div b 2147483648

abbrev taken : ℤ → ℤ
taken b = pos 2147483648 *ℤ high b

abbrev low : ℤ → ℤ
low b = b -ℤ taken b

abbrev fine : ℕ → ℤ → ℤ
fine odd b = floor_div (pos odd *ℤ low b) 2147483648

abbrev product : ℕ → ℤ → ℤ
product odd b = pos odd *ℤ high b +ℤ fine odd b

-- ---- as the code makes them
abbrev high_of : ℤ → ℤ
high_of b = shr_z (read b) 2147483648

abbrev taken_of : ℤ → ℤ
taken_of b = pos 2147483648 *ℤ read (high_of b)

abbrev low_of : ℤ → ℤ
low_of b = read b -ℤ read (taken_of b)

abbrev coarse_of : ℕ → ℤ → ℤ
coarse_of odd b = to_z w64 odd *ℤ read (high_of b)

abbrev rest_of : ℕ → ℤ → ℤ
rest_of odd b = to_z w64 odd *ℤ read (low_of b)

abbrev product_of : ℕ → ℤ → ℤ
product_of odd b = read (coarse_of odd b) +ℤ read (shr_z (read (rest_of odd b)) 2147483648)

pub record CutSafe (odd : ℕ) (b : ℤ) (by : ℕ) : Type 0 where
  pub taken : SFits w64 (taken_of b)
  pub low : SFits w64 (low_of b)
  pub coarse : SFits w64 (coarse_of odd b)
  pub rest : SFits w64 (rest_of odd b)
  pub product : SFits w64 (product_of odd b)
  pub is : read (shr_z (read (product_of odd b)) (2 ^ by)) ≡ floor_div (pos odd *ℤ b) (2 ^ (31 + by))

module _ (odd : ℕ) (b : ℤ) (by : ℕ) (f : SFits w64 b) (c : Cut odd by) where
  high_small : nat_abs (high b) ≤ 4294967296
  high_small = floor_small b 2147483648 4294967296 (lit< tt) (fits_size b f)

  -- −2^63 is among the multiples
  taken_kept : SFits w64 (taken b)
  taken_kept = let o = floored b 2147483648 (lit< tt) in fits_range (taken b) (bottom (high b) high_small) (top b (taken b) o.under (fits_under b f))
    where
      bottom : (h : ℤ) → nat_abs h ≤ 4294967296 → negsuc 9223372036854775807 ≤ℤ (pos 2147483648 *ℤ h)
      bottom = rep _ (λ a b. simp lin (omega arith))

      top : (b t : ℤ) → t ≤ℤ b → b <ℤ pos 9223372036854775808 → t <ℤ pos 9223372036854775808
      top = rep₂ _ (λ a b c d. simp lin (omega arith))

  low_small : nat_abs (low b) ≤ 2147483648
  low_small = floor_rest b 2147483648 (lit< tt)

  coarse_small : nat_abs (pos odd *ℤ high b) ≤ 6442450944000000000
  coarse_small = size-* (pos odd) (high b) c.small high_small

  rest_small : nat_abs (pos odd *ℤ low b) ≤ 3221225472000000000
  rest_small = size-* (pos odd) (low b) c.small low_small

  fine_small : nat_abs (fine odd b) ≤ 1500000000
  fine_small = floor_small (pos odd *ℤ low b) 2147483648 1500000000 (lit< tt) rest_small

  product_small : nat_abs (product odd b) ≤ 6442450945500000000
  product_small = size-+ (pos odd *ℤ high b) (fine odd b) coarse_small fine_small

  cut_small : nat_abs (floor_div (product odd b) (2 ^ by)) ≤ 6442450945500000000
  cut_small =
      let s = product_small in
      floor_small (product odd b) (2 ^ by) 6442450945500000000 (pow_pos by) (omega (arith, mul-le-mul_right 6442450945500000000 (pow_pos by)))

  -- each of them fits, so that what the code makes of it is itself
  high_is : read (high_of b) ≡ high b
  high_is = rw (read_is b f, shr_floor b 2147483648) (read_is (high b) (fits_small (high b) 4294967296 high_small (lit< tt)))

  taken_is : taken_of b ≡ taken b
  taken_is = rw high_is

  low_kept : SFits w64 (low b)
  low_kept = fits_small (low b) 2147483648 low_small (lit< tt)

  low_is : low_of b ≡ low b
  low_is = rw (taken_is, read_is b f, read_is (taken b) taken_kept)

  odd_is : to_z w64 odd ≡ pos odd
  odd_is = let h = c.small in to_z_pos w64 odd (omega arith)

  coarse_kept : SFits w64 (pos odd *ℤ high b)
  coarse_kept = fits_small (pos odd *ℤ high b) 6442450944000000000 coarse_small (lit< tt)

  coarse_is : coarse_of odd b ≡ pos odd *ℤ high b
  coarse_is = rw (high_is, odd_is)

  rest_kept : SFits w64 (pos odd *ℤ low b)
  rest_kept = fits_small (pos odd *ℤ low b) 3221225472000000000 rest_small (lit< tt)

  rest_is : rest_of odd b ≡ pos odd *ℤ low b
  rest_is = rw (low_is, odd_is, read_is (low b) low_kept)

  fine_is : read (shr_z (read (rest_of odd b)) 2147483648) ≡ fine odd b
  fine_is =
      rw (rest_is, read_is (pos odd *ℤ low b) rest_kept, shr_floor (pos odd *ℤ low b) 2147483648)
      (read_is (fine odd b) (fits_small (fine odd b) 1500000000 fine_small (lit< tt)))

  product_kept : SFits w64 (product odd b)
  product_kept = fits_small (product odd b) 6442450945500000000 product_small (lit< tt)

  product_is : product_of odd b ≡ product odd b
  product_is = rw (fine_is, coarse_is, read_is (pos odd *ℤ high b) coarse_kept)

  -- the two cuts are one
  cut_once : floor_div (product odd b) (2 ^ by) ≡ floor_div (pos odd *ℤ b) (2 ^ (31 + by))
  cut_once =
      ap (λ (z : ℤ). floor_div z (2 ^ by)) (floor_split (pos odd) b (high b) 2147483648 (lit< tt))
      ∙ floor_of_floor (pos odd *ℤ b) 2147483648 (2 ^ by) (lit< tt) (pow_pos by)
      ∙ ap (floor_div (pos odd *ℤ b)) (sym (pow-add 2 31 by))

  pub cut_safe : CutSafe odd b by
  cut_safe = record {
    taken = rw taken_is taken_kept;
    low = rw low_is low_kept;
    coarse = rw coarse_is coarse_kept;
    rest = rw rest_is rest_kept;
    product = rw product_is product_kept;
    is =
        rw (product_is, read_is (product odd b) product_kept, shr_floor (product odd b) (2 ^ by))
        (read_is _ (fits_small _ 6442450945500000000 cut_small (lit< tt)) ∙ cut_once);
  }
