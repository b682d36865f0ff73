-- A quotient of two whole numbers as one rounded division, and how far it is from the quotient; so
-- a part of a day has its tick for its nearest. Assumes nothing.
use mathlib.Core.Path.{◌≡◌, sym, ap, ◌∙◌, subst}
use mathlib.Core.Bool.{Bool, true, false, not, cond, true≢false}
use Prim.Native.Nat.{ℕ, zero, suc, ◌+◌, ◌-◌, ◌*◌, ◌/◌, ◌%◌, ◌^◌, ◌≤◌, ◌<◌, compare, Ordering}
use native.Mathlib.Nat.{le_of_lt, lt_of_lt_of_le, lt_irrefl, lt_of_mul-lt-mul_right, mod-lt}
use native.Mathlib.Nat.{add-mul, div-add-mod', div-lt_iff_lt-mul, mul-one, zero-mul, mul_comm}
use native.Mathlib.Nat.{mul_assoc, mul_left_comm, mul-pos, mul-le-mul_left, mul-le-mul_right}
use native.Mathlib.Nat.{mul-lt-mul_of_pos_right}
use native.Mathlib.Omega.{arith}
use lib.Dec.{T, eqb, is_le, compare_is_eq, leb→le, nleb→lt, eqb→eq, eqb_refl, eqb-suc-zero, lit≤}
use lib.Dec.{lit<}
use lib.Arith.{lt_of_le-ne}
use lib.Pow.{pow-add, pow_pos, pow_mono, shl_lt}
use lib.IntN.{pos}
use lib.Ieee.{Float, nan, inf, fin, Format, binary64, up, down, size, nearest, round, div, of_int}
use lib.Ieee.Digits.{size-le}
use lib.Ieee.Fits.{down_pos}
use lib.Ieee.Exact.{HasValue, round_exact}
use lib.Ieee.Nearest.{closest}
use lib.Ieee.Order.{drop, kept}
use lib.Ieee.Scale.{round_same, round_val, grid}
use lib.Ieee.Back.{round_whole}
use Rattle.dates.specs.Ticks.{day_ticks, ticks_rounded}
use Rattle.dates.proofs.Values.{nearest_sized, ticks_of}

-- ---- a whole number is cast exactly
whole_value : (n : ℕ) → n ≤ 2 ^ 53 → HasValue (of_int binary64 (pos n)) false n 1
unfolding of_int
whole_value n h = round_whole binary64 false n h

-- ---- x / y, for whole numbers a and b: one rounding of a / b
some : (n u b d : ℕ) → 0 < b → 0 < d → n * u * 1 ≡ b * d → 0 < n * u
some n u b d B D e = subst (λ (z : ℕ). 0 < z) (sym e ∙ mul-one (n * u)) (mul-pos B D)

not_zero : (n u : ℕ) (x y : Float) → 0 < n * u → cond (eqb n 0) x y ≡ y
not_zero zero u x y h = absurd (lt_irrefl 0 (subst (λ (z : ℕ). 0 < z) (zero-mul u) h))
not_zero (suc n) u x y h = ap (λ (t : Bool). cond t x y) (eqb-suc-zero n)

cross : (m n de dd a b : ℕ) → m * 1 ≡ a * de → n * 1 ≡ b * dd → m * dd * b ≡ a * (n * de)
cross m n de dd a b p q =
    let mid : a * de * dd * b ≡ a * (b * dd * de) = simp (mul_assoc, mul_comm, mul_left_comm) in
    ap (λ (z : ℕ). z * dd * b) (sym (mul-one m) ∙ p) ∙ mid ∙ ap (λ (z : ℕ). a * (z * de)) (sym q ∙ mul-one n)

div_at : (f : Format) (x y : Float) (a b : ℕ) → 0 < b → HasValue x false a 1 → HasValue y false b 1
    → div f x y ≡ round f false a b
unfolding div
div_at f nan y a b B h k = absurd h
div_at f (inf s) y a b B h k = absurd h
div_at f (fin s m e) nan a b B h k = absurd k
div_at f (fin s m e) (inf t) a b B h k = absurd k
div_at f (fin true m e) (fin t n d) a b B h k = absurd (true≢false h.0)
div_at f (fin false m e) (fin true n d) a b B h k = absurd (true≢false k.0)
div_at f (fin false m e) (fin false n d) a b B h k =
    let p = some n (up d) b (down d) B (down_pos d) k.1 in
    not_zero n (up d) _ _ p
    ∙ round_same f false (m * up e * down d) (n * up d * down e) a b (mul-pos p (down_pos e)) B
    (cross (m * up e) (n * up d) (down e) (down d) a b h.1 k.1)

-- equal quotients of whole numbers are rounded alike
pub same_quotient : (a b c d : ℕ) → a ≤ 2 ^ 53 → b ≤ 2 ^ 53 → c ≤ 2 ^ 53 → d ≤ 2 ^ 53 → 0 < b → 0 < d
    → a * d ≡ c * b
    → div binary64 (of_int binary64 (pos a)) (of_int binary64 (pos b))
    ≡ div binary64 (of_int binary64 (pos c)) (of_int binary64 (pos d))
same_quotient a b c d ha hb hc hd B D e =
    div_at binary64 (of_int binary64 (pos a)) (of_int binary64 (pos b)) a b B (whole_value a ha) (whole_value b hb)
    ∙ round_same binary64 false a b c d B D e
    ∙ sym (div_at binary64 (of_int binary64 (pos c)) (of_int binary64 (pos d)) c d D (whole_value c hc) (whole_value d hd))

-- ---- `closest a b` is at most a half off a / b, times b
abbrev Cmp : Ordering → ℕ → ℕ → Type 0
Cmp Ordering.lt a b = a < b
Cmp Ordering.eq a b = a ≡ b
Cmp Ordering.gt a b = b < a

cmp : (a b : ℕ) → Cmp (compare a b) a b
cmp a b = go (compare a b) (leb→le a b) (nleb→lt a b) (eqb→eq a b) (λ (e : a ≡ b). subst (λ (x : ℕ). T (eqb a x)) e (eqb_refl a))
  where
    go : (o : Ordering) → (T (is_le o) → a ≤ b) → (T (not (is_le o)) → b < a) → (T (compare_is_eq o) → a ≡ b)
        → (a ≡ b → T (compare_is_eq o)) → Cmp o a b
    go Ordering.lt h k e n = lt_of_le-ne (h tt) n
    go Ordering.eq h k e n = e tt
    go Ordering.gt h k e n = k tt

off : (q r u : ℕ) (o : Ordering) → Cmp o (r * 2) u → r < u
    → (2 * (nearest q o * u) ≤ 2 * (q * u + r) + u) × (2 * (q * u + r) ≤ 2 * (nearest q o * u) + u)
off q r u Ordering.lt c h = omega arith
off q r u Ordering.eq c h = let w : q % 2 ≤ 1 = omega arith in omega (arith, add-mul q (q % 2) u, mul-le-mul_right u w)
off q r u Ordering.gt c h = omega (arith, add-mul q 1 u)

half_off : (n u : ℕ) → 0 < u → (2 * (closest n u * u) ≤ 2 * n + u) × (2 * n ≤ 2 * (closest n u * u) + u)
half_off n u h =
    subst (λ (z : ℕ). (2 * (closest n u * u) ≤ 2 * z + u) × (2 * z ≤ 2 * (closest n u * u) + u)) (div-add-mod' n u)
    (off (n / u) (n % u) u (compare (n % u * 2) u) (cmp (n % u * 2) u) (mod-lt n h))

-- ---- t / n rounded to a double, for t < n, in units of 2^-1074: twice n times the error is at
-- most n·2^1021
abbrev unit : ℕ
unit = 2 ^ 1074

abbrev share : ℕ
share = 2 ^ 1021

module _ (t n : ℕ) (N : 0 < n) (h : t < n) where
  -- few enough digits are dropped
  dropped : drop 53 (t * unit) n ≤ 1021
  dropped =
      less (size (t * unit / n))
      (size-le (t * unit / n) 1074 ((div-lt_iff_lt-mul N).1 (subst (λ (z : ℕ). t * unit < z) (mul_comm n unit) (mul-lt-mul_of_pos_right h (pow_pos 1074)))))
    where
      less : (z : ℕ) → z ≤ 1074 → z - 53 ≤ 1021
      less z l = omega arith

  same : grid binary64 t n * n ≡ kept 53 (t * unit) n * (n * 2 ^ drop 53 (t * unit) n)
  same = turn (kept 53 (t * unit) n) (2 ^ drop 53 (t * unit) n) n
    where
      turn : (k p n : ℕ) → k * p * n ≡ k * (n * p)
      turn k p n = simp (mul_assoc, mul_comm, mul_left_comm)

  error : (2 * (grid binary64 t n * n) ≤ 2 * (t * unit) + n * share)
      × (2 * (t * unit) ≤ 2 * (grid binary64 t n * n) + n * share)
  error =
      rw same
      (wider _ _ _ (n * share) (mul-le-mul_left n (pow_mono dropped))
      (half_off (t * unit) (n * 2 ^ drop 53 (t * unit) n) (mul-pos N (pow_pos (drop 53 (t * unit) n)))))
    where
      wider : (a b u v : ℕ) → u ≤ v → (2 * a ≤ 2 * b + u) × (2 * b ≤ 2 * a + u)
          → (2 * a ≤ 2 * b + v) × (2 * b ≤ 2 * a + v)
      wider a b u v l p = omega arith

-- ---- a part of a day: G stands for `grid`, M for the unit, L for the share of an error
day_share : day_ticks * share < unit
day_share = lit< tt

module _ (t g M L : ℕ) (h : t < day_ticks) (l : day_ticks * L < M)
    (e : (2 * (g * day_ticks) ≤ 2 * (t * M) + day_ticks * L) × (2 * (t * M) ≤ 2 * (g * day_ticks) + day_ticks * L))
  where
    nearest_size : (2 * (M * t) ≤ 2 * (g * day_ticks) + M) × (2 * (g * day_ticks) + M < 2 * (M * t) + 2 * M)
    nearest_size = omega (arith, mul_comm M t)

    less_than_day : g < M
    less_than_day = lt_of_mul-lt-mul_right day_ticks (let k : g * day_ticks < M * day_ticks = omega (arith, mul-le-mul_right M h) in k)

-- t ticks of a day, as a double of days
abbrev part_of_day : ℕ → Float
part_of_day t = div binary64 (of_int binary64 (pos t)) (of_int binary64 (pos day_ticks))

module _ (t : ℕ) (h : t < day_ticks) where
  pub part_under : grid binary64 t day_ticks < unit
  part_under = less_than_day t (grid binary64 t day_ticks) unit share h day_share (error t day_ticks (lit< tt) h)

  pub part_value : HasValue (part_of_day t) false (grid binary64 t day_ticks) unit
  part_value =
      rw
      (div_at binary64 (of_int binary64 (pos t)) (of_int binary64 (pos day_ticks)) t day_ticks (lit< tt)
      (whole_value t (le_of_lt (lt_of_lt_of_le h (lit≤ tt)))) (whole_value day_ticks (lit≤ tt)))
      (round_val binary64 t day_ticks (lt_of_lt_of_le part_under (pow_mono {i = 1074} {j = 2098} (lit≤ tt))))

  -- 'Reading it back gives the same tick', of the second part
  pub part_ticks : ticks_rounded day_ticks (part_of_day t) ≡ pos t
  part_ticks =
      let g = grid binary64 t day_ticks in
      ticks_of (part_of_day t) g unit day_ticks (pow_pos 1074) part_value
      ∙ nearest_sized (g * day_ticks) unit t (pow_pos 1074) (nearest_size t g unit share h day_share (error t day_ticks (lit< tt) h))

-- ---- a half of a whole number is exact
pub half_value : (n : ℕ) → n < 2 ^ 53
    → HasValue (div binary64 (of_int binary64 (pos n)) (of_int binary64 (pos 2))) false n 2
half_value n h =
    rw (div_at binary64 (of_int binary64 (pos n)) (of_int binary64 (pos 2)) n 2 (lit< tt) (whole_value n (le_of_lt h)) (whole_value 2 (lit≤ tt)))
    (round_exact binary64 false n 2 n 1073 (lit< tt) h
    (lt_of_lt_of_le (shl_lt 53 1073 h) (pow_mono {i = 1126} {j = 2098} (lit≤ tt)))
    (turn n (2 ^ 1073) (2 ^ 1074) (pow-add 2 1073 1)))
  where
    turn : (n p q : ℕ) → q ≡ p * 2 → n * q ≡ n * p * 2
    turn n p q e = ap (λ (z : ℕ). n * z) e ∙ sym (mul_assoc n p 2)
