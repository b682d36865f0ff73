-- From a double's value to its ticks, and to the pieces and shares of the code. Assumes nothing.
use borrow.Author.Tests.{not-true}
use mathlib.Core.Path.{◌≡◌, refl, sym, ap, ◌∙◌, subst}
use mathlib.Core.Logic.{inl, inr}
use mathlib.Core.Bool.{Bool, true, false, not}
use Prim.Native.Nat.{ℕ, ◌+◌, ◌-◌, ◌*◌, ◌^◌, ◌≤◌, ◌<◌}
use native.Mathlib.Nat.{le_of_lt, le_trans, le_of_eq, lt_of_le_of_lt, lt_of_lt_of_le, lt_irrefl}
use native.Mathlib.Nat.{lt_of_not-le, le-add_right, div-mul-le_self, mul-pos}
use native.Mathlib.Nat.{mul-lt-mul_of_pos_left, one-mul, mul_comm, mul_assoc, mul_left_comm}
use native.Mathlib.Nat.{mul-le-mul, mul-le-mul_left, mul-le-mul_right, le_of_mul-le-mul_left}
use lib.Signed.{◌≤ℤ◌}
use native.Mathlib.Omega.{arith}
use lib.Arith.{le→nltb}
use lib.Dec.{T, nltb→le, lit≤, lit<}
use lib.Pow.{pow-add, pow_pos, pow_mono}
use lib.IntN.{ℤ, pos, neg_ℤ, nat_abs, ◌+ℤ◌, ◌*ℤ◌}
use lib.Ieee.{Float, nan, inf, fin, up, down}
use lib.Ieee.Fits.{down_pos}
use lib.Ieee.Exact.{HasValue}
use lib.Ieee.Scale.{finite}
use Rattle.numbers.specs.Rounding.{floor_div, nearest}
use Rattle.numbers.proofs.Differences.{rep, lin, sizes}
use Rattle.numbers.proofs.Ring.{*-assoc, *-left-comm, one-*}
use Rattle.numbers.proofs.Order.{abs_neg, abs-*, size-*}
use Rattle.numbers.proofs.Flags.{both}
use Rattle.numbers.proofs.Rounding.{*-cancel, floor_reduced, floor_rest, floor_same, floor_small}
use Rattle.numbers.proofs.Rounding.{floor_split, floor_tiny, nearest_is, nearest_same}
use Rattle.dates.specs.declared.span.Span.{Span}
use Rattle.numbers.specs.Signs.{signed}
use Rattle.dates.specs.Doubles.{numerator, denominator, beyond}
use Rattle.dates.specs.Ticks.{ticks_rounded}
use Rattle.dates.specs.Inner.{Apart, Counted, Factored, Far, Pieces, Readable, few_units, left_by}
use Rattle.dates.specs.Inner.{passing, shares_of}

-- ---- signs
pub signed_times : (s : Bool) (k n : ℕ) → pos k *ℤ signed s n ≡ signed s (k * n)
signed_times false k n = refl
signed_times true k n = simp lin (omega arith)

pub signed_size : (s : Bool) (n : ℕ) → nat_abs (signed s n) ≡ n
signed_size false n = refl
signed_size true n = abs_neg (pos n)

-- ---- a value, as the page's fraction
pub den_pos : (x : Float) → 0 < denominator x
unfolding denominator
den_pos nan = lit< tt
den_pos (inf s) = lit< tt
den_pos (fin s m e) = down_pos e

pub value_of : (x : Float) (s : Bool) (a c : ℕ) → HasValue x s a c
    → pos c *ℤ numerator x ≡ pos (denominator x) *ℤ signed s a
unfolding numerator denominator
value_of nan s a c v = absurd v
value_of (inf t) s a c v = absurd v
value_of (fin t m e) s a c v =
    signed_times t c (m * up e)
    ∙ ap (λ (b : Bool). signed b (c * (m * up e))) v.0
    ∙ ap (signed s) (mul_comm c (m * up e) ∙ v.1 ∙ mul_comm a (down e))
    ∙ sym (signed_times s (down e) a)

-- the ticks of z / c units
ticks_at : (x : Float) (z : ℤ) (c n : ℕ) → 0 < c → pos c *ℤ numerator x ≡ pos (denominator x) *ℤ z
    → ticks_rounded n x ≡ nearest (pos n *ℤ z) c
unfolding ticks_rounded
ticks_at x z c n C v =
    nearest_same (pos n *ℤ numerator x) (pos n *ℤ z) (denominator x) c (den_pos x) C
    (*-left-comm (pos c) (pos n) (numerator x) ∙ ap (λ (w : ℤ). pos n *ℤ w) v ∙ *-left-comm (pos n) (pos (denominator x)) z)

pub ticks_of : (x : Float) (a c n : ℕ) → 0 < c → HasValue x false a c → ticks_rounded n x ≡ nearest (pos (a * n)) c
ticks_of x a c n C v = ticks_at x (pos a) c n C (value_of x false a c v) ∙ ap (λ (z : ℕ). nearest (pos z) c) (mul_comm n a)

-- r is nearest to x / d
pub nearest_sized : (x d r : ℕ) → 0 < d → (2 * (d * r) ≤ 2 * x + d) × (2 * x + d < 2 * (d * r) + 2 * d)
    → nearest (pos x) d ≡ pos r
nearest_sized x d r h b = nearest_is (pos x) (pos r) d h (record { under = simp lin (omega (arith, b)); above = simp lin (omega (arith, b)) })

-- ---- a double within a range
in_range_lem : (most : ℕ) (x : Float) → Readable most x → nat_abs (numerator x) ≤ most * denominator x
unfolding numerator denominator beyond
in_range_lem most nan h = absurd h.finitely
in_range_lem most (inf t) h = absurd h.finitely
in_range_lem most (fin t m e) h = rw (signed_size t (m * up e)) (nltb→le (most * down e) (m * up e) h.within)

-- ---- a double taken apart, of exponent e and so of 1075 − e places
module _ (x : Float) (digits : ℤ) (e : ℕ) (t : Apart x digits e) where
  abbrev N : ℕ
  N = nat_abs (numerator x)

  abbrev D : ℕ
  D = denominator x

  abbrev m : ℕ
  m = nat_abs digits

  abbrev Value : Type 0
  Value = pos (2 ^ 1075) *ℤ numerator x ≡ pos D *ℤ (pos (2 ^ e) *ℤ digits)

  size : Value → 2 ^ 1075 * N ≡ D * (2 ^ e * m)
  size v = sym (abs-* (pos (2 ^ 1075)) (numerator x)) ∙ ap nat_abs v ∙ abs-* (pos D) (pos (2 ^ e) *ℤ digits)
      ∙ ap (λ (z : ℕ). D * z) (abs-* (pos (2 ^ e)) digits)

  -- the range, in the digits' units
  in_units : (most : ℕ) → Readable most x → Value → 2 ^ e * m ≤ 2 ^ 1075 * most
  in_units most p v =
      le_of_mul-le-mul_left
      (le_trans (le_of_eq (sym (size v))) (le_trans (mul-le-mul_left (2 ^ 1075) (in_range_lem most x p)) (le_of_eq (turn (2 ^ 1075) most D))))
      (den_pos x)
    where
      turn : (c n d : ℕ) → c * (n * d) ≡ d * (c * n)
      turn c n d = simp (mul_comm, mul_left_comm)

  -- how large the exponent is at most: so few units
  pub exponent_reach : (twos : ℕ) → twos ≤ 16 → Readable (few_units twos) x → e + twos ≤ 1065
  exponent_reach twos w p = elim t.value [
    | inl z ↦ low e z w
    | inr v ↦
        let most = few_units twos in
        let least : 2 ^ (e + 52 + twos) ≤ 2 ^ e * m * 2 ^ twos =
        le_trans (le_of_eq (pow-add 2 (e + 52) twos ∙ ap (λ (z : ℕ). z * 2 ^ twos) (pow-add 2 e 52)))
        (mul-le-mul_right (2 ^ twos) (mul-le-mul_left (2 ^ e) t.least)) in
        let over : 2 ^ e * m * 2 ^ twos ≤ 2 ^ 1075 * (10000000000 * 2 ^ 9) =
        le_trans (mul-le-mul_right (2 ^ twos) (in_units most p v))
        (le_trans (le_of_eq (mul_assoc (2 ^ 1075) most (2 ^ twos))) (mul-le-mul_left (2 ^ 1075) (div-mul-le_self (10000000000 * 2 ^ 9) (2 ^ twos)))) in
        let under : 2 ^ (e + 52 + twos) < 2 ^ 1118 = lt_of_le_of_lt (le_trans least over) (lit< tt) in
        go e twos (lt_of_not-le (λ (g : 1118 ≤ e + 52 + twos). lt_irrefl (2 ^ 1118) (lt_of_le_of_lt (pow_mono g) under)))
  ]
    where
      low : (e : ℕ) → e ≡ 0 → twos ≤ 16 → e + twos ≤ 1065
      low e z w = omega arith

      go : (e k : ℕ) → e + 52 + k < 1118 → e + k ≤ 1065
      go e k h = omega arith

  -- ---- from 2^20 days on: the leading digit is not missing, and few digits are below a day
  module _ (f : Far x) where
    large : 2 ^ 20 * D ≤ N
    large = go (numerator x) (2 ^ 20 * D) f.far
      where
        go : (z : ℤ) (n : ℕ) → pos n ≤ℤ z → n ≤ nat_abs z
        go = rep _ (λ a b n. simp sizes (omega arith))

    over : 2 ^ 1095 * D ≤ D * (2 ^ e * m)
    over =
        le_trans (le_of_eq (ap (λ (z : ℕ). z * D) (pow-add 2 1075 20) ∙ mul_assoc (2 ^ 1075) (2 ^ 20) D))
        (le_trans (mul-le-mul_left (2 ^ 1075) large) t.under)

    reached : 2 ^ 1095 < 2 ^ (e + 53)
    reached =
        lt_of_le_of_lt (le_of_mul-le-mul_left (le_trans (le_of_eq (mul_comm D (2 ^ 1095))) over) (den_pos x))
        (lt_of_lt_of_le (mul-lt-mul_of_pos_left t.small (pow_pos e)) (le_of_eq (sym (pow-add 2 e 53))))

    pub far_exponent : 1043 ≤ e
    far_exponent = go e (lt_of_not-le (λ (g : e + 53 ≤ 1095). lt_irrefl (2 ^ 1095) (lt_of_lt_of_le reached (pow_mono g))))
      where
        go : (e : ℕ) → 1095 < e + 53 → 1043 ≤ e
        go e h = omega arith

    far_value : Value
    far_value = elim t.value [
      | inl z ↦ absurd (go e z far_exponent)
      | inr w ↦ w
    ]
      where
        go : (e : ℕ) → e ≡ 0 → 1043 ≤ e → ⊥
        go e z g = omega arith

    pub far_positive : (k : ℕ) → digits ≡ neg_ℤ (pos k) → ⊥
    far_positive k i = go (2 ^ 1075) D (2 ^ e) k (pow_pos 1075) (den_pos x) (numerator x) f.far (far_value ∙ rw i)
      where
        go : (c d p k : ℕ) → 0 < c → 0 < d → (n : ℤ) → pos (1048576 * d) ≤ℤ n
            → pos c *ℤ n ≡ pos d *ℤ (pos p *ℤ neg_ℤ (pos k)) → ⊥
        go c d p k C E = rep _ (λ a b. simp lin (λ h i. omega (arith, mul-le-mul_left c h, mul-pos C E)))

    pub far_exact : pos D *ℤ (pos (2 ^ (e - 1043)) *ℤ digits) ≡ pos (2 ^ 32) *ℤ numerator x
    far_exact =
        *-cancel (2 ^ 1043) _ _ (pow_pos 1043)
        (up_again (2 ^ 1043) (2 ^ (e - 1043)) (2 ^ e) powers digits
        ∙ sym far_value
        ∙ ap (λ (z : ℕ). pos z *ℤ numerator x) (pow-add 2 1043 32)
        ∙ *-assoc (pos (2 ^ 1043)) (pos (2 ^ 32)) (numerator x))
      where
        powers : 2 ^ 1043 * 2 ^ (e - 1043) ≡ 2 ^ e
        powers = sym (pow-add 2 1043 (e - 1043)) ∙ ap (λ (z : ℕ). 2 ^ z) (go e far_exponent)
          where
            go : (e : ℕ) → 1043 ≤ e → 1043 + (e - 1043) ≡ e
            go e h = omega arith

        up_again : (c q p : ℕ) → c * q ≡ p → (z : ℤ) → pos c *ℤ (pos D *ℤ (pos q *ℤ z)) ≡ pos D *ℤ (pos p *ℤ z)
        up_again c q p i = rep _ (λ a b. simp lin (omega (arith, ap (λ (n : ℕ). D * n * a) i, ap (λ (n : ℕ). D * n * b) i)))

  -- the value in the digits' units, of which one has 2^(1075 − e)
  module _ (h : e ≤ 1075) where
    abbrev P : ℕ
    P = 2 ^ (1075 - e)

    whole : 2 ^ e * P ≡ 2 ^ 1075
    whole = sym (pow-add 2 e (1075 - e)) ∙ ap (λ (z : ℕ). 2 ^ z) (go e h)
      where
        go : (e : ℕ) → e ≤ 1075 → e + (1075 - e) ≡ 1075
        go e h = omega arith

    -- ---- past 116 places: less than a share
    scaled : P * N ≤ D * m
    scaled =
        le_of_mul-le-mul_left
        (le_trans (le_of_eq (sym (mul_assoc (2 ^ e) P N) ∙ ap (λ (z : ℕ). z * N) whole)) (le_trans t.under (le_of_eq (mul_left_comm D (2 ^ e) m))))
        (pow_pos e)

    module _ (g : 116 < 1075 - e) where
      few : (k : ℕ) → k ≤ 2 ^ 63 → k * N < D
      few k l =
          go (k * N) N D (mul-le-mul_right N l)
          (le_trans (mul-le-mul_right N (pow_mono g)) (le_trans scaled (mul-le-mul_left D (le_of_lt t.small))))
          (den_pos x)
        where
          go : (w y d : ℕ) → w ≤ 9223372036854775808 * y
              → 166153499473114484112975882535043072 * y ≤ d * 9007199254740992 → 0 < d → w < d
          go w y d p q r = omega arith

      pub below_one : N < D
      below_one = subst (λ (z : ℕ). z < D) (one-mul N) (few 1 (lit≤ tt))

      pub tiny_part : (odd twos : ℕ) (span : Span) → Factored odd twos → span.units ≡ pos 0
          → span.rest ≡ floor_div (numerator x) D
          → Counted odd twos x span
      unfolding shares_of
      tiny_part odd twos span f u r = record {
        is = rw u (none odd span.rest ∙ r ∙ sym (floor_tiny (numerator x) D k (mul-pos (lit< tt) (mul-pos f.some (pow_pos twos))) (few k k_small)));
        small = record { units = rw u (lit≤ tt); rest = rw r (le_trans (floor_small (numerator x) D 1 (den_pos x) (omega (arith, below_one))) (lit≤ tt)) };
      }
        where
          k : ℕ
          k = 65536 * (odd * 2 ^ twos)

          k_small : k ≤ 2 ^ 63
          k_small = le_trans (mul-le-mul_left 65536 (mul-le-mul f.small (pow_mono f.low))) (lit≤ tt)

          none : (n : ℕ) (z : ℤ) → pos n *ℤ pos 0 +ℤ z ≡ z
          none n = rep _ (λ a b. simp lin (omega arith))

    -- ---- up to there the leading digit is not missing
    module _ (g : 1075 - e ≤ 116) where
      v : Value
      v = elim t.value [
        | inl z ↦ absurd (go e z g)
        | inr w ↦ w
      ]
        where
          go : (e : ℕ) → e ≡ 0 → 1075 - e ≤ 116 → ⊥
          go e z g = omega arith

      all : (n : ℕ) → floor_div (pos n *ℤ numerator x) D ≡ floor_div (pos n *ℤ digits) P
      all n =
          floor_same (pos n *ℤ numerator x) (pos n *ℤ (pos (2 ^ e) *ℤ digits)) D (2 ^ 1075) (den_pos x) (pow_pos 1075)
          (*-left-comm (pos (2 ^ 1075)) (pos n) (numerator x) ∙ ap (λ (w : ℤ). pos n *ℤ w) v ∙ *-left-comm (pos n) (pos D) (pos (2 ^ e) *ℤ digits))
          ∙ ap (λ (z : ℤ). floor_div z (2 ^ 1075)) (*-left-comm (pos n) (pos (2 ^ e)) digits)
          ∙ ap (floor_div (pos (2 ^ e) *ℤ (pos n *ℤ digits))) (sym whole)
          ∙ floor_reduced (pos n *ℤ digits) P (2 ^ e) (pow_pos (1075 - e)) (pow_pos e)

      -- in shares: c·digits·odd over d, where 2^(16 + twos)·d is c·P
      in_shares : (c d odd twos : ℕ) → 0 < d → 65536 * 2 ^ twos * d ≡ c * P
          → shares_of (odd * 2 ^ twos) x ≡ floor_div (pos odd *ℤ (pos c *ℤ digits)) d
      unfolding shares_of
      in_shares c d odd twos k i =
          all (65536 * (odd * 2 ^ twos))
          ∙ floor_same (pos (65536 * (odd * 2 ^ twos)) *ℤ digits) (pos odd *ℤ (pos c *ℤ digits)) P d (pow_pos (1075 - e)) k
          (turn odd (2 ^ twos) c d P i digits)
        where
          turn : (o a c d p : ℕ) → 65536 * a * d ≡ c * p → (f : ℤ)
              → pos d *ℤ (pos (65536 * (o * a)) *ℤ f) ≡ pos p *ℤ (pos o *ℤ (pos c *ℤ f))
          turn o a c d p i = rep _ (λ x y. simp lin (omega (arith, ap (λ (z : ℕ). o * x * z) i, ap (λ (z : ℕ). o * y * z) i)))

      -- less than a piece
      pub small_part : (odd twos : ℕ) (span : Span) → Factored odd twos → 47 + twos < 1075 - e → span.units ≡ pos 0
          → span.rest ≡ floor_div (pos odd *ℤ digits) (2 ^ (31 + (1075 - e - 47 - twos)))
          → Counted odd twos x span
      small_part odd twos span f g u r =
          let by = 1075 - e - 47 - twos in
          record {
            is =
                rw u (none odd span.rest)
                ∙ r
                ∙ ap (λ (z : ℤ). floor_div (pos odd *ℤ z) (2 ^ (31 + by))) (sym (one-* digits))
                ∙ sym (in_shares 1 (2 ^ (31 + by)) odd twos (pow_pos (31 + by)) (powers by));
            small = record { units = rw u (lit≤ tt); rest = rw r (floor_small (pos odd *ℤ digits) (2 ^ (31 + by)) (2 ^ 53) (pow_pos (31 + by)) (sized by)) };
          }
        where
          none : (n : ℕ) (z : ℤ) → pos n *ℤ pos 0 +ℤ z ≡ z
          none n = rep _ (λ a b. simp lin (omega arith))

          powers : (by : ℕ) → 65536 * 2 ^ twos * 2 ^ (31 + (1075 - e - 47 - twos)) ≡ 1 * P
          powers by =
              ap (λ (z : ℕ). z * 2 ^ (31 + (1075 - e - 47 - twos))) (sym (pow-add 2 16 twos))
              ∙ sym (pow-add 2 (16 + twos) (31 + (1075 - e - 47 - twos)))
              ∙ ap (λ (z : ℕ). 2 ^ z) (go twos (1075 - e) g)
              ∙ sym (one-mul P)
            where
              go : (a k : ℕ) → 47 + a < k → 16 + a + (31 + (k - 47 - a)) ≡ k
              go a k l = omega arith

          sized : (by : ℕ) → nat_abs (pos odd *ℤ digits) ≤ 2 ^ (31 + by) * 2 ^ 53
          sized by =
              size-* (pos odd) digits
              (le_trans f.small (le_trans (lit≤ tt) (pow_mono {i = 31} {j = 31 + by} (le-add_right 31 by)))) (le_of_lt t.small)

      -- pieces
      pub piece_part : (odd twos : ℕ) (span : Span) → 1075 - e ≤ 47 + twos
          → Pieces odd (pos (2 ^ (47 + twos - (1075 - e))) *ℤ digits) span
          → Counted odd twos x span
      piece_part odd twos span g p = record {
        is = p.is ∙ sym (in_shares (2 ^ (47 + twos - (1075 - e))) (2 ^ 31) odd twos (pow_pos 31) powers);
        small = p.small;
      }
        where
          powers : 65536 * 2 ^ twos * 2 ^ 31 ≡ 2 ^ (47 + twos - (1075 - e)) * P
          powers =
              ap (λ (z : ℕ). z * 2 ^ 31) (sym (pow-add 2 16 twos))
              ∙ sym (pow-add 2 (16 + twos) 31)
              ∙ ap (λ (z : ℕ). 2 ^ z) (go twos (1075 - e) g)
              ∙ pow-add 2 (47 + twos - (1075 - e)) (1075 - e)
            where
              go : (a k : ℕ) → k ≤ 47 + a → 16 + a + 31 ≡ 47 + a - k + k
              go a k l = omega arith

-- ---- digits in pieces: what is left of one is cut to shares
pub pieces_are : (odd : ℕ) (digits units rest : ℤ) → odd ≤ 1500000000 → nat_abs units ≤ 2 ^ 59
    → units ≡ floor_div digits (2 ^ 31)
    → rest ≡ floor_div (pos odd *ℤ left_by (2 ^ 31) digits) (2 ^ 31)
    → Pieces odd digits (record { units = units; rest = rest })
pieces_are odd digits units rest o l u r = record {
  is = rw (u, r) (floor_split (pos odd) digits (floor_div digits (2 ^ 31)) (2 ^ 31) (pow_pos 31));
  small = record {
    units = l;
    rest = rw r (floor_small _ (2 ^ 31) (2 ^ 53) (pow_pos 31)
        (le_trans (size-* (pos odd) (left_by (2 ^ 31) digits) o (floor_rest digits (2 ^ 31) (pow_pos 31))) (lit≤ tt)));
  };
}

-- a smaller range lies in a larger
pub readable_wider : (a b : ℕ) (x : Float) → a ≤ b → Readable a x → Readable b x
unfolding beyond
readable_wider a b nan l h = record { finitely = h.finitely; within = tt }
readable_wider a b (inf s) l h = absurd h.within
readable_wider a b (fin s m e) l h =
    record {
      finitely = tt;
      within = le→nltb (b * down e) (m * up e) (le_trans (nltb→le (a * down e) (m * up e) h.within) (mul-le-mul_right (down e) l));
    }

-- what the two tests leave
pub passes : (most : ℕ) (x : Float) → finite x ≡ true → beyond most x ≡ false → Readable most x
passes most x f b = record { finitely = subst T (sym f) tt; within = subst (λ (a : Bool). T (not a)) (sym b) tt }

-- and what the one test of both says
module _ (most : ℕ) (x : Float) (h : passing most x ≡ true) where
  pub finite_then : finite x ≡ true
  finite_then = (both (finite x) (not (beyond most x)) h).0

  pub within_then : beyond most x ≡ false
  within_then = not-true (beyond most x) (both (finite x) (not (beyond most x)) h).1

  pub readable : Readable most x
  readable = passes most x finite_then within_then
