-- Where a byte stands in a block, and which coefficient it is of. Assumes nothing.
use mathlib.Core.Path.{◌≡◌, sym, ◌∙◌, ap}
use mathlib.Core.Bool.{true, false, ◌&&◌}
use Prim.Native.Nat.{ℕ, ◌+◌, ◌*◌, ◌-◌, ◌/◌, ◌%◌, ◌≤◌, ◌<◌}
use native.Mathlib.Nat.{mod-lt}
use native.Mathlib.Decide.{dec_lt}
use native.Mathlib.Omega.{arith}
use borrow.Author.Tests.{eq-eqb, ne_eqb, lt-ltb, le-ltb, le-leb, ltb-true, leb-true}
use lib.Dec.{ltb, leb, eqb}
use Rattle.granule.specs.Bounds.{most_degree}
use Rattle.std.specs.Prelude.{min}
use Rattle.std.specs.Ordering.{nat_cmp, is_le, is_lt}
use Rattle.std.proofs.lemmas.Bool.Decides.{nat_tests}
use Rattle.numbers.specs.Lowest.{up_to}
use Rattle.numbers.proofs.Places.{up_to_same}
use Rattle.form.specs.Asked.{OtherBlock}
use Rattle.form.specs.Form.{is_number, granule_at, which_at, is_coefficient, is_free, head_byte, granules_in, fixed_byte, is_right}
use Rattle.numbers.proofs.Flags.{both, or_left, or_right, or_neither, or_told}

-- a byte of a coefficient
pub record Slot (G n k j : ℕ) : Type 0 where
  pub low : 8 ≤ j
  pub high : j < 392
  pub granule : granule_at k j < G
  pub which : which_at j ≤ n

pub slot_told : (G n k j : ℕ) → is_coefficient G n k j ≡ true → Slot G n k j
unfolding is_coefficient
slot_told G n k j e =
    let a = both _ (leb (which_at j) n) e in
    let b = both _ (ltb (granule_at k j) G) a.0 in
    let d = both (leb 8 j) (ltb j 392) b.0 in
    record { low = leb-true 8 j d.0; high = ltb-true j 392 d.1; granule = ltb-true (granule_at k j) G b.1; which = leb-true (which_at j) n a.1 }

pub slot_is : (G n k j : ℕ) → Slot G n k j → is_coefficient G n k j ≡ true
unfolding is_coefficient
slot_is G n k j s = simp (le-leb _ _ s.low, lt-ltb _ _ s.high, lt-ltb _ _ s.granule, le-leb _ _ s.which)

-- what the code finds of such a byte
module _ (G n k j : ℕ) where
  pub coefficient_out : leb 8 j && ltb j 392 ≡ false → false ≡ is_coefficient G n k j
  unfolding is_coefficient
  coefficient_out e = rw e

  pub coefficient_past : leb 8 j && ltb j 392 ≡ true → G ≤ granule_at k j
      → ltb (granule_at k j) G ≡ is_coefficient G n k j
  unfolding is_coefficient
  coefficient_past e h = rw (e, le-ltb (granule_at k j) G h)

  pub coefficient_in : leb 8 j && ltb j 392 ≡ true → granule_at k j < G → leb (which_at j) n ≡ is_coefficient G n k j
  unfolding is_coefficient
  coefficient_in e h = rw (e, lt-ltb (granule_at k j) G h)

-- ---- a byte of a number
-- the library's test of a range
pub in_range : (a b j : ℕ) → is_le (nat_cmp a j) && is_lt (nat_cmp j b) ≡ leb a j && ltb j b
in_range a b j = grind (arith, nat_tests)

pub number_is : (j : ℕ) → j ≡ 2 → eqb j 2 ≡ is_number j
unfolding is_number
number_is j e = rw e

pub number_in : (j : ℕ) → (j ≡ 2 → ⊥) → is_le (nat_cmp 8 j) && is_lt (nat_cmp j 28) ≡ is_number j
unfolding is_number
number_in j n = rw (ne_eqb j 2 n) (in_range 8 28 j)

pub number_told : (j : ℕ) → is_number j ≡ true → (j ≡ 2 → ⊥) → (8 ≤ j) × (j < 28)
unfolding is_number
number_told j e n = let a = both (leb 8 j) (ltb j 28) (or_told (ne_eqb j 2 n) e) in (leb-true 8 j a.0, ltb-true j 28 a.1)

-- ---- fixed bytes
pub held_is : (G k : ℕ) → OtherBlock G k → min (G - 3 * (k - 1)) 3 ≡ granules_in G k
unfolding granules_in
held_is G k o = go (dec_lt (3 * k) G)
  where
    go : Dec (3 * k < G) → min (G - 3 * (k - 1)) 3 ≡ granules_in G k
    go (yes h) = rw (lt-ltb (3 * k) G h) (omega arith)
    go (no h) = rw (le-ltb (3 * k) G (omega arith)) (omega (arith, o.other))

pub fixed_zero : (G k j : ℕ) → 8 ≤ j → 0 ≡ fixed_byte G k j
unfolding fixed_byte
fixed_zero G k j h = rw (le-ltb j 8 h)

pub fixed_first : (G k j : ℕ) → j < 8 → k ≡ 0 → head_byte 1 0 0 j ≡ fixed_byte G k j
unfolding fixed_byte
fixed_first G k j h e = rw (lt-ltb j 8 h, eq-eqb k 0 e)

fixed_other : (G k j : ℕ) → j < 8 → 1 ≤ k → head_byte 2 (granules_in G k) k j ≡ fixed_byte G k j
unfolding fixed_byte
fixed_other G k j h o = rw (lt-ltb j 8 h, ne_eqb k 0 (λ e. let z : ⊥ = omega arith in z))

pub other_head_is : (G k h : ℕ) → 1 ≤ k → h ≡ granules_in G k → up_to (head_byte 2 h k) 8 ≡ up_to (fixed_byte G k) 8
other_head_is G k h o e = up_to_same _ _ 8 (λ j l. ap (λ x. head_byte 2 x k j) e ∙ fixed_other G k j l o)

-- ---- free bytes of block 0, and of the others
pub free_zero : (G n k j : ℕ) → k ≡ 0 → is_free G n k j ≡ is_number j
unfolding is_free
free_zero G n k j e = rw e

pub free_more : (G n k j : ℕ) → (k ≡ 0 → ⊥) → is_free G n k j ≡ is_coefficient G n k j
unfolding is_free
free_more G n k j e = rw (ne_eqb k 0 e)

-- where a byte stands, in whole numbers
pub parts : (x : ℕ) → 128 * (x / 8 / 16) + 8 * (x / 8 % 16) + x % 8 ≡ x
parts x = omega arith

-- from byte j on, what is left of its granule's coefficients
abbrev pub rest_at : ℕ → ℕ → ℕ
rest_at n j = 8 * (n - which_at j) + 8 - j % 8

-- of granule q of the block, i bytes past byte u of coefficient w is still one of a coefficient
still : (q w u n i : ℕ) → u < 8 → w ≤ n → n ≤ most_degree → i < 8 * (n - w) + 8 - u
    → (16 * q ≤ (128 * q + 8 * w + u + i) / 8) × ((128 * q + 8 * w + u + i) / 8 ≤ 16 * q + n)
still q w u n i a b c d = (omega arith, omega arith)

in_granule : (q n y : ℕ) → n ≤ most_degree → 16 * q ≤ y → y ≤ 16 * q + n → (y / 16 ≡ q) × (y % 16 ≤ n)
in_granule q n y h a b = omega arith

-- the rest of a granule's coefficients is free together
module _ (G n k j i : ℕ) (h : i < rest_at n j) (few : n ≤ most_degree) where
  pub rest_slot : Slot G n k j → Slot G n k (j + i)
  rest_slot s =
      let q = (j - 8) / 8 / 16 in
      let w = which_at j in
      let u = (j - 8) % 8 in
      let z : j % 8 ≡ u = same j s.low in
      let e : j + i - 8 ≡ 128 * q + 8 * w + u + i = past j i _ s.low (parts (j - 8)) in
      let t = still q w u n i (mod-lt (j - 8) (omega arith)) s.which few (rw z at h) in
      let d = in_granule q n ((128 * q + 8 * w + u + i) / 8) few t.0 t.1 in
      record {
        low = omega (arith, s.low);
        high = under (j + i) q n (third s.high) few (rw e t.1);
        granule = rw (e, d.0) s.granule;
        which = rw e d.1;
      }
    where
      same : (j : ℕ) → 8 ≤ j → j % 8 ≡ (j - 8) % 8
      same j h = omega arith

      past : (j i x : ℕ) → 8 ≤ j → x ≡ j - 8 → j + i - 8 ≡ x + i
      past j i x h e = omega arith

      third : j < 392 → (j - 8) / 8 / 16 ≤ 2
      third h = omega arith

      under : (x q n : ℕ) → q ≤ 2 → n ≤ most_degree → (x - 8) / 8 ≤ 16 * q + n → x < 392
      under x q n a b d = omega arith

-- ---- a byte that is right
module _ (G n k : ℕ) (f : ℕ → ℕ) (j : ℕ) where
  pub right_free : is_free G n k j ≡ true → is_right G n k f j ≡ true
  right_free e = or_left (eqb (f j) (fixed_byte G k j)) e

  pub right_fixed : (x : ℕ) → f j ≡ x → x ≡ fixed_byte G k j → is_right G n k f j ≡ true
  right_fixed x p q = or_right (is_free G n k j) (eq-eqb (f j) (fixed_byte G k j) (p ∙ q))

  pub wrong_fixed : (x : ℕ) → is_free G n k j ≡ false → (f j ≡ x → ⊥) → x ≡ fixed_byte G k j → is_right G n k f j
      ≡ false
  wrong_fixed x e p q = or_neither e (ne_eqb (f j) (fixed_byte G k j) (λ d. p (d ∙ sym q)))

  -- from byte 8 on, a zero is right, free or fixed
  pub right_zero : 8 ≤ j → f j ≡ 0 → is_right G n k f j ≡ true
  unfolding fixed_byte
  right_zero h e = or_right (is_free G n k j) (eq-eqb (f j) (fixed_byte G k j) (e ∙ sym (rw (le-ltb j 8 h))))
