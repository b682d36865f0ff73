-- What is formed and checked is the image of what it holds. Assumes nothing.
use mathlib.Core.Path.{◌≡◌, refl, sym, ◌∙◌, ap}
use mathlib.Core.Bool.{Bool, true, false, ◌&&◌}
use mathlib.Core.List.{List}
use Prim.Native.Nat.{ℕ, ◌+◌, ◌*◌, ◌-◌, ◌/◌, ◌%◌, ◌≤◌, ◌<◌}
use native.Mathlib.Nat.{zero-add, add-zero}
use native.Mathlib.Decide.{dec_lt, ℕ_discrete}
use native.Mathlib.Omega.{arith}
use borrow.Author.Tests.{eqb-true, ne_eqb, lt-ltb, le-ltb, lt-leb}
use lib.Dec.{ltb, leb, eqb}
use lib.IntN.{ℤ, pos}
use lib.ListN.{length, get_or}
use mir.Syntax.{w64}
use mir.Val.{to_z}
use mir.ValLaws.{of_z-to_z}
use Rattle.image.specs.declared.table.Table.{Table}
use Rattle.numbers.specs.Lowest.{every}
use Rattle.words.specs.Words.{byte_of, word_at, block}
use Rattle.words.specs.Check.{check_a, check_b, is_checked}
use Rattle.form.specs.Form.{granule_at, which_at, is_number, is_coefficient, is_free, fixed_byte}
use Rattle.form.specs.Form.{is_right, is_formed, blocks_of}
use Rattle.image.specs.Image.{bits_of, number_byte, coefficient_byte, body_byte, block_byte}
use Rattle.image.specs.Image.{image_byte, image_of, table_of, stored_at, coefficient_at}
use Rattle.image.specs.Image.{coefficients_stored}
use Rattle.numbers.proofs.Flags.{both, and_right, or_told}
use Rattle.numbers.proofs.Places.{every_at, up_to_at}
use Rattle.words.proofs.Sums.{check_a_same, check_b_same}
use Rattle.words.proofs.Digits.{word_byte, word_fits, quad_byte}
use Rattle.form.proofs.FreeBytes.{slot_told, number_told, free_zero, free_more, parts}
use Rattle.image.proofs.Slots.{index}
use Rattle.image.proofs.Stores.{four}
use Rattle.image.proofs.Back.{is_image, slot_small, p_which, div_of, mod_of}

-- bytes that hold a table, in blocks that are formed and checked
pub record HoldsTable (b : List ℕ) (t : Table) : Type 0 where
  pub small : (i : ℕ) → get_or b i 0 < 256
  pub table : table_of b ≡ t
  pub long : length b ≡ blocks_of t.count * 512
  pub checks : (k : ℕ) → k < blocks_of t.count → is_checked (block b k) ≡ true
  pub forms : (k : ℕ) → k < blocks_of t.count → is_formed t.count t.degree k (block b k) ≡ true

-- ---- block 0's numbers
module _ (b : List ℕ) (small : (i : ℕ) → get_or b i 0 < 256) where
  number_is : (j : ℕ) → is_number j ≡ true → get_or b j 0 ≡ number_byte (table_of b) j
  unfolding number_byte table_of
  number_is j e = go (ℕ_discrete j 2) (dec_lt j 16) (dec_lt j 24)
    where
      go : Dec (j ≡ 2) → Dec (j < 16) → Dec (j < 24) → get_or b j 0 ≡ number_byte (table_of b) j
      go (yes p) _ _ = rw p
      go (no p) (yes q) _ =
          let n = number_told j e p in
          let x : 8 + (j - 8) ≡ j = omega arith in
          rw (ne_eqb j 2 p, lt-ltb j 16 q, of_z-to_z w64 (word_at b 8) (record { fits = word_fits b small 8 }))
          (ap (λ m. get_or b m 0) (sym x) ∙ word_byte b small 8 (j - 8) (omega arith))
      go (no p) (no q) (yes r) =
          let n = number_told j e p in
          let x : 16 + (j - 16) ≡ j = omega arith in
          rw (ne_eqb j 2 p, le-ltb j 16 (omega arith), lt-ltb j 24 r, of_z-to_z w64 (word_at b 16) (record { fits = word_fits b small 16 }))
          (ap (λ m. get_or b m 0) (sym x) ∙ word_byte b small 16 (j - 16) (omega arith))
      go (no p) (no q) (no r) =
          let n = number_told j e p in
          let x : 24 + (j - 24) ≡ j = omega arith in
          rw (ne_eqb j 2 p, le-ltb j 16 (omega arith), le-ltb j 24 (omega arith)) (ap (λ m. get_or b m 0) (sym x) ∙ quad_byte b small 24 (j - 24) (omega arith))

-- ---- a coefficient's byte
zero_fixed : (G k j : ℕ) → 8 ≤ j → fixed_byte G k j ≡ 0
unfolding fixed_byte
zero_fixed G k j h = rw (le-ltb j 8 h)

third : (a r : ℕ) → r < 3 → (3 * a + r) / 3 ≡ a
third a r h = omega arith

thirdly : (a r : ℕ) → r < 3 → (3 * a + r) % 3 ≡ r
thirdly a r h = omega arith

sum : (k j r m u : ℕ) → 1 ≤ k → 8 ≤ j → 128 * r + 8 * m + u ≡ j - 8
    → (1 + (k - 1)) * 512 + (8 + 128 * r + 8 * m) + u ≡ k * 512 + j
sum k j r m u h l e = omega arith

whole : (k j : ℕ) → 1 ≤ k → 8 ≤ j → j < 392 → stored_at (granule_at k j) (which_at j) + (j - 8) % 8 ≡ k * 512 + j
whole k j h l u =
    let r : (j - 8) / 8 / 16 < 3 = omega arith in
    let x : granule_at k j / 3 ≡ k - 1 = third (k - 1) ((j - 8) / 8 / 16) r in
    let y : granule_at k j % 3 ≡ (j - 8) / 8 / 16 = thirdly (k - 1) ((j - 8) / 8 / 16) r in
    rw (x, y) (sum k j ((j - 8) / 8 / 16) (which_at j) ((j - 8) % 8) h l (parts (j - 8)))

module _ (b : List ℕ) (t : Table) (held : HoldsTable b t) where
  abbrev c : List ℤ
  c = coefficients_stored b t.count t.degree

  coefficient_is : (k j : ℕ) → 1 ≤ k → is_coefficient t.count t.degree k j ≡ true
      → block b k j ≡ coefficient_byte t.degree (bits_of c) k j
  unfolding coefficient_byte coefficients_stored coefficient_at
  coefficient_is k j hk e =
      let n = t.degree in
      let s = slot_told t.count n k j e in
      let g = granule_at k j in
      let m = which_at j in
      let at = stored_at g m in
      let z : get_or c (g * (n + 1) + m) (pos 0) ≡ to_z w64 (word_at b at) =
      up_to_at _ (t.count * (n + 1)) (g * (n + 1) + m) (pos 0) (index t.count n g m s.granule s.which)
      ∙ rw (div_of g m n s.which, mod_of g m n s.which) in
      rw (z, of_z-to_z w64 (word_at b at) (record { fits = word_fits b held.small at }))
      (ap (λ p. get_or b p 0) (sym (whole k j hk s.low s.high)) ∙ word_byte b held.small at ((j - 8) % 8) (rem j))
    where
      rem : (j : ℕ) → (j - 8) % 8 < 8
      rem j = omega arith

  body_is : (k : ℕ) → k < blocks_of t.count → (j : ℕ) → j < 508 → block b k j ≡ body_byte t c k j
  unfolding body_byte is_formed
  body_is k h j l = go (is_free t.count t.degree k j) refl (ℕ_discrete k 0)
    where
      above : (k : ℕ) → (k ≡ 0 → ⊥) → 1 ≤ k
      above k n = omega arith

      go : (v : Bool) → is_free t.count t.degree k j ≡ v → Dec (k ≡ 0) → block b k j ≡ body_byte t c k j
      go true e (yes z) =
          rw (e, z) (ap (λ i. get_or b i 0) (zero-add j) ∙ number_is b held.small j (sym (free_zero t.count t.degree k j z) ∙ e)
          ∙ ap (λ (u : Table). number_byte u j) held.table)
      go true e (no z) = rw (e, ne_eqb k 0 z) (coefficient_is k j (above k z) (sym (free_more t.count t.degree k j z) ∙ e))
      go false e d =
          rw e (eqb-true (block b k j) (fixed_byte t.count k j) (or_told e
          (every_at (is_right t.count t.degree k (block b k)) 508 j (held.forms k h) l)))

  block_is : (k : ℕ) → k < blocks_of t.count → (j : ℕ) → j < 512 → block b k j ≡ block_byte (body_byte t c k) j
  unfolding is_checked
  block_is k h =
      let f = block b k in
      let g = body_byte t c k in
      let v = both (eqb (f 508 + 256 * f 509) (check_a f)) _ (held.checks k h) in
      let x : f 508 + 256 * f 509 ≡ check_a g = eqb-true _ _ v.0 ∙ check_a_same f g (body_is k h) in
      let y : f 510 + 256 * f 511 ≡ check_b g = eqb-true _ _ v.1 ∙ check_b_same f g (body_is k h) in
      let p = two (f 508) (f 509) (check_a g) (held.small (k * 512 + 508)) (held.small (k * 512 + 509)) x in
      let q = two (f 510) (f 511) (check_b g) (held.small (k * 512 + 510)) (held.small (k * 512 + 511)) y in
      four g b (k * 512) (body_is k h) p.0 p.1 q.0 q.1
    where
      two : (a b x : ℕ) → a < 256 → b < 256 → a + 256 * b ≡ x → (a ≡ byte_of x 0) × (b ≡ byte_of x 1)
      two a b x h k e = omega arith

  -- put again, it gives the same bytes
  pub same_image : image_of t c ≡ b
  unfolding image_byte
  same_image =
      sym (is_image t c b (record {
        long = held.long;
        each = λ i h. ap (λ m. get_or b m 0) (sym (back i)) ∙ block_is (i / 512) (under i (blocks_of t.count) h) (i % 512) (rest i);
      }))
    where
      back : (i : ℕ) → i / 512 * 512 + i % 512 ≡ i
      back i = omega arith

      under : (i n : ℕ) → i < n * 512 → i / 512 < n
      under i n h = omega arith

      rest : (i : ℕ) → i % 512 < 512
      rest i = omega arith

-- ---- 'those above the degree zero', where every block is formed
module _ (b : List ℕ) (t : Table)
    (forms : (k : ℕ) → k < blocks_of t.count → is_formed t.count t.degree k (block b k) ≡ true) where
  formed : (k : ℕ) → k < blocks_of t.count → every (is_right t.count t.degree k (block b k)) 508 ≡ true
  unfolding is_formed
  formed k h = forms k h

  not_free : (k j m : ℕ) → which_at j ≡ m → t.degree < m → is_coefficient t.count t.degree k j ≡ false
  unfolding is_coefficient
  not_free k j m w h = and_right (leb 8 j && ltb j 392 && ltb (granule_at k j) t.count) (lt-leb (which_at j) t.degree (rw w h))

  pub stored_zero : (g m : ℕ) → g < t.count → t.degree < m → m < 16 → coefficient_at b g m ≡ pos 0
  unfolding coefficient_at
  stored_zero g m hg hm h16 = ap (to_z w64) (all_zero (stored_at g m) (λ u hu. byte u hu))
    where
      all_zero : (at : ℕ) → ((u : ℕ) → u < 8 → get_or b (at + u) 0 ≡ 0) → word_at b at ≡ 0
      all_zero at z =
          let e : get_or b at 0 ≡ 0 = ap (λ x. get_or b x 0) (sym (add-zero at)) ∙ z 0 (omega arith) in
          rw (e, z 1 (omega arith), z 2 (omega arith), z 3 (omega arith), z 4 (omega arith), z 5 (omega arith), z 6 (omega arith), z 7 (omega arith))

      under : (g G : ℕ) → g < G → 1 + g / 3 < blocks_of G
      under g G h = omega arith

      rest : (g : ℕ) → g % 3 < 3
      rest g = omega arith

      apart : (a b u : ℕ) → a + b + u ≡ a + (b + u)
      apart a b u = omega arith

      low : (r m u : ℕ) → 8 ≤ 8 + 128 * r + 8 * m + u
      low r m u = omega arith

      below : (j : ℕ) → j < 392 → j < 508
      below j h = omega arith

      some : (k : ℕ) → 1 + k ≡ 0 → ⊥
      some k e = omega arith

      byte : (u : ℕ) → u < 8 → get_or b (stored_at g m + u) 0 ≡ 0
      byte u hu =
          let k = 1 + g / 3 in
          let j = 8 + 128 * (g % 3) + 8 * m + u in
          let w : which_at j ≡ m = p_which k (g % 3) m u (rest g) h16 hu in
          let fixed : is_free t.count t.degree k j ≡ false = free_more t.count t.degree k j (some (g / 3)) ∙ not_free k j m w hm in
          let right =
          every_at (is_right t.count t.degree k (block b k)) 508 j (formed k (under g t.count hg))
          (below j (slot_small k (g % 3) m u (rest g) h16 hu)) in
          ap (λ x. get_or b x 0) (apart (k * 512) (8 + 128 * (g % 3) + 8 * m) u)
          ∙ eqb-true (block b k j) (fixed_byte t.count k j) (or_told fixed right)
          ∙ zero_fixed t.count k j (low (g % 3) m u)
