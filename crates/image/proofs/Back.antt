-- What was put is there again: of the image of a table, each check is right, each block is formed,
-- and the table and its coefficients are what they were. Assumes nothing.
use mathlib.Core.Path.{◌≡◌, refl, sym, ◌∙◌, ap}
use mathlib.Core.Bool.{Bool, true, false}
use mathlib.Core.List.{List}
use Prim.Native.Nat.{ℕ, ◌+◌, ◌*◌, ◌-◌, ◌/◌, ◌%◌, ◌≤◌, ◌<◌}
use native.Mathlib.Nat.{mul-le-mul_right, div-lt_iff_lt-mul, mod-lt, div-add-mod', zero-add}
use native.Mathlib.Nat.{add-zero, mod-eq_of_lt, mul-add-div_right, mul-add-mod_self_right}
use native.Mathlib.Nat.{div-eq_of_lt}
use native.Mathlib.Omega.{arith}
use borrow.Author.Tests.{ne_eqb, lt-ltb}
use lib.IntN.{ℤ, pos}
use lib.ListN.{length, get_or, drop, length-drop}
use lib.Seq.{length-take-le, get_or-take, get_or-drop}
use mir.Syntax.{w64}
use mir.Val.{SFits, of_z, to_z}
use mir.ValLaws.{to_z-of_z, of_z_fits}
use Rattle.image.specs.declared.table.Table.{Table}
use Rattle.words.specs.Words.{byte_of, quad_at, word_at, block}
use Rattle.words.specs.Check.{sum_a, sum_b, check_a, check_b, is_checked}
use Rattle.granule.specs.Bounds.{most_degree}
use Rattle.form.specs.Form.{granule_at, which_at, is_number, is_coefficient, is_free, fixed_byte}
use Rattle.form.specs.Form.{is_right, is_formed, blocks_of}
use Rattle.image.specs.Image.{bits_of, number_byte, coefficient_byte, body_byte, block_byte}
use Rattle.image.specs.Image.{image_byte, image_of, table_of, stored_at, coefficient_at, stored_of}
use Rattle.image.specs.Image.{granule_in, granule_stored, coefficients_stored}
use Rattle.image.specs.Asked.{WholeTable}
use Rattle.numbers.proofs.Places.{every_is, up_to_length, up_to_at, is_up_to}
use Rattle.words.proofs.Sums.{check_a_same, check_b_same, right_ab}
use Rattle.words.proofs.Digits.{word_back, quad_back, pick8}
use Rattle.form.proofs.FreeBytes.{slot_is, free_more, right_free, right_fixed}
use Rattle.image.proofs.Slots.{place_fits}

-- b has the bytes of the table t with the coefficients c
pub record IsImage (t : Table) (c : List ℤ) (b : List ℕ) : Type 0 where
  pub long : length b ≡ blocks_of t.count * 512
  pub each : (i : ℕ) → i < blocks_of t.count * 512 → get_or b i 0 ≡ image_byte t c i

pub is_image : (t : Table) (c : List ℤ) (b : List ℕ) → IsImage t c b → b ≡ image_of t c
unfolding image_of
is_image t c b img = is_up_to _ _ 0 b img.long img.each

pub image_is : (t : Table) (c : List ℤ) → IsImage t c (image_of t c)
unfolding image_of
image_is t c = record { long = up_to_length _ _; each = λ i h. up_to_at (image_byte t c) (blocks_of t.count * 512) i 0 h }

-- ---- a place's parts
module _ (k r m u : ℕ) (hr : r < 3) (hm : m < 16) (hu : u < 8) where
  abbrev j : ℕ
  j = 8 + 128 * r + 8 * m + u

  pub slot_small : j < 392
  slot_small = omega arith

  p_block : (k * 512 + (8 + 128 * r + 8 * m) + u) / 512 ≡ k
  p_block = omega arith

  p_byte : (k * 512 + (8 + 128 * r + 8 * m) + u) % 512 ≡ j
  p_byte = omega arith

  p_word : (j - 8) / 8 ≡ 16 * r + m
  p_word = omega arith

  p_granule : (j - 8) / 8 / 16 ≡ r
  p_granule = rw p_word (omega arith)

  pub p_which : which_at j ≡ m
  p_which = rw p_word (omega arith)

  p_unit : (j - 8) % 8 ≡ u
  p_unit = omega arith

thirds : (g : ℕ) → 3 * (1 + g / 3 - 1) + g % 3 ≡ g
thirds g = omega arith

-- byte u of coefficient m of granule g stands in its place
coefficient_byte_lem : (t : Table) (c : List ℤ) (g m u : ℕ) → g < t.count → m ≤ t.degree → t.degree ≤ most_degree
    → u < 8
    → image_byte t c (stored_at g m + u) ≡ byte_of (bits_of c (g * (t.degree + 1) + m)) u
unfolding image_byte block_byte body_byte coefficient_byte
coefficient_byte_lem t c g m u hg hm hn hu =
    let k = 1 + g / 3 in
    let r = g % 3 in
    let j = 8 + 128 * (g % 3) + 8 * m + u in
    let hr : r < 3 = omega arith in
    let h16 : m < 16 = omega arith in
    let e : granule_at k j ≡ g = ap (λ n. 3 * (k - 1) + n) (p_granule k r m u hr h16 hu) ∙ thirds g in
    let w = p_which k r m u hr h16 hu in
    let s = slot t g m j k hg hm e w (slot_small k r m u hr h16 hu) (low r m u) in
    rw (
      p_block k r m u hr h16 hu,
      p_byte k r m u hr h16 hu,
      lt-ltb j 508 (below j (slot_small k r m u hr h16 hu)),
      free_more _ _ k j (not_zero (g / 3)) ∙ s,
      ne_eqb k 0 (not_zero (g / 3)),
      e,
      w,
      p_unit k r m u hr h16 hu,
    )
  where
    not_zero : (k : ℕ) → 1 + k ≡ 0 → ⊥
    not_zero k e = omega arith

    below : (j : ℕ) → j < 392 → j < 508
    below j h = omega arith

    low : (r m u : ℕ) → 8 ≤ 8 + 128 * r + 8 * m + u
    low r m u = omega arith

    slot : (t : Table) (g m j k : ℕ) → g < t.count → m ≤ t.degree → granule_at k j ≡ g → which_at j ≡ m → j < 392
        → 8 ≤ j
        → is_coefficient t.count t.degree k j ≡ true
    slot t g m j k hg hm e w h l = slot_is _ _ _ _ (record { low = l; high = h; granule = rw e hg; which = rw w hm })

-- every coefficient fits 64 bits
abbrev pub Fitted : List ℤ → Type 0
Fitted c = (i : ℕ) → SFits w64 (get_or c i (pos 0))

-- ---- the division of an index into granule and coefficient
pub div_of : (g m n : ℕ) → m ≤ n → (g * (n + 1) + m) / (n + 1) ≡ g
div_of g m n h = mul-add-div_right {m = n + 1} (omega arith) g m ∙ rw (div-eq_of_lt {n = m} {m = n + 1} (omega arith)) (add-zero g)

pub mod_of : (g m n : ℕ) → m ≤ n → (g * (n + 1) + m) % (n + 1) ≡ m
mod_of g m n h = mul-add-mod_self_right g (n + 1) m ∙ mod-eq_of_lt (omega arith)

module _ (t : Table) (c : List ℤ) (b : List ℕ) (img : IsImage t c b) where
  -- ---- each coefficient
  coefficient_back : WholeTable t c → Fitted c → (i : ℕ) → i < t.count * (t.degree + 1)
      → coefficient_at b (i / (t.degree + 1)) (i % (t.degree + 1)) ≡ get_or c i (pos 0)
  unfolding coefficient_at
  coefficient_back r fit i h =
      let n = t.degree in
      let g = i / (n + 1) in
      let m = i % (n + 1) in
      let at = stored_at g m in
      let hg : g < t.count = (div-lt_iff_lt-mul {k = n + 1} {x = i} {y = t.count} (omega arith)).1 h in
      let lm : m < n + 1 = mod-lt i (omega arith) in
      let room = place_fits t.count n i r.bounds.few.degree h in
      let e : (u : ℕ) → u < 8 → get_or b (at + u) 0 ≡ byte_of (bits_of c i) u =
      (λ u hu.
      img.each (at + u) (le at u (blocks_of t.count * 512) room hu) ∙ coefficient_byte_lem t c g m u hg (le1 m n lm) r.bounds.few.degree hu
      ∙ ap (λ x. byte_of (bits_of c x) u) (div-add-mod' i (n + 1))) in
      ap (to_z w64) (word_back b at (bits_of c i) (of_z_fits w64 (get_or c i (pos 0)) (fit i)).fits
      (ap (λ x. get_or b x 0) (sym (add-zero at)) ∙ e 0 (omega arith)) e)
      ∙ to_z-of_z w64 (get_or c i (pos 0)) (fit i)
    where
      le : (at u n : ℕ) → at + 8 ≤ n → u < 8 → at + u < n
      le at u n h k = omega arith

      le1 : (m n : ℕ) → m < n + 1 → m ≤ n
      le1 m n h = omega arith

  -- all of them
  pub coefficients_back : WholeTable t c → Fitted c → coefficients_stored b t.count t.degree ≡ c
  unfolding coefficients_stored
  coefficients_back r fit = sym (is_up_to _ _ (pos 0) c r.whole (λ i h. sym (coefficient_back r fit i h)))

  -- ---- each byte of block k
  block_back : (k : ℕ) → k < blocks_of t.count → (j : ℕ) → j < 512 → block b k j ≡ block_byte (body_byte t c k) j
  unfolding image_byte
  block_back k h j l =
      let x : (k * 512 + j) / 512 ≡ k = omega arith in
      let y : (k * 512 + j) % 512 ≡ j = omega arith in
      rw (x, y) at (img.each (k * 512 + j) (le k j (blocks_of t.count) h l))
    where
      le : (k j n : ℕ) → k < n → j < 512 → k * 512 + j < n * 512
      le k j n h l = omega arith

  body_back : (k : ℕ) → k < blocks_of t.count → (j : ℕ) → j < 508 → block b k j ≡ body_byte t c k j
  unfolding block_byte
  body_back k h j l = rw (lt-ltb j 508 l) at (block_back k h j (omega arith))

  -- each check is right
  pub check_back : (k : ℕ) → k < blocks_of t.count → is_checked (block b k) ≡ true
  unfolding block_byte
  check_back k h =
      let f = body_byte t c k in
      let g = block b k in
      let ea : check_a f ≡ check_a g = sym (check_a_same g f (body_back k h)) in
      let eb : check_b f ≡ check_b g = sym (check_b_same g f (body_back k h)) in
      sym
      (right_ab g
      (two (g 508) (g 509) (check_a f) (mod-lt (sum_a f 254) (omega arith)) (block_back k h 508 (omega arith)) (block_back k h 509 (omega arith)) ∙ ea)
      (two (g 510) (g 511) (check_b f) (mod-lt (sum_b f 254) (omega arith)) (block_back k h 510 (omega arith)) (block_back k h 511 (omega arith)) ∙ eb))
    where
      two : (x y a : ℕ) → a < 65535 → x ≡ byte_of a 0 → y ≡ byte_of a 1 → x + 256 * y ≡ a
      two x y a h p q = omega arith

  -- each block is formed
  pub form_back : (k : ℕ) → k < blocks_of t.count → is_formed t.count t.degree k (block b k) ≡ true
  unfolding is_formed body_byte
  form_back k h =
      every_is (is_right t.count t.degree k (block b k)) 508 (λ j hj. ok j (is_free t.count t.degree k j) refl (body_back k h j hj))
    where
      ok : (j : ℕ) (v : Bool) → is_free t.count t.degree k j ≡ v → block b k j ≡ body_byte t c k j
          → is_right t.count t.degree k (block b k) j ≡ true
      ok j true e p = right_free _ _ k (block b k) j e
      ok j false e p = right_fixed _ _ k (block b k) j (fixed_byte t.count k j) (rw e at p) refl

  -- ---- block 0's numbers
  number_at : (j : ℕ) → j < 508 → is_number j ≡ true → get_or b j 0 ≡ number_byte t j
  unfolding body_byte is_free
  number_at j h e = ap (λ m. get_or b m 0) (sym (zero-add j)) ∙ rw e at (body_back 0 (omega arith) j h)

  start_at : (u : ℕ) → u < 8 → get_or b (8 + u) 0 ≡ byte_of (of_z w64 t.start.0) u
  unfolding number_byte is_number
  start_at =
      pick8 (λ u. get_or b (8 + u) 0 ≡ byte_of (of_z w64 t.start.0) u) (number_at 8 (omega arith) refl) (number_at 9 (omega arith) refl)
      (number_at 10 (omega arith) refl) (number_at 11 (omega arith) refl) (number_at 12 (omega arith) refl) (number_at 13 (omega arith) refl)
      (number_at 14 (omega arith) refl) (number_at 15 (omega arith) refl)

  length_at : (u : ℕ) → u < 8 → get_or b (16 + u) 0 ≡ byte_of (of_z w64 t.length) u
  unfolding number_byte is_number
  length_at =
      pick8 (λ u. get_or b (16 + u) 0 ≡ byte_of (of_z w64 t.length) u) (number_at 16 (omega arith) refl) (number_at 17 (omega arith) refl)
      (number_at 18 (omega arith) refl) (number_at 19 (omega arith) refl) (number_at 20 (omega arith) refl) (number_at 21 (omega arith) refl)
      (number_at 22 (omega arith) refl) (number_at 23 (omega arith) refl)

  count_at : quad_at b 24 ≡ t.count % 4294967296
  unfolding number_byte is_number
  count_at =
      quad_back t.count _ _ _ _ (number_at 24 (omega arith) refl) (number_at 25 (omega arith) refl) (number_at 26 (omega arith) refl)
      (number_at 27 (omega arith) refl)

  pub table_back : SFits w64 t.start.0 → SFits w64 t.length → t.count < 4294967296 → table_of b ≡ t
  unfolding table_of number_byte is_number
  table_back fs fl few =
      let x : to_z w64 (word_at b 8) ≡ t.start.0 =
      ap (to_z w64) (word_back b 8 (of_z w64 t.start.0) (of_z_fits w64 t.start.0 fs).fits (start_at 0 (omega arith)) start_at)
      ∙ to_z-of_z w64 t.start.0 fs in
      let y : to_z w64 (word_at b 16) ≡ t.length =
      ap (to_z w64) (word_back b 16 (of_z w64 t.length) (of_z_fits w64 t.length fl).fits (length_at 0 (omega arith)) length_at)
      ∙ to_z-of_z w64 t.length fl in
      let z : quad_at b 24 ≡ t.count = count_at ∙ mod-eq_of_lt few in
      let d : get_or b 2 0 ≡ t.degree = number_at 2 (omega arith) refl in
      rw (x, y, z, d)

-- ---- a granule of the stored, of the list, and of the bytes
pub stored_length : (b : List ℕ) (g : ℕ) → length (stored_of b g) ≡ 16
unfolding stored_of
stored_length b g = up_to_length (coefficient_at b g) 16

-- c_0..c_n of granule g, of a list granule by granule
pub granule_of_list : (c : List ℤ) (G n g : ℕ) → length c ≡ G * (n + 1) → g < G → g * (n + 1) + (n + 1) ≤ length c
granule_of_list c G n g e h = omega (arith, mul-le-mul_right {m = g + 1} {n = G} (n + 1) (omega arith))

pub granule_width : (c : List ℤ) (G n g : ℕ) → length c ≡ G * (n + 1) → g < G → length (granule_in c n g) ≡ n + 1
unfolding granule_in
granule_width c G n g e h =
    length-take-le (n + 1) (drop (g * (n + 1)) c)
    (rw (length-drop (g * (n + 1)) c) (omega (arith, granule_of_list c G n g e h)))

pub granule_at_lem : (c : List ℤ) (n g m : ℕ) → m < n + 1
    → get_or (granule_in c n g) m (pos 0) ≡ get_or c (g * (n + 1) + m) (pos 0)
unfolding granule_in
granule_at_lem c n g m h =
    get_or-take (n + 1) (drop (g * (n + 1)) c) m (pos 0) h ∙ get_or-drop (g * (n + 1)) c m (pos 0)

-- all that are stored
pub stored_whole : (b : List ℕ) (G n : ℕ) → length (coefficients_stored b G n) ≡ G * (n + 1)
unfolding coefficients_stored
stored_whole b G n = up_to_length _ (G * (n + 1))

-- of the coefficients in bytes, they are those of the granule's place
pub granule_same : (b : List ℕ) (G n g : ℕ) → g < G → granule_stored b n g ≡ granule_in (coefficients_stored b G n) n g
unfolding granule_stored coefficients_stored
granule_same b G n g h =
    let c = coefficients_stored b G n in
    let long = stored_whole b G n in
    sym
    (is_up_to (coefficient_at b g) (n + 1) (pos 0) (granule_in c n g) (granule_width c G n g long h)
    (λ m k.
    granule_at_lem c n g m k
    ∙ up_to_at _ (G * (n + 1)) (g * (n + 1) + m) (pos 0) (under (g * (n + 1)) m n (length c) _ (granule_of_list c G n g long h) k long) ∙ same m k))
  where
    under : (a m n l z : ℕ) → a + (n + 1) ≤ l → m < n + 1 → l ≡ z → a + m < z
    under a m n l z h k e = omega arith

    le1 : (m n : ℕ) → m < n + 1 → m ≤ n
    le1 m n h = omega arith

    same : (m : ℕ) → m < n + 1
        → coefficient_at b ((g * (n + 1) + m) / (n + 1)) ((g * (n + 1) + m) % (n + 1)) ≡ coefficient_at b g m
    same m k = rw (div_of g m n (le1 m n k), mod_of g m n (le1 m n k))
