-- A solver for identities of polynomials over ℤ, by reflection. `quote` reads the goal, so an
-- identity is proved in one line:
--
--     square : (x y : ℤ) → (x +ℤ y) *ℤ (x +ℤ y) ≡ x *ℤ x +ℤ pos 2 *ℤ (x *ℤ y) +ℤ y *ℤ y
--     square = all₂ _ (λ ρ. simp (quote, q_con ρ) (ring ρ _ _ tt))
--
-- (`q_con ρ` is for literals such as `pos 2`.) State it over ℤ and apply it at `pos n`: a `pos n`
-- with a variable n computes too early to be read. Assumes nothing.
use mathlib.Core.Path.{◌≡◌, refl, sym, ◌∙◌, ap, ap₂}
use mathlib.Core.List.{List, [], ◌∷◌}
use Prim.Native.Nat.{ℕ, zero, suc, compare, Ordering}
use lib.Dec.{T, compare_is_eq, eqb→eq}
use lib.IntN.{ℤ, pos, negsuc, ◌+ℤ◌, ◌*ℤ◌, neg_ℤ, +ℤ_assoc, +ℤ_idl, -ℤ-+ℤ_cancel, *ℤ-zero, zero-*ℤ, neg_ℤ-+ℤ}
use native.Mathlib.Omega.{arith}
use Rattle.numbers.proofs.Differences.{rep, lin}
use Rattle.numbers.proofs.Ring.{*-assoc, *-left-comm, *-dist, dist-*, neg-*, one-*, +-left-comm}

-- ---- expressions
infixl 6 ◌⊞◌
infixl 7 ◌⊠◌
infixl 8 ⊟◌
pub data Ex : Type 0 where
  var : ℕ → Ex
  con : ℕ → Ex
  ncon : ℕ → Ex
  ◌⊞◌ : Ex → Ex → Ex
  ◌⊠◌ : Ex → Ex → Ex
  ⊟◌ : Ex → Ex

unfoldable pub nth : List ℤ → ℕ → ℤ
nth [] i = pos 0
nth (x ∷ ρ) zero = x
nth (x ∷ ρ) (suc i) = nth ρ i

unfoldable pub ev : Ex → List ℤ → ℤ
ev (var i) ρ = nth ρ i
ev (con n) ρ = pos n
ev (ncon n) ρ = negsuc n
ev (a ⊞ b) ρ = ev a ρ +ℤ ev b ρ
ev (a ⊠ b) ρ = ev a ρ *ℤ ev b ρ
ev (⊟ a) ρ = neg_ℤ (ev a ρ)

-- ---- monomials: the places of the factors, in order
mono : List ℕ → List ℤ → ℤ
mono [] ρ = pos 1
mono (i ∷ m) ρ = nth ρ i *ℤ mono m ρ

abbrev pub pick : Ordering → List ℕ → List ℕ → List ℕ
pick Ordering.lt x y = x
pick Ordering.eq x y = x
pick Ordering.gt x y = y

abbrev pub put : ℕ → List ℕ → List ℕ
put i [] = i ∷ []
put i (j ∷ m) = pick (compare i j) (i ∷ j ∷ m) (j ∷ put i m)

abbrev pub join : List ℕ → List ℕ → List ℕ
join [] n = n
join (i ∷ m) n = put i (join m n)

abbrev pub then : Ordering → Ordering → Ordering
then Ordering.lt p = Ordering.lt
then Ordering.eq p = p
then Ordering.gt p = Ordering.gt

abbrev pub cmp : List ℕ → List ℕ → Ordering
cmp [] [] = Ordering.eq
cmp [] (j ∷ n) = Ordering.lt
cmp (i ∷ m) [] = Ordering.gt
cmp (i ∷ m) (j ∷ n) = then (compare i j) (cmp m n)

-- ---- polynomials: a sum of monomials, in order, each with its coefficient
pub data Poly : Type 0 where
  none : Poly
  more : ℤ → List ℕ → Poly → Poly

total : Poly → List ℤ → ℤ
total none ρ = pos 0
total (more c m p) ρ = c *ℤ mono m ρ +ℤ total p ρ

abbrev pub pick₃ : Ordering → Poly → Poly → Poly → Poly
pick₃ Ordering.lt x y z = x
pick₃ Ordering.eq x y z = y
pick₃ Ordering.gt x y z = z

abbrev pub ins : ℤ → List ℕ → Poly → Poly
ins c m none = more c m none
ins c m (more d n p) = pick₃ (cmp m n) (more c m (more d n p)) (more (c +ℤ d) n p) (more d n (ins c m p))

abbrev pub plus : Poly → Poly → Poly
plus none q = q
plus (more c m p) q = ins c m (plus p q)

abbrev pub times_number : ℤ → List ℕ → Poly → Poly → Poly
times_number c m none q = q
times_number c m (more d n p) q = ins (c *ℤ d) (join m n) (times_number c m p q)

abbrev pub times : Poly → Poly → Poly
times none q = none
times (more c m p) q = times_number c m q (times p q)

abbrev pub minus : Poly → Poly
minus none = none
minus (more c m p) = more (neg_ℤ c) m (minus p)

abbrev pub norm : Ex → Poly
norm (var i) = more (pos 1) (i ∷ []) none
norm (con n) = more (pos n) [] none
norm (ncon n) = more (negsuc n) [] none
norm (a ⊞ b) = plus (norm a) (norm b)
norm (a ⊠ b) = times (norm a) (norm b)
norm (⊟ a) = minus (norm a)

-- every coefficient is 0
abbrev pub Zero : Poly → Type 0
Zero none = Unit {0}
Zero (more (pos zero) m p) = Zero p
Zero (more (pos (suc n)) m p) = ⊥
Zero (more (negsuc n) m p) = ⊥

-- ---- soundness
mono_pick : (o : Ordering) (x y : List ℕ) (ρ : List ℤ) (v : ℤ) → mono x ρ ≡ v → mono y ρ ≡ v → mono (pick o x y) ρ ≡ v
mono_pick Ordering.lt x y ρ v p q = p
mono_pick Ordering.eq x y ρ v p q = p
mono_pick Ordering.gt x y ρ v p q = q

mono_put : (i : ℕ) (m : List ℕ) (ρ : List ℤ) → mono (put i m) ρ ≡ nth ρ i *ℤ mono m ρ
unfolding mono
mono_put i [] ρ = refl
mono_put i (j ∷ m) ρ =
    mono_pick (compare i j) (i ∷ j ∷ m) (j ∷ put i m) ρ _ refl (ap (λ t. nth ρ j *ℤ t) (mono_put i m ρ) ∙ *-left-comm (nth ρ j) (nth ρ i) (mono m ρ))

mono_join : (m n : List ℕ) (ρ : List ℤ) → mono (join m n) ρ ≡ mono m ρ *ℤ mono n ρ
unfolding mono
mono_join [] n ρ = sym (one-* (mono n ρ))
mono_join (i ∷ m) n ρ = mono_put i (join m n) ρ ∙ ap (λ t. nth ρ i *ℤ t) (mono_join m n ρ) ∙ sym (*-assoc (nth ρ i) (mono m ρ) (mono n ρ))

then_eq : (o p : Ordering) → T (compare_is_eq (then o p)) → T (compare_is_eq o) × T (compare_is_eq p)
then_eq Ordering.lt p t = absurd t
then_eq Ordering.eq p t = (tt, t)
then_eq Ordering.gt p t = absurd t

cmp_eq : (m n : List ℕ) → T (compare_is_eq (cmp m n)) → m ≡ n
cmp_eq [] [] t = refl
cmp_eq [] (j ∷ n) t = absurd t
cmp_eq (i ∷ m) [] t = absurd t
cmp_eq (i ∷ m) (j ∷ n) t = ap₂ ◌∷◌ (eqb→eq i j (then_eq (compare i j) (cmp m n) t).0) (cmp_eq m n (then_eq (compare i j) (cmp m n) t).1)

total_pick : (o : Ordering) (x y z : Poly) (ρ : List ℤ) (v : ℤ) → total x ρ ≡ v → (T (compare_is_eq o) → total y ρ ≡ v)
    → total z ρ ≡ v → total (pick₃ o x y z) ρ ≡ v
total_pick Ordering.lt x y z ρ v p q r = p
total_pick Ordering.eq x y z ρ v p q r = q tt
total_pick Ordering.gt x y z ρ v p q r = r

total_ins : (c : ℤ) (m : List ℕ) (p : Poly) (ρ : List ℤ) → total (ins c m p) ρ ≡ c *ℤ mono m ρ +ℤ total p ρ
unfolding total
total_ins c m none ρ = refl
total_ins c m (more d n p) ρ = total_pick (cmp m n) (more c m (more d n p)) (more (c +ℤ d) n p) (more d n (ins c m p)) ρ _
    refl
    (λ t. ap (λ u. u +ℤ total p ρ) (dist-* c d (mono n ρ)) ∙ +ℤ_assoc (c *ℤ mono n ρ) (d *ℤ mono n ρ) (total p ρ)
    ∙ ap (λ u. c *ℤ mono u ρ +ℤ (d *ℤ mono n ρ +ℤ total p ρ)) (sym (cmp_eq m n t)))
    (ap (λ u. d *ℤ mono n ρ +ℤ u) (total_ins c m p ρ) ∙ +-left-comm (d *ℤ mono n ρ) (c *ℤ mono m ρ) (total p ρ))

total_plus : (p q : Poly) (ρ : List ℤ) → total (plus p q) ρ ≡ total p ρ +ℤ total q ρ
unfolding total
total_plus none q ρ = sym (+ℤ_idl (total q ρ))
total_plus (more c m p) q ρ =
    total_ins c m (plus p q) ρ ∙ ap (λ u. c *ℤ mono m ρ +ℤ u) (total_plus p q ρ) ∙ sym (+ℤ_assoc (c *ℤ mono m ρ) (total p ρ) (total q ρ))

shuffle : (c d x y : ℤ) → (c *ℤ d) *ℤ (x *ℤ y) ≡ (c *ℤ x) *ℤ (d *ℤ y)
shuffle c d x y = *-assoc c d (x *ℤ y) ∙ ap (λ u. c *ℤ u) (*-left-comm d x y) ∙ sym (*-assoc c x (d *ℤ y))

total_scale : (c : ℤ) (m : List ℕ) (p q : Poly) (ρ : List ℤ)
    → total (times_number c m p q) ρ ≡ c *ℤ mono m ρ *ℤ total p ρ +ℤ total q ρ
unfolding total
total_scale c m none q ρ = sym (ap (λ u. u +ℤ total q ρ) (*ℤ-zero (c *ℤ mono m ρ)) ∙ +ℤ_idl (total q ρ))
total_scale c m (more d n p) q ρ =
    total_ins (c *ℤ d) (join m n) (times_number c m p q) ρ
    ∙ ap₂ ◌+ℤ◌ (ap (λ u. c *ℤ d *ℤ u) (mono_join m n ρ) ∙ shuffle c d (mono m ρ) (mono n ρ)) (total_scale c m p q ρ)
    ∙ sym (+ℤ_assoc (c *ℤ mono m ρ *ℤ (d *ℤ mono n ρ)) (c *ℤ mono m ρ *ℤ total p ρ) (total q ρ))
    ∙ ap (λ u. u +ℤ total q ρ) (sym (*-dist (c *ℤ mono m ρ) (d *ℤ mono n ρ) (total p ρ)))

total_times : (p q : Poly) (ρ : List ℤ) → total (times p q) ρ ≡ total p ρ *ℤ total q ρ
unfolding total
total_times none q ρ = sym (zero-*ℤ (total q ρ))
total_times (more c m p) q ρ =
    total_scale c m q (times p q) ρ ∙ ap (λ u. c *ℤ mono m ρ *ℤ total q ρ +ℤ u) (total_times p q ρ) ∙ sym (dist-* (c *ℤ mono m ρ) (total p ρ) (total q ρ))

total_minus : (p : Poly) (ρ : List ℤ) → total (minus p) ρ ≡ neg_ℤ (total p ρ)
unfolding total
total_minus none ρ = refl
total_minus (more c m p) ρ = ap₂ ◌+ℤ◌ (neg-* c (mono m ρ)) (total_minus p ρ) ∙ sym (neg_ℤ-+ℤ (c *ℤ mono m ρ) (total p ρ))

times_one : (x : ℤ) → x ≡ x *ℤ pos 1 +ℤ pos 0
times_one = rep _ (λ a b. simp lin (omega arith))

sound : (e : Ex) (ρ : List ℤ) → ev e ρ ≡ total (norm e) ρ
unfolding ev total mono
sound (var i) ρ = times_one (nth ρ i) ∙ ap (λ u. u +ℤ pos 0) (sym (one-* (nth ρ i *ℤ pos 1)))
sound (con n) ρ = times_one (pos n)
sound (ncon n) ρ = times_one (negsuc n)
sound (a ⊞ b) ρ = ap₂ ◌+ℤ◌ (sound a ρ) (sound b ρ) ∙ sym (total_plus (norm a) (norm b) ρ)
sound (a ⊠ b) ρ = ap₂ ◌*ℤ◌ (sound a ρ) (sound b ρ) ∙ sym (total_times (norm a) (norm b) ρ)
sound (⊟ a) ρ = ap neg_ℤ (sound a ρ) ∙ sym (total_minus (norm a) ρ)

zero_sound : (p : Poly) (ρ : List ℤ) → Zero p → total p ρ ≡ pos 0
unfolding total
zero_sound none ρ z = refl
zero_sound (more (pos zero) m p) ρ z = ap (λ u. u +ℤ total p ρ) (zero-*ℤ (mono m ρ)) ∙ +ℤ_idl (total p ρ) ∙ zero_sound p ρ z
zero_sound (more (pos (suc n)) m p) ρ z = absurd z
zero_sound (more (negsuc n) m p) ρ z = absurd z

-- two expressions whose difference has only zero coefficients are equal
pub ring : (ρ : List ℤ) (e f : Ex) → Zero (norm (e ⊞ ⊟ f)) → ev e ρ ≡ ev f ρ
unfolding ev
ring ρ e f z = sym (-ℤ-+ℤ_cancel (ev e ρ) (ev f ρ)) ∙ ap (λ u. u +ℤ ev f ρ) (sound (e ⊞ ⊟ f) ρ ∙ zero_sound (norm (e ⊞ ⊟ f)) ρ z) ∙ +ℤ_idl (ev f ρ)

-- ---- reading a goal: `simp` writes the expressions
pub q_var : (ρ : List ℤ) (i : ℕ) → nth ρ i ≡ ev (var i) ρ
unfolding ev
q_var ρ i = refl

pub q_con : (ρ : List ℤ) (n : ℕ) → pos n ≡ ev (con n) ρ
unfolding ev
q_con ρ n = refl

pub q_ncon : (ρ : List ℤ) (n : ℕ) → negsuc n ≡ ev (ncon n) ρ
unfolding ev
q_ncon ρ n = refl

pub q_add : (ρ : List ℤ) (a b : Ex) → ev a ρ +ℤ ev b ρ ≡ ev (a ⊞ b) ρ
unfolding ev
q_add ρ a b = refl

pub q_mul : (ρ : List ℤ) (a b : Ex) → ev a ρ *ℤ ev b ρ ≡ ev (a ⊠ b) ρ
unfolding ev
q_mul ρ a b = refl

pub q_neg : (ρ : List ℤ) (a : Ex) → neg_ℤ (ev a ρ) ≡ ev (⊟ a) ρ
unfolding ev
q_neg ρ a = refl

pub ruleset quote = (q_var, q_add, q_mul, q_neg)

-- ---- a law over the places of a list is a law over variables
pub all₁ : (P : ℤ → Type 0) → ((ρ : List ℤ) → P (nth ρ 0)) → (x : ℤ) → P x
unfolding nth
all₁ P f x = f (x ∷ [])

pub all₂ : (P : ℤ → ℤ → Type 0) → ((ρ : List ℤ) → P (nth ρ 0) (nth ρ 1)) → (x y : ℤ) → P x y
unfolding nth
all₂ P f x y = f (x ∷ y ∷ [])

pub all₃ : (P : ℤ → ℤ → ℤ → Type 0) → ((ρ : List ℤ) → P (nth ρ 0) (nth ρ 1) (nth ρ 2)) → (x y z : ℤ) → P x y z
unfolding nth
all₃ P f x y z = f (x ∷ y ∷ z ∷ [])

pub all₄ : (P : ℤ → ℤ → ℤ → ℤ → Type 0) → ((ρ : List ℤ) → P (nth ρ 0) (nth ρ 1) (nth ρ 2) (nth ρ 3)) → (x y z w : ℤ)
    → P x y z w
unfolding nth
all₄ P f x y z w = f (x ∷ y ∷ z ∷ w ∷ [])

pub all₅ : (P : ℤ → ℤ → ℤ → ℤ → ℤ → Type 0) → ((ρ : List ℤ) → P (nth ρ 0) (nth ρ 1) (nth ρ 2) (nth ρ 3) (nth ρ 4))
    → (x y z w v : ℤ) → P x y z w v
unfolding nth
all₅ P f x y z w v = f (x ∷ y ∷ z ∷ w ∷ v ∷ [])

pub all₆ : (P : ℤ → ℤ → ℤ → ℤ → ℤ → ℤ → Type 0)
    → ((ρ : List ℤ) → P (nth ρ 0) (nth ρ 1) (nth ρ 2) (nth ρ 3) (nth ρ 4) (nth ρ 5)) → (x y z w v u : ℤ)
    → P x y z w v u
unfolding nth
all₆ P f x y z w v u = f (x ∷ y ∷ z ∷ w ∷ v ∷ u ∷ [])

pub all₇ : (P : ℤ → ℤ → ℤ → ℤ → ℤ → ℤ → ℤ → Type 0)
    → ((ρ : List ℤ) → P (nth ρ 0) (nth ρ 1) (nth ρ 2) (nth ρ 3) (nth ρ 4) (nth ρ 5) (nth ρ 6))
    → (x y z w v u t : ℤ) → P x y z w v u t
unfolding nth
all₇ P f x y z w v u t = f (x ∷ y ∷ z ∷ w ∷ v ∷ u ∷ t ∷ [])

pub all₈ : (P : ℤ → ℤ → ℤ → ℤ → ℤ → ℤ → ℤ → ℤ → Type 0)
    → ((ρ : List ℤ) → P (nth ρ 0) (nth ρ 1) (nth ρ 2) (nth ρ 3) (nth ρ 4) (nth ρ 5) (nth ρ 6) (nth ρ 7))
    → (x y z w v u t s : ℤ) → P x y z w v u t s
unfolding nth
all₈ P f x y z w v u t s = f (x ∷ y ∷ z ∷ w ∷ v ∷ u ∷ t ∷ s ∷ [])

pub all₉ : (P : ℤ → ℤ → ℤ → ℤ → ℤ → ℤ → ℤ → ℤ → ℤ → Type 0)
    → ((ρ : List ℤ) → P (nth ρ 0) (nth ρ 1) (nth ρ 2) (nth ρ 3) (nth ρ 4) (nth ρ 5) (nth ρ 6) (nth ρ 7) (nth ρ 8))
    → (x y z w v u t s r : ℤ) → P x y z w v u t s r
unfolding nth
all₉ P f x y z w v u t s r = f (x ∷ y ∷ z ∷ w ∷ v ∷ u ∷ t ∷ s ∷ r ∷ [])
