-- What the comparisons of doubles say: strictly between the infinities is finite, below 0.0 the
-- value is negative, and beyond a number k·2^j either way is `beyond`. Assumes nothing.
use mathlib.Core.Path.{◌≡◌, refl, sym, ap, ◌∙◌, subst}
use mathlib.Core.Bool.{Bool, true, false, not, ◌&&◌, ◌||◌, false≢true}
use Prim.Native.Nat.{ℕ, ◌+◌, ◌*◌, ◌^◌, ◌<◌, zero-le}
use native.Mathlib.Nat.{add_comm, le_of_lt, le_of_eq, mul-one, mul-pos, zero-mul}
use native.Mathlib.Omega.{arith}
use lib.Arith.{le→nltb, lt_of_le-ne}
use lib.Dec.{T, eqb, ltb, ltb→lt, lt→ltb, nltb→le, eqb→eq, eqb_refl}
use lib.IntN.{ℤ, pos}
use lib.Ieee.{Float, nan, inf, fin, up, down, lt, eq, le}
use lib.Ieee.Fits.{down_pos}
use lib.Ieee.Scale.{finite}
use lib.Signed.{◌≤ℤ◌, ◌<ℤ◌}
use Rattle.numbers.proofs.Differences.{lin}
use Rattle.numbers.proofs.Order.{le_pos}
use Rattle.dates.specs.Doubles.{beyond, numerator}
use Rattle.dates.specs.Inner.{passing}

pub below_inf : (x : Float) → lt x (inf false) ≡ true → lt (inf true) x ≡ finite x
unfolding lt
below_inf nan h = refl
below_inf (inf true) h = refl
below_inf (inf false) h = absurd (false≢true h)
below_inf (fin s m e) h = refl

pub not_below_inf : (x : Float) → lt x (inf false) ≡ false → false ≡ finite x
unfolding lt
not_below_inf nan h = refl
not_below_inf (inf s) h = refl
not_below_inf (fin s m e) h = sym h

-- ---- 0.0: −0.0 is not below it
pub below_zero : (x : Float) → T (finite x) → lt x (fin false 0 (pos 0)) ≡ true → numerator x <ℤ pos 0
unfolding lt numerator
below_zero nan f h = absurd f
below_zero (inf s) f h = absurd f
below_zero (fin false m e) f h =
    let l = ltb→lt (m * up e * 1) (0 * 1 * down e) (subst T (sym h) tt) in
    let no : ⊥ = omega (arith, zero-mul (down e)) in absurd no
below_zero (fin true m e) f h =
    let l = ltb→lt 0 (m * up e * 1 + 0 * 1 * down e) (subst T (sym h) tt) in simp lin (omega (arith, zero-mul (down e)))

pub not_below_zero : (x : Float) → T (finite x) → lt x (fin false 0 (pos 0)) ≡ false → pos 0 ≤ℤ numerator x
unfolding lt numerator
not_below_zero nan f h = absurd f
not_below_zero (inf s) f h = absurd f
not_below_zero (fin false m e) f h = le_pos 0 (m * up e) zero-le
not_below_zero (fin true m e) f h =
    let l = nltb→le 0 (m * up e * 1 + 0 * 1 * down e) (subst (λ (b : Bool). T (not b)) (sym h) tt) in simp lin (omega (arith, zero-mul (down e)))

-- ---- ≤ of doubles is < or =, and so not > of their sizes
le_is : (a b : ℕ) (same : Bool) → (T same → a ≡ b) → (a ≡ b → T same) → (ltb a b || (same && true)) ≡ not (ltb b a)
le_is a b same l r = go (ltb a b) same (ltb b a)
    (λ t. le→nltb b a (le_of_lt (ltb→lt a b t)))
    (λ t. le→nltb b a (le_of_eq (l t)))
    (λ p q. lt→ltb b a (lt_of_le-ne (nltb→le a b p) (λ (e : b ≡ a). never same (r (sym e)) q)))
  where
    never : (p : Bool) → T p → T (not p) → ⊥
    never true t n = n
    never false t n = t

    go : (p q r : Bool) → (T p → T (not r)) → (T q → T (not r)) → (T (not p) → T (not q) → T r)
        → (p || (q && true)) ≡ not r
    go true q true f g h = absurd (f tt)
    go true q false f g h = refl
    go false true true f g h = absurd (g tt)
    go false true false f g h = refl
    go false false true f g h = refl
    go false false false f g h = absurd (h tt tt)

sure : (p q : Bool) → T p → (p || q) ≡ true
sure true q t = refl
sure false q t = absurd t

module _ (k j : ℕ) where
  whole : (n c : ℕ) → ltb c (n * 1) ≡ ltb c n
  whole n c = ap (ltb c) (mul-one n)

  pub above : (x : Float) → lt (fin false k (pos j)) x ≡ true → true ≡ beyond (k * 2 ^ j) x
  unfolding lt beyond
  above nan h = sym h
  above (inf s) h = refl
  above (fin false m e) h = sym h ∙ whole (m * up e) (k * 2 ^ j * down e)
  above (fin true m e) h = absurd (false≢true h)

  pub not_above : (x : Float) → lt (fin false k (pos j)) x ≡ false → lt x (fin true k (pos j)) ≡ beyond (k * 2 ^ j) x
  unfolding lt beyond
  not_above nan h = refl
  not_above (inf false) h = sym h
  not_above (inf true) h = refl
  not_above (fin false m e) h = sym h ∙ whole (m * up e) (k * 2 ^ j * down e)
  not_above (fin true m e) h = whole (m * up e) (k * 2 ^ j * down e)

  -- from −k·2^j to k·2^j, which is above 0
  module _ (some : 0 < k * 2 ^ j) where
    abbrev size : ℕ → ℤ → ℕ
    size m e = m * up e * 1

    abbrev limit : ℤ → ℕ
    limit e = k * 2 ^ j * down e

    not_past : (m : ℕ) (e : ℤ)
        → (ltb (size m e) (limit e) || (eqb (size m e) (limit e) && true)) ≡ not (ltb (limit e) (m * up e))
    not_past m e =
        le_is (size m e) (limit e) (eqb (size m e) (limit e)) (eqb→eq (size m e) (limit e))
        (λ (h : size m e ≡ limit e). subst (λ (z : ℕ). T (eqb (size m e) z)) h (eqb_refl (size m e)))
        ∙ ap not (whole (m * up e) (limit e))

    not_past_below : (m : ℕ) (e : ℤ)
        → (ltb (size m e) (limit e) || (eqb (limit e) (size m e) && true)) ≡ not (ltb (limit e) (m * up e))
    not_past_below m e =
        le_is (size m e) (limit e) (eqb (limit e) (size m e)) (λ t. sym (eqb→eq (limit e) (size m e) t))
        (λ (h : size m e ≡ limit e). subst (λ (z : ℕ). T (eqb z (size m e))) h (eqb_refl (size m e)))
        ∙ ap not (whole (m * up e) (limit e))

    apart : (m : ℕ) (e : ℤ) → T (ltb 0 (size m e + limit e))
    apart m e = lt→ltb 0 (size m e + limit e) (go (size m e) (limit e) (mul-pos some (down_pos e)))
      where
        go : (a b : ℕ) → 0 < b → 0 < a + b
        go a b h = omega arith

    apart_below : (m : ℕ) (e : ℤ) → T (ltb 0 (limit e + size m e))
    apart_below m e = subst (λ (z : ℕ). T (ltb 0 z)) (add_comm (size m e) (limit e)) (apart m e)

    pub passes_above : (x : Float) → le x (fin false k (pos j)) ≡ false → false ≡ passing (k * 2 ^ j) x
    unfolding le lt eq beyond
    passes_above nan h = refl
    passes_above (inf false) h = refl
    passes_above (inf true) h = absurd (false≢true (sym h))
    passes_above (fin false m e) h = sym h ∙ not_past m e
    passes_above (fin true m e) h = absurd (false≢true (sym h ∙ sure (ltb 0 (size m e + limit e)) _ (apart m e)))

    pub passes_below : (x : Float) → le x (fin false k (pos j)) ≡ true
        → le (fin true k (pos j)) x ≡ passing (k * 2 ^ j) x
    unfolding le lt eq beyond
    passes_below nan h = absurd (false≢true h)
    passes_below (inf false) h = absurd (false≢true h)
    passes_below (inf true) h = refl
    passes_below (fin false m e) h = sure (ltb 0 (limit e + size m e)) _ (apart_below m e) ∙ sym h ∙ not_past m e
    passes_below (fin true m e) h = not_past_below m e
