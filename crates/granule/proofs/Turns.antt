-- The turns of the recurrence as the code makes them, from c_n down to c_1 and to v. Assumes
-- nothing.
use mathlib.Core.Path.{◌≡◌, refl, sym, ◌∙◌, ap}
use mathlib.Core.List.{List}
use Prim.Native.Nat.{ℕ, suc, ◌+◌, ◌-◌, ◌^◌, ◌≤◌, ◌<◌}
use native.Mathlib.Omega.{arith}
use lib.Dec.{lit<}
use lib.IntN.{ℤ, pos, ◌+ℤ◌, ◌-ℤ◌, ◌*ℤ◌}
use lib.ListN.{length, get_or, take, drop, length-drop}
use lib.Seq.{length-take-le, get_or-take, get_or-drop, take-take}
use Rattle.numbers.specs.Rounding.{nearest}
use Rattle.numbers.proofs.Differences.{rep, lin}
use Rattle.numbers.proofs.Machine.{fits, read, read_is}
use Rattle.numbers.proofs.Rounding.{nearest_none}
use Rattle.granule.specs.Rule.{scale, p_of, u_of, b_at, v_of, value_at}
use Rattle.granule.specs.Asked.{Terms, Evaluable}
use Rattle.granule.proofs.Bounded.{terms}
use Rattle.granule.proofs.Clauses.{b_top, b_turn}
use Rattle.granule.proofs.Passing.{small_at}

abbrev u_at : ℕ → ℕ → ℤ
u_at place H = u_of (p_of place H) H

-- b₁ and b₂ are b_(k+1) and b_(k+2)
pub record Turned (cs : List ℤ) (place H k : ℕ) (b₁ b₂ : ℤ) : Type 0 where
  pub below : suc k < length cs
  pub one : b₁ ≡ b_at (u_at place H) cs (suc k)
  pub two : b₂ ≡ b_at (u_at place H) cs (suc (suc k))

-- and c_1, .., c_k are left
pub record Left (cs : List ℤ) (place H : ℕ) (left : List ℤ) (b₁ b₂ : ℤ) : Type 0 where
  pub turned : Turned cs place H (length left) b₁ b₂
  pub front : left ≡ take (length left) (drop 1 cs)

-- what is made of c_k where nothing stands above it
only : (u c : ℤ) (d : ℕ) → 0 < d → c +ℤ nearest (u *ℤ pos 0) d -ℤ pos 0 ≡ c
only u c d h = ap (λ (z : ℤ). c +ℤ nearest z d -ℤ pos 0) (none u) ∙ ap (λ (z : ℤ). c +ℤ z -ℤ pos 0) (nearest_none (pos 0) d h) ∙ same c
  where
    none : (u : ℤ) → u *ℤ pos 0 ≡ pos 0
    none = rep _ (λ a b. simp lin (omega arith))

    same : (c : ℤ) → c +ℤ pos 0 -ℤ pos 0 ≡ c
    same = rep _ (λ a b. simp lin (omega arith))

value_is : (cs : List ℤ) (place H : ℕ) → value_at cs place H
    ≡ get_or cs 0 (pos 0) +ℤ nearest (u_at place H *ℤ b_at (u_at place H) cs 1) scale -ℤ b_at (u_at place H) cs 2
unfolding value_at v_of
value_is cs place H = refl

module _ (cs : List ℤ) (place H : ℕ) (e : Evaluable cs place H) where
  -- a coefficient as the code reads it
  pub coefficient : (k : ℕ) → read (get_or cs k (pos 0)) ≡ get_or cs k (pos 0)
  coefficient k = let h = small_at cs k e.summable.small in read_is (get_or cs k (pos 0)) (fits (get_or cs k (pos 0)) (omega arith))

  pub left_at : (left : List ℤ) (i k : ℕ) → left ≡ take (length left) (drop 1 cs) → suc i ≡ k → k ≤ length left
      → read (get_or left i (pos 0)) ≡ get_or cs k (pos 0)
  left_at left i k front next h =
      let back : 1 + i ≡ k = omega arith in
      let here : get_or left i (pos 0) ≡ get_or cs k (pos 0) =
      ap (λ (l : List ℤ). get_or l i (pos 0)) front
      ∙ get_or-take (length left) (drop 1 cs) i (pos 0) (omega arith)
      ∙ get_or-drop 1 cs i (pos 0)
      ∙ ap (λ (j : ℕ). get_or cs j (pos 0)) back in
      rw here (coefficient k)

  pub shortened : (left : List ℤ) (m : ℕ) (b₁ b₂ : ℤ) → left ≡ take (length left) (drop 1 cs) → m ≤ length left
      → Turned cs place H m b₁ b₂
      → Left cs place H (take m left) b₁ b₂
  shortened left m b₁ b₂ front h t =
      let long = length-take-le m left h in
      record {
        turned = rw long t;
        front = ap (take m) front ∙ take-take m (length left) (drop 1 cs) h ∙ ap (λ (k : ℕ). take k (drop 1 cs)) (sym long);
      }

  -- where c_0 is all, it is v
  pub alone : length cs < 2 → read (get_or cs 0 (pos 0)) ≡ value_at cs place H
  alone h =
      let some = e.some in
      let one = b_top (u_at place H) cs 1 (omega arith) in
      let two = b_top (u_at place H) cs 2 (omega arith) in
      coefficient 0 ∙ sym (value_is cs place H ∙ rw (one, two) (only (u_at place H) (get_or cs 0 (pos 0)) scale (lit< tt)))

  begins : 2 ≤ length cs → Turned cs place H (length cs - 1 - 1) (read (get_or cs (length cs - 1) (pos 0))) (pos 0)
  begins h =
      let n = length cs - 1 in
      let back : suc (n - 1) ≡ n = omega arith in
      let above = b_top (u_at place H) cs (suc n) (omega arith) in
      let next = b_top (u_at place H) cs (suc (suc n)) (omega arith) in
      let top : get_or cs n (pos 0) ≡ b_at (u_at place H) cs n =
      sym (rw (above, next) at (b_turn (u_at place H) cs n (omega arith)) ∙ only (u_at place H) (get_or cs n (pos 0)) (2 ^ 29) (lit< tt)) in
      record { below = omega arith; one = rw back (coefficient n ∙ top); two = rw back (sym above) }

  pub starts : 2 ≤ length cs
      → Left cs place H (take (length cs - 1 - 1) (drop 1 cs)) (read (get_or cs (length cs - 1) (pos 0))) (pos 0)
  starts h =
      let m = length cs - 1 - 1 in
      let long : length (take m (drop 1 cs)) ≡ m = length-take-le m (drop 1 cs) (omega (arith, length-drop 1 cs)) in
      record { turned = rw long (begins h); front = ap (λ (k : ℕ). take k (drop 1 cs)) (sym long) }

  -- v, b₁ and b₂ as the code has them, with c_k
  module _ (u : ℤ) (made : u ≡ u_at place H) (k : ℕ) (b₁ b₂ : ℤ) (t : Turned cs place H k b₁ b₂) where
    pub fit : (c : ℤ) → c ≡ get_or cs k (pos 0) → Terms u c b₁ b₂
    fit c is = rw (made, is, t.one, t.two) (terms cs place H k e)

    pub turns : (c b : ℤ) → c ≡ get_or cs k (pos 0) → b ≡ c +ℤ nearest (u *ℤ b₁) (2 ^ 29) -ℤ b₂ → 1 ≤ k
        → Turned cs place H (k - 1) b b₁
    turns c b is h some =
        let below = t.below in
        let back : suc (k - 1) ≡ k = omega arith in
        record {
          below = omega arith;
          one = rw back ((rw (made, is, t.one, t.two) at h) ∙ sym (b_turn (u_at place H) cs k (omega arith)));
          two = rw back t.one;
        }

    pub ends : (c v : ℤ) → c ≡ get_or cs k (pos 0) → v ≡ c +ℤ nearest (u *ℤ b₁) scale -ℤ b₂ → k ≡ 0
        → v ≡ value_at cs place H
    ends c v is h none =
        let at = rw none at is in
        let one = rw none at t.one in
        let two = rw none at t.two in
        (rw (made, at, one, two) at h) ∙ sym (value_is cs place H)
