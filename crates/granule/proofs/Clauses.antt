-- The clauses of the definitions, each as an equation, so that a proof opens one clause at a time;
-- and the page's recurrence over k, which they amount to. Assumes nothing.
use mathlib.Core.Path.{◌≡◌, refl, ◌∙◌, ap}
use mathlib.Core.List.{List, [], ◌∷◌}
use Prim.Native.Nat.{ℕ, zero, suc, ◌+◌, ◌*◌, ◌^◌, ◌≤◌, ◌<◌}
use lib.IntN.{ℤ, pos, ◌+ℤ◌, ◌-ℤ◌, ◌*ℤ◌, nat_abs}
use lib.ListN.{length, get_or, drop}
use lib.Seq.{drop-cons}
use Rattle.numbers.specs.Rounding.{nearest}
use Rattle.numbers.specs.Chebyshev.{E}
use Rattle.granule.proofs.Downward.{drop_past}
use Rattle.granule.specs.Rule.{exact_from, exact_sum, b_from, b_at, v_of}
use Rattle.granule.specs.Tests.{weight_from, plain_sum, alternating_sum}

-- ---- the exact sum
pub exact_nil : (p : ℤ) (H k : ℕ) → exact_from p H k [] ≡ pos 0
unfolding exact_from
exact_nil p H k = refl

pub exact_cons : (p : ℤ) (H k : ℕ) (c : ℤ) (cs : List ℤ)
    → exact_from p H k (c ∷ cs) ≡ c *ℤ pos (H ^ length cs) *ℤ E p (pos H) k +ℤ exact_from p H (suc k) cs
unfolding exact_from
exact_cons p H k c cs = refl

pub exact_is : (p : ℤ) (H : ℕ) (cs : List ℤ) → exact_sum p H cs ≡ exact_from p H 0 cs
unfolding exact_sum
exact_is p H cs = refl

-- ---- the recurrence, from c_k on
pub b_now : (u c : ℤ) (cs : List ℤ) → (b_from u (c ∷ cs)).0
    ≡ c +ℤ nearest (u *ℤ (b_from u cs).0) (2 ^ 29) -ℤ (b_from u cs).1
unfolding b_from
b_now u c cs = refl

pub b_was : (u c : ℤ) (cs : List ℤ) → (b_from u (c ∷ cs)).1 ≡ (b_from u cs).0
unfolding b_from
b_was u c cs = refl

b_nil : (u : ℤ) → (b_from u []).0 ≡ pos 0
unfolding b_from
b_nil u = refl

-- b_(k+1) of c_k, .., c_n is b_k of c_(k+1), .., c_n
b_second : (u : ℤ) (cs : List ℤ) → (b_from u (drop 1 cs)).0 ≡ (b_from u cs).1
unfolding b_from
b_second u [] = refl
b_second u (c ∷ cs) = refl

pub v_cons : (u c : ℤ) (cs : List ℤ) → v_of u (c ∷ cs) ≡ c +ℤ nearest (u *ℤ (b_from u cs).0) (2 ^ 30) -ℤ (b_from u cs).1
unfolding v_of b_at
v_cons u c cs = rw (b_second u cs)

-- ---- the page's words: b_(n+1) = b_(n+2) = 0, and b_k from b_(k+1) and b_(k+2)
b_at_lem : (u : ℤ) (cs : List ℤ) (k : ℕ) → b_at u cs k ≡ (b_from u (drop k cs)).0
unfolding b_at
b_at_lem u cs k = refl

pub b_top : (u : ℤ) (cs : List ℤ) (k : ℕ) → length cs ≤ k → b_at u cs k ≡ pos 0
b_top u cs k h = b_at_lem u cs k ∙ ap (λ (ds : List ℤ). (b_from u ds).0) (drop_past cs k h) ∙ b_nil u

drop_next : (cs : List ℤ) (k : ℕ) → drop 1 (drop k cs) ≡ drop (suc k) cs
drop_next [] zero = refl
drop_next [] (suc k) = refl
drop_next (c ∷ cs) zero = refl
drop_next (c ∷ cs) (suc k) = drop_next cs k

pub b_turn : (u : ℤ) (cs : List ℤ) (k : ℕ) → k < length cs
    → b_at u cs k ≡ get_or cs k (pos 0) +ℤ nearest (u *ℤ b_at u cs (suc k)) (2 ^ 29) -ℤ b_at u cs (suc (suc k))
b_turn u cs k h =
    rw (
      b_at_lem u cs k,
      b_at_lem u cs (suc k),
      b_at_lem u cs (suc (suc k)),
      drop-cons cs k (pos 0) h,
      b_now u (get_or cs k (pos 0)) (drop (suc k) cs),
      ← drop_next cs (suc k),
      b_second u (drop (suc k) cs),
    )

-- ---- the sums of the tests
pub weight_nil : (k : ℕ) → weight_from k [] ≡ 0
unfolding weight_from
weight_nil k = refl

pub weight_cons : (k : ℕ) (c : ℤ) (cs : List ℤ) → weight_from k (c ∷ cs) ≡ k * k * nat_abs c + weight_from (suc k) cs
unfolding weight_from
weight_cons k c cs = refl

pub plain_nil : plain_sum [] ≡ pos 0
unfolding plain_sum
plain_nil = refl

pub plain_cons : (c : ℤ) (cs : List ℤ) → plain_sum (c ∷ cs) ≡ c +ℤ plain_sum cs
unfolding plain_sum
plain_cons c cs = refl

pub alternating_nil : alternating_sum [] ≡ pos 0
unfolding alternating_sum
alternating_nil = refl

pub alternating_cons : (c : ℤ) (cs : List ℤ) → alternating_sum (c ∷ cs) ≡ c -ℤ alternating_sum cs
unfolding alternating_sum
alternating_cons c cs = refl
