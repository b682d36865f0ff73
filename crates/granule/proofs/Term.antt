-- c + q − b₂, for a coefficient c and a rounded product q: the two sums fit 64 bits. It is one law
-- for b_k and for v, in the words of the code. Assumes nothing.
use mathlib.Core.Path.{◌≡◌}
use Prim.Native.Nat.{ℕ, ◌^◌, ◌≤◌, ◌<◌}
use native.Mathlib.Nat.{mul-le-mul_right}
use native.Mathlib.Omega.{arith}
use lib.IntN.{ℤ, ◌+ℤ◌, ◌-ℤ◌, ◌*ℤ◌, neg_ℤ, nat_abs}
use mir.Syntax.{w64}
use mir.Val.{SFits}
use Rattle.numbers.specs.Rounding.{nearest}
use Rattle.numbers.proofs.Order.{abs_neg, size-*, size-+}
use Rattle.numbers.proofs.Machine.{fits, read, read_is}
use Rattle.numbers.proofs.Rounding.{nearest_small}
use Rattle.granule.specs.Asked.{Factors, Terms}

abbrev pub sum_of : ℤ → ℤ → ℤ
sum_of c q = read c +ℤ read q

abbrev pub term_of : ℤ → ℤ → ℤ → ℤ
term_of c q b₂ = read (sum_of c q) -ℤ read b₂

pub record SafeTerm (c q b₂ : ℤ) : Type 0 where
  pub sum : SFits w64 (sum_of c q)
  pub term : SFits w64 (term_of c q b₂)
  pub is : read (term_of c q b₂) ≡ c +ℤ q -ℤ b₂

-- a rounded product is at most 2^61
small : (u b : ℤ) (d : ℕ) → 2 ^ 29 ≤ d → Factors u b → nat_abs (nearest (u *ℤ b) d) ≤ 2 ^ 61
small u b d l f = nearest_small (u *ℤ b) d (2 ^ 61) (omega arith) (omega (arith, size-* u b f.argument f.bounded, mul-le-mul_right (2 ^ 61) l))

module _ (u c b₁ b₂ q : ℤ) (d : ℕ) (l : 2 ^ 29 ≤ d) (t : Terms u c b₁ b₂) (e : q ≡ nearest (u *ℤ b₁) d) where
  q_small : nat_abs q ≤ 2 ^ 61
  q_small = rw e (small u b₁ d l t.factors)

  sum_small : nat_abs (c +ℤ q) ≤ 2 ^ 62
  sum_small = omega (arith, size-+ c q t.coefficient q_small)

  term_small : nat_abs (c +ℤ q -ℤ b₂) < 2 ^ 63
  term_small = let h : nat_abs (neg_ℤ b₂) ≤ 2 ^ 60 = rw (abs_neg b₂) t.bounded in omega (arith, size-+ (c +ℤ q) (neg_ℤ b₂) sum_small h)

  c_is : read c ≡ c
  c_is = let h = t.coefficient in read_is c (fits c (omega arith))

  q_is : read q ≡ q
  q_is = let h = q_small in read_is q (fits q (omega arith))

  b_is : read b₂ ≡ b₂
  b_is = let h = t.bounded in read_is b₂ (fits b₂ (omega arith))

  sum_fits : SFits w64 (c +ℤ q)
  sum_fits = let h = sum_small in fits (c +ℤ q) (omega arith)

  term_is : term_of c q b₂ ≡ c +ℤ q -ℤ b₂
  term_is = rw (c_is, q_is, b_is, read_is (c +ℤ q) sum_fits)

  pub safe_term : SafeTerm c q b₂
  safe_term = record {
    sum = rw (c_is, q_is) sum_fits;
    term = rw term_is (fits (c +ℤ q -ℤ b₂) term_small);
    is = rw term_is (read_is (c +ℤ q -ℤ b₂) (fits (c +ℤ q -ℤ b₂) term_small));
  }
