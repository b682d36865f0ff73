-- Laws of the last number below another of which a test holds. Assumes nothing.
use mathlib.Core.Path.{◌≡◌, refl, sym, ◌∙◌}
use mathlib.Core.Bool.{Bool, true, false, cond}
use mathlib.Core.Logic.{⊎_elim}
use Prim.Native.Nat.{ℕ, zero, suc, ◌<◌}
use native.Mathlib.Nat.{le_of_suc-le-suc, not-suc-le-zero, eq-or-lt_of_le}
use native.Mathlib.Omega.{arith}
use Rattle.numbers.proofs.Flags.{never}
use Rattle.utc.specs.Days.{last_of}

-- what a search shows of its end
pub record Last (p : ℕ → Bool) (n r : ℕ) : Type 0 where
  pub within : r < n
  pub holds : p r ≡ true
  pub after : (j : ℕ) → r < j → j < n → p j ≡ false

pub last_is : (p : ℕ → Bool) (n r : ℕ) → Last p n r → last_of p n ≡ r
unfolding last_of
last_is p zero r l = absurd (not-suc-le-zero l.within)
last_is p (suc n) r l = ⊎_elim here (before (last_is p n r)) (eq-or-lt_of_le (le_of_suc-le-suc l.within))
  where
    here : r ≡ n → cond (p n) n (last_of p n) ≡ r
    here e = let yes = rw e at l.holds in rw yes (sym e)

    before : (Last p n r → last_of p n ≡ r) → r < n → cond (p n) n (last_of p n) ≡ r
    before lower h =
        let no = l.after n h (omega arith) in
        rw no (lower (record { within = h; holds = l.holds; after = λ j i k. l.after j i (omega arith) }))

-- where the test holds of 0
pub last_last : (p : ℕ → Bool) (n : ℕ) → 0 < n → p 0 ≡ true → Last p n (last_of p n)
unfolding last_of
last_last p zero h e = absurd (not-suc-le-zero h)
last_last p (suc n) h e = by (λ i. last_last p n i e) (p n) refl
  where
    none : (j : ℕ) → n < j → j < suc n → p j ≡ false
    none j i k = let no : ⊥ = omega arith in absurd no

    more : (r : ℕ) → p n ≡ false → Last p n r → Last p (suc n) r
    more r t l = record {
      within = omega (arith, l.within);
      holds = l.holds;
      after = λ j i k. ⊎_elim (λ (x : j ≡ n). (rw x t)) (λ (x : j < n). l.after j i x) (eq-or-lt_of_le (le_of_suc-le-suc k));
    }

    lower : (n : ℕ) → p n ≡ false → 0 < n
    lower zero t = never (sym t ∙ e)
    lower (suc n) t = omega arith

    by : (0 < n → Last p n (last_of p n)) → (t : Bool) → p n ≡ t → Last p (suc n) (cond t n (last_of p n))
    by before true t = record { within = omega arith; holds = t; after = none }
    by before false t = more (last_of p n) t (before (lower n t))
