-- `image::take::stored` meets its contract: each call gives the coefficient stored there. Assumes
-- nothing.
use Prim.Native.Nat.{ℕ, zero, suc, ◌+◌, ◌<◌}
use Rattle.image.specs.Image.{coefficient_at, stored_of}
use Rattle.numbers.proofs.Places.{is_up_to}
use Rattle.std.specs.Array.{IsFromFnResultFrom}
use borrow.Author.Rules.{rules}
use denote.Param.Members.{Mut, Called}
use lib.IntN.{pos}
use lib.ListN.{get_or}
use mathlib.Core.List.{List}
use mathlib.Core.Path.{◌≡◌, ◌∙◌, sym, ap, subst}
use native.Mathlib.Nat.{add-zero, zero-add, le_of_suc-le-suc, not-suc-le-zero}
use native.Mathlib.Omega.{arith}
use Rattle.image.proofs.take.stored.Goals as goal

module _ {F B : Type 0} (g : Mut F (ℕ × Unit {0}) B) (of : ℕ → B) (ys : List B) (d : B) (f : F)
    (each : (i : ℕ) (y : B) (q : F) → Called g f (i, tt) y q → (q ≡ f) × (y ≡ of i)) where
  made : (n i : ℕ) → IsFromFnResultFrom g f ys i n → (k : ℕ) → k < n → get_or ys (i + k) d ≡ of (i + k)
  made zero i m k h = absurd (not-suc-le-zero h)
  made (suc n) i m zero h =
      ap (λ x. get_or ys x d) (add-zero i) ∙ m.2.1 d ∙ (each i m.1 m.0 m.3).1 ∙ ap of (sym (add-zero i))
  made (suc n) i m (suc k) h =
      let e : i + 1 + k ≡ i + suc k = omega arith in
      let P : F → Type 0 = λ p. IsFromFnResultFrom g p ys (i + 1) n in
      rw e at (made n (i + 1) (subst P (each i m.1 m.0 m.3).0 m.4) k (le_of_suc-le-suc h))

  all_made : (n : ℕ) → IsFromFnResultFrom g f ys 0 n → (k : ℕ) → k < n → get_or ys k d ≡ of k
  all_made n m k h = rw zero-add at (made n 0 m k h)

pub returns : goal.returns
unfolding stored_of
returns c =
    is_up_to _ 16 (pos 0) _ c.from_fn.ensures.items.long
    (all_made _ (coefficient_at c.args.bytes.now c.args.granule) _ (pos 0) _ (λ i y q k. search rules) 16 c.from_fn.ensures.items.each)
