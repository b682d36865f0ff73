-- `line::number::number_in` meets its contract: a minus is the first byte of its field, and the
-- digits after it are the rest. Assumes nothing.
use Rattle.std.proofs.Common.{◌≡◌, ◌∙◌, refl, true, ℕ, false, List, [], ◌∷◌, drop, take, nat_eq}
use lib.Pointwise.{pointwise}
use Rattle.numbers.proofs.Flags.{both}
use Rattle.line.proofs.Cases.{either}
use Rattle.line.specs.Numbers.{digits_number, number_in}
use Rattle.line.proofs.number.number_in.Goals as goal

-- a field with a minus in front, and one without
minus : (text : List ℕ) → pointwise nat_eq (take 1 text) (45 ∷ []) ≡ true
    → digits_number true (drop 1 text) ≡ number_in text
unfolding number_in
minus [] e = let f : ⊥ = cc in absurd f
minus (byte ∷ more) e = rw (both (nat_eq byte 45) true e).0

no_minus : (text : List ℕ) → pointwise nat_eq (take 1 text) (45 ∷ []) ≡ false
    → digits_number false text ≡ number_in text
unfolding number_in digits_number
no_minus [] e = refl
no_minus (byte ∷ more) e = either (nat_eq byte 45)
    (λ (s : nat_eq byte 45 ≡ true). let f : true ≡ false = rw s at e in let g : ⊥ = cc in absurd g)
    (λ (s : nat_eq byte 45 ≡ false). rw s)

pub returns-in-Some : goal.returns-in-Some
returns-in-Some c =
    let cases = c.in-Some.ensures.cases in c.digits_number.ensures ∙ rw cases.1 (minus _ cases.0)

pub returns-in-None : goal.returns-in-None
returns-in-None c = c.digits_number-in-None.ensures ∙ no_minus _ c.in-None.ensures.cases
