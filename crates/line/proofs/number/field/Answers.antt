-- `line::number::field` meets its contract: the bytes before the first space. Assumes nothing.
use Rattle.std.proofs.Common.{◌≡◌, ℕ, suc, Bool, not, ◌+◌, List, [], ◌∷◌, true, false, length, take, nat_eq, nat_lt, ap, refl, unwrap_or, position, arith}
use borrow.Author.Tests.{ltb-false}
use Rattle.std.specs.List.{position_or_len}
use Rattle.std.proofs.lemmas.List.Sums.{prefix_len-le-length}
use Rattle.line.specs.Scan.{field}
use Rattle.line.proofs.Cases.{either}
use Rattle.line.proofs.number.field.Goals as goal

abbrev space : ℕ → Bool
space byte = nat_eq byte 32

-- so many bytes as there are before the first space
before_space : (text : List ℕ) → take (position_or_len space text) text ≡ field text
unfolding field
before_space [] = refl
before_space (byte ∷ more) = either (nat_eq byte 32)
    (λ (e : nat_eq byte 32 ≡ true). rw e)
    (λ (e : nat_eq byte 32 ≡ false). let one : 1 + position_or_len space more ≡ suc (position_or_len space more) = omega arith in
    rw (e, one) (ap (λ (l : List ℕ). byte ∷ l) (before_space more)))

at_space : (text : List ℕ) → unwrap_or (position space text) (length text) ≡ position_or_len space text
at_space text = either (nat_lt (position_or_len space text) (length text))
    (λ (e : nat_lt (position_or_len space text) (length text) ≡ true). rw e)
    (λ (e : nat_lt (position_or_len space text) (length text) ≡ false). let l = ltb-false _ _ e in
    rw e (omega (arith, l, prefix_len-le-length (λ b. not (space b)) text)))

pub returns : goal.returns
returns c = rw (c.unwrap_or.ensures, c.space_in.ensures, at_space) (before_space _)
