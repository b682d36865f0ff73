-- What std prints for a number is its plain decimals, and for an integer its text. Assumes nothing.
use mathlib.Core.Path.{◌≡◌, sym, ◌∙◌, ap}
use mathlib.Core.List.{List, [], ◌∷◌, ◌++◌}
use Prim.Native.Nat.{ℕ, suc, ◌+◌, ◌%◌, ◌^◌, ◌<◌}
use native.Mathlib.Omega.{arith}
use lib.IntN.{ℤ, pos, negsuc}
use mir.Syntax.{w64}
use mir.Val.{SFits}
use Rattle.std.specs.Fmt as std
use Rattle.std.proofs.lemmas.Fmt.{decimal_by_steps}
use Rattle.printing.specs.Texts.{decimal, integer_text}
use Rattle.printing.proofs.Decimals.{decimal_one, decimal_more}

pub decimal_printed : (n : ℕ) → n < 2 ^ 64 → std.decimal n ≡ decimal n
decimal_printed =
    decimal_by_steps (λ n text. text ≡ decimal n)
    (λ n h. sym (decimal_one n h))
    (λ n text h e. ap (λ (s : List ℕ). s ++ ((48 + n % 10) ∷ [])) e ∙ sym (decimal_more n h))

pub integer_printed : (z : ℤ) → SFits w64 z → std.signed_decimal z ≡ integer_text z
unfolding integer_text
integer_printed (pos n) f = let h = f.sfits in decimal_printed n (omega arith)
integer_printed (negsuc n) f = let h = f.sfits in ap (λ (s : List ℕ). 45 ∷ s) (decimal_printed (suc n) (omega arith))
