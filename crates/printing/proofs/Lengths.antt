-- How long the printed texts are: an integer that fits signed 64 bits has at most 20 characters, a
-- number below 2^32 at most 10, and so no line is longer than the longest. Assumes nothing.
use Prim.Native.Nat.{ℕ, suc, ◌+◌, ◌^◌, ◌≤◌, ◌<◌}
use native.Mathlib.Omega.{arith}
use lib.IntN.{ℤ, pos, negsuc}
use lib.ListN.{length, length-append}
use mir.Syntax.{w64}
use mir.Val.{SFits}
use Rattle.printing.specs.Texts.{decimal, integer_text, answer_text, refused_text, printed}
use Rattle.printing.specs.Texts.{answer_line, refused_line}
use Rattle.printing.specs.Buffers.{longest}
use Rattle.printing.proofs.Decimals.{few_digits}

pub integer_length : (z : ℤ) → SFits w64 z → length (integer_text z) ≤ 20
unfolding integer_text
integer_length (pos n) f = let h = f.sfits in omega (arith, few_digits 18 n (omega arith))
integer_length (negsuc n) f = let h = f.sfits in omega (arith, few_digits 18 (suc n) (omega arith))

pub small_length : (n : ℕ) → n < 2 ^ 32 → length (decimal n) ≤ 10
small_length n h = few_digits 9 n (omega arith)

pub answer_length : (to tick : ℤ) (steps : ℕ) → SFits w64 to → SFits w64 tick → steps < 2 ^ 32
    → length (answer_text to tick steps) + 1 ≤ longest
unfolding answer_text
answer_length to tick steps f g h = simp length-append (omega (arith, integer_length to f, integer_length tick g, small_length steps h))

pub refused_length : (number : ℕ) → number < 2 ^ 32 → length (refused_text number) + 1 ≤ longest
unfolding refused_text
refused_length number h = simp length-append (omega (arith, small_length number h))

-- no printed line is longer
pub answer_longest : (to tick : ℤ) (steps : ℕ) → SFits w64 to → SFits w64 tick → steps < 2 ^ 32
    → length (answer_line to tick steps) ≤ longest
unfolding printed
answer_longest to tick steps f g h = simp length-append (answer_length to tick steps f g h)

pub refused_longest : (number : ℕ) → number < 2 ^ 32 → length (refused_line number) ≤ longest
unfolding printed
refused_longest number h = simp length-append (refused_length number h)
