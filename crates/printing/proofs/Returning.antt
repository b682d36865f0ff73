-- A printed answer's numbers read back to themselves. Assumes nothing.
use Rattle.line.specs.Answers.{numbers_read}
use borrow.Author.Tests.{ne_eqb, le-leb, leb-true, ltb-true, not-true}
use mathlib.Core.Path.{◌≡◌, refl, ◌∙◌, ap}
use mathlib.Core.Bool.{Bool, true, false, not, ◌&&◌}
use mathlib.Core.List.{List, [], ◌∷◌, ◌++◌, append_assoc}
use mathlib.Core.Option.{some}
use Prim.Native.Nat.{ℕ, suc, ◌^◌, ◌≤◌, ◌<◌}
use native.Mathlib.Omega.{arith}
use lib.Dec.{eqb}
use lib.IntN.{ℤ, pos, negsuc}
use lib.ListN.{length, length-append}
use mir.Syntax.{w64}
use mir.Val.{SFits}
use Rattle.numbers.specs.Signs.{signed}
use Rattle.line.specs.Numbers.{is_digit, all_digits, fits_signed, fitting, digits_number, number_in}
use Rattle.line.specs.Lines.{fields, line_read}
use Rattle.printing.specs.Texts.{decimal, integer_text, answer_text}
use Rattle.numbers.proofs.Flags.{both}
use Rattle.line.proofs.Digits.{digit_bounds, digit_no_space, some_digits}
use Rattle.line.proofs.Fitting.{positive_fits, negative_fits}
use Rattle.printing.proofs.Decimals.{all_digits_lem, value_decimal, some_length, few_digits}
use Rattle.printing.proofs.Lengths.{integer_length}

-- ---- a number
fits : (z : ℤ) → fits_signed z ≡ true → SFits w64 z
unfolding fits_signed
fits (pos n) e = record { sfits = ltb-true n (2 ^ 63) e }
fits (negsuc n) e = let b = both _ true e in let h = leb-true n 9223372036854775807 b.0 in record { sfits = omega arith }

-- the decimals of a size below 10^19, as digits of a number of either sign
decimal_number : (negative : Bool) (n : ℕ) → n < 10 ^ 19
    → digits_number negative (decimal n) ≡ fitting (signed negative n)
decimal_number negative n h =
    some_digits negative (decimal n) (some_length n) (omega (arith, few_digits 18 n h)) (all_digits_lem n)
    ∙ ap (λ (k : ℕ). fitting (signed negative k)) (value_decimal n)

no_minus : (text : List ℕ) → 1 ≤ length text → all_digits text ≡ true → number_in text ≡ digits_number false text
unfolding number_in all_digits
no_minus [] l e = let z : ⊥ = omega arith in absurd z
no_minus (byte ∷ more) l e =
    let d = digit_bounds byte (both (is_digit byte) (all_digits more) e).0 in
    rw (ne_eqb byte 45 (λ s. let z : ⊥ = omega arith in z))

-- the text of a number that fits signed 64 bits says that number
pub number_back : (z : ℤ) → fits_signed z ≡ true → number_in (integer_text z) ≡ some z
unfolding integer_text number_in
number_back (pos n) e =
    let h = (fits (pos n) e).sfits in
    no_minus (decimal n) (some_length n) (all_digits_lem n) ∙ decimal_number false n (omega arith) ∙ positive_fits n h
number_back (negsuc n) e =
    let h = (fits (negsuc n) e).sfits in
    decimal_number true (suc n) (omega arith) ∙ negative_fits n (omega arith)

-- ---- a line of three numbers
-- a text that is one field
no_space : List ℕ → Bool
no_space [] = true
no_space (byte ∷ more) = not (eqb byte 32) && no_space more

digits_no_space : (text : List ℕ) → all_digits text ≡ true → no_space text ≡ true
unfolding no_space all_digits
digits_no_space [] e = refl
digits_no_space (byte ∷ more) e =
    let b = both (is_digit byte) (all_digits more) e in
    rw (digit_no_space byte b.0) (digits_no_space more b.1)

integer_no_space : (z : ℤ) → no_space (integer_text z) ≡ true
unfolding integer_text no_space
integer_no_space (pos n) = digits_no_space (decimal n) (all_digits_lem n)
integer_no_space (negsuc n) = digits_no_space (decimal (suc n)) (all_digits_lem (suc n))

field_then : (text rest : List ℕ) → no_space text ≡ true → fields (text ++ 32 ∷ rest) ≡ text ∷ fields rest
unfolding fields no_space
field_then [] rest e = refl
field_then (byte ∷ more) rest e =
    let b = both (not (eqb byte 32)) (no_space more) e in
    rw (not-true (eqb byte 32) b.0, field_then more rest b.1)

field_last : (text : List ℕ) → no_space text ≡ true → fields text ≡ text ∷ []
unfolding fields no_space
field_last [] e = refl
field_last (byte ∷ more) e =
    let b = both (not (eqb byte 32)) (no_space more) e in
    rw (not-true (eqb byte 32) b.0, field_last more b.1)

apart : (to tick : ℤ) (steps : ℕ)
    → answer_text to tick steps ≡ integer_text to ++ 32 ∷ (integer_text tick ++ 32 ∷ integer_text (pos steps))
unfolding answer_text integer_text
apart to tick steps = simp append_assoc

answer_fields : (to tick : ℤ) (steps : ℕ)
    → fields (answer_text to tick steps) ≡ integer_text to ∷ integer_text tick ∷ integer_text (pos steps) ∷ []
answer_fields to tick steps =
    ap fields (apart to tick steps)
    ∙ field_then (integer_text to) _ (integer_no_space to)
    ∙ ap (λ (l : List (List ℕ)). integer_text to ∷ l) (field_then (integer_text tick) _ (integer_no_space tick))
    ∙ ap (λ (l : List (List ℕ)). integer_text to ∷ integer_text tick ∷ l) (field_last (integer_text (pos steps)) (integer_no_space (pos steps)))

short : (to tick : ℤ) (steps : ℕ) → fits_signed to ≡ true → fits_signed tick ≡ true → fits_signed (pos steps) ≡ true
    → length (answer_text to tick steps) ≤ 64
unfolding answer_text
short to tick steps a b c =
    let h = (fits (pos steps) c).sfits in
    simp length-append (omega (arith, integer_length to (fits to a), integer_length tick (fits tick b), few_digits 18 steps (omega arith)))

-- and a printed answer, without its newline, is a line of its three numbers. A count of steps is
-- far below 2^63
pub line_reads_back : (to tick : ℤ) (steps line : ℕ) → fits_signed to ≡ true → fits_signed tick ≡ true
    → fits_signed (pos steps) ≡ true
    → line_read (answer_text to tick steps) line ≡ numbers_read to tick (pos steps)
unfolding line_read
line_reads_back to tick steps line a b c =
    rw (
      le-leb (length (answer_text to tick steps)) 64 (short to tick steps a b c),
      answer_fields to tick steps,
      number_back to a,
      number_back tick b,
      number_back (pos steps) c,
    )
