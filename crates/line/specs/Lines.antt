-- A line's numbers: '`from to tick`, one space between, at most 64 bytes without the newline'.
use Rattle.line.specs.Answers.{Line, numbers_read}
use Rattle.std.specs.Prelude.{Err, cond, List, [], ◌∷◌, map, ℕ, leb, ltb, eqb, ℤ, pos, negsuc}
use Rattle.std.specs.Prelude.{length}
use Rattle.std.proofs.Math.Option.{Option, some, none}
use Rattle.line.specs.Numbers.{number_in}

-- fields with one byte more at the front of the first
abbrev pub starting_with : ℕ → List (List ℕ) → List (List ℕ)
starting_with byte [] = (byte ∷ []) ∷ []
starting_with byte (field ∷ more) = (byte ∷ field) ∷ more

-- a line's fields: it is split at each space, so an extra space, a leading or a trailing one leaves
-- an empty field
unfoldable pub fields : List ℕ → List (List ℕ)
fields [] = [] ∷ []
fields (byte ∷ more) = cond (eqb byte 32) ([] ∷ fields more) (starting_with byte (fields more))

-- refusal '9: text line not understood', place 'line, from 1'
abbrev pub not_understood : ℕ → Line
not_understood line = Err (record { number = 9; place = line })

-- three numbers, and nothing else
abbrev pub three_numbers : List (Option ℤ) → ℕ → Line
three_numbers [] line = not_understood line
three_numbers (none ∷ more) line = not_understood line
three_numbers (some from ∷ []) line = not_understood line
three_numbers (some from ∷ none ∷ more) line = not_understood line
three_numbers (some from ∷ some to ∷ []) line = not_understood line
three_numbers (some from ∷ some to ∷ none ∷ more) line = not_understood line
three_numbers (some from ∷ some to ∷ some tick ∷ []) line = numbers_read from to tick
three_numbers (some from ∷ some to ∷ some tick ∷ extra ∷ more) line = not_understood line

-- 'at most 64 bytes'
unfoldable pub line_read : List ℕ → ℕ → Line
line_read text line =
    cond (leb (length text) 64)
    (three_numbers (map number_in (fields text)) line)
    (not_understood line)

-- 'A code outside 0..6 is refusal 1, after 9': which numbers are codes is the desk's to say, whose
-- codes are unsigned numbers of 32 bits. The greatest of these can never be one: it stands for each
-- number that is not below it, and for each below 0
abbrev pub no_code : ℕ
no_code = 4294967295

abbrev pub code_of : ℤ → ℕ
code_of (pos n) = cond (ltb n no_code) n no_code
code_of (negsuc n) = no_code
