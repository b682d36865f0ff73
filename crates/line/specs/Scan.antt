-- What the reader's inner functions hand on, at a place of a line.
use Rattle.std.specs.Prelude.{cond, List, [], ◌∷◌, ℕ, ◌+◌, eqb, ℤ, length, drop, Some, None}
use Rattle.std.specs.Prelude as code
use Rattle.std.proofs.Math.Option.{Option, some, none}
use Rattle.line.specs.Numbers.{number_in}
use Rattle.line.specs.declared.number.Found.{Found}

-- the field at the front of a text: the bytes before the first space
unfoldable pub field : List ℕ → List ℕ
field [] = []
field (byte ∷ more) = cond (eqb byte 32) [] (byte ∷ field more)

-- what the code's option says
abbrev pub told : code.Option ℤ → Option ℤ
told (Some z) = some z
told None = none

-- a number and where it ends
abbrev pub found_number : ℤ → ℕ → code.Option Found
found_number number end = Some (record { number = number; end = end })

abbrev pub found_at : Option ℤ → ℕ → code.Option Found
found_at (some z) end = found_number z end
found_at none end = None

-- the number that the field at a place says
unfoldable pub number_scanned : List ℕ → ℕ → code.Option Found
number_scanned text at =
    found_at (number_in (field (drop at text))) (at + length (field (drop at text)))
