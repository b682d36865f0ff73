-- A number as text: 'optional minus on each, 1 to 20 digits, each fitting signed 64 bits'.
use Rattle.std.specs.Prelude.{Bool, true, false, cond, ◌&&◌, List, [], ◌∷◌, ℕ, ◌+◌, ◌*◌, ◌-◌, ◌^◌}
use Rattle.std.specs.Prelude.{leb, eqb, ℤ, pos, neg_ℤ, length}
use Rattle.std.proofs.Math.Option.{Option, some, none}
use Rattle.std.specs.Int.Signed.{le_z, lt_z}
use Rattle.numbers.specs.Signs.{signed}

-- the bytes of the digits 0 to 9
unfoldable pub is_digit : ℕ → Bool
is_digit byte = leb 48 byte && leb byte 57

unfoldable pub all_digits : List ℕ → Bool
all_digits [] = true
all_digits (byte ∷ more) = is_digit byte && all_digits more

-- what digits say after a number: each one makes it ten times as large and adds itself
unfoldable pub value_from : ℕ → List ℕ → ℕ
value_from n [] = n
value_from n (byte ∷ more) = value_from (10 * n + (byte - 48)) more

unfoldable pub value_of : List ℕ → ℕ
value_of digits = value_from 0 digits

-- 'each fitting signed 64 bits'
unfoldable pub fits_signed : ℤ → Bool
fits_signed z = le_z (neg_ℤ (pos (2 ^ 63))) z && lt_z z (pos (2 ^ 63))

unfoldable pub fitting : ℤ → Option ℤ
fitting z = cond (fits_signed z) (some z) none

-- '1 to 20 digits': the minus is not one of them
unfoldable pub digits_number : Bool → List ℕ → Option ℤ
digits_number negative text =
    cond (leb 1 (length text) && leb (length text) 20 && all_digits text)
    (fitting (signed negative (value_of text)))
    none

-- 'optional minus': the number that a text says, if it says one
unfoldable pub number_in : List ℕ → Option ℤ
number_in [] = none
number_in (byte ∷ more) =
    cond (eqb byte 45) (digits_number true more) (digits_number false (byte ∷ more))
