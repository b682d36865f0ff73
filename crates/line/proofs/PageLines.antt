-- Lines that the page names, and lines at the edges of its rule, as one computed table each way.
-- Assumes nothing.
use mathlib.Core.Path.{◌≡◌, refl}
use mathlib.Core.List.{List, [], ◌∷◌}
use Prim.Native.Nat.{ℕ}
use lib.IntN.{ℤ, pos, negsuc}
use Rattle.line.specs.Numbers.{is_digit, all_digits, value_from, value_of, fits_signed, fitting}
use Rattle.line.specs.Numbers.{digits_number, number_in}
use Rattle.line.specs.Answers.{line_number, line_from, line_to, line_tick}
use Rattle.line.specs.Lines.{fields, line_read}

-- a line, and what it says as line 1: its number, 0 where it is understood, and its values
pub record PageLine : Type 0 where
  pub text : List ℕ
  pub number : ℕ
  pub from : ℤ
  pub to : ℤ
  pub tick : ℤ

abbrev says : List ℕ → ℤ → ℤ → ℤ → PageLine
says text from to tick = record { text = text; number = 0; from = from; to = to; tick = tick }

abbrev is9 : List ℕ → PageLine
is9 text = record { text = text; number = 9; from = pos 0; to = pos 0; tick = pos 0 }

abbrev pub page_lines : List PageLine
page_lines =
    -- the page's own three lines
    says (54 ∷ 32 ∷ 53 ∷ 32 ∷ 49 ∷ 48 ∷ 48 ∷ 48 ∷ 48 ∷ 48 ∷ 48 ∷ 48 ∷ 48 ∷ 48 ∷ 48 ∷ 48 ∷ 48
    ∷ 48 ∷ 48 ∷ 48 ∷ 48 ∷ 48 ∷ [])
    (pos 6) (pos 5) (pos 100000000000000000)
    ∷ says (48 ∷ 32 ∷ 50 ∷ 32 ∷ 48 ∷ []) (pos 0) (pos 2) (pos 0)
    ∷ says (52 ∷ 32 ∷ 57 ∷ 32 ∷ 49 ∷ []) (pos 4) (pos 9) (pos 1)
    -- a negative zero, leading zeros, and the least number that fits
    ∷ says (45 ∷ 48 ∷ 32 ∷ 48 ∷ 48 ∷ 55 ∷ 32 ∷ 45 ∷ 57 ∷ 50 ∷ 50 ∷ 51 ∷ 51 ∷ 55 ∷ 50 ∷ 48 ∷ 51
    ∷ 54 ∷ 56 ∷ 53 ∷ 52 ∷ 55 ∷ 55 ∷ 53 ∷ 56 ∷ 48 ∷ 56 ∷ [])
    (pos 0) (pos 7) (negsuc 9223372036854775807)
    -- one more than the greatest that fits
    ∷ is9 (49 ∷ 32 ∷ 50 ∷ 32 ∷ 57 ∷ 50 ∷ 50 ∷ 51 ∷ 51 ∷ 55 ∷ 50 ∷ 48 ∷ 51 ∷ 54 ∷ 56 ∷ 53 ∷ 52
    ∷ 55 ∷ 55 ∷ 53 ∷ 56 ∷ 48 ∷ 56 ∷ [])
    -- 20 digits, and 21
    ∷ says (49 ∷ 32 ∷ 50 ∷ 32 ∷ 48 ∷ 48 ∷ 48 ∷ 48 ∷ 48 ∷ 48 ∷ 48 ∷ 48 ∷ 48 ∷ 48 ∷ 48 ∷ 48 ∷ 48
    ∷ 48 ∷ 48 ∷ 48 ∷ 48 ∷ 48 ∷ 48 ∷ 51 ∷ [])
    (pos 1) (pos 2) (pos 3)
    ∷ is9 (49 ∷ 32 ∷ 50 ∷ 32 ∷ 48 ∷ 48 ∷ 48 ∷ 48 ∷ 48 ∷ 48 ∷ 48 ∷ 48 ∷ 48 ∷ 48 ∷ 48 ∷ 48 ∷ 48
    ∷ 48 ∷ 48 ∷ 48 ∷ 48 ∷ 48 ∷ 48 ∷ 48 ∷ 51 ∷ [])
    -- an empty line, a plus, a leading, a trailing and an extra space, a tab, a carriage return, a
    -- minus alone, two numbers and four
    ∷ is9 ([])
    ∷ is9 (43 ∷ 49 ∷ 32 ∷ 50 ∷ 32 ∷ 51 ∷ [])
    ∷ is9 (32 ∷ 49 ∷ 32 ∷ 50 ∷ 32 ∷ 51 ∷ [])
    ∷ is9 (49 ∷ 32 ∷ 50 ∷ 32 ∷ 51 ∷ 32 ∷ [])
    ∷ is9 (49 ∷ 32 ∷ 32 ∷ 50 ∷ 32 ∷ 51 ∷ [])
    ∷ is9 (49 ∷ 9 ∷ 50 ∷ 32 ∷ 51 ∷ [])
    ∷ is9 (49 ∷ 32 ∷ 50 ∷ 32 ∷ 51 ∷ 13 ∷ [])
    ∷ is9 (49 ∷ 32 ∷ 50 ∷ 32 ∷ 45 ∷ [])
    ∷ is9 (49 ∷ 32 ∷ 50 ∷ [])
    ∷ is9 (49 ∷ 32 ∷ 50 ∷ 32 ∷ 51 ∷ 32 ∷ 52 ∷ [])
    ∷ []

abbrev pub ReadAs : List PageLine → Type 0
ReadAs [] = Unit {0}
ReadAs (r ∷ more) =
    ((line_number (line_read r.text 1) ≡ r.number) × (line_from (line_read r.text 1) ≡ r.from)
    × (line_to (line_read r.text 1) ≡ r.to) × (line_tick (line_read r.text 1) ≡ r.tick))
    × ReadAs more

infixr 4 ◌and◌
◌and◌ : {A B : Type 0} → A → B → A × B
a and b = (a, b)

pub page_lines_read : ReadAs page_lines
unfolding line_read fields number_in digits_number fitting fits_signed value_of value_from all_digits is_digit line_number line_from line_to line_tick
page_lines_read =
    (refl, refl, refl, refl)
    and (refl, refl, refl, refl)
    and (refl, refl, refl, refl)
    and (refl, refl, refl, refl)
    and (refl, refl, refl, refl)
    and (refl, refl, refl, refl)
    and (refl, refl, refl, refl)
    and (refl, refl, refl, refl)
    and (refl, refl, refl, refl)
    and (refl, refl, refl, refl)
    and (refl, refl, refl, refl)
    and (refl, refl, refl, refl)
    and (refl, refl, refl, refl)
    and (refl, refl, refl, refl)
    and (refl, refl, refl, refl)
    and (refl, refl, refl, refl)
    and (refl, refl, refl, refl)
    and tt
