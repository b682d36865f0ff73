-- What is printed: '`to tick steps` (`to` is the code asked, in plain decimals, 0 as 0) or `refused
-- N`, one line each, no header'.
use Rattle.scales.specs.Answers.{Answer}
use Rattle.std.specs.Prelude.{Err, cond, List, [], ◌∷◌, ◌++◌, ℕ, zero, suc, ◌+◌, ◌/◌, ◌%◌, ltb, ℤ}
use Rattle.std.specs.Prelude.{pos, negsuc, Ok}

-- a number in plain decimals, of at most so many digits: no leading zero, and 0 as 0
unfoldable pub decimal_within : ℕ → ℕ → List ℕ
decimal_within zero n = []
decimal_within (suc most) n =
    cond (ltb n 10) ((48 + n) ∷ []) (decimal_within most (n / 10) ++ ((48 + n % 10) ∷ []))

-- the number n has no more than n + 1 digits
unfoldable pub decimal : ℕ → List ℕ
decimal n = decimal_within (suc n) n

-- an integer in plain decimals: a minus where it is negative
unfoldable pub integer_text : ℤ → List ℕ
integer_text (pos n) = decimal n
integer_text (negsuc n) = 45 ∷ decimal (suc n)

abbrev pub space : List ℕ
space = 32 ∷ []

abbrev newline : List ℕ
newline = 10 ∷ []

-- '`to tick steps`'
unfoldable pub answer_text : ℤ → ℤ → ℕ → List ℕ
answer_text to tick steps = integer_text to ++ space ++ integer_text tick ++ space ++ decimal steps

-- '`refused N`': the bytes of the word and its space, and the number
abbrev pub refused_word : List ℕ
refused_word = 114 ∷ 101 ∷ 102 ∷ 117 ∷ 115 ∷ 101 ∷ 100 ∷ 32 ∷ []

unfoldable pub refused_text : ℕ → List ℕ
refused_text number = refused_word ++ decimal number

-- 'one line each': a text and its newline
unfoldable pub printed : List ℕ → List ℕ
printed text = text ++ newline

abbrev pub answer_line : ℤ → ℤ → ℕ → List ℕ
answer_line to tick steps = printed (answer_text to tick steps)

abbrev pub refused_line : ℕ → List ℕ
refused_line number = printed (refused_text number)

-- the line of an answer to a conversion into the scale of the code `to`
abbrev pub line_text : ℤ → Answer → List ℕ
line_text to (Ok converted) = answer_line to converted.epoch.tick converted.steps
line_text to (Err refusal) = refused_line refusal.number
