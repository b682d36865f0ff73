-- What each case of a line as it is read says in the page's numbers: 0 for a line that is
-- understood, and 0 for whatever one that is not does not say.
use Rattle.line.specs.declared.reading.Numbers.{Numbers}
use Rattle.scales.specs.declared.refusal.Refusal.{Refusal}
use Rattle.std.specs.Prelude.{Result, Ok, Err, ℕ, ℤ, pos}

-- the numbers of a line, or refusal 9
abbrev pub Line : Type 0
Line = Result Numbers Refusal

abbrev pub numbers_read : ℤ → ℤ → ℤ → Line
numbers_read from to tick = Ok (record { from = from; to = to; tick = tick })

unfoldable pub line_number : Line → ℕ
line_number (Ok numbers) = 0
line_number (Err refusal) = refusal.number

unfoldable pub line_place : Line → ℕ
line_place (Ok numbers) = 0
line_place (Err refusal) = refusal.place

-- '`from to tick`'
unfoldable pub line_from : Line → ℤ
line_from (Ok numbers) = numbers.from
line_from (Err refusal) = pos 0

unfoldable pub line_to : Line → ℤ
line_to (Ok numbers) = numbers.to
line_to (Err refusal) = pos 0

unfoldable pub line_tick : Line → ℤ
line_tick (Ok numbers) = numbers.tick
line_tick (Err refusal) = pos 0
