-- What each case of an answer says in the page's numbers: 0 for 'accepted', and 0 for whatever a
-- refusal does not carry ('A refusal carries no tick').
use Rattle.utc.specs.declared.writing.Utc.{Utc}
use Rattle.scales.specs.declared.refusal.Refusal.{Refusal}
use Rattle.std.specs.Prelude.{Result, Ok, Err, ◌≡◌, ℕ, ℤ, pos}

-- a right reading, or refusal 5
abbrev pub UtcWritten : Type 0
UtcWritten = Result Utc Refusal

-- ---- a written UTC
unfoldable pub utc_written_number : UtcWritten → ℕ
utc_written_number (Ok utc) = 0
utc_written_number (Err refusal) = refusal.number

unfoldable pub utc_written_place : UtcWritten → ℕ
utc_written_place (Ok utc) = 0
utc_written_place (Err refusal) = refusal.place

unfoldable pub utc_written_day : UtcWritten → ℤ
utc_written_day (Ok utc) = utc.day
utc_written_day (Err refusal) = pos 0

unfoldable pub utc_written_ticks : UtcWritten → ℤ
utc_written_ticks (Ok utc) = utc.ticks
utc_written_ticks (Err refusal) = pos 0

-- the same of a written one
abbrev pub WritesUtc : UtcWritten → ℤ → ℤ → Type 0
WritesUtc answer day ticks =
    (utc_written_number answer ≡ 0) × (utc_written_day answer ≡ day)
    × (utc_written_ticks answer ≡ ticks)

abbrev pub WriteRefuses : UtcWritten → ℕ → ℕ → Type 0
WriteRefuses answer number place =
    (utc_written_number answer ≡ number) × (utc_written_place answer ≡ place)
