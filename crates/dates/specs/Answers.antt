-- What each case of an answer says in the page's numbers: 0 for 'accepted', and 0 for whatever a
-- refusal does not carry ('A refusal carries no tick').
use Rattle.dates.specs.declared.reading.Date.{Date}
use Rattle.scales.specs.declared.refusal.Refusal.{Refusal}
use Rattle.std.specs.Prelude.{Result, Ok, Err, false, ℕ, pos, Float}
use Rattle.std.specs.Float.{fin}

-- a date, or refusal 4
abbrev pub Written : Type 0
Written = Result Date Refusal

-- ---- a written date
unfoldable pub written_number : Written → ℕ
written_number (Ok date) = 0
written_number (Err refusal) = refusal.number

unfoldable pub written_place : Written → ℕ
written_place (Ok date) = 0
written_place (Err refusal) = refusal.place

unfoldable pub written_first : Written → Float
written_first (Ok date) = date.first
written_first (Err refusal) = fin false 0 (pos 0)

unfoldable pub written_second : Written → Float
written_second (Ok date) = date.second
written_second (Err refusal) = fin false 0 (pos 0)
