-- What each case of the answer says in the page's numbers: 0 for 'accepted', and 0 for whatever a
-- refusal does not carry.
use Rattle.scales.specs.declared.refusal.Refusal.{Refusal}
use Rattle.std.specs.Prelude.{Result, Ok, Err, ℕ, ℤ, pos}
use Rattle.granules.specs.Answers.{Tested}
use Rattle.image.specs.declared.table.Table.{Table}

-- the table's numbers, or the refusal
abbrev pub Judged : Type 0
Judged = Result Table Refusal

-- a refusal with its number and place
abbrev pub judged_refused : ℕ → ℕ → Judged
judged_refused number place = Err (record { number = number; place = place })

-- the answer of the tests of a table's coefficients
unfoldable pub judged_tested : Table → Tested → Judged
judged_tested table (Ok tt) = Ok table
judged_tested table (Err refusal) = Err refusal

unfoldable pub judged_number : Judged → ℕ
judged_number (Ok table) = 0
judged_number (Err refusal) = refusal.number

unfoldable pub judged_place : Judged → ℕ
judged_place (Ok table) = 0
judged_place (Err refusal) = refusal.place

-- the table's own numbers
unfoldable pub judged_start : Judged → ℤ
judged_start (Ok table) = table.start.0
judged_start (Err refusal) = pos 0

unfoldable pub judged_length : Judged → ℤ
judged_length (Ok table) = table.length
judged_length (Err refusal) = pos 0

unfoldable pub judged_count : Judged → ℕ
judged_count (Ok table) = table.count
judged_count (Err refusal) = 0

unfoldable pub judged_degree : Judged → ℕ
judged_degree (Ok table) = table.degree
judged_degree (Err refusal) = 0
