-- What each case of the answer says in the page's numbers: 0 for 'accepted', and 0 for whatever a
-- refusal does not carry.
use Rattle.image.specs.declared.table.Table.{Table}
use Rattle.blocks.specs.Answers.{Judged}
use Rattle.comparing.specs.declared.RefusedOf.{RefusedOf}
use Rattle.scales.specs.declared.refusal.Refusal.{Refusal}
use Rattle.std.specs.Prelude.{Result, Ok, Err, List, ℕ, ℤ}

-- how many granules differ, or a refusal and which table got it
abbrev pub Compared : Type 0
Compared = Result ℕ RefusedOf

abbrev pub refused_of : Refusal → ℕ → Compared
refused_of refusal which = Err (record { refusal = refusal; which = which })

-- a refusal with its number and place, and the table that it is of
abbrev pub compared_refused : ℕ → ℕ → ℕ → Compared
compared_refused number place which = refused_of (record { number = number; place = place }) which

unfoldable pub compared_number : Compared → ℕ
compared_number (Ok entries) = 0
compared_number (Err refused) = refused.refusal.number

unfoldable pub compared_place : Compared → ℕ
compared_place (Ok entries) = 0
compared_place (Err refused) = refused.refusal.place

-- the table that was refused, 0 the first and 1 the second
unfoldable pub compared_which : Compared → ℕ
compared_which (Ok entries) = 0
compared_which (Err refused) = refused.which

-- how many granules differ
unfoldable pub compared_entries : Compared → ℕ
compared_entries (Ok entries) = entries
compared_entries (Err refused) = 0

-- the lent list, which stays as it was on a refusal
abbrev pub compared_left : Compared → List ℤ → List ℤ → List ℤ
compared_left (Ok entries) new old = new
compared_left (Err refused) new old = old

-- a table that was judged as the one of that number
abbrev pub judged_as : ℕ → Judged → Result Table RefusedOf
judged_as which (Ok table) = Ok table
judged_as which (Err refusal) = Err (record { refusal = refusal; which = which })
