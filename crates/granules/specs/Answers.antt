-- What the tests of the coefficients tell.
use Rattle.scales.specs.declared.refusal.Refusal.{Refusal}
use Rattle.std.specs.Prelude.{Result, Ok, Err, List, ℕ, ℤ}
use Rattle.numbers.specs.Tests.{Test, verdict}
use Rattle.image.specs.declared.table.Table.{Table}
use Rattle.image.specs.Image.{granule_in, granule_stored}
use Rattle.granules.specs.Tests.{granule_tests}

-- every test passes, or the refusal
abbrev pub Tested : Type 0
Tested = Result (Unit {0}) Refusal

-- a refusal with its number and place
abbrev pub tested_refused : ℕ → ℕ → Tested
tested_refused number place = Err (record { number = number; place = place })

-- and an answer in the page's numbers: 0 where every test passes
unfoldable pub tested_number : Tested → ℕ
tested_number (Ok tt) = 0
tested_number (Err refusal) = refusal.number

unfoldable pub tested_place : Tested → ℕ
tested_place (Ok tt) = 0
tested_place (Err refusal) = refusal.place

abbrev pub tested_by : List Test → Tested
tested_by tests = verdict tested_refused (Ok tt) tests

-- of coefficients in bytes, and in a list
unfoldable pub tested_stored : List ℕ → Table → Tested
tested_stored b t = tested_by (granule_tests t (granule_stored b t.degree))

unfoldable pub tested_listed : List ℤ → Table → Tested
tested_listed c t = tested_by (granule_tests t (granule_in c t.degree))
