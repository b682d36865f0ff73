-- Each refusal number is given exactly when its test is the first to fail, with the lowest place at
-- which it fails: of judging, reading and writing. Assumes nothing.
use Rattle.blocks.specs.Answers.{Judged, judged_refused, judged_number, judged_place}
use Rattle.std.specs.Prelude.{Ok}
use mathlib.Core.Path.{◌≡◌, refl, sym}
use mathlib.Core.List.{List}
use Prim.Native.Nat.{ℕ}
use lib.IntN.{ℤ}
use Rattle.numbers.specs.Tests.{Test, told_by, ToldExactly}
use Rattle.numbers.proofs.Verdicts.{verdict_map}
use Rattle.numbers.proofs.Exactly.{Numbered, numbered, told_exactly}
use Rattle.image.specs.Image.{table_of}
use Rattle.image.specs.declared.table.Table.{Table}
use Rattle.blocks.specs.Judging.{judged_by, table_tests, judged, read_tests, read_judged}
use Rattle.blocks.specs.Judging.{write_tests, write_judged}

abbrev Exactly : List Test → Judged → Type 0
Exactly tests answer = ToldExactly tests (judged_number answer) (judged_place answer)

told_of : (xs : List Test) (t : Table) → told_by xs ≡ (judged_number (judged_by xs t), judged_place (judged_by xs t))
unfolding judged_number judged_place
told_of xs t = sym (verdict_map (λ answer. (judged_number answer, judged_place answer)) judged_refused (Ok t) xs)

exactly : (xs : List Test) (t : Table) → Numbered xs → Exactly xs (judged_by xs t)
exactly xs t Some-number = told_exactly xs _ _ Some-number (told_of xs t)

pub judged_exactly : (b : List ℕ) → Exactly (table_tests b (table_of b)) (judged b)
unfolding judged
judged_exactly b = let tests = table_tests b (table_of b) in exactly tests (table_of b) (numbered tests refl)

pub read_exactly : (b : List ℕ) (many : ℕ) → Exactly (read_tests b (table_of b) many) (read_judged b many)
unfolding read_judged
read_exactly b many = let tests = read_tests b (table_of b) many in exactly tests (table_of b) (numbered tests refl)

pub write_exactly : (t : Table) (c : List ℤ) (many : ℕ) → Exactly (write_tests t c many) (write_judged t c many)
unfolding write_judged
write_exactly t c many = let tests = write_tests t c many in exactly tests t (numbered tests refl)
