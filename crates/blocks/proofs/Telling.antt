-- What an answer tells of the list of tests that it is of. Assumes nothing.
use Rattle.std.specs.Prelude.{Ok}
use mathlib.Core.Path.{◌≡◌, refl, sym, ◌∙◌, ap}
use mathlib.Core.Bool.{Bool, true, false, cond}
use mathlib.Core.List.{List, [], ◌∷◌}
use Prim.Native.Nat.{ℕ}
use native.Mathlib.Omega.{arith}
use lib.Dec.{ltb}
use Rattle.numbers.specs.Tests.{Test, fails_at, verdict, AllPass}
use Rattle.numbers.proofs.Verdicts as tests
use Rattle.image.specs.declared.table.Table.{Table}
use Rattle.granules.specs.Answers.{tested_refused, tested_by}
use Rattle.blocks.specs.Answers.{judged_refused, judged_tested, judged_number, judged_place}
use Rattle.blocks.specs.Judging.{judged_by}

apart : {t : Table} {number place : ℕ} → judged_refused number place ≡ Ok t → ⊥
apart e = let z : ◌≡◌ {A = ℕ} 0 1 = cc in omega arith

pub judged_tells : (t : Table) → tests.Telling judged_refused (Ok t)
unfolding judged_number judged_place
judged_tells t =
    record {
      number = judged_number;
      place = judged_place;
      number_is = λ n p. refl;
      place_is = λ n p. refl;
      apart = λ n p e. apart e;
    }

-- the table that is accepted is the one that was judged
pub same_accepted : (xs : List Test) (s t : Table) → judged_by xs s ≡ Ok t → s ≡ t
unfolding verdict
same_accepted [] s t e = cc
same_accepted (x ∷ xs) s t e = by (ltb (fails_at x) x.places) (same_accepted xs s t) e
  where
    by : (v : Bool) → (judged_by xs s ≡ Ok t → s ≡ t)
        → cond v (judged_refused x.number (fails_at x)) (judged_by xs s) ≡ Ok t → s ≡ t
    by true h d = absurd (apart d)
    by false h d = h d

-- and every test of the list has passed
pub all_passed : (xs : List Test) (s t : Table) → judged_by xs s ≡ Ok t → AllPass xs
all_passed xs s t e =
    tests.none_all judged_refused (Ok s) (judged_tells s) xs (e ∙ ap Ok (sym (same_accepted xs s t e)))

-- the tests of the coefficients alone
pub tested_is : (xs : List Test) (t : Table) → judged_tested t (tested_by xs) ≡ judged_by xs t
unfolding judged_tested
tested_is xs t = tests.verdict_map (judged_tested t) tested_refused (Ok tt) xs
