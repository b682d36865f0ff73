-- Each refusal number is given exactly when its test is the first to fail, with the lowest place at
-- which it fails and the table that it is of. Assumes nothing.
use Rattle.std.specs.Prelude.{Ok}
use mathlib.Core.Path.{◌≡◌, refl, sym}
use mathlib.Core.List.{List}
use Prim.Native.Nat.{ℕ}
use native.Mathlib.Omega.{arith}
use lib.ListN.{length}
use Rattle.numbers.specs.Tests.{told_by_lists, ToldExactlyOf}
use Rattle.numbers.proofs.Exactly.{AllNumbered, numbered, lists_exactly, verdicts_map}
use Rattle.image.specs.Image.{table_of}
use Rattle.blocks.specs.Judging.{table_tests}
use Rattle.comparing.specs.Answers.{compared_refused, compared_number, compared_place}
use Rattle.comparing.specs.Answers.{compared_which}
use Rattle.comparing.specs.Comparing.{changes_of, compare_tests, compared_of}

module _ (first second : List ℕ) (many : ℕ) where
  told : let answer = compared_of first second many in
      told_by_lists (compare_tests first second many)
      ≡ (compared_number answer, compared_place answer, compared_which answer)
  unfolding compared_of compared_number compared_place compared_which
  told =
      sym (verdicts_map (λ answer. (compared_number answer, compared_place answer, compared_which answer)) compared_refused
      (Ok (length (changes_of first second))) (compare_tests first second many))

  all_numbered : AllNumbered (compare_tests first second many)
  all_numbered =
      (numbered (table_tests first (table_of first)) refl, (numbered (table_tests second (table_of second)) refl, ((omega arith, (omega arith, tt)), tt)))

  pub compare_exactly : let answer = compared_of first second many in
      ToldExactlyOf (compare_tests first second many) (compared_number answer) (compared_place answer)
      (compared_which answer)
  compare_exactly = lists_exactly (compare_tests first second many) _ _ _ all_numbered told
