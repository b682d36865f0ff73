-- `blocks::judging::judge` meets its contract: a test passed at a time, in their order. Assumes
-- nothing.
use Prim.Native.Nat.{ℕ, ◌*◌, zero-le}
use Rattle.granules.specs.Answers.{tested_stored}
use Rattle.image.proofs.Bounding.{bounds_told}
use Rattle.blocks.proofs.Telling.{tested_is}
use Rattle.blocks.proofs.Past.{whole_told, from14, from12, from13, from_first, refused10, past10}
use Rattle.blocks.proofs.Past.{refused11, past11, past_first, refused13_bound, refused13_blocks}
use Rattle.blocks.proofs.Past.{past13, refused12, past12, formed12, search_for, first_unformed}
use Rattle.blocks.proofs.Past.{first_formed, refused12_first}
use Rattle.image.specs.Bounds.{is_bounded}
use Rattle.blocks.specs.Answers.{judged_tested}
use Rattle.blocks.specs.Judging.{judged_by, is_whole, table_tests, judged}
use Rattle.form.specs.Form.{is_formed}
use Rattle.image.specs.Image.{table_of}
use Rattle.words.specs.Words.{block}
use Rattle.image.specs.declared.table.Table.{Table}
use borrow.Author.Count.{below_none}
use lib.ListN.{length}
use mathlib.Core.Bool.{true}
use mathlib.Core.List.{List}
use Rattle.scales.proofs.PassedOn.{passed_on}
use mathlib.Core.Path.{◌≡◌, refl, sym, ◌∙◌, ap}
use native.Mathlib.Omega.{arith}
use Rattle.blocks.proofs.judging.judge.Goals as goal
use Rattle.blocks.proofs.judging.judge.Goals.{After-test_stored, After-bounded, Else-blocks-count}
use Rattle.blocks.proofs.judging.judge.Goals.{Else-is_some, Else-not-bounded, Else-not-whole}
use Rattle.blocks.proofs.judging.judge.Goals.{In_default}

-- what is judged, by the tests of the table in the bytes
judged_is : (b : List ℕ) → judged_by (table_tests b (table_of b)) (table_of b) ≡ judged b
unfolding judged
judged_is b = refl

is_whole_lem : (c : Else-not-whole) → is_whole (length c.args.bytes.now) ≡ true
is_whole_lem c = sym c.whole.ensures ∙ c.if-not-whole.false

by_first : (c : In_default) (t : Table) → judged_by (table_tests c.args.bytes.now t) t
    ≡ judged_by (from_first c.args.bytes.now t) t
by_first c t =
    past11 c.args.bytes.now t (past10 c.args.bytes.now t (is_whole_lem (goal.at.In_default c).Else-not-whole))
    (sym c.in_default.is ∙ c.lowest_unchecked.ensures)

first_is : (c : Else-is_some) → is_formed 0 0 0 (block c.args.bytes.now 0) ≡ true
first_is c = first_formed (λ k. is_formed 0 0 k (block c.args.bytes.now k)) _ c.lowest_unformed.ensures (sym c.is_some.ensures ∙ c.if-is_some.false)

by13 : (c : Else-is_some) (t : Table) → judged_by (table_tests c.args.bytes.now t) t
    ≡ judged_by (from13 c.args.bytes.now t) t
by13 c t = past_first c.args.bytes.now t (by_first (goal.at.Else-is_some c).In_default t) (first_is c)

-- the answer over the table in hand is that over the bytes' own
same_judged : (c : After-bounded)
    → judged_by (table_tests c.args.bytes.now c.table_of-table.result) c.table_of-table.result
    ≡ judged c.args.bytes.now
same_judged c = ap (λ (t : Table). judged_by (table_tests c.args.bytes.now t) t) c.table_of-table.ensures ∙ judged_is c.args.bytes.now

is_bounded_lem : (c : Else-not-bounded) → is_bounded c.table_of-table.result ≡ true
is_bounded_lem c = sym c.bounded.ensures ∙ c.if-not-bounded.false

by12 : (c : Else-blocks-count)
    → judged_by (table_tests c.args.bytes.now c.table_of-table.result) c.table_of-table.result
    ≡ judged_by (from12 c.args.bytes.now c.table_of-table.result) c.table_of-table.result
by12 c =
    past13 c.args.bytes.now c.table_of-table.result (by13 (goal.at.Else-blocks-count c).Else-is_some c.table_of-table.result)
    (is_bounded_lem (goal.at.Else-blocks-count c).Else-not-bounded) c.if-blocks-count.false

pub returns-then-not-whole : goal.returns-then-not-whole
returns-then-not-whole c =
    let b = c.args.bytes.now in
    c.refused.ensures ∙ refused10 b (table_of b) (sym c.whole.ensures ∙ c.if-not-whole.true) ∙ judged_is b

pub returns-in-Some : goal.returns-in-Some
returns-in-Some c =
    let b = c.args.bytes.now in
    c.refused-in-Some.ensures
    ∙ refused11 b (table_of b) (past10 b (table_of b) (is_whole_lem (goal.at.returns-in-Some c).Else-not-whole)) _
    (sym c.in-Some.is ∙ c.lowest_unchecked.ensures)
    ∙ judged_is b

pub lowest_unformed-requires : goal.lowest_unformed-requires
lowest_unformed-requires c =
    let w = whole_told _ (is_whole_lem (goal.at.lowest_unformed-requires c).Else-not-whole) in
    record {
      long = omega (arith, w.blocks, w.some);
      within = omega arith;
      start = zero-le;
      before = below_none _;
    }

pub returns-then-is_some : goal.returns-then-is_some
returns-then-is_some c =
    let b = c.args.bytes.now in
    c.refused-then-is_some.ensures
    ∙ refused12_first b (table_of b) (by_first (goal.at.returns-then-is_some c).In_default (table_of b))
    (first_unformed (λ k. is_formed 0 0 k (block b k)) _ c.lowest_unformed.ensures (sym c.is_some.ensures ∙ c.if-is_some.true))
    ∙ judged_is b

pub table_of-table-requires : goal.table_of-table-requires
table_of-table-requires c = let w = whole_told _ (is_whole_lem (goal.at.table_of-table-requires c).Else-not-whole) in omega (arith, w.blocks, w.some)

pub returns-then-not-bounded : goal.returns-then-not-bounded
returns-then-not-bounded c =
    c.refused-then-not-bounded.ensures
    ∙ refused13_bound c.args.bytes.now c.table_of-table.result
    (by13 (goal.at.returns-then-not-bounded c).Else-is_some c.table_of-table.result) (sym c.bounded.ensures ∙ c.if-not-bounded.true)
    ∙ same_judged (goal.at.returns-then-not-bounded c).After-bounded

pub returns-then-blocks-count : goal.returns-then-blocks-count
returns-then-blocks-count c =
    c.refused-then-blocks-count.ensures
    ∙ refused13_blocks c.args.bytes.now c.table_of-table.result
    (by13 (goal.at.returns-then-blocks-count c).Else-is_some c.table_of-table.result)
    (is_bounded_lem (goal.at.returns-then-blocks-count c).Else-not-bounded) c.if-blocks-count.true
    ∙ same_judged (goal.at.returns-then-blocks-count c).After-bounded

pub invariant_of-shape : goal.invariant_of-shape
invariant_of-shape c =
    record { few = (bounds_told c.table_of-table.result (is_bounded_lem (goal.at.invariant_of-shape c).Else-not-bounded)).few }

pub lowest_unformed-requires-2 : goal.lowest_unformed-requires-2
lowest_unformed-requires-2 c =
    search_for c.args.bytes.now c.table_of-table.result (whole_told _ (is_whole_lem (goal.at.lowest_unformed-requires-2 c).Else-not-whole))
    c.if-blocks-count.false (first_is (goal.at.lowest_unformed-requires-2 c).Else-is_some)

pub test_stored-requires : goal.test_stored-requires
test_stored-requires c =
    let w = whole_told _ (is_whole_lem (goal.at.test_stored-requires c).Else-not-whole) in
    record {
      bounds = bounds_told c.table_of-table.result (is_bounded_lem (goal.at.test_stored-requires c).Else-not-bounded);
      long = w.blocks ∙ ap (λ (k : ℕ). k * 512) c.if-blocks-count.false;
      formed =
          formed12 c.args.bytes.now c.table_of-table.result (sym c.in_default-lowest_unformed.is ∙ c.lowest_unformed-2.ensures)
          c.if-blocks-count.false;
    }

-- what the tests of the coefficients tell is what the bytes get
by_granules : (c : After-test_stored)
    → judged_tested c.table_of-table.result c.test_stored.result ≡ judged c.args.bytes.now
unfolding tested_stored
by_granules c =
    ap (judged_tested c.table_of-table.result) c.test_stored.ensures
    ∙ tested_is (from14 c.args.bytes.now c.table_of-table.result) c.table_of-table.result
    ∙ sym (past12 c.args.bytes.now c.table_of-table.result (by12 (goal.at.After-test_stored c).Else-blocks-count)
    (sym c.in_default-lowest_unformed.is ∙ c.lowest_unformed-2.ensures))
    ∙ same_judged (goal.at.After-test_stored c).After-bounded

pub returns-in_err-test_stored : goal.returns-in_err-test_stored
unfolding judged_tested
returns-in_err-test_stored c =
    passed_on _ _ c.from_residual.ensures ∙ sym (ap (judged_tested c.table_of-table.result) c.in_err-test_stored.was)
    ∙ by_granules (goal.at.returns-in_err-test_stored c).After-test_stored

pub returns : goal.returns
unfolding judged_tested
returns c =
    sym (ap (judged_tested c.table_of-table.result) c.in_ok-test_stored.was)
    ∙ by_granules (goal.at.returns c).After-test_stored

pub returns-in-Some-lowest_unformed : goal.returns-in-Some-lowest_unformed
returns-in-Some-lowest_unformed c =
    c.refused-in-Some-lowest_unformed.ensures
    ∙ refused12 c.args.bytes.now c.table_of-table.result (by12 (goal.at.returns-in-Some-lowest_unformed c).Else-blocks-count) _
    (sym c.in-Some-lowest_unformed.is ∙ c.lowest_unformed-2.ensures)
    ∙ same_judged (goal.at.returns-in-Some-lowest_unformed c).After-bounded
