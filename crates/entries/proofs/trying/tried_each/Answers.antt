use Rattle.std.specs.Prelude.{Ok}
use mathlib.Core.Path.{◌≡◌, refl, sym, ◌∙◌, ap}
use Prim.Native.Nat.{zero-le}
use borrow.Author.Rules.{rules}
use lib.IntN.{pos}
use lib.ListN.{get_or}
use mir.Syntax.{w64}
use mir.ValLaws.{to_z-of_z}
use Rattle.entries.specs.Entries.{entry_of}
use Rattle.entries.proofs.Loops.{not_refused_goes_on, refused_stops, none_left, entry_read}
use Rattle.entries.proofs.trying.tried_each.Goals as goal
use Rattle.entries.proofs.trying.tried_each.Goals.{After-between, Start}

pub loop-index-init : goal.loop-index-init
loop-index-init c = (zero-le, refl)

module _ (c : After-between) where
  abbrev start : Start
  start = (goal.at.After-between c).Start

  -- the answer is that of the entry at the loop's index
  entry_is : c.between.result ≡ entry_of start.args.from start.args.to start.args.kept.table
      start.args.kept.coefficients.now
      (get_or start.args.ticks.now c.loop-index.index (pos 0))
  entry_is =
      rw (c.ranged.ensures, to_z-of_z w64 (get_or start.args.ticks.now c.loop-index.index (pos 0)) (record { sfits = search rules })) at c.between.ensures
      ∙ entry_read _ _ _ _ _

pub returns-in-Err : goal.returns-in-Err
returns-in-Err c =
    sym (c.loop-index.invariant.1
    ∙ refused_stops _ _ _ _ _ c.loop-index-test.true (sym (entry_is (goal.at.returns-in-Err c).After-between) ∙ c.in-Err.is))

pub loop-index-preserved : goal.loop-index-preserved
loop-index-preserved c = (
  search rules,
  c.loop-index.invariant.1
      ∙ not_refused_goes_on _ _ _ _ c.loop-index-test.true _ (sym (entry_is (goal.at.loop-index-preserved c).After-between)) c.in_default.not-Err,
)

pub returns : goal.returns
returns c = sym (c.loop-index.invariant.1 ∙ none_left _ _ _ _ c.loop-index-test.false ∙ ap Ok (sym c.steps_between.ensures))
