-- `entries::trying::tried` meets its contract: where the earliest and the latest tick are accepted
-- all are, else they are tried one by one. Assumes nothing.
use Rattle.image.specs.declared.table.Table.{Table}
use Rattle.std.specs.Prelude.{Ok, Option}
use borrow.Author.Rules.{rules}
use mathlib.Core.Bool.{true}
use mathlib.Core.List.{List}
use mathlib.Core.Path.{◌≡◌, sym, ◌∙◌, ap}
use lib.IntN.{ℤ}
use mir.Syntax.{w64}
use mir.ValLaws.{to_z-of_z}
use Rattle.entries.specs.Entries.{entry_of}
use Rattle.entries.specs.Inner.{is_accepted}
use Rattle.scales.specs.declared.scale.Scale.{Scale}
use Rattle.entries.proofs.Interval.{ends_accepted}
use Rattle.entries.proofs.trying.tried.Goals as goal

-- a tick that is accepted as the machine reads it
as_read : (from to : Scale) (kept : Option Table) (coefficients : List ℤ) {tick read : ℤ} → read ≡ tick
    → is_accepted (entry_of from to kept coefficients read) ≡ true
    → is_accepted (entry_of from to kept coefficients tick) ≡ true
as_read from to kept coefficients e accepted = rw e at accepted

pub returns-then-latest : goal.returns-then-latest
returns-then-latest c =
    ap Ok c.steps_between.ensures
    ∙ sym (ends_accepted _ _ c.args.kept.held _ _ _ _ _ c.ends_of-ends.ensures
    (as_read _ _ _ _ (to_z-of_z w64 c.ends_of-ends.result.earliest (record { sfits = search rules })) (sym c.is_accepted-earliest.ensures ∙ c.if-earliest.true))
    (as_read _ _ _ _ (to_z-of_z w64 c.ends_of-ends.result.latest (record { sfits = search rules })) (sym c.is_accepted-latest.ensures ∙ c.if-latest.true)))
