-- `entries::trying::is_accepted` meets its contract. Assumes nothing.
use Rattle.std.specs.Prelude.{is_ok}
use mathlib.Core.Path.{◌≡◌, ◌∙◌, ap}
use mir.Syntax.{w64}
use mir.ValLaws.{to_z-of_z}
use Rattle.entries.specs.Entries.{entry_of}
use Rattle.entries.proofs.Loops.{entry_read}
use Rattle.entries.proofs.trying.is_accepted.Goals as goal
use Rattle.entries.proofs.trying.is_accepted.Goals.{After-between}

-- the answer is that of the tick as it was given
told : (c : After-between) → c.between.result
    ≡ entry_of c.args.from c.args.to c.args.kept.table c.args.kept.coefficients.now c.args.tick
told c =
    rw (c.ranged.ensures, to_z-of_z w64 _ c.ranges.tick) at c.between.ensures ∙ entry_read _ _ _ _ _

pub returns : goal.returns
returns c = c.is_ok.ensures.value ∙ ap is_ok (told (goal.at.returns c).After-between)
