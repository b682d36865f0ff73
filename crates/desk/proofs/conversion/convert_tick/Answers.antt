-- `desk::conversion::convert_tick` meets its contract. Assumes nothing.
use mathlib.Core.Path.{◌∙◌}
use mir.Syntax.{w64}
use mir.ValLaws.{to_z-of_z}
use Rattle.desk.proofs.Asking.{between_tick}
use Rattle.desk.proofs.conversion.convert_tick.Goals as goal

pub returns-in-Plain : goal.returns-in-Plain
returns-in-Plain c =
    rw c.in-Plain.is
    (rw (to_z-of_z w64 _ c.ranges.tick) at c.walk.ensures ∙ between_tick _ _ _ _ _)

pub returns-in-Crossing : goal.returns-in-Crossing
returns-in-Crossing c = rw (c.in-Crossing.is, ← to_z-of_z w64 _ c.ranges.tick) c.over_bytes.ensures
