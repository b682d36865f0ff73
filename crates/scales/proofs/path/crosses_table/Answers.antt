-- `scales::path::crosses_table` meets its contract. A path crosses exactly where its ends lie on
-- different sides. Assumes nothing.
use mathlib.Core.Path.{◌≡◌, refl}
use mathlib.Core.Bool.{not, beq}
use Rattle.scales.specs.declared.scale.Scale.{Scale}
use Rattle.scales.specs.Path.{barycentric, crosses}
use Rattle.scales.proofs.Every.{every_two}
use Rattle.scales.proofs.path.crosses_table.Goals as goal

sides : (from to : Scale) → not (beq (barycentric from) (barycentric to)) ≡ crosses from to
sides = every_two (λ from to. not (beq (barycentric from) (barycentric to))) crosses refl

pub returns : goal.returns
returns c = rw (c.beyond_table.ensures, c.beyond_table-2.ensures) (sides c.args.from c.args.to)
