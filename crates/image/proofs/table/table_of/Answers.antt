-- `image::table::table_of` meets its contract. Assumes nothing.
use Rattle.image.specs.Image.{table_of}
use mathlib.Core.Path.{◌∙◌}
use mir.Syntax.{w64}
use mir.ValLaws.{to_z-of_z}
use Rattle.image.proofs.table.table_of.Goals as goal

pub returns : goal.returns
unfolding table_of
returns c =
    rw (
      to_z-of_z w64 _ (record { sfits = c.number_at.type_inv }) ∙ c.number_at.ensures,
      to_z-of_z w64 _ (record { sfits = c.number_at-2.type_inv }) ∙ c.number_at-2.ensures,
      c.quad_at.ensures,
      c.from.ensures,
    )
