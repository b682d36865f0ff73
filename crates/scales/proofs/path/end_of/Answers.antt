-- `scales::path::end_of` meets its contract: a step back ends where its edge begins. Assumes
-- nothing.
use mathlib.Core.Path.{◌≡◌, refl}
use Rattle.scales.specs.declared.path.Edge.{Edge}
use Rattle.scales.specs.declared.path.Step.TheVariants.{Along, Back}
use Rattle.scales.specs.Rows.{begin, end}
use Rattle.scales.proofs.path.end_of.Goals as goal

back_ends : (edge : Edge) → begin (Along edge) ≡ end (Back edge)
back_ends (Edge.Linear line) = refl
back_ends Edge.Table = refl

pub returns-in-Back : goal.returns-in-Back
returns-in-Back c = rw (c.ends_of-in-Back.ensures, c.in-Back.is) (back_ends c.in-Back.edge)
