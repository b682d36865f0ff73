-- `granule::turn` meets its contract: it is the term of `Term`, with the product that `rounded`
-- ensures. Assumes nothing.
use mathlib.Core.Path.{◌≡◌, ◌∙◌, ap}
use Prim.Native.Nat.{◌^◌}
use lib.IntN.{ℤ, ◌+ℤ◌, ◌-ℤ◌, ◌*ℤ◌}
use Rattle.numbers.specs.Rounding.{nearest}
use Rattle.numbers.proofs.Machine.{read_is}
use Rattle.granule.proofs.Product.{sizes}
use Rattle.granule.proofs.Term.{SafeTerm, safe_term}
use Rattle.granule.proofs.turn.Given as given
use Rattle.granule.proofs.turn.Goals as goal
use Rattle.granule.proofs.turn.Goals.{After-rounded-product}

product : (g : given.Over) (c : After-rounded-product g)
    → c.rounded-product.result.0 ≡ nearest (c.args.u *ℤ c.args.b1.0) (2 ^ g.row.BITS)
product g c = rw (read_is c.args.u c.ranges.u) at c.rounded-product.ensures

all : (g : given.Over) (c : After-rounded-product g) → SafeTerm c.args.c.0 c.rounded-product.result.0 c.args.b2.0
all g c =
    safe_term c.args.u c.args.c.0 c.args.b1.0 c.args.b2.0 c.rounded-product.result.0 (2 ^ g.row.BITS)
    (sizes g.row.BITS c.requires.bits).least c.requires.terms (product g c)

pub overflow_add-result : goal.overflow_add-result
overflow_add-result g c = (all g (goal.at.overflow_add-result g c).After-rounded-product).sum

pub overflow_sub-result : goal.overflow_sub-result
overflow_sub-result g c = (all g (goal.at.overflow_sub-result g c).After-rounded-product).term

pub returns : goal.returns
returns g c =
    (all g (goal.at.returns g c).After-rounded-product).is
    ∙ ap (λ (q : ℤ). c.args.c.0 +ℤ q -ℤ c.args.b2.0) (product g (goal.at.returns g c).After-rounded-product)
