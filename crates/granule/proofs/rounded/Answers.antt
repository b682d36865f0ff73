-- `granule::rounded` meets its contract: its pieces are those of `Product`. Assumes nothing.
use Rattle.granule.proofs.Product.{sizes, rounded_is}
use Rattle.granule.proofs.rounded.Goals as goal

pub returns : goal.returns
returns g c =
    let r = c.rounded_product in
    rounded_is c.args.b.0 g.row.BITS (sizes g.row.BITS c.requires.bits) c.requires.factors.bounded
    c.args.u r.result c.ranges.u (record { sfits = r.type_inv }) r.ensures
