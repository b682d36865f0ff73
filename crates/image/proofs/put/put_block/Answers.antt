-- `image::put::put_block` meets its contract. Assumes nothing.
use Rattle.image.proofs.Stores.{put_sealed}
use Rattle.image.proofs.put.put_block.Goals as goal

pub returns : goal.returns
returns c = put_sealed _ _ _ _ _ c.put_body.ensures c.seal.ensures
