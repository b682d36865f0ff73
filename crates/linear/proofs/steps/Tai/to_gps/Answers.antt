-- `linear::steps::Tai::to_gps` meets its contract: a mere shift is exact. Assumes nothing.
use lib.Dec.{lit≤}
use lib.IntN.{pos, neg_ℤ}
use Rattle.linear.proofs.Methods.{shift_is}
use Rattle.linear.proofs.steps.Tai.to_gps.Goals as goal

pub returns : goal.returns
returns c = shift_is c.args.self.0 c.requires (neg_ℤ (pos 19000000000)) (lit≤ tt)
