-- `linear::steps::Tai::to_tt` meets its contract: a mere shift is exact. Assumes nothing.
use lib.Dec.{lit≤}
use lib.IntN.{pos}
use Rattle.linear.proofs.Methods.{shift_is}
use Rattle.linear.proofs.steps.Tai.to_tt.Goals as goal

pub returns : goal.returns
returns c = shift_is c.args.self.0 c.requires (pos 32184000000) (lit≤ tt)
