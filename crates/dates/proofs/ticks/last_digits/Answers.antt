-- `dates::ticks::last_digits` meets its contract: a mask keeps what whole multiples of the power
-- leave. Assumes nothing.
use Prim.Native.Nat.{◌^◌}
use Rattle.dates.proofs.Pieces.{mask_fits, last_digits_are}
use Rattle.dates.proofs.ticks.last_digits.Goals as goal

pub overflow_sub-mask : goal.overflow_sub-mask
overflow_sub-mask c = mask_fits c.args.many c.requires.few

pub returns : goal.returns
returns c = last_digits_are c.args.many c.requires.few c.args.z (2 ^ c.args.more) c.ranges.z
