-- `form::head` meets its contract. Assumes nothing.
use Rattle.form.specs.Form.{head_byte}
use Rattle.numbers.specs.Lowest.{up_to}
use native.Mathlib.Nat.{div-one}
use Rattle.form.proofs.head.Goals as goal

pub returns : goal.returns
unfolding up_to head_byte
returns c = rw (c.to_le_bytes.ensures, div-one c.args.k)
