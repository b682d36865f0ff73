-- `pieces::product::add`: the pieces so far, and the sum of those that are left with the carry.
use Rattle.std.proofs.Common.{◌≡◌, ◌-◌, ◌++◌, take, length}
use Rattle.std.specs.Int.{from_bool}
use Rattle.pieces.proofs.Values.{sum_from}
use Rattle.pieces.proofs.product.add.Given as goal

abbrev pub invariant-loop-i : goal.invariant-loop-i
invariant-loop-i l = record {
  many : length l.sum ≡ 4;
  done : sum_from 4 0 0 l.p l.q ≡ take l.i l.sum ++ sum_from (4 - l.i) l.i (from_bool l.carry) l.p l.q;
}
