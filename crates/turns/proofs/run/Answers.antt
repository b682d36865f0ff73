-- `turns::run` is safe and ends: of a line nothing has come at first, and what is printed last is
-- within the room. Assumes nothing.
use mathlib.Core.Path.{sym}
use native.Mathlib.Omega.{arith}
use lib.Seq.{length-take-le}
use Rattle.lines.proofs.Parts.{put_inside}
use Rattle.turns.proofs.Fronts.{front_nothing}
use Rattle.turns.proofs.run.Goals as goal

pub loop-turn-init : goal.loop-turn-init
loop-turn-init g c =
    record { buffers = c.requires; front = front_nothing c.args.text.now _ (omega arith) }

pub slice_bounds-print-end : goal.slice_bounds-print-end
slice_bounds-print-end g c = put_inside c.answer_last-end.ensures

pub slice_bounds-print-end-in-Ended : goal.slice_bounds-print-end-in-Ended
slice_bounds-print-end-in-Ended g c =
    sym (length-take-le _ _ (put_inside c.answer_last-end.ensures))
