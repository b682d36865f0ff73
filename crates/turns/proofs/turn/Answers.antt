-- `turns::turn`: what is printed is within the room, and what is kept is the start of an unfinished
-- line. Assumes nothing.
use mathlib.Core.Path.{sym}
use lib.Seq.{length-take-le}
use Rattle.lines.proofs.Parts.{put_inside}
use Rattle.turns.proofs.Fronts.{front_kept}
use Rattle.turns.proofs.turn.Goals as goal

pub slice_bounds-print-end : goal.slice_bounds-print-end
slice_bounds-print-end g c = put_inside c.feed-places.ensures.put

pub slice_bounds-print-end-2 : goal.slice_bounds-print-end-2
slice_bounds-print-end-2 g c = sym (length-take-le _ _ (put_inside c.feed-places.ensures.put))

pub returns-then-print-end : goal.returns-then-print-end
returns-then-print-end g c =
    front_kept _ c.feed-places.ensures.kept c.requires.front.counted c.feed-places.ensures.next
