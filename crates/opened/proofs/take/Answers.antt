-- `opened::take` meets its contract: the coefficients are taken into the front of the room. Assumes
-- nothing.
use mathlib.Core.Path.{◌≡◌, sym, ◌∙◌, ap, ap₂}
use mathlib.Core.List.{List}
use Prim.Native.Nat.{ℕ, ◌≤◌}
use native.Mathlib.Omega.{arith}
use lib.IntN.{ℤ, pos}
use lib.ListN.{length, drop, replicate, length-append}
use lib.Seq.{length-take-le, take_at, drop_at}
use Rattle.std.proofs.lemmas.List.{length-replicate}
use Rattle.blocks.proofs.Accepting.{accepted_blocks}
use Rattle.image.specs.Bounds.{most_coefficients}
use Rattle.image.proofs.Back.{stored_whole}
use Rattle.image.proofs.Slots.{room}
use Rattle.opened.proofs.Opening.{few}
use Rattle.opened.proofs.take.Goals as goal
use Rattle.opened.proofs.take.Goals.{After-how_many-many}

long : (r : List ℤ) → r ≡ replicate most_coefficients (pos 0) → length r ≡ most_coefficients
long r e = ap length e ∙ length-replicate most_coefficients (pos 0)

fits : (c : After-how_many-many) → c.how_many-many.result ≤ length c.args.room.now
fits c =
    omega (arith, room _ _ (few _ _ c.requires.opened.accepted), long c.args.room.now c.requires.clear, c.how_many-many.ensures)

pub slice_bounds-take_coefficients-end : goal.slice_bounds-take_coefficients-end
slice_bounds-take_coefficients-end c = fits (goal.at.slice_bounds-take_coefficients-end c).After-how_many-many

pub slice_bounds-take_coefficients-end-2 : goal.slice_bounds-take_coefficients-end-2
slice_bounds-take_coefficients-end-2 c = sym (length-take-le _ _ (fits (goal.at.slice_bounds-take_coefficients-end-2 c).After-how_many-many))

pub take_coefficients-requires : goal.take_coefficients-requires
take_coefficients-requires c =
    let o = c.requires.opened.accepted in
    record {
      bounds = few _ _ o;
      blocks = accepted_blocks _ _ o;
      long = length-take-le _ _ (fits (goal.at.take_coefficients-requires c).After-how_many-many) ∙ c.how_many-many.ensures;
    }

pub returns : goal.returns
returns c =
    let l = c.take_coefficients in
    let is = l.ensures in
    let size = ap length is ∙ stored_whole _ _ _ in
    record {
      long = simp length-append (omega (arith, size));
      front = take_at l.new.coefficients _ _ size ∙ is;
      behind = drop_at l.new.coefficients _ _ size ∙ ap₂ drop c.how_many-many.ensures c.requires.clear;
    }
