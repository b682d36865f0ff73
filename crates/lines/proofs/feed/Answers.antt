-- `lines::feed` meets its contract: what is kept begins where the whole lines end. Assumes nothing.
use mathlib.Core.Path.{◌≡◌, sym, ◌∙◌, ap}
use Prim.Native.Nat.{ℕ}
use native.Mathlib.Omega.{arith}
use lib.ListN.{length, take, drop}
use lib.Seq.{length-take-le}
use Rattle.lines.specs.Output.{unfinished, kept_of}
use Rattle.lines.proofs.Splits.{whole_short, after_whole}
use Rattle.lines.proofs.feed.Goals as goal
use Rattle.lines.proofs.feed.Goals.{After-keep-kept, Start}

size : (s : Start) → length (take s.args.filled s.args.text.now) ≡ s.args.filled
size s = length-take-le s.args.filled s.args.text.now s.requires.inside

pub slice_bounds-answer_whole-end-2 : goal.slice_bounds-answer_whole-end-2
slice_bounds-answer_whole-end-2 c = sym (size (goal.at.slice_bounds-answer_whole-end-2 c).Start)

pub answer_whole-whole-requires : goal.answer_whole-whole-requires
answer_whole-whole-requires c =
    omega (arith, size (goal.at.answer_whole-whole-requires c).Start, c.requires.inside, c.requires.room)

pub keep-kept-requires : goal.keep-kept-requires
keep-kept-requires c =
    record {
      ordered = omega (arith, c.answer_whole-whole.ensures.begins, whole_short (take c.args.filled c.args.text.now), size (goal.at.keep-kept-requires c).Start);
      inside = c.requires.inside;
    }

pub returns : goal.returns
unfolding kept_of
returns c =
    let text = take c.args.filled c.args.text.now in
    let e : drop c.answer_whole-whole.result.text text ≡ unfinished text = ap (λ (n : ℕ). drop n text) c.answer_whole-whole.ensures.begins
    ∙ after_whole text in
    record { kept = rw (← e) c.keep-kept.ensures; put = c.answer_whole-whole.ensures.put; next = c.answer_whole-whole.ensures.next }
