-- The front of the text: the unfinished line that is kept there, and that stays where the rest is
-- read into. Assumes nothing.
use borrow.Rule.Slice.PartMut.{put_mid, take_put}
use mathlib.Core.List.{List}
use Prim.Native.Nat.{ℕ, ◌-◌, ◌≤◌}
use native.Mathlib.Omega.{arith}
use lib.ListN.{length, length-take}
use Rattle.printing.specs.Buffers.{TextPut}
use mathlib.Core.Path.{◌≡◌}
use Rattle.lines.specs.Output.{lines_of, line_after, whole_lines, unfinished, kept_of}
use Rattle.lines.proofs.Numbering.{after_counted}
use Rattle.lines.proofs.Parts.{put_front}
use Rattle.lines.proofs.Splits.{nothing_plain, plain_front, unfinished_plain}
use Rattle.turns.specs.Buffers.{Front}

-- ---- an unfinished line kept there
-- of a line of which nothing has come
pub front_nothing : (text : List ℕ) (line : ℕ) → 1 ≤ line → Front text 0 line
front_nothing text line counted = record { few = omega arith; plain = nothing_plain; counted = counted }

pub front_kept : {text text' : List ℕ} {next first line : ℕ} (whole : List ℕ)
    → TextPut text 0 (kept_of whole) text' next
    → 1 ≤ first
    → line ≡ line_after first (lines_of (whole_lines whole)) → Front text' next line
unfolding kept_of
front_kept {first = first} whole put counted follows = record {
  few = omega (arith, put.after, length-take 65 (unfinished whole));
  plain = rw (put_front put) (plain_front 65 (unfinished whole) (unfinished_plain whole));
  counted = rw follows (after_counted first (lines_of (whole_lines whole)) counted);
}

-- ---- and it stays where the rest is read into
pub front_stays : (text last : List ℕ) (place line : ℕ) → place ≤ length text → Front text place line
    → Front (put_mid place (length text - place) text last) place line
front_stays text last place line inside front =
    record {
      few = front.few;
      plain = rw (take_put place (length text - place) text last inside) front.plain;
      counted = front.counted;
    }
