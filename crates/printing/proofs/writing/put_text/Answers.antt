-- `printing::writing::put_text` meets its contract: the text stands where it was put. Assumes
-- nothing.
use Rattle.std.proofs.Common.{◌≡◌, ℕ, ◌+◌, ◌-◌, List, length, refl, ◌∙◌, append_assoc, arith}
use borrow.Rule.Slice.PartMut.{put_mid, Post-is}
use Rattle.printing.specs.Buffers.{with_text, TextPut}
use Rattle.printing.proofs.writing.put_text.Goals as goal

-- a text copied over so much of a buffer
copied : (out : List ℕ) (at size : ℕ) (text part : List ℕ) → size ≡ length text → part ≡ text
    → TextPut out at text (put_mid at (at + size - at) out part) (at + size)
unfolding with_text
copied out at size text part s p = record {
  holds = rw (Post-is at (at + size) out (omega arith), p, s) (rw append_assoc);
  after = rw s;
}

pub returns : goal.returns
returns c = copied _ _ _ _ _ refl (c.copy_from_slice.ensures.after ∙ c.as_bytes.ensures.value)
