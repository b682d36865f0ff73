-- A text put into a lent buffer at a place.
use Rattle.std.specs.Prelude.{◌≡◌, List, ◌++◌, ℕ, ◌+◌, length, take, drop}

-- the longest printed line: two integers of up to 20 characters, steps of up to 10, two spaces and
-- a newline
abbrev pub longest : ℕ
longest = 53

-- the buffer with the text put: before it and after it as it was
unfoldable pub with_text : List ℕ → ℕ → List ℕ → List ℕ
with_text out at text = take at out ++ text ++ drop (at + length text) out

-- what putting a text leaves in the buffer, and the place after the text
pub record TextPut (out : List ℕ) (at : ℕ) (text : List ℕ) (left : List ℕ) (next : ℕ) : Type 0 where
  pub holds : left ≡ with_text out at text
  pub after : next ≡ at + length text
