-- What the program's functions ask of the buffers that they are lent, and what they leave in them.
use Rattle.std.specs.Prelude.{◌≡◌, false, List, ℕ, ◌*◌, ◌≤◌, length, take}
use Rattle.printing.specs.Buffers.{longest}
use Rattle.lines.specs.Output.{has_newline}
use Rattle.turns.specs.declared.Outcome.{Outcome}
use Rattle.turns.specs.declared.Outcome.TheVariants.{Kept, Ended, Closed}

-- more text than is kept, and room for what is printed for it
pub record Large (text out : List ℕ) : Type 0 where
  pub long : 66 ≤ length text
  pub room : longest * length text ≤ length out

-- an unfinished line that is kept at the front of the text, and its number: 'line, from 1'
pub record Front (text : List ℕ) (kept line : ℕ) : Type 0 where
  pub few : kept ≤ 65
  pub plain : has_newline (take kept text) ≡ false
  pub counted : 1 ≤ line

pub record Waiting (text : List ℕ) (kept line : ℕ) (out : List ℕ) : Type 0 where
  pub buffers : Large text out
  pub front : Front text kept line

-- what a turn leaves of the text: another unfinished line, or the one that was kept
abbrev pub Left : ℕ → ℕ → List ℕ → Outcome → Type 0
Left kept line text (Kept size number) = Front text size number
Left kept line text Ended = Front text kept line
Left kept line text Closed = Unit {0}
