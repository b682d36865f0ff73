-- What a batch answers, and what it leaves of the second list.
use Rattle.entries.specs.declared.batched.RefusedAt.{RefusedAt}
use Rattle.scales.specs.declared.refusal.Refusal.{Refusal}
use Rattle.std.specs.Prelude.{Result, Ok, Err, List, ℕ, ℤ}
use Rattle.scales.specs.Path.{steps}

-- 'An accepted batch answers the path's steps', or a refusal with its index
abbrev pub Batched : Type 0
Batched = Result ℕ RefusedAt

abbrev pub refused_at : Refusal → ℕ → Batched
refused_at refusal index = Err (record { refusal = refusal; index = index })

-- this paper's number and values for each case
unfoldable pub batched_number : Batched → ℕ
batched_number (Ok steps) = 0
batched_number (Err refused) = refused.refusal.number

unfoldable pub batched_place : Batched → ℕ
batched_place (Ok steps) = 0
batched_place (Err refused) = refused.refusal.place

unfoldable pub batched_index : Batched → ℕ
batched_index (Ok steps) = 0
batched_index (Err refused) = refused.index

unfoldable pub batched_steps : Batched → ℕ
batched_steps (Ok steps) = steps
batched_steps (Err refused) = 0

-- a lent list, which stays as it was on a refusal
abbrev pub batched_left : Batched → List ℤ → List ℤ → List ℤ
batched_left (Ok steps) new old = new
batched_left (Err refused) new old = old
