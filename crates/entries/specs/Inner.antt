-- What trying the entries goes through: the ends of a list, and whether an answer is accepted.
use Rattle.scales.specs.Answers.{Answer}
use Rattle.std.specs.Prelude.{is_ok, Bool, List, [], ◌∷◌, ℤ}
use Rattle.std.specs.Int.{int_min, int_max}
use Rattle.entries.specs.declared.trying.Ends.{Ends}

-- the earliest and the latest, of a list and two ticks before it
unfoldable pub ends_of : ℤ → ℤ → List ℤ → Ends
ends_of earliest latest [] = record { earliest = earliest; latest = latest }
ends_of earliest latest (tick ∷ more) =
    ends_of (int_min earliest tick) (int_max latest tick) more

-- an answer that is no refusal
abbrev pub is_accepted : Answer → Bool
is_accepted answer = is_ok answer
