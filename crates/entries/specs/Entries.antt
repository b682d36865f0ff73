-- The entries of a batch: 'All are tried first; the earliest refusal is the batch's, with its
-- index'.
use Rattle.entries.specs.Batched.{Batched, refused_at}
use Rattle.scales.specs.Answers.{Answer}
use Rattle.image.specs.declared.table.Table.{Table}
use Rattle.std.specs.Prelude.{Err, Ok, Option, List, [], ◌∷◌, ℕ, suc, ℤ}
use Rattle.scales.specs.declared.scale.Scale.{Scale}
use Rattle.scales.specs.Path.{steps}
use Rattle.dates.specs.Readings.{in_range}
use Rattle.desk.specs.Conversion.{between_of}

-- one entry
abbrev pub entry_of : Scale → Scale → Option Table → List ℤ → ℤ → Answer
entry_of from to kept coefficients tick = between_of from to (in_range tick) kept coefficients

-- 'the earliest refusal is the batch's, with its index'
abbrev pub earlier : Answer → ℕ → Batched → Batched
earlier (Ok converted) index later = later
earlier (Err refusal) index later = refused_at refusal index

-- the entries from an index on, where the path has so many steps
unfoldable pub tried_of : (ℤ → Answer) → ℕ → ℕ → List ℤ → Batched
tried_of entry steps index [] = Ok steps
tried_of entry steps index (tick ∷ more) =
    earlier (entry tick) index (tried_of entry steps (suc index) more)

-- 'All are tried first'
abbrev pub all_tried : Scale → Scale → List ℤ → Option Table → List ℤ → Batched
all_tried from to ticks kept coefficients =
    tried_of (entry_of from to kept coefficients) (steps from to) 0 ticks
