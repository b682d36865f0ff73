-- What the inner functions ask of their callers.
use Rattle.std.specs.Prelude.{Option, Some, ◌≡◌, List, ℤ}
use Rattle.image.specs.declared.table.Table.{Table}
use Rattle.ephemeris.specs.Accepted.{Accepted}

-- what is kept has been judged and accepted, with its coefficients
pub record Held (kept : Option Table) (coefficients : List ℤ) : Type 0 where
  pub accepted : (table : Table) → kept ≡ Some table → Accepted table coefficients
