-- What a walk asks of the table that is kept holds where none is kept, and of bytes that were
-- judged and accepted. Assumes nothing.
use Rattle.std.specs.Prelude.{None, Ok, Some}
use mathlib.Core.Path.{◌≡◌, subst}
use mathlib.Core.List.{List}
use Prim.Native.Nat.{ℕ}
use native.Mathlib.Omega.{arith}
use lib.IntN.{ℤ}
use Rattle.image.specs.declared.table.Table.{Table}
use Rattle.image.specs.Image.{coefficients_stored}
use Rattle.granules.specs.Accepted.{Accepted}
use Rattle.blocks.specs.Judging.{judged}
use Rattle.blocks.proofs.Accepting.{accepted_of}
use Rattle.walk.specs.Inner.{Held}

pub nothing_held : (coefficients : List ℤ) → Held None coefficients
nothing_held coefficients = record { accepted = λ table e. let z : ◌≡◌ {A = ℕ} 0 1 = cc in let no : ⊥ = omega arith in absurd no }

-- a table that was accepted with its coefficients
pub accepted_held : (table : Table) (coefficients : List ℤ) → Accepted table coefficients
    → Held (Some table) coefficients
accepted_held table coefficients a = record { accepted = λ other e. let same : table ≡ other = cc in subst (λ (t : Table). Accepted t coefficients) same a }

pub table_held : (bytes : List ℕ) (table : Table) → judged bytes ≡ Ok table
    → Held (Some table) (coefficients_stored bytes table.count table.degree)
table_held bytes table opened = accepted_held _ _ (accepted_of bytes table opened)
