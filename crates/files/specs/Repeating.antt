-- A call that is made again, of which it is known how much it answers at most.
use Rattle.std.specs.Prelude.{◌≡◌, ℕ, ◌≤◌, Result, IfOk}
use Rattle.std.specs.declared.io.Error.{Error}

-- each time the call answers no more than a number, and it keeps that number
pub record Within {F : Type 0} (step : F → Result ℕ Error → F → Type 0) (most : F → ℕ)
    : Type 0 where
  pub within : (before : F) (answer : Result ℕ Error) (after : F) → step before answer after
      → IfOk answer (λ n. n ≤ most before)
  pub kept : (before : F) (answer : Result ℕ Error) (after : F) → step before answer after
      → most after ≡ most before
