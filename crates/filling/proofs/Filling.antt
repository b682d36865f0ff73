-- A batch's answer and the second list. Assumes nothing.
use Rattle.entries.specs.Batched.{Batched, refused_at}
use Rattle.scales.specs.Answers.{Answer}
use Rattle.std.specs.Prelude.{Ok}
use mathlib.Core.Path.{◌≡◌, sym}
use mathlib.Core.List.{List}
use Prim.Native.Nat.{ℕ}
use lib.IntN.{ℤ}
use Rattle.scales.specs.declared.refusal.Refusal.{Refusal}
use Rattle.filling.specs.Inner.{ticks_by, Filled}

module _ {answer : Batched} {entry : ℤ → Answer} {ticks answers : List ℤ} where
  pub filled_not : (refusal : Refusal) (index : ℕ) → answer ≡ refused_at refusal index
      → Filled answer entry ticks answers answers (refused_at refusal index)
  filled_not refusal index e = record { is = sym e; list = rw e }

  pub filled_all : (steps : ℕ) {answers' : List ℤ} → answer ≡ Ok steps → answers' ≡ ticks_by entry ticks
      → Filled answer entry ticks answers answers' (Ok steps)
  filled_all steps e d = record { is = sym e; list = rw e d }
