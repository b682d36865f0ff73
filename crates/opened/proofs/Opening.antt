-- A table that bytes were judged to hold: its numbers are few, its coefficients are those that the
-- bytes hold, and they may be lent. Assumes nothing.
use Rattle.std.specs.Prelude.{Err, Ok}
use mathlib.Core.Path.{◌≡◌, subst}
use mathlib.Core.List.{List, []}
use Prim.Native.Nat.{ℕ}
use native.Mathlib.Omega.{arith}
use Rattle.scales.specs.declared.refusal.Refusal.{Refusal}
use Rattle.form.specs.Few.{Few}
use Rattle.image.specs.declared.table.Table.{Table}
use Rattle.image.specs.Image.{table_of, coefficients_stored}
use Rattle.granules.specs.Accepted.{Accepted}
use Rattle.blocks.specs.Judging.{judged}
use Rattle.blocks.proofs.Accepting.{accepted_table, accepted_of}
use Rattle.opened.specs.Opened.{coefficients_in, Lent}

-- a table that was refused has no coefficients
pub lent_refused : (refusal : Refusal) → Lent (Err refusal) []
lent_refused refusal = record { accepted = λ table e. let z : ◌≡◌ {A = ℕ} 0 1 = cc in let no : ⊥ = omega arith in absurd no }

module _ (bytes : List ℕ) (table : Table) (opened : judged bytes ≡ Ok table) where
  pub table_lent : Lent (Ok table) (coefficients_stored bytes table.count table.degree)
  table_lent = record {
    accepted = λ other e.
        let same : table ≡ other = cc in
        subst (λ (t : Table). Accepted t (coefficients_stored bytes table.count table.degree)) same
        (accepted_of bytes table opened);
  }

  pub few : Few table.count table.degree
  few = (accepted_of bytes table opened).bounds.few

  -- the coefficients that the bytes hold are those of the table that they were judged to hold
  pub coefficients_are : coefficients_in bytes ≡ coefficients_stored bytes table.count table.degree
  unfolding coefficients_in
  coefficients_are = let same : table_of bytes ≡ table = accepted_table bytes table opened in rw same
