-- `written::write_utc` meets its contract: what is accepted for UTC has a right list and a valid
-- tick, which is all that writing asks. Assumes nothing.
use Rattle.std.specs.Prelude.{Ok}
use Rattle.utc.specs.Answers.{UtcWritten}
use Rattle.scales.specs.Answers.{converted_to}
use Rattle.scales.proofs.PassedOn.{passed_on}
use borrow.Author.Rules.{rules}
use mathlib.Core.Path.{◌≡◌, refl, sym, ◌∙◌}
use mathlib.Core.Bool.{Bool, true, false, ◌||◌}
use mathlib.Core.List.{List}
use Prim.Native.Nat.{ℕ}
use lib.IntN.{ℤ}
use mir.Syntax.{w64}
use mir.ValLaws.{to_z-of_z}
use Rattle.scales.specs.declared.answer.Epoch.{Epoch}
use Rattle.scales.specs.declared.scale.Purpose.TheVariants.{Utc}
use Rattle.utc.specs.Asked.{ToWrite}
use Rattle.utc.specs.Readings.{utc_written}
use Rattle.dates.specs.declared.reading.Reading.{Reading}
use Rattle.dates.specs.Readings.{purpose_of}
use Rattle.desk.specs.Conversion.{convert_into}
use Rattle.desk.specs.Order.{is_utc}
use Rattle.desk.proofs.Valid.{into_right, into_valid}
use Rattle.written.specs.Written.{written_after, write_utc_of}
use Rattle.written.proofs.write_utc.Goals as goal
use Rattle.written.proofs.write_utc.Goals.{In_ok-converted}

or_true : (flag : Bool) → (flag || true) ≡ true
or_true true = refl
or_true false = refl

to_write : (from to : ℕ) (reading : Reading) (leaps : List ℤ) (bytes : List ℕ) {epoch : Epoch} {n : ℕ}
    → convert_into Utc from to reading leaps bytes ≡ converted_to epoch n → ToWrite leaps epoch.tick
to_write from to reading leaps bytes e = record {
  right = into_right Utc from to reading leaps bytes e (or_true (is_utc (purpose_of reading)));
  valid = into_valid Utc from to reading leaps bytes e;
}

-- and what is written then is the answer
by_written : (from to : ℕ) (reading : Reading) (leaps : List ℤ) (bytes : List ℕ) {epoch : Epoch} {n : ℕ}
    {written : UtcWritten} → convert_into Utc from to reading leaps bytes ≡ converted_to epoch n
    → utc_written leaps epoch.tick ≡ written → written_after n written ≡ write_utc_of from to reading leaps bytes
unfolding write_utc_of
by_written from to reading leaps bytes e w = rw (e, w)

-- what was converted to, and that its tick reads back
converts : (c : In_ok-converted)
    → convert_into Utc c.args.from c.args.to c.args.reading c.args.leaps.now c.args.table.now
    ≡ Ok c.in_ok-converted.converted
converts c = sym c.convert_into.ensures ∙ c.in_ok-converted.was

pub write-requires : goal.write-requires
write-requires c =
    rw (to_z-of_z w64 c.in_ok-converted.converted.epoch.tick (record { sfits = search rules }))
    (to_write _ _ _ _ _ (converts (goal.at.write-requires c).In_ok-converted))

-- the tick, written
pub returns : goal.returns
returns c =
    let wrote = rw (to_z-of_z w64 c.in_ok-converted.converted.epoch.tick (record { sfits = search rules })) at c.write.ensures in
    by_written _ _ _ _ _ (converts (goal.at.returns c).In_ok-converted) (sym wrote ∙ c.in_ok-utc.was)

pub returns-in_err-utc : goal.returns-in_err-utc
returns-in_err-utc c =
    let wrote = rw (to_z-of_z w64 c.in_ok-converted.converted.epoch.tick (record { sfits = search rules })) at c.write.ensures in
    passed_on _ _ c.from_residual-in_err-utc.ensures
    ∙ by_written _ _ _ _ _ (converts (goal.at.returns-in_err-utc c).In_ok-converted) (sym wrote ∙ c.in_err-utc.was)

pub returns-in_err-converted : goal.returns-in_err-converted
unfolding write_utc_of
returns-in_err-converted c = rw (passed_on _ _ c.from_residual.ensures, ← c.convert_into.ensures, c.in_err-converted.was)
