-- `desk::conversion::convert_judged` meets its contract. Assumes nothing.
use Rattle.std.specs.Prelude.{Ok}
use Rattle.scales.proofs.PassedOn.{passed_on}
use mathlib.Core.Bool.{true}
use Rattle.desk.specs.Inner.{asked_of}
use mathlib.Core.Path.{◌≡◌, sym, ◌∙◌, ap}
use mir.Syntax.{w64}
use mir.ValLaws.{to_z-of_z}
use Rattle.dates.specs.Readings.{in_range}
use Rattle.desk.proofs.Asking.{of_tick}
use Rattle.desk.proofs.conversion.convert_judged.Goals as goal
use Rattle.desk.proofs.conversion.convert_judged.Goals.{After-ranged-read, In_ok-start}

was : (c : After-ranged-read) → c.ranged-read.result ≡ in_range c.args.tick
was c = c.ranged-read.ensures ∙ ap in_range (to_z-of_z w64 _ c.ranges.tick)

pub returns-in_err-start : goal.returns-in_err-start
returns-in_err-start c =
    passed_on _ _ c.from_residual.ensures
    ∙ of_tick _ _ _ _ _ _ _ _ (sym c.asked_of.ensures ∙ c.in_err-start.was) (was (goal.at.returns-in_err-start c).After-ranged-read)

-- what is asked, where it is no refusal
asks : (c : In_ok-start)
    → asked_of c.args.purpose c.args.purpose c.args.from c.args.to true true ≡ Ok c.in_ok-start.field-0
asks c = sym c.asked_of.ensures ∙ c.in_ok-start.was

pub returns-in-Plain : goal.returns-in-Plain
returns-in-Plain c =
    c.between.ensures
    ∙ of_tick _ _ _ _ _ _ _ _ (asks (goal.at.returns-in-Plain c).In_ok-start ∙ ap Ok c.in-Plain.is) (was (goal.at.returns-in-Plain c).After-ranged-read)

pub returns-in-Crossing : goal.returns-in-Crossing
returns-in-Crossing c =
    c.crossed.ensures
    ∙ of_tick _ _ _ _ _ _ _ _ (asks (goal.at.returns-in-Crossing c).In_ok-start
    ∙ ap Ok c.in-Crossing.is) (was (goal.at.returns-in-Crossing c).After-ranged-read)
