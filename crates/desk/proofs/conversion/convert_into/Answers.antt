-- `desk::conversion::convert_into` meets its contract: what is left after the refusals is a path,
-- so that the list is right where a UTC reading goes by it; and where both scales are one the path
-- has no step. Assumes nothing.
use Rattle.scales.specs.Answers.{Read, converted_to}
use Rattle.std.specs.Prelude.{None, Ok, Result}
use borrow.Author.Rules.{rules}
use mathlib.Core.Path.{◌≡◌, refl, sym, ◌∙◌, ap}
use mathlib.Core.Bool.{true}
use mathlib.Core.List.{[]}
use native.Mathlib.Omega.{arith}
use lib.IntN.{ℤ}
use mir.Syntax.{w64}
use mir.ValLaws.{to_z-of_z}
use Rattle.scales.specs.declared.refusal.Refusal.{Refusal}
use Rattle.scales.specs.declared.scale.Scale.{Scale}
use Rattle.scales.specs.Path.{is_one_scale}
use Rattle.scales.proofs.PassedOn.{passed_on}
use Rattle.scales.proofs.Paths.{one_scale_here}
use Rattle.walk.proofs.Walking.{whole_left, at_end}
use Rattle.desk.specs.declared.asked.Asked.{Asked}
use Rattle.dates.specs.Readings.{read_of}
use Rattle.desk.specs.Conversion.{between_of, convert_into}
use Rattle.desk.specs.Inner.{asked_over}
use Rattle.desk.proofs.Asking.{between_tick, asked_lent, sound, into}
use Rattle.desk.proofs.LentList.{listed}
use Rattle.desk.proofs.conversion.convert_into.Goals as goal
use Rattle.desk.proofs.conversion.convert_into.Goals.{in-Plain+else-is_one_scale, in_default}
use Rattle.desk.proofs.conversion.convert_into.Goals.{After-asked_over, After-purpose_of}

-- no step
nowhere : (from to : Scale) (tick : ℤ) → is_one_scale from to ≡ true
    → converted_to (record { scale = from; tick = tick }) 0 ≡ between_of from to (Ok tick) None []
nowhere from to tick one =
    sym (at_end None [] to 0 (record { scale = from; tick = tick }) (omega arith) (one_scale_here from to one))
    ∙ whole_left None [] to from tick ∙ between_tick from to None [] tick

-- the conversion by what is asked and what was read
answered : (a : After-asked_over) (is : Result Asked Refusal) (read : Read) → let s = a.args in
    a.asked_over.result ≡ is → read ≡ read_of s.leaps.now s.reading
    → asked_over is read s.table.now
    ≡ convert_into s.writes s.from s.to s.reading s.leaps.now s.table.now
answered a is read e was =
    let p = (goal.at.After-asked_over a).After-purpose_of in
    let s = p.args in
    into s.writes s.from s.to s.reading s.leaps.now s.table.now p.purpose_of.result is read p.purpose_of.ensures
    (sym a.asked_over.ensures ∙ e) was

pub returns-in_err-asked : goal.returns-in_err-asked
returns-in_err-asked c =
    passed_on _ _ c.from_residual.ensures
    ∙ answered (goal.at.returns-in_err-asked c).After-asked_over _ _ c.in_err-asked.was refl

pub tick_of-requires : goal.tick_of-requires
tick_of-requires c =
    rw (← c.purpose_of.ensures)
    (listed c.purpose_of.result c.args.writes c.args.leaps.now (asked_lent _ _ _ _ _ _ c.asked_over.result (sym c.asked_over.ensures)
    (λ refusal e. sound c.in_ok-asked.asked refusal (sym c.in_ok-asked.was ∙ e))))

pub returns-then-is_one_scale : goal.returns-then-is_one_scale
returns-then-is_one_scale c =
    rw (to_z-of_z w64 c.in-Ok.tick (record { sfits = search rules }))
    (nowhere _ _ _ (sym c.is_one_scale.ensures ∙ c.if-is_one_scale.true)
    ∙ answered (goal.at.returns-then-is_one_scale c).After-asked_over _ _ (c.in_ok-asked.was ∙ ap Ok c.in-Plain.is)
    (sym c.in-Ok.is ∙ c.tick_of.ensures))

pub returns-after-asked : goal.returns-after-asked
returns-after-asked c =
    let is : c.match-asked.asked ≡ c.in_ok-asked.asked =
    elim c.match-asked.branch [ in-Plain+else-is_one_scale w ↦ w.asked-is ∙ sym w.in-Plain.is | in_default w ↦ w.asked-is ] in
    rw (to_z-of_z w64 c.in-Ok.tick (record { sfits = search rules })) at c.convert_tick.ensures
    ∙ answered (goal.at.returns-after-asked c).After-asked_over _ _ (c.in_ok-asked.was ∙ ap Ok (sym is)) (sym c.in-Ok.is ∙ c.tick_of.ensures)

pub returns-in-Err : goal.returns-in-Err
returns-in-Err c =
    c.refuse.ensures
    ∙ answered (goal.at.returns-in-Err c).After-asked_over _ _ c.in_ok-asked.was (sym c.in-Err.is ∙ c.tick_of.ensures)
