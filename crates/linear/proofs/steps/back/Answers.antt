-- `linear::steps::back` meets its contract: the range is tested before and after. Assumes nothing.
use borrow.Author.Rules.{rules}
use mathlib.Core.Path.{◌≡◌, sym, ◌∙◌}
use mathlib.Core.Bool.{true}
use Prim.Native.Nat.{◌≤◌}
use lib.IntN.{nat_abs}
use Rattle.numbers.proofs.Machine.{read, read_is}
use Rattle.scales.specs.Tick.{furthest, is_valid}
use Rattle.scales.proofs.Range.{valid_size}
use Rattle.linear.proofs.Methods.{step_no, step_yes}
use Rattle.linear.proofs.steps.back.Goals as goal
use Rattle.linear.proofs.steps.back.Goals.{Else-not-valid}

pub returns-then-not-valid : goal.returns-then-not-valid
returns-then-not-valid c = step_no _ _ (rw (read_is c.args.epoch.tick (search rules)) at (sym c.valid.ensures ∙ c.if-not-valid.true))

valid_yes : (c : Else-not-valid) → is_valid c.args.epoch.tick ≡ true
valid_yes c = rw (read_is c.args.epoch.tick (search rules)) at (sym c.valid.ensures ∙ c.if-not-valid.false)

-- a valid tick is near enough, as the code reads it
near : (c : Else-not-valid) → nat_abs (read c.args.epoch.tick) ≤ furthest
near c = rw (read_is c.args.epoch.tick (search rules)) (valid_size _ (valid_yes c))

pub to_gps-requires : goal.to_gps-requires
to_gps-requires c = near (goal.at.to_gps-requires c).Else-not-valid

pub to_tai-requires : goal.to_tai-requires
to_tai-requires c = near (goal.at.to_tai-requires c).Else-not-valid

pub to_tcg-requires : goal.to_tcg-requires
to_tcg-requires c = near (goal.at.to_tcg-requires c).Else-not-valid

pub to_tcb-requires : goal.to_tcb-requires
to_tcb-requires c = near (goal.at.to_tcb-requires c).Else-not-valid

pub returns-in-GpsTai : goal.returns-in-GpsTai
returns-in-GpsTai c =
    rw c.in-GpsTai.is
    (step_yes _ _ c.to_gps.result.0 (search rules) (search rules)
    (valid_yes (goal.at.returns-in-GpsTai c).Else-not-valid) c.keep.ensures c.to_gps.ensures)

pub returns-in-TaiTt : goal.returns-in-TaiTt
returns-in-TaiTt c =
    rw c.in-TaiTt.is
    (step_yes _ _ c.to_tai.result.0 (search rules) (search rules)
    (valid_yes (goal.at.returns-in-TaiTt c).Else-not-valid) c.keep-in-TaiTt.ensures c.to_tai.ensures)

pub returns-in-TcgTt : goal.returns-in-TcgTt
returns-in-TcgTt c =
    rw c.in-TcgTt.is
    (step_yes _ _ c.to_tcg.result.0 (search rules) (search rules)
    (valid_yes (goal.at.returns-in-TcgTt c).Else-not-valid) c.keep-in-TcgTt.ensures c.to_tcg.ensures)

pub returns-in-TcbTdb : goal.returns-in-TcbTdb
returns-in-TcbTdb c =
    rw c.in-TcbTdb.is
    (step_yes _ _ c.to_tcb.result.0 (search rules) (search rules)
    (valid_yes (goal.at.returns-in-TcbTdb c).Else-not-valid) c.keep-in-TcbTdb.ensures c.to_tcb.ensures)
