-- `ephemeris::over::OverTdb::to_tt` meets its contract. Assumes nothing.
use Rattle.scales.specs.declared.answer.Outside.TheVariants as Outside
use Rattle.std.specs.Prelude.{Err, Ok}
use borrow.Author.Rules.{rules}
use mathlib.Core.Path.{◌≡◌, sym, ◌∙◌, ap}
use mathlib.Core.Bool.{true, false}
use mathlib.Core.List.{List}
use lib.IntN.{ℤ}
use Rattle.numbers.proofs.Machine.{read_is}
use Rattle.scales.specs.declared.scale.Scale.TheVariants.{Tt}
use Rattle.image.specs.declared.table.Table.{Table}
use Rattle.ephemeris.specs.Table.{tick_at, earliest_place, tt_of, is_covered}
use Rattle.ephemeris.specs.Steps.{tt_step}
use Rattle.ephemeris.proofs.Search.{earliest_inside}
use Rattle.ephemeris.proofs.Ends.{near_size, far_uncovered}
use Rattle.ephemeris.proofs.over.OverTdb.to_tt.Goals as goal

reached : (T : Table) (cs : List ℤ) (asked tick : ℤ) → is_covered T cs asked ≡ true
    → tick ≡ tick_at T (earliest_place T cs asked)
    → Ok (record { scale = Tt; tick = tick }) ≡ tt_step T cs asked
unfolding tt_step tt_of
reached T cs asked tick covered e = rw (covered, e)

outside : (T : Table) (cs : List ℤ) (asked : ℤ) → is_covered T cs asked ≡ false
    → (Err Outside.Table) ≡ tt_step T cs asked
unfolding tt_step
outside T cs asked left = rw left

pub returns-then-not-near : goal.returns-then-not-near
returns-then-not-near c =
    let far = sym c.near.ensures ∙ c.if-not-near.true in
    outside c.args.table c.args.coefficients.now c.args.self.0.0
    (far_uncovered c.args.table c.args.coefficients.now c.requires c.args.self.0.0 far)

pub earliest_place-place-requires : goal.earliest_place-place-requires
earliest_place-place-requires c =
    near_size _ (sym c.near.ensures ∙ c.if-not-near.false)

pub tick_at-tick-requires : goal.tick_at-tick-requires
tick_at-tick-requires c =
    rw c.earliest_place-place.ensures (earliest_inside c.args.table c.args.coefficients.now c.args.self.0.0)

pub returns-then-covered : goal.returns-then-covered
returns-then-covered c =
    reached c.args.table c.args.coefficients.now c.args.self.0.0 _ (sym c.covered.ensures ∙ c.if-covered.true)
    (read_is c.tick_at-tick.result.0 (search rules) ∙ c.tick_at-tick.ensures ∙ ap (tick_at c.args.table) c.earliest_place-place.ensures)

pub returns : goal.returns
returns c = outside c.args.table c.args.coefficients.now c.args.self.0.0 (sym c.covered.ensures ∙ c.if-covered.false)
