-- `ephemeris::over::OverTt::to_tdb` meets its contract. Assumes nothing.
use Rattle.scales.specs.declared.answer.Outside.TheVariants as Outside
use Rattle.std.specs.Prelude.{Err}
use borrow.Author.Rules.{rules}
use mathlib.Core.Path.{◌≡◌, sym, ◌∙◌, ap}
use mathlib.Core.Bool.{true, false}
use mathlib.Core.List.{List}
use lib.IntN.{ℤ}
use Rattle.numbers.proofs.Machine.{read_is}
use Rattle.scales.specs.Answers.{kept_in}
use Rattle.scales.specs.declared.scale.Scale.TheVariants.{Tdb}
use Rattle.image.specs.declared.table.Table.{Table}
use Rattle.ephemeris.specs.Table.{is_inside, tdb_of, tdb_at}
use Rattle.ephemeris.specs.Steps.{tdb_step}
use Rattle.ephemeris.proofs.Ticks.{inside_both, placed, tdb_of_lem}
use Rattle.ephemeris.proofs.over.OverTt.to_tdb.Goals as goal
use Rattle.ephemeris.proofs.over.OverTt.to_tdb.Goals.{After-tdb_at-tdb, Else-not-inside}

outside : (T : Table) (cs : List ℤ) (t : ℤ) → is_inside T t ≡ false → (Err Outside.Table) ≡ tdb_step T cs t
unfolding tdb_step
outside T cs t out = rw out

-- its TDB, kept in the range
kept : (T : Table) (cs : List ℤ) (t tdb : ℤ) → is_inside T t ≡ true → tdb ≡ tdb_of T cs t
    → kept_in Tdb tdb ≡ tdb_step T cs t
unfolding tdb_step
kept T cs t tdb in_table e = rw (in_table, e)

-- ---- at the places of the code
within : (c : Else-not-inside) → is_inside c.args.table c.args.self.0.0 ≡ true
within c = sym c.inside.ensures ∙ c.if-not-inside.false

tdb_is : (c : After-tdb_at-tdb) → c.tdb_at-tdb.result.0 ≡ tdb_of c.args.table c.args.coefficients.now c.args.self.0.0
tdb_is c =
    c.tdb_at-tdb.ensures
    ∙ ap (tdb_at c.args.table c.args.coefficients.now) c.place_of.ensures
    ∙ sym (tdb_of_lem c.args.table c.args.coefficients.now c.args.self.0.0 (inside_both _ _ (within (goal.at.After-tdb_at-tdb c).Else-not-inside)).0)

pub returns-then-not-inside : goal.returns-then-not-inside
returns-then-not-inside c = outside c.args.table c.args.coefficients.now c.args.self.0.0 (sym c.inside.ensures ∙ c.if-not-inside.true)

pub tdb_at-tdb-requires : goal.tdb_at-tdb-requires
tdb_at-tdb-requires c =
    rw c.place_of.ensures (placed c.args.table c.args.self.0.0 (within (goal.at.tdb_at-tdb-requires c).Else-not-inside))

pub returns : goal.returns
returns c =
    c.keep.ensures
    ∙ ap (kept_in Tdb) (read_is c.tdb_at-tdb.result.0 (search rules))
    ∙ kept c.args.table c.args.coefficients.now c.args.self.0.0 c.tdb_at-tdb.result.0
    (within (goal.at.returns c).Else-not-inside) (tdb_is (goal.at.returns c).After-tdb_at-tdb)
