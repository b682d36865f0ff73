-- The step between TT and TDB over a table, both ways: '6 before 4'.
use Rattle.scales.specs.Answers.{Stepped, kept_in}
use Rattle.scales.specs.declared.answer.Outside.TheVariants as Outside
use Rattle.std.specs.Prelude.{Err, Ok, cond, List, ℤ}
use Rattle.scales.specs.declared.scale.Scale.TheVariants.{Tt, Tdb}
use Rattle.image.specs.declared.table.Table.{Table}
use Rattle.ephemeris.specs.Table.{is_inside, tdb_of, is_covered, tt_of}

-- 'TDB = TT − D'
unfoldable pub tdb_step : Table → List ℤ → ℤ → Stepped
tdb_step T cs t = cond (is_inside T t) (kept_in Tdb (tdb_of T cs t)) (Err Outside.Table)

-- 'TT from TDB': every tick of a table is a valid epoch, so that no 4 can come of it
unfoldable pub tt_step : Table → List ℤ → ℤ → Stepped
tt_step T cs asked =
    cond
    (is_covered T cs asked)
    (Ok (record { scale = Tt; tick = tt_of T cs asked }))
    (Err Outside.Table)
