-- A step is one row: where it begins, where it ends, and by what it goes. 'The scales form one line
-- with a branch: GPS, TAI, TT, then TT to TCG, and TT to TDB to TCB': its edges, each along and
-- back.
use Rattle.std.specs.Prelude.{Bool, true, false, cond, ℤ, Err}
use Rattle.scales.specs.declared.answer.Outside.TheVariants as Outside
use Rattle.scales.specs.declared.path.Line.{Line}
use Rattle.scales.specs.declared.path.Line.TheVariants.{GpsTai, TaiTt, TcgTt, TcbTdb}
use Rattle.scales.specs.declared.path.Edge.{Edge}
use Rattle.scales.specs.declared.path.Ends.{Ends}
use Rattle.scales.specs.declared.path.Step.{Step}
use Rattle.scales.specs.declared.path.Step.TheVariants.{Along, Back}
use Rattle.scales.specs.declared.scale.Scale.{Scale}
use Rattle.scales.specs.declared.scale.Scale.TheVariants.{Gps, Tai, Tt, Tcg, Tdb, Tcb}
use Rattle.scales.specs.Answers.{Stepped, kept_in}
use Rattle.scales.specs.Linear.{Linear, gps_to_tai, tai_to_tt, tcg_to_tt, tcb_to_tdb}
use Rattle.scales.specs.Linear.{inverse, nearest_tick}
use Rattle.scales.specs.Tick.{is_valid}

-- ---- a linear step: the scales at its ends, and its fraction and offset
pub record LineRow : Type 0 where
  pub from : Scale
  pub to : Scale
  pub by : Linear

abbrev pub line_row : Line → LineRow
line_row GpsTai = record { from = Gps; to = Tai; by = gps_to_tai }
line_row TaiTt = record { from = Tai; to = Tt; by = tai_to_tt }
line_row TcgTt = record { from = Tcg; to = Tt; by = tcg_to_tt }
line_row TcbTdb = record { from = Tcb; to = Tdb; by = tcb_to_tdb }

-- the way back: the ends exchanged, and 'the exact inverse' fraction
abbrev pub turned : LineRow → LineRow
turned row = record { from = row.to; to = row.from; by = inverse row.by }

-- from a valid tick to the nearest, if that is valid too; '4: epoch outside the range'
unfoldable pub line_step : LineRow → ℤ → Stepped
line_step row t = cond (is_valid t) (kept_in row.to (nearest_tick row.by t)) (Err Outside.Range)

-- ---- any step: a linear one, or over the table from TT to TDB, or back over it
pub data StepRow : Type 0 where
  linear : LineRow → StepRow
  table : StepRow
  table_back : StepRow

abbrev pub row_of : Step → StepRow
row_of (Along (Edge.Linear line)) = linear (line_row line)
row_of (Back (Edge.Linear line)) = linear (turned (line_row line))
row_of (Along Edge.Table) = table
row_of (Back Edge.Table) = table_back

abbrev beginning : StepRow → Scale
beginning (linear row) = row.from
beginning table = Tt
beginning table_back = Tdb

abbrev ending : StepRow → Scale
ending (linear row) = row.to
ending table = Tdb
ending table_back = Tt

-- the scale in which a step begins, and that in which it ends
abbrev pub begin : Step → Scale
begin step = beginning (row_of step)

abbrev pub end : Step → Scale
end step = ending (row_of step)

-- the two ends of an edge
abbrev pub edge_ends : Edge → Ends
edge_ends edge = record { from = begin (Along edge); to = end (Along edge) }

-- the step that leads back
abbrev pub opposite : Step → Step
opposite (Along edge) = Back edge
opposite (Back edge) = Along edge

-- 'TT to TDB', either way
abbrev pub is_over : StepRow → Bool
is_over (linear row) = false
is_over table = true
is_over table_back = true

abbrev pub over_table : Step → Bool
over_table step = is_over (row_of step)
