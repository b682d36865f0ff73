-- 'A conversion walks the only path': from scale to scale, one step after the other.
use Rattle.std.specs.Prelude.{Bool, true, false, ◌||◌, List, [], ◌∷◌, ℕ, zero, suc, eqb, length}
use Rattle.std.specs.Prelude.{Option, Some, None}
use Rattle.scales.specs.declared.path.Line.{Line}
use Rattle.scales.specs.declared.path.Line.TheVariants.{GpsTai, TaiTt, TcgTt, TcbTdb}
use Rattle.scales.specs.declared.path.Edge.TheVariants as Edge
use Rattle.scales.specs.declared.path.Step.{Step}
use Rattle.scales.specs.declared.path.Step.TheVariants.{Along, Back}
use Rattle.scales.specs.declared.scale.Scale.{Scale}
use Rattle.scales.specs.declared.scale.Scale.TheVariants.{Gps, Tai, Tt, Tcg, Tdb, Tcb}
use Rattle.scales.specs.Rows.{end, over_table}

-- the scale's own code, 'Codes: 1 GPS, 2 TAI, 3 TT, 4 TCG, 5 TDB, 6 TCB', by which two are told
-- apart
abbrev pub own_code : Scale → ℕ
own_code Gps = 1
own_code Tai = 2
own_code Tt = 3
own_code Tcg = 4
own_code Tdb = 5
own_code Tcb = 6

abbrev pub is_one_scale : Scale → Scale → Bool
is_one_scale from to = eqb (own_code from) (own_code to)

-- one of these steps, by the scale to which the path leads
abbrev pub leading_to : Scale → (gps tai tt tcg tdb tcb : Option Step) → Option Step
leading_to Gps gps tai tt tcg tdb tcb = gps
leading_to Tai gps tai tt tcg tdb tcb = tai
leading_to Tt gps tai tt tcg tdb tcb = tt
leading_to Tcg gps tai tt tcg tdb tcb = tcg
leading_to Tdb gps tai tt tcg tdb tcb = tdb
leading_to Tcb gps tai tt tcg tdb tcb = tcb

abbrev along : Line → Option Step
along line = Some (Along (Edge.Linear line))

abbrev back : Line → Option Step
back line = Some (Back (Edge.Linear line))

abbrev over : Option Step
over = Some (Along Edge.Table)

abbrev back_over : Option Step
back_over = Some (Back Edge.Table)

-- the next step from the first scale on the way to the second.
-- The columns: to GPS, to TAI, to TT, to TCG, to TDB, to TCB
abbrev pub next : Scale → Scale → Option Step
next Gps to = let tai = along GpsTai in leading_to to None tai tai tai tai tai
next Tai to = let tt = along TaiTt in leading_to to (back GpsTai) None tt tt tt tt
next Tt to = leading_to to (back TaiTt) (back TaiTt) None (back TcgTt) over over
next Tcg to = let tt = along TcgTt in leading_to to tt tt tt None tt tt
next Tdb to = leading_to to back_over back_over back_over back_over None (back TcbTdb)
next Tcb to = let tdb = along TcbTdb in leading_to to tdb tdb tdb tdb tdb None

-- the next step, if there is one, and the rest of the path from its end
abbrev pub step_and_rest : (Scale → List Step) → Option Step → List Step
step_and_rest rest None = []
step_and_rest rest (Some step) = step ∷ rest (end step)

-- a path of at most so many steps
abbrev pub path_within : ℕ → Scale → Scale → List Step
path_within zero from to = []
path_within (suc most) from to = step_and_rest (λ scale. path_within most scale to) (next from to)

-- 'the number of steps walked (0 to 4)'
abbrev pub longest_path : ℕ
longest_path = 4

abbrev pub path : Scale → Scale → List Step
path from to = path_within longest_path from to

abbrev pub steps : Scale → Scale → ℕ
steps from to = length (path from to)

-- the scales on the far side of the table
abbrev pub barycentric : Scale → Bool
barycentric Gps = false
barycentric Tai = false
barycentric Tt = false
barycentric Tcg = false
barycentric Tdb = true
barycentric Tcb = true

abbrev pub any_over_table : List Step → Bool
any_over_table [] = false
any_over_table (step ∷ more) = over_table step || any_over_table more

-- 'if the path crosses TT to TDB', either way
abbrev pub crosses : Scale → Scale → Bool
crosses from to = any_over_table (path from to)
