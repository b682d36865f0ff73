-- What holds of every scale, every two of them, every line and every step, by computing it along
-- their lists: two functions that agree there agree everywhere. So a law of all scales is one
-- computed equation, however many there are. Assumes nothing.
use mathlib.Core.Path.{◌≡◌, refl, sym, ◌∙◌, ap, subst}
use mathlib.Core.List.{List, [], ◌∷◌, map}
use Prim.Native.Nat.{ℕ}
use lib.ListN.{get_or, get_or-map}
use Rattle.scales.specs.declared.path.Line.{Line}
use Rattle.scales.specs.declared.path.Line.TheVariants.{GpsTai, TaiTt, TcgTt, TcbTdb}
use Rattle.scales.specs.declared.path.Edge.TheVariants as Edge
use Rattle.scales.specs.declared.path.Step.{Step}
use Rattle.scales.specs.declared.path.Step.TheVariants.{Along, Back}
use Rattle.scales.specs.declared.scale.Scale.{Scale}
use Rattle.scales.specs.declared.scale.Scale.TheVariants.{Gps, Tai, Tt, Tcg, Tdb, Tcb}
use Rattle.scales.specs.Path.{own_code}
use Rattle.scales.specs.Scales.{coded, named}

-- along a list, and so at each of its places
agree : {A B : Type 0} (f g : A → B) (l : List A) (d : A) → f d ≡ g d → map f l ≡ map g l → (i : ℕ)
    → f (get_or l i d) ≡ g (get_or l i d)
agree {A} {B} f g l d first same i =
    sym (get_or-map f l i d)
    ∙ ap (λ (m : List B). get_or m i (f d)) same
    ∙ ap (λ (b : B). get_or (map g l) i b) first
    ∙ get_or-map g l i d

-- ---- every scale: its own code names it, so the list of the codes has all of them
pub by_code : (scale : Scale) → named (own_code scale) ≡ scale
by_code Gps = refl
by_code Tai = refl
by_code Tt = refl
by_code Tcg = refl
by_code Tdb = refl
by_code Tcb = refl

pub every_scale : {A : Type 0} (f g : Scale → A) → map f coded ≡ map g coded → (scale : Scale) → f scale ≡ g scale
every_scale {A} f g same scale =
    let tt : f Tt ≡ g Tt = ap (λ (l : List A). get_or l (own_code Tt) (f Tt)) same in
    subst (λ (s : Scale). f s ≡ g s) (by_code scale) (agree f g coded Tt tt same (own_code scale))

pub every_two : {A : Type 0} (f g : Scale → Scale → A)
    → map (λ from. map (f from) coded) coded ≡ map (λ from. map (g from) coded) coded → (from to : Scale)
    → f from to ≡ g from to
every_two f g same from =
    every_scale (f from) (g from) (every_scale (λ from. map (f from) coded) (λ from. map (g from) coded) same from)

-- ---- every line
abbrev pub lines : List Line
lines = GpsTai ∷ TaiTt ∷ TcgTt ∷ TcbTdb ∷ []

listed : (line : Line) → (i : ℕ) × (get_or lines i GpsTai ≡ line)
listed GpsTai = (0, refl)
listed TaiTt = (1, refl)
listed TcgTt = (2, refl)
listed TcbTdb = (3, refl)

pub every_line : {A : Type 0} (f g : Line → A) → map f lines ≡ map g lines → (line : Line) → f line ≡ g line
every_line {A} f g same line =
    let first : f GpsTai ≡ g GpsTai = ap (λ (l : List A). get_or l 0 (f GpsTai)) same in
    let i = listed line in
    subst (λ (l : Line). f l ≡ g l) i.1 (agree f g lines GpsTai first same i.0)

-- ---- what holds of each step: along the lines, back by them, and over the table, and back
pub each_step : (P : Step → Type 0) → ((line : Line) → P (Along (Edge.Linear line)))
    → ((line : Line) → P (Back (Edge.Linear line))) → P (Along Edge.Table) → P (Back Edge.Table) → (step : Step)
    → P step
each_step P on back tdb tt (Along (Edge.Linear line)) = on line
each_step P on back tdb tt (Back (Edge.Linear line)) = back line
each_step P on back tdb tt (Along Edge.Table) = tdb
each_step P on back tdb tt (Back Edge.Table) = tt

pub every_step : {A : Type 0} (f g : Step → A)
    → map (λ line. f (Along (Edge.Linear line))) lines ≡ map (λ line. g (Along (Edge.Linear line))) lines
    → map (λ line. f (Back (Edge.Linear line))) lines ≡ map (λ line. g (Back (Edge.Linear line))) lines
    → f (Along Edge.Table) ≡ g (Along Edge.Table) → f (Back Edge.Table) ≡ g (Back Edge.Table) → (step : Step)
    → f step ≡ g step
every_step f g on back tdb tt =
    each_step _
    (every_line (λ line. f (Along (Edge.Linear line))) (λ line. g (Along (Edge.Linear line))) on)
    (every_line (λ line. f (Back (Edge.Linear line))) (λ line. g (Back (Edge.Linear line))) back)
    tdb tt
