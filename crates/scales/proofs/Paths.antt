-- The path leads where it should: from its first scale, step by step, to its last. Assumes nothing.
use mathlib.Core.Path.{◌≡◌, refl, sym, ◌∙◌, ap}
use mathlib.Core.Bool.{Bool, true, ◌&&◌}
use mathlib.Core.List.{List, [], ◌∷◌}
use borrow.Author.Tests.{eqb-true}
use Rattle.numbers.proofs.Flags.{both}
use Rattle.scales.specs.declared.path.Step.{Step}
use Rattle.std.specs.Prelude.{None}
use Rattle.scales.specs.declared.scale.Scale.{Scale}
use Rattle.scales.specs.Path.{own_code, is_one_scale, next, path}
use Rattle.scales.specs.Rows.{begin, end, opposite}
use Rattle.scales.specs.Scales.{named}
use Rattle.scales.proofs.Every.{by_code, every_scale, every_two, every_step}

one_scale : (from to : Scale) → is_one_scale from to ≡ true → from ≡ to
one_scale from to e = sym (by_code from) ∙ ap named (eqb-true (own_code from) (own_code to) e) ∙ by_code to

-- from a scale to itself there is no step
pub one_scale_here : (from to : Scale) → is_one_scale from to ≡ true → next from to ≡ None
one_scale_here from to e = rw (one_scale from to e) (every_scale (λ scale. next scale scale) (λ scale. None) refl to)

-- a walk from scale to scale: each step begins where the one before ended
abbrev pub Leads : Scale → Scale → List Step → Type 0
Leads from to [] = from ≡ to
Leads from to (step ∷ more) = (begin step ≡ from) × Leads (end step) to more

-- the same as a test
abbrev is_leading : Scale → Scale → List Step → Bool
is_leading from to [] = is_one_scale from to
is_leading from to (step ∷ more) = is_one_scale (begin step) from && is_leading (end step) to more

leading : (from to : Scale) (p : List Step) → is_leading from to p ≡ true → Leads from to p
leading from to [] e = one_scale from to e
leading from to (step ∷ more) e =
    let b = both (is_one_scale (begin step) from) (is_leading (end step) to more) e in
    (one_scale (begin step) from b.0, leading (end step) to more b.1)

pub leads : (from to : Scale) → Leads from to (path from to)
leads from to =
    leading from to (path from to) (every_two (λ from to. is_leading from to (path from to)) (λ from to. true) refl from to)

-- between neighbours the path is one step, and the path back its opposite
pub opposite_path : (step : Step) → path (end step) (begin step) ≡ opposite step ∷ []
opposite_path = every_step (λ step. path (end step) (begin step)) (λ step. opposite step ∷ []) refl refl refl refl
