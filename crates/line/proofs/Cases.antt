-- What a test of the definitions says. Assumes nothing.
use mathlib.Core.Path.{◌≡◌, refl}
use mathlib.Core.Bool.{Bool, true, false}

-- a test's two outcomes
pub either : {G : Type 0} (b : Bool) → (b ≡ true → G) → (b ≡ false → G) → G
either true f g = f refl
either false f g = g refl
