-- Two tests in one. Assumes nothing.
use mathlib.Core.Path.{◌≡◌, refl}
use mathlib.Core.Bool.{Bool, true, false, ◌&&◌, ◌||◌}
use native.Mathlib.Omega.{arith}
use Prim.Native.Nat.{ℕ}

-- nothing is both
pub never : {A : Type 0} → false ≡ true → A
never e = let z : ◌≡◌ {A = ℕ} 0 1 = cc in let w : ⊥ = omega arith in absurd w

pub both : (t u : Bool) → t && u ≡ true → (t ≡ true) × (u ≡ true)
both true u e = (refl, e)
both false u e = never e

pub and_right : (t : Bool) {u : Bool} → u ≡ false → t && u ≡ false
and_right true e = e
and_right false e = refl

pub or_left : {t : Bool} (u : Bool) → t ≡ true → t || u ≡ true
or_left u e = rw e

pub or_right : (t : Bool) {u : Bool} → u ≡ true → t || u ≡ true
or_right true e = refl
or_right false e = e

pub or_neither : {t u : Bool} → t ≡ false → u ≡ false → t || u ≡ false
or_neither e d = rw (e, d)

-- the one that holds where the other does not
pub or_told : {t u : Bool} → t ≡ false → t || u ≡ true → u ≡ true
or_told e d = rw e at d
