-- What a function is told of a parameter `[uN; n]`: each element fits. That there are n is the
-- kit's `good_length`. Assumes nothing.
use mathlib.Core.List.{List, [], ◌∷◌}
use Prim.Native.Nat.{ℕ, zero, suc, ◌^◌, ◌<◌}
use lib.ListN.{get_or}
use lib.Pow.{pow_pos}
use mir.Syntax.{Width}
use mir.Val.{Val, bits}
use denote.Shadow.{shadow}
use denote.Laws.{Is}
use denote.Plain.{UInt}
use denote.Array.{Array, each}

each_fits : (w : Width) (xs : List ℕ) (us : List Val) → shadow (each ℕ (UInt w).own_val xs us) → (i : ℕ)
    → get_or xs i 0 < 2 ^ bits w
each_fits w [] us s i = pow_pos (bits w)
each_fits w (x ∷ xs) [] s i = absurd s
each_fits w (x ∷ xs) (u ∷ us) s zero = s.0.1
each_fits w (x ∷ xs) (u ∷ us) s (suc i) = each_fits w xs us s.1 i

pub array_fits : (w : Width) (n : ℕ) (xs : List ℕ) (vs : List Val) → Is (Array (UInt w) n) xs vs → (i : ℕ)
    → get_or xs i 0 < 2 ^ bits w
array_fits w n xs vs p = each_fits w xs p.0 p.1.1
