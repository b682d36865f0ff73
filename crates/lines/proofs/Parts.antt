-- The front of a buffer: what was put there. Assumes nothing.
use mathlib.Core.Path.{◌≡◌, refl, ◌∙◌, ap}
use mathlib.Core.List.{List, [], ◌++◌}
use Prim.Native.Nat.{ℕ, ◌+◌, ◌≤◌}
use native.Mathlib.Omega.{arith}
use lib.ListN.{length, take, drop, length-append}
use lib.Seq.{take_at}
use Rattle.printing.specs.Buffers.{with_text, TextPut}

pub put_nothing : (out : List ℕ) → TextPut out 0 [] out 0
unfolding with_text
put_nothing out = record { holds = refl; after = refl }

module _ {out text out' : List ℕ} {next : ℕ} (put : TextPut out 0 text out' next) where
  is : out' ≡ text ++ drop (0 + length text) out
  unfolding with_text
  is = put.holds

  size : length text ≡ next
  size = omega (arith, put.after)

  pub put_inside : next ≤ length out'
  put_inside = omega (arith, size, ap length is, length-append text (drop (0 + length text) out))

  pub put_front : take next out' ≡ text
  put_front = ap (take next) is ∙ take_at text (drop (0 + length text) out) next size
