-- `granule::argument` meets its contract: the digits of `Digits`, whose sizes keep every number
-- within 64 bits. Assumes nothing.
use mathlib.Core.Path.{sym, ◌∙◌}
use Prim.Native.Nat.{◌^◌, ◌≤◌, ◌<◌}
use native.Mathlib.Nat.{le_refl}
use native.Mathlib.Omega.{arith}
use lib.IntN.{pos, ◌-ℤ◌, neg_ℤ}
use mir.Syntax.{w64}
use mir.Val.{SFits}
use Rattle.numbers.proofs.Order.{size-+}
use Rattle.numbers.proofs.Machine.{fits, read_is}
use Rattle.granule.specs.Rule.{scale}
use Rattle.granule.proofs.Digits.{digit_sum, DigitsSized, digits_sized, u_is}
use Rattle.granule.proofs.argument.Goals as goal
use Rattle.granule.proofs.argument.Goals.{Start}

some : (c : Start) → 0 < c.args.length
some c = let l = c.requires.long in omega arith

all : (c : Start) → DigitsSized c.args.place c.args.length
all c = digits_sized c.args.place c.args.length (some c) c.requires.inside

steps : (c : Start) → SFits w64 (pos (digit_sum c.args.place c.args.length))
steps c = let s = all c in fits (pos (digit_sum c.args.place c.args.length)) (omega arith)

less : (c : Start) → SFits w64 (pos (digit_sum c.args.place c.args.length) -ℤ pos scale)
less c =
    let s = all c in
    let q = digit_sum c.args.place c.args.length in
    let h : q ≤ 2 ^ 32 = omega arith in
    fits (pos q -ℤ pos scale) (omega (arith, size-+ (pos q) (neg_ℤ (pos scale)) h (le_refl scale)))

pub overflow_mul-second : goal.overflow_mul-second
overflow_mul-second c = let s = all c in let h = c.requires.short in omega arith

pub overflow_mul-third : goal.overflow_mul-third
overflow_mul-third c = let s = all c in let h = c.requires.short in omega arith

pub overflow_add-third : goal.overflow_add-third
overflow_add-third c = let s = all c in let h = c.requires.short in omega arith

pub overflow_mul-steps : goal.overflow_mul-steps
overflow_mul-steps c = let s = all c in omega arith

pub overflow_mul-steps-2 : goal.overflow_mul-steps-2
overflow_mul-steps-2 c = let s = all c in omega arith

pub overflow_add-steps : goal.overflow_add-steps
overflow_add-steps c = let s = all c in omega arith

pub overflow_add-steps-2 : goal.overflow_add-steps-2
overflow_add-steps-2 c = let s = all c in omega arith

pub overflow_cast-result : goal.overflow_cast-result
overflow_cast-result c = steps c

pub overflow_sub-result : goal.overflow_sub-result
overflow_sub-result c = rw (read_is _ (steps c)) (less c)

pub returns : goal.returns
returns c = rw (read_is _ (steps c)) (read_is _ (less c) ∙ sym (u_is c.args.place c.args.length (some c)))
