-- `scales::scale::scale_named` meets its contract: in each arm the code is a number, at which the
-- definition computes. Assumes nothing.
use mathlib.Core.Path.{◌≡◌, sym}
use Prim.Native.Nat.{ℕ, ◌≤◌}
use native.Mathlib.Omega.{arith}
use lib.ListN.{length, get_or-eq_default}
use Rattle.scales.specs.declared.scale.Scale.TheVariants.{Tt}
use Rattle.scales.specs.Scales.{coded, named}
use Rattle.scales.proofs.scale.scale_named.Goals as goal

pub returns-in-0 : goal.returns-in-0
returns-in-0 c = rw c.in-0.is

pub returns-in-1 : goal.returns-in-1
returns-in-1 c = rw c.in-1.is

pub returns-in-2 : goal.returns-in-2
returns-in-2 c = rw c.in-2.is

pub returns-in-3 : goal.returns-in-3
returns-in-3 c = rw c.in-3.is

pub returns-in-4 : goal.returns-in-4
returns-in-4 c = rw c.in-4.is

pub returns-in-5 : goal.returns-in-5
returns-in-5 c = rw c.in-5.is

pub returns-in-6 : goal.returns-in-6
returns-in-6 c = rw c.in-6.is

pub returns-in-7 : goal.returns-in-7
returns-in-7 c = rw c.in-7.is

-- what is past the end of the list of codes names what stands there
no_code : (n : ℕ) → length coded ≤ n → named n ≡ Tt
no_code n h = get_or-eq_default coded Tt h

pub returns-in_default : goal.returns-in_default
returns-in_default c =
    let past : length coded ≤ c.args.code = omega arith in
    sym (no_code c.args.code past)
