-- A line's number as a code: those that fit are handed on, and the desk refuses every other, and
-- each that is above the highest code, with 1. Assumes nothing.
use Rattle.std.specs.Prelude.{Err}
use borrow.Author.Tests.{lt-ltb, le-ltb, le-leb, lt-leb}
use mathlib.Core.Path.{◌≡◌, refl, ap}
use mathlib.Core.Logic.{◌⊎◌, inl, inr}
use Prim.Native.Nat.{ℕ, ◌<◌, zero-le}
use native.Mathlib.Decide.{dec_lt}
use native.Mathlib.Omega.{arith}
use lib.Dec.{ltb→lt}
use lib.IntN.{ℤ, pos, negsuc}
use lib.Signed.{◌<ℤ◌, clash_ℤ}
use Rattle.numbers.proofs.Order.{le_pos}
use Rattle.scales.specs.declared.scale.Purpose.TheVariants as P
use Rattle.scales.specs.Scales.{lowest_code, highest_code, scale_of}
use Rattle.line.specs.Lines.{code_of, no_code}

pub code_inside : (n : ℕ) → n < no_code → code_of (pos n) ≡ n
code_inside n h = rw (lt-ltb n no_code h)

pub code_below : (z : ℤ) → z <ℤ pos 0 → code_of z ≡ no_code
code_below (pos n) h = clash_ℤ h (le_pos 0 n zero-le)
code_below (negsuc n) h = refl

pub code_above : (z : ℤ) → pos 4294967294 <ℤ z → code_of z ≡ no_code
code_above (pos n) h = rw (le-ltb n no_code (ltb→lt 4294967294 n h.lt))
code_above (negsuc n) h = refl

-- a number above the highest code stays above it
stays_above : (n : ℕ) → highest_code P.Line < n → highest_code P.Line < code_of (pos n)
stays_above n h = elim (dec_lt n no_code) [
  | yes l ↦ rw (lt-ltb n no_code l) h
  | no l ↦ rw (le-ltb n no_code (omega (arith, l))) (omega arith)
]

refused_above : (code place : ℕ) → highest_code P.Line < code
    → scale_of P.Line code place ≡ Err (record { number = 1; place = place })
refused_above code place h = rw (le-leb (lowest_code P.Line) code zero-le, lt-leb code (highest_code P.Line) h)

-- 'A code outside 0..6 is refusal 1'
pub refused_outside : (z : ℤ) (place : ℕ) → (z <ℤ pos 0) ⊎ (pos (highest_code P.Line) <ℤ z)
    → scale_of P.Line (code_of z) place ≡ Err (record { number = 1; place = place })
refused_outside z place (inl below) = ap (λ (n : ℕ). scale_of P.Line n place) (code_below z below)
refused_outside (pos n) place (inr above) =
    refused_above (code_of (pos n)) place (stays_above n (ltb→lt (highest_code P.Line) n above.lt))
refused_outside (negsuc n) place (inr above) = refl
