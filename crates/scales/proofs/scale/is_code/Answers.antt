-- `scales::scale::is_code` meets its contract. Assumes nothing.
use borrow.Author.Tests.{le-leb, lt-leb}
use lib.Dec.{leb}
use mathlib.Core.Bool.{false}
use mathlib.Core.Path.{◌≡◌}
use Prim.Native.Nat.{ℕ, ◌≤◌, ◌<◌}
use Rattle.scales.specs.declared.scale.Purpose.{Purpose}
use Rattle.scales.specs.Scales.{lowest_code, highest_code, is_code}
use Rattle.scales.proofs.scale.is_code.Goals as goal

module _ (purpose : Purpose) (code lowest : ℕ) (e : lowest ≡ lowest_code purpose) where
  below : code < lowest → false ≡ is_code purpose code
  below h = rw (lt-leb (lowest_code purpose) code (rw e at h))

  from_there : (highest : ℕ) → highest ≡ highest_code purpose → lowest ≤ code → leb code highest ≡ is_code purpose code
  from_there highest is h = rw (is, le-leb (lowest_code purpose) code (rw e at h))

pub returns-then-code-lowest_code : goal.returns-then-code-lowest_code
returns-then-code-lowest_code c = let s = c.args in below s.purpose s.code _ c.lowest_code.ensures c.if-code-lowest_code.true

pub returns : goal.returns
returns c = from_there c.args.purpose c.args.code _ c.lowest_code.ensures _ c.highest_code.ensures c.if-code-lowest_code.false
