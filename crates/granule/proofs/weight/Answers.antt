-- `granule::weight` meets its contract: std's word for the chain is the page's sum. Assumes
-- nothing.
use borrow.Author.Rules.{rules}
use mathlib.Core.Path.{◌≡◌, ◌∙◌, ap}
use Prim.Native.Nat.{ℕ, ◌*◌, ◌^◌, ◌≤◌, ◌<◌}
use native.Mathlib.Nat.{zero-add}
use native.Mathlib.Omega.{arith}
use lib.IntN.{ℤ, pos, nat_abs}
use lib.ListN.{length, get_or}
use denote.Ref.{Bor}
use Rattle.std.specs.List.{enumerate_from}
use Rattle.std.proofs.lemmas.Iterator.{YieldsList, YieldsList-from_slice, YieldsList-from_map}
use Rattle.std.proofs.lemmas.Iterator.Consumers.{YieldsList-at, YieldsList-from_enumerate, sum_by_from_yields_List, fits_by_from_yields_list}
use Rattle.granule.specs.Bounds.{most_degree}
use Rattle.granule.specs.Tests.{largest}
use Rattle.granule.proofs.Passing.{small_at}
use Rattle.granule.proofs.Sums.{most_square, term_small, term_of, weight_is, terms_fit}
use Rattle.std.specs.Iterator.Adapters.{map_source, enumerate_steps}
use Rattle.std.proofs.lemmas.Fn.{fronts}
use Rattle.std.proofs.lemmas.List.{get_or_default}
use Rattle.std.proofs.lemmas.List.FromFn.{length-enumerate_from, get_or-enumerate_from}
use Rattle.std.proofs.lemmas.Iterator.Adapters.{serves_from_places}
use Rattle.granule.proofs.weight.Goals as goal
use Rattle.granule.proofs.weight.Goals.{After-map}

places : (c : After-map)
    → YieldsList {B = ℕ × ℤ} (enumerate_steps fronts) (λ p. (p.0, p.1.now)) (map_source c.map.result)
    (enumerate_from 0 c.args.coefficients.now)
places c =
    YieldsList-at c.map.ensures.source
    (YieldsList-from_enumerate (YieldsList-at c.enumerate.ensures.source (YieldsList-from_slice c.args.coefficients.now cc)) cc)

-- a term's factors
sized : (c : After-map) (x : ℕ × Bor ℤ) (k : ℕ) → k < length (enumerate_from 0 c.args.coefficients.now)
    → (x.0, x.1.now) ≡ get_or (enumerate_from 0 c.args.coefficients.now) k (x.0, x.1.now)
    → (x.0 * x.0 ≤ most_square) × (x.0 * x.0 * nat_abs x.1.now ≤ most_square * largest)
sized c x k l e =
    let cs = c.args.coefficients.now in
    let few = c.requires.few in
    let short : k < length cs = rw (length-enumerate_from 0 cs) at l in
    let low : k ≤ most_degree = omega (arith, few, short) in
    let at : (x.0, x.1.now) ≡ (k, get_or cs k x.1.now) = e ∙ rw (zero-add k) at (get_or-enumerate_from 0 cs k (x.0, x.1.now) short) in
    let place : x.0 ≡ k = ap (λ (p : ℕ × ℤ). p.0) at in
    let value : x.1.now ≡ get_or cs k (pos 0) = ap (λ (p : ℕ × ℤ). p.1) at ∙ get_or_default cs k x.1.now (pos 0) short in
    term_small x.0 (nat_abs x.1.now) (rw place low) (rw value (small_at cs k c.requires.small))

pub sum-requires-clause-can : goal.sum-requires-clause-can
sum-requires-clause-can c = (
  search rules,
  serves_from_places (places c) (λ x q k. search rules) (λ x k l e. let s = sized c x k l e in search rules),
)

pub sum-requires-clause-fits : goal.sum-requires-clause-fits
sum-requires-clause-fits c =
    let cs = c.args.coefficients.now in
    fits_by_from_yields_list term_of (enumerate_from 0 cs) c.map.result (2 ^ 64)
    (YieldsList-from_map _ term_of (places c) c.map.ensures.closure (λ x r q k. search rules))
    (terms_fit cs c.requires)

pub returns : goal.returns
returns c =
    let cs = c.args.coefficients.now in
    sum_by_from_yields_List term_of (enumerate_from 0 cs) c.map.result c.sum.result c.sum.ensures.ran
    (YieldsList-from_map _ term_of (places c.before) c.map.ensures.closure (λ x r q k. search rules))
    ∙ weight_is cs
