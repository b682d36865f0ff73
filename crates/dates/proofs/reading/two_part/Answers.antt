-- `dates::reading::two_part` meets its contract: both parts pass, their shares decide as the exact
-- sum does, and the origin is taken off. Assumes nothing.
use mathlib.Core.Path.{◌≡◌, sym, ap, ◌∙◌, subst}
use mathlib.Core.Bool.{true}
use lib.Dec.{T, lit≤}
use lib.Ieee.{binary64, fits}
use lib.IntN.{ℤ, pos, ◌-ℤ◌}
use Rattle.numbers.specs.Rounding.{nearest}
use Rattle.numbers.proofs.Flags as flags
use Rattle.dates.specs.Ticks.{day_ticks, origin}
use Rattle.dates.specs.Readings.{read_of_parts, in_range, most_days}
use Rattle.dates.specs.Inner.{SpanWithin, passing}
use Rattle.dates.proofs.Spans.{origin_span, looser, sum_sized, worth_plus}
use Rattle.dates.proofs.Sums.{shares_decide}
use Rattle.dates.proofs.Values.{readable, finite_then, within_then}
use Rattle.dates.proofs.reading.two_part.Goals as goal
use Rattle.dates.proofs.reading.two_part.Goals.{Else-not-both_pass, Start}

pub no_date-requires : goal.no_date-requires
no_date-requires c = sym c.both_pass.ensures ∙ c.if-not-both_pass.true

pass : (c : Else-not-both_pass)
    → (passing most_days c.args.first ≡ true)
    × (passing most_days c.args.second ≡ true)
pass c = flags.both _ _ (sym c.both_pass.ensures ∙ c.if-not-both_pass.false)

pub sum_of_days-requires : goal.sum_of_days-requires
sum_of_days-requires c = record { first = readable _ _ (pass c).0; second = readable _ _ (pass c).1 }

pub rounded-sum-requires : goal.rounded-sum-requires
rounded-sum-requires c = c.sum_of_days.ensures.small

constant : SpanWithin 2443144 43232184000000 origin_span
constant = record { units = lit≤ tt; rest = lit≤ tt }

pub plus-requires : goal.plus-requires
plus-requires c =
    record {
      one = looser c.rounded-sum.result (lit≤ tt) (lit≤ tt) c.rounded-sum.ensures.small;
      other = looser origin_span (lit≤ tt) (lit≤ tt) constant;
    }

pub placed-requires : goal.placed-requires
placed-requires c =
    let r = c.rounded-sum in
    looser c.plus.result (lit≤ tt) (lit≤ tt) (sum_sized r.result origin_span c.plus.result r.ensures.small constant c.plus.ensures)

-- what owning an `f64` tells: the format holds it
held : (c : Start) → (T (fits binary64 c.args.first)) × (T (fits binary64 c.args.second))
held c = (subst T (sym c.well_formed.0.1) tt, subst T (sym c.well_formed.1.0.1) tt)

pub returns : goal.returns
unfolding read_of_parts
returns c =
    let x = c.args.first in
    let y = c.args.second in
    rw (
      finite_then most_days x (pass (goal.at.returns c).Else-not-both_pass).0,
      finite_then most_days y (pass (goal.at.returns c).Else-not-both_pass).1,
      within_then most_days x (pass (goal.at.returns c).Else-not-both_pass).0,
      within_then most_days y (pass (goal.at.returns c).Else-not-both_pass).1,
    )
    (c.placed.ensures
    ∙ ap in_range
    (worth_plus day_ticks c.rounded-sum.result origin_span c.plus.result c.plus.ensures
    ∙ ap (λ (z : ℤ). z -ℤ pos origin) (sym c.rounded-sum.ensures.is ∙ ap (λ (z : ℤ). nearest z 65536) c.sum_of_days.ensures.is))
    ∙ shares_decide x y (held (goal.at.returns c).Start).0 (held (goal.at.returns c).Start).1)
