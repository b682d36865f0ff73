-- `dates::reading::since_j2000` meets its contract: the tests in the page's order, and J2000 added.
-- Assumes nothing.
use mathlib.Core.Path.{◌≡◌, sym, ap, ◌∙◌}
use mathlib.Core.Bool.{true, false}
use lib.Dec.{lit≤}
use lib.IntN.{ℤ, ◌+ℤ◌}
use lib.Ieee.Scale.{finite}
use Rattle.numbers.specs.Rounding.{nearest}
use Rattle.dates.specs.Doubles.{beyond}
use Rattle.dates.specs.Ticks.{j2000, second_ticks, tick_of_seconds}
use Rattle.dates.specs.Readings.{read_of_seconds, in_range, most_seconds}
use Rattle.dates.specs.Inner.{SpanWithin}
use Rattle.dates.proofs.Spans.{j2000_span, looser, sum_sized, worth_plus}
use Rattle.dates.proofs.Sums.{ticks_of_shares}
use Rattle.dates.proofs.Values.{passes}
use Rattle.dates.proofs.reading.since_j2000.Goals as goal
use Rattle.dates.proofs.reading.since_j2000.Goals.{Else-beyond_seconds, Else-not-is_finite}

pub returns-then-not-is_finite : goal.returns-then-not-is_finite
unfolding read_of_seconds
returns-then-not-is_finite c =
    let n : finite c.args.seconds ≡ false = sym c.is_finite.ensures ∙ c.if-not-is_finite.true in
    rw n c.refused.ensures

finitely : (c : Else-not-is_finite) → finite c.args.seconds ≡ true
finitely c = sym c.is_finite.ensures ∙ c.if-not-is_finite.false

pub returns-then-beyond_seconds : goal.returns-then-beyond_seconds
unfolding read_of_seconds
returns-then-beyond_seconds c =
    let b : beyond most_seconds c.args.seconds ≡ true = sym c.beyond_seconds.ensures ∙ c.if-beyond_seconds.true in
    rw (finitely (goal.at.returns-then-beyond_seconds c).Else-not-is_finite, b) c.refused-then-beyond_seconds.ensures

within : (c : Else-beyond_seconds) → beyond most_seconds c.args.seconds ≡ false
within c = sym c.beyond_seconds.ensures ∙ c.if-beyond_seconds.false

pub count_of-requires : goal.count_of-requires
count_of-requires c = passes _ _ (finitely (goal.at.count_of-requires c).Else-not-is_finite) (within (goal.at.count_of-requires c).Else-beyond_seconds)

pub rounded-count-requires : goal.rounded-count-requires
rounded-count-requires c = looser c.count_of.result (lit≤ tt) (lit≤ tt) c.count_of.ensures.small

constant : SpanWithin 725803167 816000000 j2000_span
constant = record { units = lit≤ tt; rest = lit≤ tt }

pub plus-requires : goal.plus-requires
plus-requires c =
    record {
      one = looser c.rounded-count.result (lit≤ tt) (lit≤ tt) c.rounded-count.ensures.small;
      other = looser j2000_span (lit≤ tt) (lit≤ tt) constant;
    }

pub placed-requires : goal.placed-requires
placed-requires c =
    let r = c.rounded-count in
    looser c.plus.result (lit≤ tt) (lit≤ tt) (sum_sized r.result j2000_span c.plus.result r.ensures.small constant c.plus.ensures)

pub returns : goal.returns
unfolding read_of_seconds tick_of_seconds
returns c =
    let x = c.args.seconds in
    rw (finitely (goal.at.returns c).Else-not-is_finite, within (goal.at.returns c).Else-beyond_seconds)
    (c.placed.ensures
    ∙ ap in_range
    (worth_plus second_ticks c.rounded-count.result j2000_span c.plus.result c.plus.ensures
    ∙ ap (λ (z : ℤ). z +ℤ j2000)
    (sym c.rounded-count.ensures.is ∙ ap (λ (z : ℤ). nearest z 65536) c.count_of.ensures.is ∙ sym (ticks_of_shares second_ticks x))))
