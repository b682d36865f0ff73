-- `dates::writing::write_date` meets its contract: the days and the ticks of the day are the
-- definition's. Assumes nothing.
use mathlib.Core.Path.{◌≡◌, sym, ◌∙◌}
use mathlib.Core.Bool.{true, false}
use mir.Syntax.{w64}
use mir.Val.{to_z, of_z}
use mir.ValLaws.{to_z-of_z}
use Rattle.scales.specs.Tick.{is_valid}
use Rattle.scales.proofs.Range.{valid_size}
use Rattle.dates.specs.Written.{written_of, date_of, first_part, second_part}
use Rattle.dates.specs.Inner.{Since}
use Rattle.dates.proofs.Days.{first_half_is, ticks_of_day_is}
use Rattle.dates.proofs.writing.write_date.Goals as goal
use Rattle.dates.proofs.writing.write_date.Goals.{After-since_first-since, Else-not-valid, Start}

back : (c : Start) → to_z w64 (of_z w64 c.args.tick) ≡ c.args.tick
back c = to_z-of_z w64 c.args.tick c.ranges.tick

pub returns-then-not-valid : goal.returns-then-not-valid
unfolding written_of
returns-then-not-valid c =
    let no : is_valid c.args.tick ≡ false = rw (back (goal.at.returns-then-not-valid c).Start) at
    (sym c.valid.ensures ∙ c.if-not-valid.true) in rw no

valid_yes : (c : Else-not-valid) → is_valid c.args.tick ≡ true
valid_yes c = rw (back (goal.at.Else-not-valid c).Start) at (sym c.valid.ensures ∙ c.if-not-valid.false)

pub since_first-since-requires : goal.since_first-since-requires
since_first-since-requires c = rw (back (goal.at.since_first-since-requires c).Start) (valid_size c.args.tick (valid_yes c))

counted : (c : After-since_first-since) → Since c.args.tick c.since_first-since.result
counted c = rw (back (goal.at.After-since_first-since c).Start) at c.since_first-since.ensures

pub returns : goal.returns
unfolding written_of date_of first_part second_part
returns c =
    let t = c.args.tick in
    rw (
      valid_yes (goal.at.returns c).Else-not-valid,
      c.julian_date.ensures,
      c.part_of_day.ensures,
      first_half_is t _
          (counted (goal.at.returns c).After-since_first-since),
      ticks_of_day_is t _ (counted (goal.at.returns c).After-since_first-since),
    )
