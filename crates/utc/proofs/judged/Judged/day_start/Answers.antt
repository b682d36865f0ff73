-- `utc::judged::Judged::day_start` meets its contract. Assumes nothing.
use mathlib.Core.Path.{◌≡◌, ◌∙◌, ap}
use lib.Dec.{lit≤}
use Rattle.numbers.proofs.Machine.{read, read_is}
use Rattle.utc.specs.Leaps.{seconds}
use Rattle.utc.specs.Days.{seconds_on, day_start, tai_of}
use Rattle.utc.proofs.Rules.{moderate_size, right}
use Rattle.utc.proofs.Standing.{entry_at, seconds_moderate}
use Rattle.utc.proofs.judged.Judged.day_start.Goals as goal
use Rattle.utc.proofs.judged.Judged.day_start.Goals.{After-seconds, Start}

day_is : (c : Start) → read c.args.day ≡ c.args.day
day_is c = read_is c.args.day c.ranges.day

pub seconds-requires : goal.seconds-requires
seconds-requires c =
    let day = day_is (goal.at.seconds-requires c).Start in
    rw (c.entry_on-entry.ensures, day) (entry_at (right c.args.self.leaps.0.now c.args.self.right) c.args.day c.requires.begun).within

seconds_is : (c : After-seconds) → read c.seconds.result ≡ seconds_on c.args.self.leaps.0.now c.args.day
unfolding seconds_on
seconds_is c =
    read_is _ (record { sfits = c.seconds.type_inv }) ∙ c.seconds.ensures
    ∙ ap (seconds c.args.self.leaps.0.now) (rw (day_is (goal.at.After-seconds c).Start) at c.entry_on-entry.ensures)

pub tai_by-requires : goal.tai_by-requires
tai_by-requires c =
    rw (seconds_is c, day_is (goal.at.After-seconds c).Start)
    (record {
      few = moderate_size (seconds_moderate (right c.args.self.leaps.0.now c.args.self.right) c.args.day c.requires.begun);
      near = c.requires.near;
      short = lit≤ tt;
    })

pub returns : goal.returns
unfolding day_start tai_of
returns c =
    let a = (goal.at.returns c).After-seconds in
    read_is _ (record { sfits = c.tai_by.type_inv }) ∙ (rw (seconds_is a, day_is (goal.at.returns c).Start) at c.tai_by.ensures)
