-- `utc::entries::Leaps::is_next_right` meets its contract. Assumes nothing.
use mathlib.Core.Path.{◌≡◌, ◌∙◌}
use Prim.Native.Nat.{suc}
use native.Mathlib.Numerals.{add-one}
use Rattle.numbers.proofs.Machine.{read, read_is}
use Rattle.utc.specs.Leaps.{first_day, seconds, is_next_right}
use Rattle.utc.proofs.entries.Leaps.is_next_right.Goals as goal
use Rattle.utc.proofs.entries.Leaps.is_next_right.Goals.{After-change_by_one}

-- what was read of each
module _ (c : After-change_by_one) where
  day : read c.first_day.result ≡ first_day c.args.self.0.now c.args.entry
  day = read_is _ (record { sfits = c.first_day.type_inv }) ∙ c.first_day.ensures

  next_day : read c.first_day-2.result ≡ first_day c.args.self.0.now (suc c.args.entry)
  next_day = rw add-one at (read_is _ (record { sfits = c.first_day-2.type_inv }) ∙ c.first_day-2.ensures)

  here : read c.seconds.result ≡ seconds c.args.self.0.now c.args.entry
  here = read_is _ (record { sfits = c.seconds.type_inv }) ∙ c.seconds.ensures

  next : read c.seconds-then-first_day.result ≡ seconds c.args.self.0.now (suc c.args.entry)
  next = rw add-one at (read_is _ (record { sfits = c.seconds-then-first_day.type_inv }) ∙ c.seconds-then-first_day.ensures)

pub change_by_one-requires : goal.change_by_one-requires
change_by_one-requires c = rw (read_is _ (record { sfits = c.seconds.type_inv }), c.seconds.ensures) c.requires.near

pub returns-then-first_day : goal.returns-then-first_day
unfolding is_next_right
returns-then-first_day c =
    let yes = rw (day c, next_day c) at c.if-first_day.true in
    rw yes (rw (here c, next c) at c.change_by_one.ensures)
