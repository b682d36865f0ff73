-- The list of leap seconds: looked at where one of the codes is read for UTC, and right there where
-- what is asked is no refusal. Assumes nothing.
use mathlib.Core.Path.{◌≡◌}
use mathlib.Core.Bool.{true, ◌&&◌}
use mathlib.Core.List.{List}
use lib.IntN.{ℤ}
use Rattle.numbers.proofs.Flags as flags
use Rattle.scales.specs.declared.scale.Purpose.{Purpose}
use Rattle.utc.specs.Leaps.{is_list_right}
use Rattle.dates.specs.Inner.{Listed}
use Rattle.desk.specs.Order.{uses_leaps, leaps_fit, leaps_right}

-- it is right where it is used, as it is for a UTC reading
pub right_used : (reads writes : Purpose) (leaps : List ℤ) → leaps_right reads writes leaps ≡ true
    → uses_leaps reads writes ≡ true → is_list_right leaps ≡ true
right_used reads writes leaps right uses = rw uses at right

pub listed : (reads writes : Purpose) (leaps : List ℤ)
    → (leaps_fit reads writes leaps && leaps_right reads writes leaps) ≡ true → Listed reads leaps
listed reads writes leaps lent = record {
  right = λ utc. right_used reads writes leaps (flags.both (leaps_fit reads writes leaps) (leaps_right reads writes leaps) lent).1 (rw utc);
}
