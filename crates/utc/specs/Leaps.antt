-- 'A lent list of up to 64 pairs (first day, TAI−UTC in seconds)', lent flat: first day, seconds,
-- first day, seconds, and so on; and its rule.
use Rattle.std.specs.Prelude.{Bool, ◌&&◌, List, ℕ, suc, ◌+◌, ◌*◌, ◌-◌, ◌/◌, eqb, leb, ℤ, pos}
use Rattle.std.specs.Prelude.{length, get_or}
use Rattle.std.specs.Int.Signed.{lt_z}
use Rattle.numbers.specs.Lowest.{every}
use Rattle.numbers.specs.Signs.{gap}

-- ---- the pairs, called entries, from entry 0 on
unfoldable pub entries : List ℤ → ℕ
entries leaps = length leaps / 2

unfoldable pub first_day : List ℤ → ℕ → ℤ
first_day leaps k = get_or leaps (2 * k) (pos 0)

unfoldable pub seconds : List ℤ → ℕ → ℤ
seconds leaps k = get_or leaps (2 * k + 1) (pos 0)

-- ---- the rule
-- 'up to 64 pairs'; a list of none is not right either
abbrev pub most_entries : ℕ
most_entries = 64

unfoldable pub is_count_right : List ℤ → Bool
is_count_right leaps = leb 1 (entries leaps) && leb (entries leaps) most_entries

-- 'starts with day 41317 and 10 s'
abbrev pub list_day : ℕ
list_day = 41317

abbrev pub list_seconds : ℕ
list_seconds = 10

unfoldable pub is_start_right : List ℤ → Bool
is_start_right leaps =
    eqb (gap (first_day leaps 0) (pos list_day)) 0
    && eqb (gap (seconds leaps 0) (pos list_seconds)) 0

-- 'days rise strictly and seconds change by exactly one', from entry k to the next
unfoldable pub is_next_right : List ℤ → ℕ → Bool
is_next_right leaps k =
    lt_z (first_day leaps k) (first_day leaps (suc k))
    && eqb (gap (seconds leaps k) (seconds leaps (suc k))) 1

-- every rule; refusal '7 exactly when the list breaks a rule above'
unfoldable pub is_list_right : List ℤ → Bool
is_list_right leaps =
    is_count_right leaps && is_start_right leaps && every (is_next_right leaps) (entries leaps - 1)
