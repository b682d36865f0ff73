-- Known values, computed over the definitions: the leap second of 1972-06-30, day 41498, the first
-- day of 1977, and a second left out. Assumes nothing.
use mathlib.Core.Path.{◌≡◌, refl}
use mathlib.Core.Bool.{true, false}
use mathlib.Core.List.{List, [], ◌∷◌}
use lib.IntN.{ℤ, pos, negsuc, neg_ℤ}
use Rattle.numbers.specs.Lowest.{every}
use Rattle.scales.specs.Tick.{is_valid}
use Rattle.utc.specs.Leaps.{entries, first_day, is_start_right, is_count_right, is_next_right}
use Rattle.utc.specs.Leaps.{is_list_right, seconds}
use Rattle.utc.specs.Days.{entry_on, is_reading, last_of, length_by, length_of, seconds_on}
use Rattle.utc.specs.Days.{day_start, tai_by, tai_of}
use Rattle.utc.specs.Readings.{is_writable, utc_read, utc_written}
use Rattle.utc.proofs.ThereAndBack.{only_one}
use Rattle.scales.specs.Answers.{Refuses, Accepts, read_number, read_place, read_tick}
use Rattle.utc.specs.Answers.{WriteRefuses, WritesUtc, utc_written_number, utc_written_place}

-- 1972-01-01 with 10 s, 1972-07-01 with 11 s, and so on to 1977-01-01 with 16 s
abbrev seventies : List ℤ
seventies =
    pos 41317 ∷ pos 10 ∷ pos 41499 ∷ pos 11 ∷ pos 41683 ∷ pos 12 ∷ pos 42048 ∷ pos 13
    ∷ pos 42413 ∷ pos 14 ∷ pos 42778 ∷ pos 15 ∷ pos 43144 ∷ pos 16 ∷ []

-- a fall instead of the first rise
abbrev fallen : List ℤ
fallen = pos 41317 ∷ pos 10 ∷ pos 41499 ∷ pos 9 ∷ []

pub record KnownLists : Type 0 where
  pub right : is_list_right seventies ≡ true
  pub falls : is_list_right fallen ≡ true
  pub none : is_list_right [] ≡ false
  pub later : is_list_right (pos 41318 ∷ pos 10 ∷ []) ≡ false
  pub more : is_list_right (pos 41317 ∷ pos 11 ∷ []) ≡ false
  pub same_day : is_list_right (pos 41317 ∷ pos 10 ∷ pos 41317 ∷ pos 11 ∷ []) ≡ false
  pub same_seconds : is_list_right (pos 41317 ∷ pos 10 ∷ pos 41499 ∷ pos 10 ∷ []) ≡ false
  pub by_two : is_list_right (pos 41317 ∷ pos 10 ∷ pos 41499 ∷ pos 12 ∷ []) ≡ false

pub known_lists : KnownLists
unfolding is_list_right is_count_right is_start_right is_next_right every entries first_day seconds
known_lists = record {
  right = refl;
  falls = refl;
  none = refl;
  later = refl;
  more = refl;
  same_day = refl;
  same_seconds = refl;
  by_two = refl;
}

pub record KnownReadings : Type 0 where
  -- the last second before, the leap second's first and last tick, and the next day's first
  pub before : Accepts (utc_read seventies (pos 41498) (pos 86399000000000)) (neg_ℤ (pos 142128023184000000))
  pub leap : Accepts (utc_read seventies (pos 41498) (pos 86400000000000)) (neg_ℤ (pos 142128022184000000))
  pub leap_end : Accepts (utc_read seventies (pos 41498) (pos 86400999999999)) (neg_ℤ (pos 142128021184000001))
  pub after : Accepts (utc_read seventies (pos 41499) (pos 0)) (neg_ℤ (pos 142128021184000000))
  pub past : Refuses (utc_read seventies (pos 41498) (pos 86401000000000)) 5 0
  -- 1977-01-01, and any other day's end
  pub year1977 : Accepts (utc_read seventies (pos 43144) (pos 0)) (neg_ℤ (pos 16184000000))
  pub end : Refuses (utc_read seventies (pos 43144) (pos 86400000000000)) 5 0
  -- a second left out
  pub short : Accepts (utc_read fallen (pos 41498) (pos 86398999999999)) (neg_ℤ (pos 142128023184000001))
  pub cut : Refuses (utc_read fallen (pos 41498) (pos 86399000000000)) 5 0
  pub next : Accepts (utc_read fallen (pos 41499) (pos 0)) (neg_ℤ (pos 142128023184000000))
  -- the edges
  pub early : Refuses (utc_read seventies (pos 41316) (pos 0)) 5 0
  pub negative : Refuses (utc_read seventies (pos 41317) (negsuc 0)) 5 0
  pub far : Refuses (utc_read seventies (pos 9223372036854775807) (pos 0)) 4 0

pub known_readings : KnownReadings
unfolding utc_read is_valid is_reading length_of length_by tai_of tai_by seconds_on entry_on last_of entries first_day seconds read_number read_place read_tick
known_readings = record {
  before = (refl, refl);
  leap = (refl, refl);
  leap_end = (refl, refl);
  after = (refl, refl);
  past = (refl, refl);
  year1977 = (refl, refl);
  end = (refl, refl);
  short = (refl, refl);
  cut = (refl, refl);
  next = (refl, refl);
  early = (refl, refl);
  negative = (refl, refl);
  far = (refl, refl);
}

pub record KnownWritings : Type 0 where
  pub leap : WritesUtc (utc_written seventies (neg_ℤ (pos 142128022184000000))) (pos 41498) (pos 86400000000000)
  pub leap_end : WritesUtc (utc_written seventies (neg_ℤ (pos 142128021184000001))) (pos 41498) (pos 86400999999999)
  pub after : WritesUtc (utc_written seventies (neg_ℤ (pos 142128021184000000))) (pos 41499) (pos 0)
  pub short : WritesUtc (utc_written fallen (neg_ℤ (pos 142128023184000001))) (pos 41498) (pos 86398999999999)
  pub next : WritesUtc (utc_written fallen (neg_ℤ (pos 142128023184000000))) (pos 41499) (pos 0)
  pub first : WritesUtc (utc_written seventies (neg_ℤ (pos 157852822184000000))) (pos 41317) (pos 0)

pub known_writings : KnownWritings
unfolding is_reading length_of length_by tai_of tai_by seconds_on entry_on last_of entries first_day seconds
known_writings = record {
  leap = only_one seventies known_lists.right _ _ _ refl refl;
  leap_end = only_one seventies known_lists.right _ _ _ refl refl;
  after = only_one seventies known_lists.right _ _ _ refl refl;
  short = only_one fallen known_lists.falls _ _ _ refl refl;
  next = only_one fallen known_lists.falls _ _ _ refl refl;
  first = only_one seventies known_lists.right _ _ _ refl refl;
}

pub known_early : WriteRefuses (utc_written seventies (neg_ℤ (pos 157852822184000001))) 5 0
unfolding utc_written is_writable day_start tai_of tai_by seconds_on entry_on last_of entries first_day seconds utc_written_number utc_written_place
known_early = (refl, refl)
