-- What an accepted reading and an accepted writing have, and back, by number. Assumes nothing.
use Rattle.scales.specs.Answers.{Read, read_number, read_tick}
use Rattle.std.specs.Prelude.{Err, Ok}
use mathlib.Core.Path.{◌≡◌, refl}
use mathlib.Core.Bool.{Bool, true, false, cond}
use mathlib.Core.List.{List}
use native.Mathlib.Omega.{arith}
use lib.IntN.{ℤ, pos, ◌-ℤ◌}
use lib.Signed.{◌≤ℤ◌}
use Rattle.numbers.proofs.Machine.{le_yes}
use Rattle.scales.specs.Tick.{is_valid}
use Rattle.utc.specs.Leaps.{list_day}
use Rattle.utc.specs.Days.{is_reading, day_start, tai_of}
use Rattle.utc.specs.Readings.{utc_day, is_writable, utc_refused, utc_ticks, utc_of, utc_read}
use Rattle.utc.specs.Readings.{utc_written}
use Rattle.utc.specs.Answers.{utc_written_day, utc_written_number, utc_written_ticks}

pub record UtcReadAs (leaps : List ℤ) (day ticks : ℤ) : Type 0 where
  pub reading : is_reading leaps day ticks ≡ true
  pub valid : is_valid (tai_of leaps day ticks) ≡ true
  pub tick : read_tick (utc_read leaps day ticks) ≡ tai_of leaps day ticks

pub read_as : (leaps : List ℤ) (day ticks : ℤ) → read_number (utc_read leaps day ticks) ≡ 0 → UtcReadAs leaps day ticks
unfolding utc_read read_number read_tick
read_as leaps day ticks e = by (is_reading leaps day ticks) (is_valid (tai_of leaps day ticks)) refl refl e
  where
    answer : Bool → Bool → Read
    answer reading valid = cond reading (cond valid (Ok (tai_of leaps day ticks)) (utc_refused 4)) (utc_refused 5)

    by : (reading valid : Bool) → is_reading leaps day ticks ≡ reading → is_valid (tai_of leaps day ticks) ≡ valid
        → read_number (answer reading valid) ≡ 0 → UtcReadAs leaps day ticks
    by true true r v n = record { reading = r; valid = v; tick = rw (r, v) }
    by true false r v n = let no : ⊥ = omega arith in absurd no
    by false valid r v n = let no : ⊥ = omega arith in absurd no

pub as_read : (leaps : List ℤ) (day ticks : ℤ) → is_reading leaps day ticks ≡ true
    → is_valid (tai_of leaps day ticks) ≡ true
    → (read_number (utc_read leaps day ticks) ≡ 0) × (read_tick (utc_read leaps day ticks) ≡ tai_of leaps day ticks)
unfolding utc_read read_number read_tick
as_read leaps day ticks r v = rw (r, v) (refl, refl)

pub record UtcWrittenAs (leaps : List ℤ) (tick : ℤ) : Type 0 where
  pub begun : day_start leaps (pos list_day) ≤ℤ tick
  pub day : utc_written_day (utc_written leaps tick) ≡ utc_day leaps tick
  pub ticks : utc_written_ticks (utc_written leaps tick) ≡ tick -ℤ day_start leaps (utc_day leaps tick)

pub written_as : (leaps : List ℤ) (tick : ℤ) → utc_written_number (utc_written leaps tick) ≡ 0 → UtcWrittenAs leaps tick
unfolding utc_written is_writable utc_of utc_ticks utc_written_number utc_written_day utc_written_ticks
written_as leaps tick e = by (is_writable leaps tick) refl e
  where
    by : (writable : Bool) → is_writable leaps tick ≡ writable
        → utc_written_number
        (cond writable (Ok (utc_of leaps tick)) (Err (record { number = 5; place = 0 }))) ≡ 0
        → UtcWrittenAs leaps tick
    by true w n = record { begun = le_yes _ _ w; day = rw w; ticks = rw w }
    by false w n = let no : ⊥ = omega arith in absurd no
