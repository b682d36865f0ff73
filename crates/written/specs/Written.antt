-- A conversion into UTC: 'code 7 .. for readings and written readings only'; refusal 5 of 'a TAI
-- tick to be written, before the list's first day, .. a written one after the steps'.
use Rattle.written.specs.Answers.{UtcAnswer, written_to}
use Rattle.utc.specs.Answers.{UtcWritten}
use Rattle.scales.specs.Answers.{Answer}
use Rattle.std.specs.Prelude.{Err, Ok, List, ℕ, ℤ}
use Rattle.scales.specs.declared.scale.Purpose.TheVariants.{Utc}
use Rattle.utc.specs.Readings.{utc_written}
use Rattle.dates.specs.declared.reading.Reading.{Reading}
use Rattle.desk.specs.Conversion.{convert_into}

-- what was written of the tick that so many steps came to
abbrev pub written_after : ℕ → UtcWritten → UtcAnswer
written_after steps (Ok utc) = written_to utc steps
written_after steps (Err refusal) = Err refusal

-- a conversion's TAI tick, written over the list
abbrev pub written_by : List ℤ → Answer → UtcAnswer
written_by leaps (Ok converted) =
    written_after converted.steps (utc_written leaps converted.epoch.tick)
written_by leaps (Err refusal) = Err refusal

-- the whole rule of a conversion into UTC: two codes, a reading, a list of leap seconds, table
-- bytes
unfoldable pub write_utc_of : ℕ → ℕ → Reading → List ℤ → List ℕ → UtcAnswer
write_utc_of from to reading leaps bytes =
    written_by leaps (convert_into Utc from to reading leaps bytes)
