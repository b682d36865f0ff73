-- What a written date answers.
use Rattle.dates.specs.Answers.{Written}
use Rattle.std.specs.Prelude.{Err, Ok}
use Rattle.std.specs.Float.{binary64}
use Rattle.std.specs.Float.Ieee.{of_bits}
use Rattle.hosts.specs.declared.date.DateAnswer.{DateAnswer}

-- 'every other field is 0': the double whose bits are all 0
abbrev pub date_answer : Written → DateAnswer
date_answer (Ok date) =
    record { number = 0; place = 0; first = date.first; second = date.second }
date_answer (Err refusal) = record {
  number = refusal.number;
  place = refusal.place;
  first = of_bits binary64 0;
  second = of_bits binary64 0;
}
