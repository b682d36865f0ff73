-- What a written UTC answers.
use Rattle.written.specs.Answers as written
use Rattle.written.specs.Answers.{utc_answer_number, utc_answer_place, utc_answer_day}
use Rattle.written.specs.Answers.{utc_answer_ticks, utc_answer_steps}
use Rattle.hosts.specs.declared.leaps.UtcAnswer.{UtcAnswer}

-- its number, place, day, ticks and steps as the page has them for each case
abbrev pub utc_answer : written.UtcAnswer → UtcAnswer
utc_answer answer = record {
  number = utc_answer_number answer;
  steps = utc_answer_steps answer;
  place = utc_answer_place answer;
  day = utc_answer_day answer;
  ticks = utc_answer_ticks answer;
}
