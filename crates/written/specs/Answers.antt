-- What each case of an answer says in the page's numbers: 0 for 'accepted', and 0 for whatever a
-- refusal does not carry ('A refusal carries no tick').
use Rattle.utc.specs.declared.writing.Utc.{Utc}
use Rattle.written.specs.declared.Written.{Written}
use Rattle.scales.specs.declared.refusal.Refusal.{Refusal}
use Rattle.std.specs.Prelude.{Result, Ok, Err, ℕ, ℤ, pos}

-- the written reading and the steps walked, or the refusal
abbrev pub UtcAnswer : Type 0
UtcAnswer = Result Written Refusal

abbrev pub written_to : Utc → ℕ → UtcAnswer
written_to utc steps = Ok (record { utc = utc; steps = steps })

unfoldable pub utc_answer_number : UtcAnswer → ℕ
utc_answer_number (Ok written) = 0
utc_answer_number (Err refusal) = refusal.number

unfoldable pub utc_answer_place : UtcAnswer → ℕ
utc_answer_place (Ok written) = 0
utc_answer_place (Err refusal) = refusal.place

unfoldable pub utc_answer_day : UtcAnswer → ℤ
utc_answer_day (Ok written) = written.utc.day
utc_answer_day (Err refusal) = pos 0

unfoldable pub utc_answer_ticks : UtcAnswer → ℤ
utc_answer_ticks (Ok written) = written.utc.ticks
utc_answer_ticks (Err refusal) = pos 0

unfoldable pub utc_answer_steps : UtcAnswer → ℕ
utc_answer_steps (Ok written) = written.steps
utc_answer_steps (Err refusal) = 0
