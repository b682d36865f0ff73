-- What each case of an answer says in the page's numbers: 0 for 'accepted', and 0 for whatever a
-- refusal does not carry ('A refusal carries no tick').
use Rattle.std.specs.Prelude.{◌≡◌, cond, ℕ, ℤ, pos, Result, Ok, Err}
use Rattle.scales.specs.declared.answer.Converted.{Converted}
use Rattle.scales.specs.declared.answer.Epoch.{Epoch}
use Rattle.scales.specs.declared.answer.Outside.{Outside}
use Rattle.scales.specs.declared.refusal.Refusal.{Refusal}
use Rattle.scales.specs.declared.scale.Scale.{Scale}
use Rattle.scales.specs.Scales.{named}
use Rattle.scales.specs.Tick.{is_valid}

-- what a reading is read as, what a conversion answers, where a step comes to
abbrev pub Read : Type 0
Read = Result ℤ Refusal

abbrev pub Answer : Type 0
Answer = Result Converted Refusal

abbrev pub Stepped : Type 0
Stepped = Result Epoch Outside

-- a conversion that is not refused, by its epoch and the steps walked
abbrev pub converted_to : Epoch → ℕ → Answer
converted_to epoch steps = Ok (record { epoch = epoch; steps = steps })

-- ---- a reading's answer
unfoldable pub read_number : Read → ℕ
read_number (Ok tick) = 0
read_number (Err refusal) = refusal.number

unfoldable pub read_place : Read → ℕ
read_place (Ok tick) = 0
read_place (Err refusal) = refusal.place

unfoldable pub read_tick : Read → ℤ
read_tick (Ok tick) = tick
read_tick (Err refusal) = pos 0

-- an answer that accepts, with its tick, and one that refuses, with its number and place
abbrev pub Accepts : Read → ℤ → Type 0
Accepts answer tick = (read_number answer ≡ 0) × (read_tick answer ≡ tick)

abbrev pub Refuses : Read → ℕ → ℕ → Type 0
Refuses answer number place = (read_number answer ≡ number) × (read_place answer ≡ place)

-- ---- a conversion's answer
unfoldable pub answer_number : Answer → ℕ
answer_number (Ok converted) = 0
answer_number (Err refusal) = refusal.number

unfoldable pub answer_place : Answer → ℕ
answer_place (Ok converted) = 0
answer_place (Err refusal) = refusal.place

unfoldable pub answer_tick : Answer → ℤ
answer_tick (Ok converted) = converted.epoch.tick
answer_tick (Err refusal) = pos 0

unfoldable pub answer_steps : Answer → ℕ
answer_steps (Ok converted) = converted.steps
answer_steps (Err refusal) = 0

-- the scale, that of code 0 where a refusal carries none
unfoldable pub answer_scale : Answer → Scale
answer_scale (Ok converted) = converted.epoch.scale
answer_scale (Err refusal) = named 0

-- ---- a code's answer
unfoldable pub named_number : Result Scale Refusal → ℕ
named_number (Ok scale) = 0
named_number (Err refusal) = refusal.number

unfoldable pub named_place : Result Scale Refusal → ℕ
named_place (Ok scale) = 0
named_place (Err refusal) = refusal.place

unfoldable pub named_scale : Result Scale Refusal → Scale
named_scale (Ok scale) = scale
named_scale (Err refusal) = named 0

-- ---- where a step comes to
-- an epoch of the scale, where its tick is in the range
unfoldable pub kept_in : Scale → ℤ → Stepped
kept_in scale tick =
    cond (is_valid tick) (Ok (record { scale = scale; tick = tick })) (Err Outside.Range)

-- '6: outside the table', '4: epoch outside the range', 0 where an epoch is reached. The place,
-- 'steps done', is known to the walk alone
unfoldable pub stepped_number : Stepped → ℕ
stepped_number (Ok epoch) = 0
stepped_number (Err Outside.Table) = 6
stepped_number (Err Outside.Range) = 4

unfoldable pub stepped_tick : Stepped → ℤ
stepped_tick (Ok epoch) = epoch.tick
stepped_tick (Err outside) = pos 0

unfoldable pub stepped_scale : Stepped → Scale
stepped_scale (Ok epoch) = epoch.scale
stepped_scale (Err outside) = named 0
