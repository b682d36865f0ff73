-- The lines of the steps that need no table. 'Each linear step gives the tick nearest to the exact
-- value; an exact half goes to the greater.'
use Rattle.std.specs.Prelude.{ℕ, ◌*◌, ◌-◌, ◌^◌, ℤ, pos, neg_ℤ, ◌+ℤ◌, ◌*ℤ◌}
use Rattle.numbers.specs.Rounding.{nearest}

-- a fraction and an offset: the exact value at the tick t is (times·t + plus) / over
pub record Linear : Type 0 where
  pub times : ℕ
  pub over : ℕ
  pub plus : ℤ

-- 'TAI = GPS + 19 s.'
abbrev pub gps_to_tai : Linear
gps_to_tai = record { times = 1; over = 1; plus = pos 19000000000 }

-- 'TT = TAI + 32.184 s, that is 32,184,000,000 ticks.'
abbrev pub tai_to_tt : Linear
tai_to_tt = record { times = 1; over = 1; plus = pos 32184000000 }

-- 'TT = TCG − L_G·TCG, with L_G = 6969290134 / 10^19.'
abbrev pub tcg_to_tt : Linear
tcg_to_tt = record { times = 10 ^ 19 - 6969290134; over = 10 ^ 19; plus = pos 0 }

-- 'TDB = TCB − L_B·TCB − 65,500 ticks, with L_B = 1550519768 / 10^17.'
abbrev pub tcb_to_tdb : Linear
tcb_to_tdb =
    record { times = 10 ^ 17 - 1550519768; over = 10 ^ 17; plus = neg_ℤ (pos (65500 * 10 ^ 17)) }

-- 'TCG from TT and TCB from TDB are the exact inverse fractions', and so of the others:
-- y = (times·x + plus) / over is x = (over·y − plus) / times
abbrev pub inverse : Linear → Linear
inverse s = record { times = s.over; over = s.times; plus = neg_ℤ s.plus }

-- the exact value at t, times `over`
unfoldable pub exact : Linear → ℤ → ℤ
exact s t = pos s.times *ℤ t +ℤ s.plus

-- 'the tick nearest to the exact value'
unfoldable pub nearest_tick : Linear → ℤ → ℤ
nearest_tick s t = nearest (exact s t) s.over
