-- The granule rule of 01, for one granule: its coefficients c_0, .., c_n are a list, c_0 first, and
-- it is H ticks long. A tick stands in it at the place t − start, from 0 to H.
use Rattle.std.specs.Prelude.{List, [], ◌∷◌, ℕ, suc, ◌^◌, ℤ, pos, ◌+ℤ◌, ◌-ℤ◌, ◌*ℤ◌, length, get_or}
use Rattle.std.specs.Prelude.{drop}
use Rattle.numbers.specs.Rounding.{nearest}
use Rattle.numbers.specs.Chebyshev.{E}

-- 'Coefficients c_0..c_n are signed, in units of 1/65536 tick.'
abbrev pub units_in_tick : ℕ
units_in_tick = 65536

-- what s is multiplied by in fixed point
abbrev pub scale : ℕ
scale = 2 ^ 30

-- ---- 'Exact'
-- 'p = 2(t − start) − H'
unfoldable pub p_of : ℕ → ℕ → ℤ
p_of place H = pos 2 *ℤ pos place -ℤ pos H

-- the terms c_k·H^(n−k)·E_k from c_k on: as many coefficients follow c_k as H has factors
unfoldable pub exact_from : ℤ → ℕ → ℕ → List ℤ → ℤ
exact_from p H k [] = pos 0
exact_from p H k (c ∷ cs) = c *ℤ pos (H ^ length cs) *ℤ E p (pos H) k +ℤ exact_from p H (suc k) cs

-- 'H^n times the exact sum is Σ c_k·H^(n−k)·E_k'
unfoldable pub exact_sum : ℤ → ℕ → List ℤ → ℤ
exact_sum p H cs = exact_from p H 0 cs

-- ---- 'Fixed point, each rounding to nearest with halves to the greater'
-- 'u is 2^30·s rounded', s being p / H
unfoldable pub u_of : ℤ → ℕ → ℤ
u_of p H = nearest (pos scale *ℤ p) H

-- b_k and b_(k+1), from u and c_k, .., c_n:
-- 'With b_(n+1) = b_(n+2) = 0, for k from n down to 1: b_k = c_k + rounded(u·b_(k+1)/2^29) −
-- b_(k+2)'
unfoldable pub b_from : ℤ → List ℤ → ℤ × ℤ
b_from u [] = (pos 0, pos 0)
b_from u (c ∷ cs) =
    (c +ℤ nearest (u *ℤ (b_from u cs).0) (2 ^ 29) -ℤ (b_from u cs).1, (b_from u cs).0)

-- b_k of the coefficients c_0, .., c_n
unfoldable pub b_at : ℤ → List ℤ → ℕ → ℤ
b_at u cs k = (b_from u (drop k cs)).0

-- 'The value v = c_0 + rounded(u·b_1/2^30) − b_2', in units
unfoldable pub v_of : ℤ → List ℤ → ℤ
v_of u cs = get_or cs 0 (pos 0) +ℤ nearest (u *ℤ b_at u cs 1) scale -ℤ b_at u cs 2

-- 'D = v/65536 rounded', in ticks
unfoldable pub delay_of : ℤ → ℤ
delay_of v = nearest v units_in_tick

-- ---- all three at a place of the granule
unfoldable pub exact_at : List ℤ → ℕ → ℕ → ℤ
exact_at cs place H = exact_sum (p_of place H) H cs

unfoldable pub value_at : List ℤ → ℕ → ℕ → ℤ
value_at cs place H = v_of (u_of (p_of place H) H) cs

unfoldable pub delay_at : List ℤ → ℕ → ℕ → ℤ
delay_at cs place H = delay_of (value_at cs place H)
