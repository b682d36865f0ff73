-- Why a rounded product is a rounded quotient: b·L / D, with h for a half of D, is b·M / 2·T, with
-- T for a half, where M is L·2·T / D rounded down and leaves e.
--
-- D·(b·M + T) is T·(2·b·L + D) − b·e. With q = (b·L + h) / D and gap = D − 2·h it is at least
-- T·(2·D·q + gap) − b·e, hence no less than D·2·T·q, if the errors are so small. It is at most
-- T·(2·D·(q + 1) + gap − 2) − b·e, hence less than D·2·T·(q + 1) if gap is 1, which an odd D
-- leaves, and also if b·e is not 0; and b = 0 is no half. Assumes nothing.
use mathlib.Core.Path.{◌≡◌, ap}
use Prim.Native.Nat.{ℕ, zero, suc, ◌+◌, ◌*◌, ◌/◌, ◌<◌, ◌≤◌}
use native.Mathlib.Nat.{div-add-mod', mod-lt, mul_comm, mul-pos, mul-le-mul_left, le_of_mul-le-mul_left, lt_of_mul-lt-mul_left, div-eq_of_lt-le}
use native.Mathlib.Decide.{dec_le}
use native.Mathlib.Omega.{arith}

module _
    (L D h M T e gap : ℕ)
    (pT : 0 < T)
    (low : M * D + e ≡ L * (2 * T))
    (halves : 2 * h + gap ≡ D)
    (two : gap ≤ 2)
    (fall : gap ≤ 1 + e)
  where
    under : (b q : ℕ) → 2 * (b * e) ≤ gap * (2 * T) → D * q ≤ b * L + h → D * (2 * T * q) ≤ D * (b * M + T)
    under b q u k = omega (arith, ap (λ (n : ℕ). b * n) low, ap (λ (n : ℕ). T * n) halves, mul-le-mul_left T k)

    no_halves : (b q : ℕ) → gap ≤ 1 → b * L + h < D * q + D → D * (b * M + T) < D * (2 * T * q + 2 * T)
    no_halves b q one k = omega (arith, ap (λ (n : ℕ). b * n) low, ap (λ (n : ℕ). T * n) halves, mul-le-mul_left T k, mul-le-mul_left T one)

    lesser : (b q : ℕ) → 0 < D → 0 < e → b * L + h < D * q + D → D * (b * M + T) < D * (2 * T * q + 2 * T)
    lesser zero q p pe k = omega (arith, mul-pos p pT)
    lesser (suc b) q p pe k =
        let pb : 0 < suc b * e = mul-pos (omega arith) pe in
        omega (arith, ap (λ (n : ℕ). suc b * n) low, ap (λ (n : ℕ). T * n) halves, mul-le-mul_left T k, mul-le-mul_left T two)

    above : (b q : ℕ) → 0 < D → b * L + h < D * q + D → D * (b * M + T) < D * (2 * T * q + 2 * T)
    above b q p k = elim (dec_le gap 1) [ yes one ↦ no_halves b q one k | no more ↦ lesser b q p (omega arith) k ]

    pub exact : (b : ℕ) → 0 < D → 2 * (b * e) ≤ gap * (2 * T) → (b * M + T) / (2 * T) ≡ (b * L + h) / D
    exact b p u =
        let q = (b * L + h) / D in
        let i : D * q ≤ b * L + h = omega (arith, div-add-mod' (b * L + h) D, mul_comm D q) in
        let o : b * L + h < D * q + D = omega (arith, div-add-mod' (b * L + h) D, mod-lt (b * L + h) p, mul_comm D q) in
        let l : 2 * T * q ≤ b * M + T = le_of_mul-le-mul_left {k = D} (under b q u i) p in
        let r : b * M + T < 2 * T * q + 2 * T = lt_of_mul-lt-mul_left D (above b q p o) in
        div-eq_of_lt-le (2 * T) (omega (arith, mul_comm q (2 * T))) (omega (arith, mul_comm q (2 * T)))
