-- The Chebyshev polynomials over whole numbers, with the denominators multiplied out: E p H k is
-- H^k·T_k(p/H), and W p H k is H^k·U_k(p/H).
use Rattle.std.specs.Prelude.{ℕ, zero, suc, ℤ, pos, ◌-ℤ◌, ◌*ℤ◌}

-- 'E_0 = 1, E_1 = p and E_(k+1) = 2p·E_k − H²·E_(k−1)'
unfoldable pub E : ℤ → ℤ → ℕ → ℤ
E p h zero = pos 1
E p h (suc zero) = p
E p h (suc (suc k)) = pos 2 *ℤ p *ℤ E p h (suc k) -ℤ h *ℤ h *ℤ E p h k

-- the second kind: the same recurrence from 1 and 2p
unfoldable pub W : ℤ → ℤ → ℕ → ℤ
W p h zero = pos 1
W p h (suc zero) = pos 2 *ℤ p
W p h (suc (suc k)) = pos 2 *ℤ p *ℤ W p h (suc k) -ℤ h *ℤ h *ℤ W p h k
