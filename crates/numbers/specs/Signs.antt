-- A number by its sign and its size, and how far two numbers are apart.
use Rattle.std.specs.Prelude.{Bool, cond, ℕ, ℤ, pos, neg_ℤ, nat_abs, ◌-ℤ◌}

-- n, or −n where `negative` is true
abbrev pub signed : Bool → ℕ → ℤ
signed negative n = cond negative (neg_ℤ (pos n)) (pos n)

-- how far two numbers are apart
abbrev pub gap : ℤ → ℤ → ℕ
gap x y = nat_abs (y -ℤ x)
