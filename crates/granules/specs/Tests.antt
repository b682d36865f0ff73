-- The tests of the coefficients, in their order. `granule g` is c_0..c_n of granule g.
use Rattle.std.specs.Prelude.{Bool, true, List, [], ◌∷◌, ◌++◌, ℕ, zero, suc, ◌+◌, ℤ, nat_abs}
use Rattle.std.specs.Prelude.{length}
use Rattle.numbers.specs.Tests.{Test, Rule, rule, along, over}
use Rattle.granule.specs.Tests.{is_small, weight_of, is_light, plain_sum, alternating_sum}
use Rattle.granule.specs.Tests.{is_joined}
use Rattle.image.specs.declared.table.Table.{Table}

-- of a granule by itself: 14 'a coefficient beyond 2^40 either way', 15 'weight above 2^40 or above
-- H'
abbrev pub own_rules : ℕ → List (Rule (List ℤ))
own_rules H = rule 14 is_small ∷ rule 15 (λ c. is_light (weight_of c) H) ∷ []

-- 16: 'at a join, plain sum of c_k and alternating sum of the next granule differ by over 1024
-- units', place 'the later granule'
unfoldable pub is_join : (ℕ → List ℤ) → ℕ → Bool
is_join granule zero = true
is_join granule (suc g) = is_joined (plain_sum (granule g)) (alternating_sum (granule (suc g)))

-- the rank of 16, after those of a granule by itself, and of a granule that fails none
abbrev pub join_rank : ℕ
join_rank = length (own_rules 0)

abbrev pub none_rank : ℕ
none_rank = join_rank + 1

abbrev pub granule_rules : ℕ → (ℕ → List ℤ) → List (Rule ℕ)
granule_rules H granule = along granule (own_rules H) ++ rule 16 (is_join granule) ∷ []

-- each over all granules; H is positive, by 13
abbrev pub granule_tests : Table → (ℕ → List ℤ) → List Test
granule_tests t granule = over t.count (granule_rules (nat_abs t.length) granule)
