-- P1 to P13 of 'Known values', in one statement, computed over the definitions that the contracts
-- cite. Assumes nothing.
use Rattle.std.specs.Prelude.{Ok}
use mathlib.Core.Path.{◌≡◌, refl, sym, ◌∙◌, ap}
use mathlib.Core.List.{[], ◌∷◌}
use Prim.Native.Nat.{ℕ}
use native.Mathlib.Omega.{arith}
use lib.IntN.{ℤ, pos, negsuc, ◌+ℤ◌, ◌-ℤ◌, ◌*ℤ◌}
use Rattle.numbers.specs.Lowest.{lowest}
use Rattle.numbers.specs.Rounding.{floor_div, nearest}
use Rattle.numbers.proofs.Differences.{rep, lin}
use Rattle.scales.specs.declared.scale.Scale.TheVariants.{Tt, Tdb}
use Rattle.scales.specs.Answers.{kept_in, read_number, read_tick}
use Rattle.scales.specs.Linear.{exact, nearest_tick}
use Rattle.scales.specs.Rows.{line_step}
use Rattle.scales.specs.Tick.{is_valid}
use Rattle.granule.specs.Rule.{units_in_tick, scale, p_of, u_of, b_from, b_at, v_of, delay_of}
use Rattle.granule.specs.Rule.{value_at, delay_at}
use Rattle.granule.specs.Tests.{is_small, weight_from, weight_of, is_light}
use Rattle.image.specs.Bounds.{is_bounded}
use Rattle.blocks.specs.Judging.{judged, write_judged, read_into}
use Rattle.image.specs.Image.{granule_in}
use Rattle.granules.specs.Tests.{is_join}
use Rattle.numbers.specs.Tests.{verdict}
use Rattle.blocks.proofs.Taking.{is_new}
use Rattle.blocks.proofs.RoundTrip.{image_accepted, image_read}
use Rattle.ephemeris.specs.Accepted as table
use Rattle.ephemeris.specs.Steps.{tdb_step, tt_step}
use Rattle.ephemeris.specs.Table.{last_place, tick_at, is_inside, place_of, granule_of, place_in}
use Rattle.ephemeris.specs.Table.{table_delay, tdb_of, tdb_at, earliest_place, tt_of, is_covered}
use Rattle.ephemeris.proofs.Search.{earliest_is}
use Rattle.dates.specs.Doubles.{numerator, denominator, beyond}
use Rattle.dates.specs.Readings.{in_range, read_of, read_of_parts}
use Rattle.dates.specs.Ticks as ticks
use Rattle.desk.specs.Order.{settled}
use Rattle.opened.specs.Opened.{coefficients_in}
use Rattle.desk.specs.Conversion.{between_of, convert_read, convert_into, held_by}
use Rattle.walk.specs.Walk.{walk_of}
use Rattle.promises.specs.Known.{known_table, known_coefficients, known_bytes, AllHold, rows}
use Rattle.promises.proofs.Exactly.{gives}
use Rattle.promises.proofs.Walks.{bytes_held}

-- ---- 'n=0': D is c_0 rounded to ticks, at every place
nothing : (u : ℤ) → u *ℤ pos 0 ≡ pos 0
nothing = rep _ (λ a b. simp lin (omega arith))

alone : (c : ℤ) → c +ℤ pos 0 -ℤ pos 0 ≡ c
alone = rep _ (λ a b. simp lin (omega arith))

constant : (c : ℤ) (place H : ℕ) → delay_at (c ∷ []) place H ≡ nearest c units_in_tick
unfolding delay_at delay_of value_at v_of b_at b_from nearest floor_div
constant c place H =
    ap (λ (z : ℤ). nearest (c +ℤ nearest z scale -ℤ pos 0) units_in_tick) (nothing (u_of (p_of place H) H)) ∙ ap (λ (z : ℤ). nearest z units_in_tick) (alone c)

-- ---- the table of P10 and P11: writing accepts it, so its bytes are accepted, and hold it
written : write_judged known_table known_coefficients 1024 ≡ Ok known_table
unfolding known_table known_coefficients write_judged verdict is_bounded is_valid granule_in is_small is_light weight_of weight_from is_join lowest
written = refl

pub known_judged : judged known_bytes ≡ Ok known_table
unfolding known_bytes
known_judged = image_accepted known_table known_table known_coefficients 1024 written

pub known_held : coefficients_in known_bytes ≡ known_coefficients
unfolding known_bytes coefficients_in read_into
known_held =
    let r = image_read known_table known_table known_coefficients 1024 written known_coefficients refl in
    sym (is_new _ known_table _ _ r.0) ∙ r.1

-- TDB at the first tick, at the last and at the one before it
ends : (tdb_at known_table known_coefficients 0 ≡ pos 1)
    × (tdb_at known_table known_coefficients 999999999 ≡ pos 999999998)
    × (tdb_at known_table known_coefficients 1000000000 ≡ pos 999999999)
unfolding known_table known_coefficients tdb_at tdb_of tick_at place_of table_delay granule_in granule_of place_in delay_at delay_of value_at v_of b_at b_from
    u_of p_of nearest
    floor_div
ends = (refl, refl, refl)

-- the way back is not searched through: the tick is reached, and the one before is not
last_place_lem : last_place known_table ≡ 1000000000
unfolding last_place known_table
last_place_lem = refl

accepted : table.Accepted known_table known_coefficients
accepted = rw known_held at ((bytes_held known_bytes).accepted known_table (ap held_by known_judged))

first_earliest : earliest_place known_table known_coefficients (pos 1) ≡ 0
first_earliest =
    earliest_is known_table known_coefficients (pos 1) accepted 0 (omega arith) (λ l. rw ends.0 (record { le = tt }))
    (λ j e. let never : ⊥ = omega arith in absurd never)

last_earliest : earliest_place known_table known_coefficients (pos 999999999) ≡ 1000000000
last_earliest =
    earliest_is known_table known_coefficients (pos 999999999) accepted 1000000000 (omega (arith, last_place_lem)) (λ l. rw ends.2 (record { le = tt }))
    (λ j e. let f : j ≡ 999999999 = omega arith in rw (f, ends.1) (record { lt = tt }))

-- the step over that table, there and back, from its first tick and from its last
pub record Over : Type 0 where
  pub first : tdb_step known_table known_coefficients (pos 0) ≡ Ok (record { scale = Tdb; tick = pos 1 })
  pub last : tdb_step known_table known_coefficients (pos 1000000000)
      ≡ Ok (record { scale = Tdb; tick = pos 999999999 })
  pub first_back : tt_step known_table known_coefficients (pos 1) ≡ Ok (record { scale = Tt; tick = pos 0 })
  pub last_back : tt_step known_table known_coefficients (pos 999999999)
      ≡ Ok (record { scale = Tt; tick = pos 1000000000 })

pub over_known : Over
unfolding tdb_step kept_in is_inside is_valid tdb_at tt_step is_covered tt_of known_table tick_at last_place
over_known = record {
  first = rw ends.0;
  last = rw ends.2;
  first_back = rw (ends.0, ends.2, first_earliest);
  last_back = rw (ends.0, ends.2, last_earliest);
}

-- ---- P1 to P13, each row
infixr 4 ◌and◌
◌and◌ : {A B : Type 0} → A → B → A × B
a and b = (a, b)

pub known : AllHold rows
unfolding convert_into convert_read settled between_of read_of read_of_parts in_range walk_of line_step kept_in is_valid nearest_tick exact nearest floor_div
    ticks.tick_of_date ticks.tick_of_sum ticks.sum_numerator ticks.sum_denominator numerator denominator beyond read_number read_tick
known =
    -- P1 to P6
    gives _ _ _ _ refl and gives _ _ _ _ refl and gives _ _ _ _ refl and gives _ _ _ _ refl and gives _ _ _ _ refl
    and gives _ _ _ _ refl and gives _ _ _ _ refl and gives _ _ _ _ refl and gives _ _ _ _ refl
    -- P7 to P9
    and constant (pos 32767) and constant (pos 32768) and constant (negsuc 32767)
    -- P10 and P11
    and gives _ _ _ _ (rw (known_judged, known_held, over_known.first))
    and gives _ _ _ _ (rw (known_judged, known_held, over_known.first_back))
    and gives _ _ _ _ (rw (known_judged, known_held, over_known.last))
    and gives _ _ _ _ (rw (known_judged, known_held, over_known.last_back))
    -- P12 and P13
    and (refl, refl) and (refl, refl) and tt
