-- `linear::drift::Drift::up_to` meets its contract: a share of fewer ticks is no more, so that it
-- fits. Assumes nothing.
use mathlib.Core.Path.{◌≡◌, ◌∙◌, ap}
use Prim.Native.Nat.{ℕ, ◌+◌, ◌*◌, ◌/◌, ◌≤◌}
use native.Mathlib.Nat.{le_trans, mul-le-mul_right}
use native.Mathlib.Omega.{arith}
use Rattle.std.proofs.Math.Nat.{div-mul-le_self}
use Rattle.std.proofs.lemmas.Nat.{le-div}
use lib.IntN.{ℤ, pos, nat_abs, ◌+ℤ◌, ◌-ℤ◌}
use lib.Pow.{pow_pos}
use mir.Syntax.{w64}
use mir.Val.{SFits, to_z}
use mir.ValLaws.{to_z_pos}
use Rattle.numbers.proofs.Differences.{rep, lin}
use Rattle.numbers.proofs.Machine.{read, read_is, fits}
use Rattle.pieces.specs.declared.share.Row.{Row}
use Rattle.pieces.specs.Rows.{factor, unit, half_unit, share_of}
use Rattle.linear.specs.declared.drift.Drift.{Drift}
use Rattle.linear.specs.Drift.{Biased, Little, drift_at}
use Rattle.linear.proofs.Fractions.{count_small}
use Rattle.linear.proofs.drift.Drift.up_to.Goals as goal

fewer : (row : Row) (b m : ℕ) → b ≤ m → share_of row b ≤ share_of row m
unfolding share_of
fewer row b m h =
    let n = b * factor row + half_unit row in
    le-div (n / unit row) (m * factor row + half_unit row) (unit row) (pow_pos (96 + row.by))
    (omega (arith, div-mul-le_self n (unit row), mul-le-mul_right (factor row) h))

difference_size : (q : ℕ) → q ≤ 1000000000000 → (k : ℤ) → nat_abs k ≤ 1000000000000
    → nat_abs (pos q -ℤ k) ≤ 2000000000000
difference_size q h = rep _ (λ a b. simp lin (omega arith))

-- d up to t, of which q is the share of b ticks
module _
    (d : Drift) (t : ℤ) (b q : ℕ)
    (biased : Biased t d.bias)
    (little : Little d)
    (tick_fits : SFits w64 t)
    (count : pos b ≡ read t +ℤ pos d.bias)
    (is : q ≡ share_of d.row b)
  where
    counted : pos b ≡ t +ℤ pos d.bias
    counted = rw (read_is t tick_fits) at count

    few : q ≤ 1000000000000
    few = rw is (le_trans (fewer d.row b _ (count_small t b d.bias biased.near biased.not_too_much counted)) little.share_little)

    share_fits : SFits w64 (pos q)
    share_fits = fits (pos q) (omega (arith, few))

    size : nat_abs (pos q -ℤ d.known) ≤ 2000000000000
    size = difference_size q few d.known little.known_little

    both : to_z w64 q -ℤ read d.known ≡ pos q -ℤ d.known
    both = rw (to_z_pos w64 q (omega (arith, few)), read_is d.known (fits d.known (omega (arith, little.known_little))))

    difference_fits : SFits w64 (to_z w64 q -ℤ read d.known)
    difference_fits = rw both (fits (pos q -ℤ d.known) (omega (arith, size)))

    difference_is : read (to_z w64 q -ℤ read d.known) ≡ pos q -ℤ d.known
    difference_is = read_is _ difference_fits ∙ both

    drift_is : read (to_z w64 q -ℤ read d.known) ≡ drift_at d t
    drift_is = difference_is ∙ ap (λ (n : ℕ). pos n -ℤ d.known) (is ∙ ap (share_of d.row) (ap nat_abs counted))

pub overflow_cast-result : goal.overflow_cast-result
overflow_cast-result c =
    share_fits c.args.self c.args.tick _ _ c.requires.count c.requires.little c.ranges.tick c.count.ensures c.share.ensures

pub overflow_sub-result : goal.overflow_sub-result
overflow_sub-result c =
    difference_fits c.args.self c.args.tick _ _ c.requires.count c.requires.little c.ranges.tick c.count.ensures c.share.ensures

pub returns-clause-exact : goal.returns-clause-exact
returns-clause-exact c =
    drift_is c.args.self c.args.tick _ _ c.requires.count c.requires.little c.ranges.tick c.count.ensures c.share.ensures

pub returns-clause-little : goal.returns-clause-little
returns-clause-little c =
    let is = difference_is c.args.self c.args.tick _ _ c.requires.count c.requires.little c.ranges.tick c.count.ensures c.share.ensures in
    rw is (size c.args.self c.args.tick _ _ c.requires.count c.requires.little c.ranges.tick c.count.ensures c.share.ensures)
