-- `dates::ticks::Unit::rounded` meets its contract: every number on the way fits. Assumes nothing.
use mathlib.Core.Path.{◌≡◌, ap, ◌∙◌}
use Prim.Native.Nat.{ℕ, ◌+◌, ◌*◌, ◌^◌, ◌≤◌}
use native.Mathlib.Nat.{le_trans, mul-le-mul_right}
use native.Mathlib.Omega.{arith}
use lib.Dec.{lit≤, lit<}
use lib.IntN.{ℤ, pos, nat_abs, ◌+ℤ◌, ◌*ℤ◌}
use lib.Pow.{pow_pos, pow_mono}
use mir.Syntax.{w64}
use mir.Val.{SFits, to_z}
use mir.ValLaws.{to_z_pos}
use Rattle.numbers.specs.Rounding.{floor_div}
use Rattle.numbers.proofs.Machine.{fits_small, read, read_is, shr_floor}
use Rattle.numbers.proofs.Order.{size-*, size-+}
use Rattle.numbers.proofs.Ring.{one-*}
use Rattle.numbers.proofs.Rounding.{floor_rest, floor_small}
use Rattle.dates.specs.Inner.{left_by}
use Rattle.dates.proofs.Sums.{rounded_are}
use Rattle.dates.proofs.ticks.Unit.rounded.Goals as goal
use Rattle.dates.proofs.ticks.Unit.rounded.Goals.{After-last_digits-part, Start}

module _ (c : After-last_digits-part) where
  abbrev s : Start
  s = (goal.at.After-last_digits-part c).Start

  abbrev odd : ℕ
  odd = s.args.self.odd

  abbrev d : ℕ
  d = 2 ^ (16 + s.args.self.twos)

  abbrev pieces : ℤ
  pieces = s.args.count.units

  abbrev rest : ℤ
  rest = s.args.count.rest

  -- the numbers, and what the code makes of them
  abbrev product : ℤ
  product = pos odd *ℤ left_by d pieces

  abbrev shares : ℤ
  shares = product +ℤ rest

  abbrev product_of : ℤ
  product_of = to_z w64 odd *ℤ read c.last_digits-part.result

  abbrev shares_of : ℤ
  shares_of = read product_of +ℤ read rest

  pieces_are : read pieces ≡ pieces
  pieces_are = read_is pieces (fits_small pieces (2 ^ 60) s.requires.units (lit< tt))

  rest_is : read rest ≡ rest
  rest_is = read_is rest (fits_small rest (2 ^ 54) s.requires.rest (lit< tt))

  odd_is : to_z w64 odd ≡ pos odd
  odd_is = let h = s.args.self.factored.small in to_z_pos w64 odd (omega arith)

  part_is : read c.last_digits-part.result ≡ left_by d pieces
  part_is =
      read_is c.last_digits-part.result (record { sfits = c.last_digits-part.type_inv })
      ∙ c.last_digits-part.ensures
      ∙ ap (left_by d) (one-* (read pieces) ∙ pieces_are)

  part_small : nat_abs (left_by d pieces) ≤ 4294967296
  part_small =
      le_trans (floor_rest pieces d (pow_pos (16 + s.args.self.twos)))
      (pow_mono {i = 16 + s.args.self.twos} {j = 32} (let h = s.args.self.factored.low in omega arith))

  product_small : nat_abs product ≤ 6442450944000000000
  product_small = size-* (pos odd) (left_by d pieces) s.args.self.factored.small part_small

  shares_small : nat_abs shares ≤ 6460465342509481984
  shares_small = size-+ product rest product_small s.requires.rest

  product_is : product_of ≡ product
  product_is = rw (odd_is, part_is)

  product_fits : SFits w64 product_of
  product_fits = rw product_is (fits_small product 6442450944000000000 product_small (lit< tt))

  shares_are : shares_of ≡ shares
  shares_are = rw (read_is product_of product_fits, product_is, rest_is)

  shares_fit : SFits w64 shares_of
  shares_fit = rw shares_are (fits_small shares 6460465342509481984 shares_small (lit< tt))

  -- at most half a tick more
  module _ (k : ℕ) (l : k ≤ 32768) where
    abbrev raised : ℤ
    raised = shares +ℤ pos k

    abbrev raised_of : ℤ
    raised_of = read shares_of +ℤ pos k

    raised_small : nat_abs raised ≤ 6460465342509514752
    raised_small = size-+ shares (pos k) shares_small l

    raised_is : raised_of ≡ raised
    raised_is = rw (read_is shares_of shares_fit, shares_are)

    raised_fits : SFits w64 raised_of
    raised_fits = rw raised_is (fits_small raised 6460465342509514752 raised_small (lit< tt))

    ticks_small : nat_abs (floor_div raised 65536) ≤ 1000000000000000
    ticks_small = floor_small raised 65536 1000000000000000 (lit< tt) (le_trans raised_small (lit≤ tt))

  units_small : nat_abs (floor_div pieces d) ≤ 100000000000
  units_small =
      floor_small pieces d 100000000000 (pow_pos (16 + s.args.self.twos))
      (le_trans s.requires.units
      (le_trans (lit≤ {m = 2 ^ 60} {n = 2 ^ 25 * 100000000000} tt)
      (mul-le-mul_right 100000000000 (pow_mono {i = 25} {j = 16 + s.args.self.twos} (let h = s.args.self.factored.high in omega arith)))))

pub overflow_mul-shares : goal.overflow_mul-shares
overflow_mul-shares c = product_fits (goal.at.overflow_mul-shares c).After-last_digits-part

pub overflow_add-shares : goal.overflow_add-shares
overflow_add-shares c = shares_fit (goal.at.overflow_add-shares c).After-last_digits-part

pub overflow_add-result-2 : goal.overflow_add-result-2
overflow_add-result-2 c = raised_fits (goal.at.overflow_add-result-2 c).After-last_digits-part _ (lit≤ tt)

pub returns : goal.returns
returns c =
    let units = floor_div (pieces (goal.at.returns c).After-last_digits-part) (d (goal.at.returns c).After-last_digits-part) in
    let half : 32768 ≤ 32768 = lit≤ tt in
    let more = raised (goal.at.returns c).After-last_digits-part 32768 half in
    let ticks = floor_div more 65536 in
    let fit = fits_small units 100000000000 (units_small (goal.at.returns c).After-last_digits-part) (lit< tt) in
    let fine = fits_small ticks 1000000000000000 (ticks_small (goal.at.returns c).After-last_digits-part 32768 half) (lit< tt) in
    rw (
      pieces_are (goal.at.returns c).After-last_digits-part,
      shr_floor (pieces (goal.at.returns c).After-last_digits-part) (d (goal.at.returns c).After-last_digits-part),
      read_is units fit,
      read_is (raised_of (goal.at.returns c).After-last_digits-part 32768 half) (raised_fits (goal.at.returns c).After-last_digits-part 32768 half),
      raised_is (goal.at.returns c).After-last_digits-part 32768 half,
      shr_floor more 65536,
      read_is ticks fine,
    )
    (record {
      is = rounded_are (odd (goal.at.returns c).After-last_digits-part) (s (goal.at.returns c).After-last_digits-part).args.self.twos
          (pieces (goal.at.returns c).After-last_digits-part) (rest (goal.at.returns c).After-last_digits-part);
      small = record {
        units = units_small (goal.at.returns c).After-last_digits-part;
        rest =
            ticks_small (goal.at.returns c).After-last_digits-part 32768 half;
      };
    })
