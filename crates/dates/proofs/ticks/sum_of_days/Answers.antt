-- `dates::ticks::sum_of_days` meets its contract: a far first part is its pieces, without shares
-- left. Assumes nothing.
use mathlib.Core.Path.{◌≡◌, sym, ap₂, ◌∙◌}
use Prim.Native.Nat.{◌^◌, ◌≤◌}
use native.Mathlib.Nat.{le_trans}
use native.Mathlib.Omega.{arith}
use lib.Dec.{lit≤, lit<}
use lib.Ieee.{Float, of_bits}
use lib.IntN.{ℤ, pos, nat_abs, ◌+ℤ◌, ◌*ℤ◌}
use mir.Syntax.{w64}
use mir.Val.{SFits}
use Rattle.numbers.proofs.Differences.{rep₃, lin}
use Rattle.numbers.proofs.Machine.{fits_small, read, read_is}
use Rattle.numbers.proofs.Order.{size-+}
use Rattle.dates.specs.Inner.{Factored, Readable}
use Rattle.dates.proofs.Earlier.{far_yes}
use Rattle.dates.proofs.Spans.{looser, sum_sized, worth_plus}
use Rattle.dates.proofs.Sums.{far_shares}
use Rattle.dates.proofs.Values.{readable_wider}
use Rattle.dates.proofs.ticks.sum_of_days.Goals as goal
use Rattle.dates.proofs.ticks.sum_of_days.Goals.{After-count_of-near, After-far_pieces}

-- a day is 1318359375·2^16 ticks
day : Factored 1318359375 16
day = record { some = lit< tt; small = lit≤ tt; high = lit≤ tt; low = lit≤ tt }

few : (x : Float) → Readable 5000000 x → Readable 78125000 x
few x h = readable_wider 5000000 78125000 x (lit≤ tt) h

pub count_of-near-requires : goal.count_of-near-requires
count_of-near-requires c = few c.args.second c.requires.second

pub far_pieces-requires : goal.far_pieces-requires
unfolding of_bits
far_pieces-requires c = far_yes c.args.first c.requires.first c.if-first.true

-- the pieces of both
module _ (c : After-far_pieces) where
  abbrev far : ℤ
  far = c.far_pieces.result

  abbrev near : ℤ
  near = c.count_of-near.result.units

  far_is : read far ≡ far
  far_is = read_is far (record { sfits = c.far_pieces.type_inv })

  near_is : read near ≡ near
  near_is = read_is near (fits_small near (2 ^ 59) c.count_of-near.ensures.small.units (lit< tt))

  sum_small : nat_abs (far +ℤ near) ≤ 2 ^ 60
  sum_small = size-+ far near c.far_pieces.ensures.small c.count_of-near.ensures.small.units

  sum_fits : SFits w64 (read far +ℤ read near)
  sum_fits = rw (far_is, near_is) (fits_small (far +ℤ near) (2 ^ 60) sum_small (lit< tt))

pub overflow_add-result : goal.overflow_add-result
overflow_add-result c = sum_fits (goal.at.overflow_add-result c).After-far_pieces

pub returns-then-first : goal.returns-then-first
returns-then-first c =
    let rest = c.count_of-near.result.rest in
    let fit = fits_small rest (2 ^ 53) c.count_of-near.ensures.small.rest (lit< tt) in
    rw (
      read_is (read (far (goal.at.returns-then-first c).After-far_pieces) +ℤ read (near (goal.at.returns-then-first c).After-far_pieces))
          (sum_fits (goal.at.returns-then-first c).After-far_pieces),
      far_is (goal.at.returns-then-first c).After-far_pieces,
      near_is
          (goal.at.returns-then-first c).After-far_pieces,
      read_is rest fit,
    )
    (record {
      is =
          out (far (goal.at.returns-then-first c).After-far_pieces) (near (goal.at.returns-then-first c).After-far_pieces) rest
          ∙ ap₂ (λ (x y : ℤ). x +ℤ y) (sym (far_shares c.args.first (far (goal.at.returns-then-first c).After-far_pieces) c.far_pieces.ensures))
          c.count_of-near.ensures.is;
      small = record { units = sum_small (goal.at.returns-then-first c).After-far_pieces; rest = le_trans c.count_of-near.ensures.small.rest (lit≤ tt) };
    })
  where
    out : (u v r : ℤ) → pos 1318359375 *ℤ (u +ℤ v) +ℤ r ≡ pos 1318359375 *ℤ u +ℤ (pos 1318359375 *ℤ v +ℤ r)
    out = rep₃ _ (λ a b c d e f. simp lin (omega arith))

pub count_of-requires : goal.count_of-requires
count_of-requires c = few c.args.first c.requires.first

pub plus-requires : goal.plus-requires
plus-requires c =
    record {
      one = looser c.count_of.result (lit≤ tt) (lit≤ tt) c.count_of.ensures.small;
      other = looser c.count_of-near.result (lit≤ tt) (lit≤ tt) c.count_of-near.ensures.small;
    }

pub returns : goal.returns
returns c =
    let x = c.count_of in
    let y = c.count_of-near in
    record {
      is = worth_plus 1318359375 x.result y.result c.plus.result c.plus.ensures ∙ ap₂ (λ (u v : ℤ). u +ℤ v) x.ensures.is y.ensures.is;
      small = sum_sized x.result y.result c.plus.result x.ensures.small y.ensures.small c.plus.ensures;
    }
