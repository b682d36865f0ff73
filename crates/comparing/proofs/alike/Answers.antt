-- `comparing::alike` meets its contract: two numbers are the same where they are none apart.
-- Assumes nothing.
use borrow.Author.Rules.{rules}
use borrow.Author.Tests.{eq-eqb, ne_eqb}
use mathlib.Core.Path.{◌≡◌, sym, ◌∙◌}
use Prim.Native.Nat.{◌<◌}
use native.Mathlib.Omega.{arith}
use lib.Dec.{eqb}
use lib.IntN.{ℤ}
use lib.Signed.{◌<ℤ◌}
use Rattle.std.proofs.Common.{Ordering, Less, Equal, Greater, int_eq}
use Rattle.std.specs.Ordering.{int_cmp, is_eq, MatchOrdering}
use Rattle.std.specs.Cmp.{int_ranks}
use Rattle.numbers.specs.Signs.{gap}
use Rattle.numbers.proofs.Differences.{rep₂, sizes}
use Rattle.numbers.proofs.Machine.{read_is}
use Rattle.numbers.proofs.Order.{none_gap}
use Rattle.comparing.specs.Comparing.{is_alike}
use Rattle.comparing.proofs.alike.Goals as goal

less_apart : (x y : ℤ) → x <ℤ y → 0 < gap x y
less_apart = rep₂ _ (λ a b c d. simp sizes (omega arith))

more_apart : (x y : ℤ) → y <ℤ x → 0 < gap x y
more_apart = rep₂ _ (λ a b c d. simp sizes (omega arith))

equal_is : (x y : ℤ) → int_eq x y ≡ eqb (gap x y) 0
equal_is x y = by (int_cmp x y) (int_ranks x y)
  where
    by : (r : Ordering) → MatchOrdering r (x <ℤ y) (x ≡ y) (y <ℤ x) → is_eq r ≡ eqb (gap x y) 0
    by Less h = sym (ne_eqb (gap x y) 0 (λ e. omega (arith, less_apart x y h)))
    by Equal h = sym (eq-eqb (gap x y) 0 (none_gap x y h))
    by Greater h = sym (ne_eqb (gap x y) 0 (λ e. omega (arith, more_apart x y h)))

pub returns : goal.returns
unfolding is_alike
returns c =
    let t = c.args.first in
    let u = c.args.second in
    let starts = equal_is t.start.0 u.start.0 in
    let lengths = equal_is t.length u.length in
    let long = read_is t.length (record { sfits = search rules }) in
    let short = read_is u.length (record { sfits = search rules }) in
    c.eq.ensures ∙ rw (starts, long, short, lengths)
