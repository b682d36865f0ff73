-- `pieces::product::add` meets its contract: it is the sum of four pieces from the low one on, with
-- no carry. Assumes nothing.
use borrow.Author.Rules.{rules}
use mathlib.Core.List.{List, ◌++◌}
use mathlib.Core.Path.{◌≡◌, sym, ◌∙◌, ap}
use Prim.Native.Nat.{ℕ, suc, ◌+◌, ◌-◌, ◌%◌, ◌^◌, ◌<◌, ◌≤◌}
use native.Mathlib.Omega.{arith}
use Rattle.std.proofs.Common.{add-one, append_assoc, append-nil}
use Rattle.std.proofs.lemmas.List.{take_all, take_more_set, length-set}
use lib.ListN.{length, get_or, take, set}
use Rattle.pieces.specs.Pieces.{base, value}
use Rattle.pieces.proofs.Values.{Split, split, sum_from, sum_is}
use Rattle.pieces.proofs.product.add.Goals as goal

-- the piece at i put in its place
one_more : (i n m carry over s : ℕ) (ps qs sum : List ℕ) → i < length sum → n ≡ suc m
    → Split s over (get_or ps i 0 + get_or qs i 0 + carry)
    → take i sum ++ sum_from n i carry ps qs ≡ take (i + 1) (set sum i s) ++ sum_from m (i + 1) over ps qs
unfolding sum_from
one_more i n m carry over s ps qs sum h e k =
    rw (e, take_more_set sum i s h, append_assoc, k.low, k.high, add-one)

all : (i carry : ℕ) (ps qs sum : List ℕ) → i ≡ 4 → length sum ≡ 4
    → sum_from 4 0 0 ps qs ≡ take i sum ++ sum_from (4 - i) i carry ps qs
    → value sum ≡ (value ps + value qs) % base ^ 4
unfolding sum_from
all i carry ps qs sum e many done =
    let whole : sum_from 4 0 0 ps qs ≡ sum = let h : length sum ≤ 4 = omega arith in rw (e, take_all, append-nil) at done in
    sym (ap value whole) ∙ sum_is 4 0 0 ps qs ∙ ap (λ (n : ℕ). n % base ^ 4) (omega arith)

pub loop-i-preserved : goal.loop-i-preserved
loop-i-preserved c = record {
  many = length-set _ _ _ ∙ c.loop-i.invariant.many;
  done =
      c.loop-i.invariant.done
      ∙ one_more _ _ _ _ _ _ _ _ _ (omega (arith, c.loop-i.invariant.many)) (omega arith)
      (split _ _ _ (search rules) c.carrying_add.ensures);
}

pub returns : goal.returns
returns c = all _ _ _ _ _ (omega arith) c.loop-i.invariant.many c.loop-i.invariant.done
