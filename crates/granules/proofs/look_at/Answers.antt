-- `granules::look_at` meets its contract. Assumes nothing.
use Rattle.std.specs.Prelude.{Some}
use Prim.Native.Nat.{ℕ, ◌≤◌, ◌<◌}
use Rattle.granule.specs.Asked.{Summable}
use Rattle.granule.specs.Tests.{plain_sum}
use Rattle.granule.specs.declared.Units.{Units}
use Rattle.granules.proofs.Scanning.{own_small}
use Rattle.granules.specs.Pass.{joined_rank, scan_after, scan_next}
use Rattle.granules.specs.Tests.{own_rules}
use Rattle.granules.specs.declared.Scan.{Scan}
use Rattle.numbers.specs.Tests.{rank}
use borrow.Author.Tests.{eq-eqb, ne_eqb, lt-ltb, le-ltb}
use lib.IntN.{ℤ}
use mathlib.Core.List.{List}
use mathlib.Core.Path.{◌≡◌, sym, ◌∙◌, ap}
use Rattle.granules.proofs.look_at.Goals as goal
use Rattle.granules.proofs.look_at.Goals.{Else-own-eq0}

-- the granule has been looked at: its rank is r, its plain sum x
module _ (scan : Scan) (g H own : ℕ) (l : List ℤ) (r : ℕ) (x : Units) (e : own ≡ rank (own_rules H) l)
    (n : rank (own_rules H) l ≡ 0 → ⊥) (d : r ≡ joined_rank own g scan.plain.0 l) (p : x.0 ≡ plain_sum l) where
  ranked : r ≡ joined_rank (rank (own_rules H) l) g scan.plain.0 l
  ranked = d ∙ ap (λ (o : ℕ). joined_rank o g scan.plain.0 l) e

  lower : r < scan.rank → Some (record { rank = r; place = g; plain = x }) ≡ scan_next scan g l H
  unfolding scan_next scan_after
  lower h = rw (ne_eqb (rank (own_rules H) l) 0 n, ← ranked, lt-ltb r scan.rank h, ← p)

  still : scan.rank ≤ r
      → Some (record { rank = scan.rank; place = scan.place; plain = x }) ≡ scan_next scan g l H
  unfolding scan_next scan_after
  still h = rw (ne_eqb (rank (own_rules H) l) 0 n, ← ranked, le-ltb r scan.rank h, ← p)

own_some : (c : Else-own-eq0)
    → rank (own_rules c.args.length) c.args.coefficients.now ≡ 0 → ⊥
own_some c e = c.if-own-eq0.false (c.own_rank-own.ensures ∙ e)

summable : (c : Else-own-eq0) → Summable c.args.coefficients.now
summable c = record { few = c.requires.short; small = own_small c.args.length _ (own_some c) }

pub returns-then-own-eq0 : goal.returns-then-own-eq0
unfolding scan_next
returns-then-own-eq0 c = rw (eq-eqb _ _ (sym c.own_rank-own.ensures ∙ c.if-own-eq0.true))

pub rank_of-rank-requires : goal.rank_of-rank-requires
rank_of-rank-requires c = summable (goal.at.rank_of-rank-requires c).Else-own-eq0

pub plain-sum-requires : goal.plain-sum-requires
plain-sum-requires c = summable (goal.at.plain-sum-requires c).Else-own-eq0

pub returns-then-rank-scan : goal.returns-then-rank-scan
returns-then-rank-scan c =
    lower c.args.scan c.args.g c.args.length _ c.args.coefficients.now _ _ c.own_rank-own.ensures (own_some (goal.at.returns-then-rank-scan c).Else-own-eq0)
    c.rank_of-rank.ensures c.plain-sum.ensures
    c.if-rank-scan.true

pub returns : goal.returns
returns c =
    still c.args.scan c.args.g c.args.length _ c.args.coefficients.now _ _ c.own_rank-own.ensures (own_some (goal.at.returns c).Else-own-eq0)
    c.rank_of-rank.ensures c.plain-sum.ensures
    c.if-rank-scan.false
