-- The one pass over the granules: what it keeps, and what it asks.
use Rattle.granules.specs.Answers.{Tested, tested_refused}
use Rattle.std.specs.Prelude.{None, Ok, Option, Some, ◌≡◌, true, cond, ◌||◌, List, ℕ, ◌*◌, ◌+◌, ◌≤◌}
use Rattle.std.specs.Prelude.{◌<◌, ltb, eqb, ℤ, length, nat_abs}
use Rattle.numbers.specs.Tests.{rank, told}
use Rattle.granule.specs.Bounds.{most_degree}
use Rattle.granule.specs.Tests.{plain_sum, alternating_sum, is_joined}
use Rattle.words.specs.Words.{block}
use Rattle.form.specs.Form.{blocks_of, is_formed}
use Rattle.image.specs.declared.table.Table.{Table}
use Rattle.image.specs.Bounds.{Bounded}
use Rattle.granules.specs.declared.Scan.{Scan}
use Rattle.granules.specs.Tests.{own_rules, join_rank, none_rank, granule_rules}

-- the rank of granule g, whose coefficients are c and whose own rank is `own`
unfoldable pub joined_rank : ℕ → ℕ → ℤ → List ℤ → ℕ
joined_rank own g before c =
    cond (ltb own join_rank) own
    (cond (eqb g 0 || is_joined before (alternating_sum c)) none_rank join_rank)

-- the pass after granule g, which is of rank r
unfoldable pub scan_after : Scan → ℕ → ℕ → ℤ → Scan
scan_after scan g r sum =
    cond (ltb r scan.rank)
    (record { rank = r; place = g; plain = record { 0 = sum } })
    (record { rank = scan.rank; place = scan.place; plain = record { 0 = sum } })

unfoldable pub scan_next : Scan → ℕ → List ℤ → ℕ → Option Scan
scan_next scan g c H =
    cond (eqb (rank (own_rules H) c) 0) None
    (Some (scan_after scan g (joined_rank (rank (own_rules H) c) g scan.plain.0 c) (plain_sum c)))

-- what looks at a granule finds what comes after it
abbrev pub Finds : (Scan → ℕ → Option Scan → Type 0) → Table → (ℕ → List ℤ) → Type 0
Finds found t granule =
    (scan : Scan) (g : ℕ) (next : Option Scan) → g < t.count → found scan g next
    → next ≡ scan_next scan g (granule g) (nat_abs t.length)

-- what is told at its end: the numbers of the rules, whatever they are over
pub record RankTold (r place : ℕ) (answer : Tested) : Type 0 where
  pub is : (H : ℕ) (granule : ℕ → List ℤ)
      → answer ≡ told tested_refused (Ok tt) (granule_rules H granule) r place

-- ---- what it asks
-- no more coefficients than are stored for a granule
pub record Short (c : List ℤ) : Type 0 where
  pub short : length c ≤ most_degree + 1

-- a table within its bounds, and bytes that have its granules, in blocks that are formed
pub record Formed (b : List ℕ) (t : Table) : Type 0 where
  pub bounds : Bounded t
  pub long : length b ≡ blocks_of t.count * 512
  pub formed : (k : ℕ) → k < blocks_of t.count
      → is_formed t.count t.degree k (block b k) ≡ true
