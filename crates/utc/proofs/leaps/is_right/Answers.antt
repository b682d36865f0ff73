-- `utc::leaps::is_right` meets its contract: each test is one of the rule's. Assumes nothing.
use borrow.Author.Count.{below_more, below_none}
use borrow.Author.Tests.{eqb-true, lt-leb}
use mathlib.Core.Path.{◌≡◌, refl, sym, ◌∙◌}
use mathlib.Core.Bool.{Bool, true, false, ◌&&◌}
use mathlib.Core.List.{List}
use Prim.Native.Nat.{ℕ, suc, ◌+◌, ◌-◌, ◌≤◌, ◌<◌}
use native.Mathlib.Numerals.{add-one}
use native.Mathlib.Omega.{arith}
use lib.Dec.{eqb, leb}
use lib.IntN.{ℤ, pos, nat_abs}
use lib.Signed.{lt_z}
use Rattle.numbers.specs.Signs.{gap}
use Rattle.numbers.proofs.Differences.{rep, rep₂, sizes}
use Rattle.numbers.proofs.Flags.{and_right, both}
use Rattle.numbers.proofs.Places.{every_not}
use Rattle.utc.specs.Asked.{Followed}
use Rattle.utc.specs.Leaps.{entries, first_day, seconds, is_start_right, is_count_right}
use Rattle.utc.specs.Leaps.{is_next_right, is_list_right, most_entries}
use Rattle.utc.proofs.Rules.{all_right, starts}
use Rattle.utc.proofs.leaps.is_right.Invariants.{Judged}
use Rattle.utc.proofs.leaps.is_right.Goals as goal
use Rattle.utc.proofs.leaps.is_right.Goals.{
  then-count-eq0-via-then-count-eq0,
  then-count-eq0-via-else-count-eq0+then-count-gt-MOST_ENTRIES,
  then-count-eq0-via-else-count-eq0+else-count-gt-MOST_ENTRIES+then-not-is_start_right,
}

-- what each test says of the whole
module _ (leaps : List ℤ) where
  none : entries leaps ≡ 0 → false ≡ is_list_right leaps
  unfolding is_list_right is_count_right
  none h = let e : leb 1 (entries leaps) ≡ false = lt-leb 1 (entries leaps) (omega arith) in rw e

  many : most_entries < entries leaps → false ≡ is_list_right leaps
  unfolding is_list_right is_count_right
  many h =
      let no : leb (entries leaps) most_entries ≡ false = lt-leb (entries leaps) most_entries h in
      let counted : leb 1 (entries leaps) && leb (entries leaps) most_entries ≡ false = and_right (leb 1 (entries leaps)) no in
      rw counted

  not_begun : is_start_right leaps ≡ false → false ≡ is_list_right leaps
  unfolding is_list_right
  not_begun e = let no : is_count_right leaps && is_start_right leaps ≡ false = and_right (is_count_right leaps) e in rw no

  not_followed : (k : ℕ) → k < entries leaps - 1 → is_next_right leaps k ≡ false → false ≡ is_list_right leaps
  unfolding is_list_right
  not_followed k h e =
      sym (and_right (is_count_right leaps && is_start_right leaps) (every_not (is_next_right leaps) (entries leaps - 1) k h e))

pub returns-then-count-eq0 : goal.returns-then-count-eq0
returns-then-count-eq0 c =
    let leaps = c.args.leaps.now in
    elim c.then-count-eq0.branch [
      | then-count-eq0-via-then-count-eq0 w ↦ none leaps (sym c.len-count.ensures ∙ w.if-count-eq0.true)
      | then-count-eq0-via-else-count-eq0+then-count-gt-MOST_ENTRIES w ↦
          let more = w.if-count-gt-MOST_ENTRIES.true in
          many leaps (omega (arith, more, c.len-count.ensures))
      | then-count-eq0-via-else-count-eq0+else-count-gt-MOST_ENTRIES+then-not-is_start_right w ↦
          not_begun leaps (sym w.is_start_right.ensures ∙ w.if-not-is_start_right.true)
    ]

few_are : (leaps : List ℤ) (n : ℕ) → n ≡ entries leaps → n ≤ 64 → entries leaps ≤ most_entries
few_are leaps n e h = omega (arith, e)

-- the seconds of the next entry
further : (m : ℕ) (x y : ℤ) → nat_abs x ≤ m → gap x y ≡ 1 → nat_abs y ≤ m + 1
further m = rep₂ _ (λ a b c d. simp sizes (omega arith))

-- the first entry
begins : (x : ℤ) → x ≡ pos 10 → nat_abs x ≤ 10
begins = rep _ (λ a b. simp sizes (omega arith))

-- from an entry that was come to
module _ {leaps : List ℤ} {n : ℕ} (f : Judged leaps n) where
  no_next : n + 1 < entries leaps → is_next_right leaps n ≡ false → false ≡ is_list_right leaps
  no_next h e = not_followed leaps n (omega arith) e

  followed_next : n + 1 < entries leaps → is_next_right leaps n ≡ true → Judged leaps (n + 1)
  unfolding is_next_right
  followed_next h e =
      let changes = (both (lt_z (first_day leaps n) (first_day leaps (suc n))) (eqb (gap (seconds leaps n) (seconds leaps (suc n))) 1) e).1 in
      let near = further (10 + n) (seconds leaps n) (seconds leaps (suc n)) f.near (eqb-true _ 1 changes) in
      rw add-one
      (record { within = omega arith; near = omega (arith, near); each = λ k l. below_more (λ k. is_next_right leaps k ≡ true) n f.each e k (omega arith) })

  module _ (few : entries leaps ≤ most_entries) (start : is_start_right leaps ≡ true) where
    -- there is no other
    last : entries leaps ≤ n + 1 → is_list_right leaps ≡ true
    last h = all_right leaps (omega (arith, f.within)) few start (λ k l. f.each k (omega arith))

    -- or one
    last_but_one : n + 1 < entries leaps → entries leaps ≤ n + 2 → is_next_right leaps n ≡ is_list_right leaps
    last_but_one h l = by (is_next_right leaps n) refl
      where
        by : (t : Bool) → is_next_right leaps n ≡ t → t ≡ is_list_right leaps
        by true e =
            sym (all_right leaps (omega arith) few start
            (λ k i. below_more (λ k. is_next_right leaps k ≡ true) n f.each e k (omega arith)))
        by false e = no_next h e

pub loop-entry-init : goal.loop-entry-init
loop-entry-init c =
    let s = starts c.args.leaps.now (sym c.is_start_right.ensures ∙ c.if-not-is_start_right.false) in
    record { within = omega (arith, c.len-count.ensures); near = begins _ s.1; each = below_none _ }

asked : {leaps : List ℤ} {n : ℕ} (m : ℕ) → Judged leaps n → m ≡ entries leaps → m ≤ 64 → n + 1 < m → Followed leaps n
asked m j e l h = record { next = omega (arith, e); near = omega (arith, j.near, e) }

pub overflow_add-entry : goal.overflow_add-entry
unfolding entries
overflow_add-entry c = omega (arith, c.loop-entry.invariant.within)

-- in a turn there are two more
more : (n k : ℕ) {m : ℕ} → m ≡ k → n + 2 < m → n + 2 < k
more n k e h = omega (arith, e)

pub is_next_right-requires : goal.is_next_right-requires
is_next_right-requires c = asked _ c.loop-entry.invariant c.len-count.ensures (omega arith) (omega arith)

pub returns-then-not-is_next_right : goal.returns-then-not-is_next_right
returns-then-not-is_next_right c =
    no_next c.loop-entry.invariant (omega (arith, more _ _ c.len-count.ensures c.loop-entry-test.true))
    (sym c.is_next_right.ensures ∙ c.if-not-is_next_right.true)

pub overflow_add-entry-in-loop-entry : goal.overflow_add-entry-in-loop-entry
overflow_add-entry-in-loop-entry c = omega arith

-- the next of those two
next : {leaps : List ℤ} {n : ℕ} {t : Bool} → Judged leaps n → n + 2 < entries leaps → t ≡ is_next_right leaps n
    → t ≡ true → Judged leaps (n + 1)
next f h e y = followed_next f (omega arith) (sym e ∙ y)

pub is_next_right-requires-in-loop-entry : goal.is_next_right-requires-in-loop-entry
is_next_right-requires-in-loop-entry c =
    let m = more _ _ c.len-count.ensures c.loop-entry-test.true in
    asked _ (next c.loop-entry.invariant m c.is_next_right.ensures c.if-not-is_next_right.false) c.len-count.ensures (omega arith) (omega arith)

pub returns-then-not-is_next_right-2 : goal.returns-then-not-is_next_right-2
returns-then-not-is_next_right-2 c =
    let m = more _ _ c.len-count.ensures c.loop-entry-test.true in
    no_next (next c.loop-entry.invariant m c.is_next_right.ensures c.if-not-is_next_right.false) (omega arith)
    (sym c.is_next_right-in-loop-entry.ensures ∙ c.if-not-is_next_right-2.true)

pub overflow_add-entry-in-loop-entry-2 : goal.overflow_add-entry-in-loop-entry-2
overflow_add-entry-in-loop-entry-2 c = omega arith

pub loop-entry-smaller : goal.loop-entry-smaller
loop-entry-smaller c = omega arith

-- two on
two_on : {leaps : List ℤ} (n : ℕ) → Judged leaps (n + 1) → n + 2 < entries leaps → is_next_right leaps (n + 1) ≡ true
    → Judged leaps (n + 2)
two_on {leaps} n f h e = let a : n + 1 + 1 ≡ n + 2 = omega arith in rw a at (followed_next f (omega arith) e)

pub loop-entry-preserved : goal.loop-entry-preserved
loop-entry-preserved c =
    let m = more _ _ c.len-count.ensures c.loop-entry-test.true in
    two_on c.loop-entry.entry (next c.loop-entry.invariant m c.is_next_right.ensures c.if-not-is_next_right.false) m
    (sym c.is_next_right-in-loop-entry.ensures ∙ c.if-not-is_next_right-2.false)

pub overflow_add-entry-2 : goal.overflow_add-entry-2
unfolding entries
overflow_add-entry-2 c = omega (arith, c.loop-entry.invariant.within)

pub is_next_right-requires-then-entry-count : goal.is_next_right-requires-then-entry-count
is_next_right-requires-then-entry-count c = asked _ c.loop-entry.invariant c.len-count.ensures (omega arith) (omega arith)

pub returns-then-entry-count : goal.returns-then-entry-count
returns-then-entry-count c =
    c.is_next_right-then-entry-count.ensures
    ∙ last_but_one c.loop-entry.invariant (few_are _ _ c.len-count.ensures (omega arith)) (sym c.is_start_right.ensures ∙ c.if-not-is_start_right.false)
    (omega (arith, c.len-count.ensures)) (omega (arith, c.len-count.ensures))

pub returns : goal.returns
returns c =
    sym (last c.loop-entry.invariant (few_are _ _ c.len-count.ensures (omega arith)) (sym c.is_start_right.ensures ∙ c.if-not-is_start_right.false)
    (omega (arith, c.len-count.ensures)))
