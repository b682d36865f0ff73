use mathlib.Core.Path.{◌≡◌, sym, ◌∙◌, subst}
use mathlib.Core.List.{List}
use Prim.Native.Nat.{ℕ, zero, suc, ◌+◌, ◌-◌, ◌/◌, ◌^◌, ◌≤◌, ◌<◌}
use native.Mathlib.Omega.{arith}
use lib.IntN.{ℤ}
use lib.Signed.{◌≤ℤ◌, ◌<ℤ◌}
use Rattle.numbers.proofs.Machine.{read, read_is, le_yes}
use Rattle.utc.specs.Leaps.{entries, first_day}
use Rattle.utc.proofs.Fitting.{le_no}
use Rattle.utc.proofs.Rules.{Right, before_later, right}
use Rattle.utc.proofs.Standing.{at_entry}
use Rattle.utc.proofs.judged.Judged.entry_on.Invariants.{Halved}
use Rattle.utc.proofs.judged.Judged.entry_on.Goals as goal
use Rattle.utc.proofs.judged.Judged.entry_on.Goals.{After-first_day, Start, else-first_day-day}
use Rattle.utc.proofs.judged.Judged.entry_on.Goals.{then-first_day-day}

-- ---- a turn
half_few : (n k : ℕ) → 0 < k → n ≤ 2 ^ k → n - n / 2 ≤ 2 ^ (k - 1)
half_few n zero h l = let no : ⊥ = omega arith in absurd no
half_few n (suc k) h l = let e : suc k - 1 ≡ k = omega arith in rw e (omega arith)

module _ {leaps : List ℤ} {day : ℤ} {low left turns : ℕ} (i : Halved leaps day low left turns) (more : 0 < turns) where
  later : first_day leaps (low + left / 2) ≤ℤ day → Halved leaps day (low + left / 2) (left - left / 2) (turns - 1)
  later h =
      let e : low + left / 2 + (left - left / 2) ≡ low + left = omega arith in
      record {
        some = omega (arith, i.some);
        within = omega (arith, i.within);
        few = half_few left turns more i.few;
        begun = h;
        after = rw e i.after;
      }

  earlier : Right leaps → day <ℤ first_day leaps (low + left / 2)
      → Halved leaps day low (left - left / 2) (turns - 1)
  earlier r h =
      record {
        some = omega (arith, i.some);
        within = omega (arith, i.within);
        few = half_few left turns more i.few;
        begun = i.begun;
        after = λ l. before_later r day (low + left / 2) (low + (left - left / 2)) (omega arith) l h;
      }

day_is : (c : Start) → read c.args.day ≡ c.args.day
day_is c = read_is c.args.day c.ranges.day

pub loop-turn-init : goal.loop-turn-init
loop-turn-init c =
    let r = right c.args.self.leaps.0.now c.args.self.right in
    rw (day_is (goal.at.loop-turn-init c).Start, c.len-left.ensures)
    (record {
      some = r.some;
      within = omega arith;
      few = r.few;
      begun = rw r.day c.requires;
      after = λ h. let no : ⊥ = omega arith in absurd no;
    })

pub overflow_add-low : goal.overflow_add-low
unfolding entries
overflow_add-low c = let i = c.loop-turn.invariant in omega arith

pub first_day-requires : goal.first_day-requires
first_day-requires c = let i = c.loop-turn.invariant in omega arith

middle_is : (c : After-first_day) → read c.first_day.result
    ≡ first_day c.args.self.leaps.0.now (c.loop-turn.low + c.loop-turn.left / 2)
middle_is c = read_is _ (record { sfits = c.first_day.type_inv }) ∙ c.first_day.ensures

pub overflow_add-low-then-first_day-day : goal.overflow_add-low-then-first_day-day
unfolding entries
overflow_add-low-then-first_day-day c = let i = c.loop-turn.invariant in omega arith

pub overflow_sub-left : goal.overflow_sub-left
overflow_sub-left c = omega arith

pub loop-turn-smaller : goal.loop-turn-smaller
loop-turn-smaller c = omega arith

-- a turn fewer is left
fewer : (turn : ℕ) → 6 - turn - 1 ≡ 6 - (turn + 1)
fewer turn = omega arith

pub loop-turn-preserved : goal.loop-turn-preserved
loop-turn-preserved c =
    let i = c.loop-turn.invariant in
    let middle = middle_is (goal.at.loop-turn-preserved c).After-first_day in
    rw (← fewer c.loop-turn._turn)
    (elim c.if-first_day-day.branch [
      | then-first_day-day w ↦ rw w.low-is (later i (omega arith) (le_yes _ _ (rw middle at w.if-first_day-day.true)))
      | else-first_day-day w ↦ rw w.low-is (earlier i (omega arith) (right c.args.self.leaps.0.now c.args.self.right)
          (le_no _ _ (rw middle at w.if-first_day-day.false)))
    ])

-- no turn is left, and so one entry
ended : {leaps : List ℤ} {day : ℤ} {low left : ℕ} → Halved leaps day low left 0 → suc low < entries leaps
    → day <ℤ first_day leaps (suc low)
ended {leaps} {day} {low} {left} i l =
    let e : low + left ≡ suc low = omega (arith, i.some, i.few) in
    subst (λ (n : ℕ). day <ℤ first_day leaps n) e (i.after (omega arith))

pub returns : goal.returns
returns c =
    let none : 6 - c.loop-turn._turn ≡ 0 = omega arith in
    let i = rw (day_is (goal.at.returns c).Start, none) at c.loop-turn.invariant in
    sym (at_entry (right c.args.self.leaps.0.now c.args.self.right) c.args.day c.loop-turn.low
    (record { within = omega (arith, i.some, i.within); begun = i.begun; next = ended i }))
