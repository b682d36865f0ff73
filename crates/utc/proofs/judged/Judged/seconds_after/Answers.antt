-- `utc::judged::Judged::seconds_after` meets its contract: the entry stays where there is no next
-- one or its first day is not the day after, else the next one begins. Assumes nothing.
use mathlib.Core.Path.{◌≡◌, sym, ◌∙◌}
use mathlib.Core.Bool.{true, false}
use mathlib.Core.List.{List}
use mathlib.Core.Logic.{⊎_elim}
use Prim.Native.Nat.{ℕ, suc, ◌+◌, ◌≤◌, ◌<◌}
use native.Mathlib.Numerals.{add-one}
use native.Mathlib.Omega.{arith}
use lib.IntN.{ℤ, pos, ◌+ℤ◌, ◌-ℤ◌}
use lib.Signed.{◌≤ℤ◌, ◌<ℤ◌, le_z}
use mir.Syntax.{w64}
use mir.Val.{SFits}
use Rattle.numbers.proofs.Differences.{rep₂, lin}
use Rattle.numbers.proofs.Machine.{le_yes, read, read_is}
use Rattle.utc.specs.Leaps.{entries, first_day, seconds}
use Rattle.utc.specs.Days.{seconds_on}
use Rattle.utc.specs.Asked.{EntryOfDay}
use Rattle.utc.proofs.Fitting.{le_no, one_less_fits}
use Rattle.utc.proofs.Rules.{Right, right}
use Rattle.utc.proofs.Standing.{Stands, Turns, entry_at, next_day, seconds_at}
use Rattle.utc.proofs.judged.Judged.seconds_after.Goals as goal
use Rattle.utc.proofs.judged.Judged.seconds_after.Goals.{After-first_day, Start}
use Rattle.utc.proofs.judged.Judged.seconds_after.Goals.{
  else-next-len-via-then-next-len+else-first_day-day,
  else-next-len-via-else-next-len,
}

reached : (x day : ℤ) → x ≡ day +ℤ pos 1 → day <ℤ (x -ℤ pos 1) → ⊥
reached = rep₂ _ (λ a b c d. simp lin (omega arith))

not_reached : (x day : ℤ) → (day +ℤ pos 1) <ℤ x → (x -ℤ pos 1) ≤ℤ day → ⊥
not_reached = rep₂ _ (λ a b c d. simp lin (omega arith))

module _ (leaps : List ℤ) (day : ℤ) (k : ℕ) (asked : EntryOfDay leaps day k) (r : Right leaps) where
  here : Stands leaps day k
  here = rw asked.is (entry_at r day asked.begun)

  last : entries leaps ≤ suc k → seconds leaps k ≡ seconds_on leaps (day +ℤ pos 1)
  last h =
      ⊎_elim (λ (a : Stands leaps (day +ℤ pos 1) k). sym (seconds_at r (day +ℤ pos 1) k a))
      (λ (t : Turns leaps day k). let no : ⊥ = omega (arith, t.at.within) in absurd no) (next_day r day k here)

  stays : day <ℤ (first_day leaps (suc k) -ℤ pos 1) → seconds leaps k ≡ seconds_on leaps (day +ℤ pos 1)
  stays l =
      ⊎_elim (λ (a : Stands leaps (day +ℤ pos 1) k). sym (seconds_at r (day +ℤ pos 1) k a))
      (λ (t : Turns leaps day k). absurd (reached (first_day leaps (suc k)) day t.first l)) (next_day r day k here)

  turns : suc k < entries leaps → (first_day leaps (suc k) -ℤ pos 1) ≤ℤ day
      → seconds leaps (suc k) ≡ seconds_on leaps (day +ℤ pos 1)
  turns h l =
      ⊎_elim (λ (a : Stands leaps (day +ℤ pos 1) k). absurd (not_reached (first_day leaps (suc k)) day (a.next h) l))
      (λ (t : Turns leaps day k). sym (seconds_at r (day +ℤ pos 1) (suc k) t.at)) (next_day r day k here)

-- the entry, and the one after it
module _ (s : Start) where
  abbrev leaps : List ℤ
  leaps = s.args.self.leaps.0.now

  judged : Right leaps
  judged = right leaps s.args.self.right

  at : Stands leaps s.args.day s.args.entry
  at = here leaps s.args.day s.args.entry s.requires judged

  day_is : read s.args.day ≡ s.args.day
  day_is = read_is s.args.day s.ranges.day

  -- the next one's first day, as it was read
  module _ (x : ℤ) (f : SFits w64 x) (e : x ≡ first_day leaps (s.args.entry + 1))
      (h : suc s.args.entry < entries leaps) where
    next_is : read x ≡ first_day leaps (suc s.args.entry)
    next_is = rw add-one at (read_is x f ∙ e)

    less : SFits w64 (read x -ℤ pos 1)
    less =
        rw next_is (one_less_fits s.args.day _ s.ranges.day (rw (← next_is, read_is x f) f) (at.next h))

    before_is : read (read x -ℤ pos 1) ≡ first_day leaps (suc s.args.entry) -ℤ pos 1
    before_is = rw (read_is _ less, next_is)

    stayed : le_z (read (read x -ℤ pos 1)) (read s.args.day) ≡ false
        → seconds leaps s.args.entry ≡ seconds_on leaps (s.args.day +ℤ pos 1)
    stayed e = stays leaps s.args.day s.args.entry s.requires judged (le_no _ _ (rw (before_is, day_is) at e))

    turned : le_z (read (read x -ℤ pos 1)) (read s.args.day) ≡ true
        → seconds leaps (suc s.args.entry) ≡ seconds_on leaps (s.args.day +ℤ pos 1)
    turned e = turns leaps s.args.day s.args.entry s.requires judged h (le_yes _ _ (rw (before_is, day_is) at e))

-- there is a next one
more : {k n : ℕ} (m : ℕ) → n ≡ m → k + 1 < n → suc k < m
more m e h = omega arith

pub overflow_add-next : goal.overflow_add-next
unfolding entries
overflow_add-next c = let a = (at c).within in omega arith

pub overflow_sub-first_day : goal.overflow_sub-first_day
overflow_sub-first_day c =
    less (goal.at.overflow_sub-first_day c).Start _ (record { sfits = c.first_day.type_inv }) c.first_day.ensures (more _ c.len.ensures c.if-next-len.true)

pub seconds-requires-else-next-len : goal.seconds-requires-else-next-len
seconds-requires-else-next-len c = (at (goal.at.seconds-requires-else-next-len c).Start).within

pub returns-then-first_day-day : goal.returns-then-first_day-day
returns-then-first_day-day c =
    read_is _ (record { sfits = c.seconds.type_inv }) ∙ (rw add-one at c.seconds.ensures)
    ∙ turned (goal.at.returns-then-first_day-day c).Start _ (record { sfits = c.first_day.type_inv }) c.first_day.ensures
    (more _ c.len.ensures c.if-next-len.true) c.if-first_day-day.true

pub returns-else-next-len : goal.returns-else-next-len
returns-else-next-len c =
    let start = (goal.at.returns-else-next-len c).Start in
    read_is _ (record { sfits = c.seconds-else-next-len.type_inv }) ∙ c.seconds-else-next-len.ensures
    ∙ (elim c.else-next-len.branch [
      | else-next-len-via-then-next-len+else-first_day-day w ↦
          stayed start _ (record { sfits = w.first_day.type_inv }) w.first_day.ensures (more _ c.len.ensures w.if-next-len.true)
          w.if-first_day-day.false
      | else-next-len-via-else-next-len w ↦
          let h = w.if-next-len.false in
          last (leaps start) c.args.day c.args.entry c.requires (judged start) (omega (arith, h, c.len.ensures))
    ])
