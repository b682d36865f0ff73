-- A list of accepted ticks, walked step by step: what is left of each entry's walk is that entry's
-- conversion. Assumes nothing.
use Rattle.scales.specs.Answers.{Answer, converted_to, answer_tick, stepped_tick}
use Rattle.image.specs.declared.table.Table.{Table}
use Rattle.std.specs.Prelude.{None, Ok, Option, Some}
use mathlib.Core.Path.{◌≡◌, refl, sym, ◌∙◌, ap, subst}
use mathlib.Core.List.{List}
use Prim.Native.Nat.{ℕ, ◌+◌, ◌≤◌, ◌<◌}
use lib.IntN.{ℤ, pos}
use lib.ListN.{length, get_or, length-map}
use Rattle.numbers.proofs.Places.{map_at, is_map}
use Rattle.scales.specs.declared.answer.Epoch.{Epoch}
use Rattle.scales.specs.declared.path.Step.{Step}
use Rattle.scales.specs.declared.scale.Scale.{Scale}
use Rattle.scales.specs.Path.{next, longest_path}
use Rattle.scales.specs.Rows.{end}
use Rattle.entries.specs.Entries.{entry_of, all_tried}
use Rattle.filling.specs.Inner.{ticks_by, all_by}
use Rattle.walk.specs.Walk.{step_of}
use Rattle.entries.proofs.TriedLists.{tried_accepted}
use Rattle.entries.proofs.Interval.{entry_walk}
use Rattle.walk.proofs.OneStep.{step_ends}
use Rattle.walk.proofs.Steps.{Answered, stepping}
use Rattle.walk.proofs.Walking.{walk_left, whole_left, no_walk_left, at_end, stepped, further}

module _ (kept : Option Table) (cs : List ℤ) (from to : Scale) (ticks : List ℤ) where
  abbrev entry_at : ℕ → Answer
  entry_at i = entry_of from to kept cs (get_or ticks i (pos 0))

  abbrev at : Scale → ℤ → Epoch
  at scale tick = record { scale = scale; tick = tick }

  -- so many steps done, the list now being of a scale
  pub record Walked (done : ℕ) (scale : Scale) (list : List ℤ) : Type 0 where
    pub long : length list ≡ length ticks
    pub each : (i : ℕ) → i < length ticks → walk_left kept cs to done (at scale (get_or list i (pos 0))) ≡ entry_at i

  module _ (n : ℕ) (tried : all_tried from to ticks kept cs ≡ Ok n) where
    accepted_at : (i : ℕ) → i < length ticks → Answered (entry_at i)
    accepted_at = (tried_accepted _ _ 0 ticks tried).1

    pub walked_none : Walked 0 from ticks
    walked_none =
        record {
          long = refl;
          each = λ i h. whole_left kept cs to from (get_or ticks i (pos 0)) ∙ sym (entry_walk kept cs from to (get_or ticks i (pos 0)) (accepted_at i h));
        }

    -- each entry is accepted, so that the step is taken from each
    pub walked_more : (done : ℕ) (scale : Scale) (list : List ℤ) (step : Step) → done < longest_path
        → next scale to ≡ Some step → Walked done scale list
        → Walked (done + 1) (end step) (all_by (step_of kept cs step) list)
    unfolding stepped_tick
    walked_more done scale list step h by w = record { long = length-map list _ ∙ w.long; each = each }
      where
        each : (i : ℕ) → i < length ticks
            → walk_left kept cs to (done + 1) (at (end step) (get_or (all_by (step_of kept cs step) list) i (pos 0)))
            ≡ entry_at i
        each i k =
            let t = get_or list i (pos 0) in
            let a = accepted_at i k in
            let x = stepping a.0 a.1 _ done (step_of kept cs step t) (sym (stepped kept cs to done (at scale t) h step by) ∙ w.each i k ∙ a.2) in
            let here = map_at (λ tick. stepped_tick (step_of kept cs step tick)) list (pos 0) (pos 0) i (subst (λ (m : ℕ). i < m) (sym w.long) k) in
            let ends = step_ends kept cs step t x.at x.reached in
            rw (here, x.reached, ← ends) (sym (further kept cs to done (at scale t) h step by x.at x.reached) ∙ w.each i k)

  module _ (done : ℕ) (scale : Scale) (list : List ℤ) (w : Walked done scale list) where
    ended : ((tick : ℤ) → walk_left kept cs to done (at scale tick) ≡ converted_to (at scale tick) done)
        → list ≡ ticks_by (entry_of from to kept cs) ticks
    unfolding answer_tick
    ended last =
        is_map (λ tick. answer_tick (entry_of from to kept cs tick)) ticks list (pos 0) (pos 0) w.long
        (λ i h. ap answer_tick (sym (last (get_or list i (pos 0))) ∙ w.each i h))

    pub walked_here : done < longest_path → next scale to ≡ None → list ≡ ticks_by (entry_of from to kept cs) ticks
    walked_here h e = ended (λ tick. at_end kept cs to done (at scale tick) h e)

    pub walked_all : longest_path ≤ done → list ≡ ticks_by (entry_of from to kept cs) ticks
    walked_all h = ended (λ tick. no_walk_left kept cs to done (at scale tick) h)
