-- A fold of the coefficients from the last down: where the closure joins a coefficient to the sum
-- of the later ones, it may be called at each, and the result is the sum. Assumes nothing.
use mathlib.Core.Path.{◌≡◌, refl, sym, ◌∙◌, subst}
use mathlib.Core.List.{List, [], ◌∷◌, ◌++◌, map, reverse, append_assoc, map-append}
use Prim.Native.Nat.{suc}
use lib.IntN.{ℤ, pos}
use lib.ListN.{length, drop}
use lib.Seq.{split_at}
use mir.Syntax.{w64}
use mir.Val.{SFits}
use denote.Ref.{Bor}
use denote.Param.Members.{Mut}
use Rattle.std.specs.Prelude.{Some}
use Rattle.std.specs.declared.iter.Rev.{Rev}
use Rattle.std.specs.declared.slice.Iter.{Iter}
use Rattle.std.specs.Fn.{Called, Takes}
use Rattle.std.specs.Iterator.{Drains, CallableAtEachTurn, FoldTurn}
use Rattle.std.specs.Iterator.Adapters.{rev_source, rev_steps}
use Rattle.std.specs.List.{FoldsTo}
use Rattle.std.specs.Slice.Iter.{iter_rest, iter_steps_back}
use Rattle.std.proofs.lemmas.Fn.{serves_by, fold_over}
use Rattle.std.proofs.lemmas.Iterator.{YieldsList}
use Rattle.std.proofs.lemmas.Iterator.Consumers.{YieldsList-so_far, YieldsList-turn}
use Rattle.std.proofs.lemmas.Iterator.Adapters.{YieldsList-from_rev_slice}
use Rattle.numbers.proofs.Machine.{read}
use Rattle.granule.specs.Asked.{Summable}
use Rattle.granule.proofs.Sums.{Joins, Summed, sum_begins, sum_ends, sum_turns}

module _
    (sum : List ℤ → ℤ)
    (op : ℤ → ℤ → ℤ)
    (joins : Joins sum op)
    {F : Type 0}
    (g : Mut F (ℤ × (Bor ℤ × Unit {0})) ℤ)
    (f : F)
    (asks : (s : ℤ) (x : Bor ℤ) → SFits w64 (op (read x.now) (read s)) → Takes g f (s, (x, tt)))
    (says : (s : ℤ) (x : Bor ℤ) (r : ℤ) (f' : F) → Called g f (s, (x, tt)) r f'
    → (f' ≡ f) × (r ≡ read (op (read x.now) (read s))))
    (cs : List ℤ)
    (summable : Summable cs)
    (s : Rev (Iter ℤ))
    (lent : iter_rest (rev_source s) ≡ cs)
  where
    abbrev values : List (Bor ℤ) → List ℤ
    values xs = map (λ y. y.now) xs

    road : YieldsList (rev_steps iter_steps_back) (λ y. y.now) s (reverse cs)
    road = YieldsList-from_rev_slice cs lent

    turn : (ys : List ℤ) (a : ℤ) (x : Bor ℤ) (b : ℤ) (f' : F) → Summed sum op joins cs ys a
        → Called g f (a, (x, tt)) b f'
        → Summed sum op joins cs (ys ++ x.now ∷ []) b × (f' ≡ f)
    turn ys a x b f' h k =
        let made = says a x b f' k in (
          λ zs e. made.1 ∙ (sum_turns sum op joins cs ys zs x.now a summable (sym (append_assoc ys (x.now ∷ []) zs) ∙ e) h).1,
          made.0,
        )

    pub folds : (r : ℤ)
        → (xs : List (Bor ℤ)) × (f' : F) × Drains (rev_steps iter_steps_back) s xs
        × FoldsTo {P = F × ℤ} (FoldTurn g) (f, pos 0) xs (f', r)
        → r ≡ sum cs
    folds r ran = sum_ends sum op joins cs r
        (fold_over (rev_steps iter_steps_back) (λ y. y.now) g (Summed sum op joins cs) f turn
        s (reverse cs) (pos 0) r road.runs (sum_begins sum op joins cs) ran)

    pub callable : CallableAtEachTurn {P = F × ℤ} (rev_steps iter_steps_back) (FoldTurn g)
        (λ p x. Takes g p.0 (p.1, (x, tt))) s (f, pos 0)
    callable = serves_by (FoldTurn g) (λ xs p. Summed sum op joins cs (values xs) p.1 × (p.0 ≡ f))
        (λ xs p x q j k.
        let t = turn (values xs) p.1 x q.1 q.0 j.0 (subst (λ (y : F). Called g y (p.1, (x, tt)) q.1 q.0) j.1 k) in
        (subst (λ (l : List ℤ). Summed sum op joins cs l q.1) (sym (map-append (λ y. y.now) xs (x ∷ []))) t.0, t.1))
        (rev_steps iter_steps_back) (λ p x. Takes g p.0 (p.1, (x, tt))) s (f, pos 0) (sum_begins sum op joins cs, refl)
        (λ xs t p x u y e j.
        let l = reverse cs in
        let k = length xs in
        let m = YieldsList-turn road xs t y (Some x) u x refl e in
        let here : values xs ++ x.now ∷ drop (suc k) l ≡ l =
        (λ i. YieldsList-so_far road xs t y i ++ m.1 i ∷ drop (suc k) l) ∙ sym (split_at l k x.now m.0) in
        subst (λ (h : F). Takes g h (p.1, (x, tt))) (sym j.1)
        (asks p.1 x (sum_turns sum op joins cs (values xs) (drop (suc k) l) x.now p.1 summable here j.0).0))
