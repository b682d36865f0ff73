-- The sums of the tests as loops from the last coefficient down make them, and how large they can
-- be, for coefficients within 2^40. Assumes nothing.
use mathlib.Core.Path.{◌≡◌, sym, ◌∙◌, ap}
use mathlib.Core.Bool.{true}
use mathlib.Core.List.{List, [], ◌∷◌, ◌++◌, reverse, append-nil, append_assoc, reverse-append, reverse-reverse}
use Prim.Native.Nat.{ℕ, suc, ◌+◌, ◌*◌, ◌^◌, ◌≤◌, ◌<◌}
use native.Mathlib.Nat.{mul-le-mul}
use native.Mathlib.Omega.{arith}
use lib.IntN.{ℤ, pos, ◌+ℤ◌, ◌-ℤ◌, neg_ℤ, nat_abs}
use lib.Seq.{drop-append_seam}
use lib.ListN.{length, drop, length-drop}
use native.Mathlib.Numerals.{add-one}
use Rattle.std.specs.List.{enumerate_from, sum_by}
use Rattle.std.proofs.lemmas.List.Sums.{sum_by-cons}
use mir.Syntax.{w64}
use mir.Val.{SFits}
use Rattle.numbers.proofs.Order.{abs_neg, abs-+}
use Rattle.numbers.proofs.Machine.{fits, read, read_is}
use Rattle.granule.specs.Bounds.{most_degree}
use Rattle.granule.specs.Tests.{largest, is_small, weight_from, weight_of, plain_sum, alternating_sum}
use Rattle.granule.specs.Asked.{Summable}
use Rattle.granule.proofs.Clauses.{weight_nil, weight_cons, plain_nil, plain_cons, alternating_nil, alternating_cons}
use Rattle.granule.proofs.Passing.{small_cons, small_drop}

-- ---- the plain and the alternating sum: each coefficient is joined to the sum of the later ones
-- by + or by −
pub record Joins (sum : List ℤ → ℤ) (op : ℤ → ℤ → ℤ) : Type 0 where
  pub none : sum [] ≡ pos 0
  pub one : (c : ℤ) (cs : List ℤ) → sum (c ∷ cs) ≡ op c (sum cs)
  pub size : (x y : ℤ) → nat_abs (op x y) ≤ nat_abs x + nat_abs y

pub plain_joins : Joins plain_sum ◌+ℤ◌
plain_joins = record { none = plain_nil; one = plain_cons; size = abs-+ }

pub alternating_joins : Joins alternating_sum ◌-ℤ◌
alternating_joins = record { none = alternating_nil; one = alternating_cons; size = λ x y. omega (arith, abs-+ x (neg_ℤ y), abs_neg y) }

module _ (sum : List ℤ → ℤ) (op : ℤ → ℤ → ℤ) (joins : Joins sum op) where
  sum_small : (cs : List ℤ) → is_small cs ≡ true → nat_abs (sum cs) ≤ length cs * largest
  sum_small [] e = rw joins.none (omega arith)
  sum_small (c ∷ cs) e =
      let s = small_cons c cs e in
      rw (joins.one c cs) (omega (arith, joins.size c (sum cs), sum_small cs s.1))

  sum_fits : (cs : List ℤ) (k : ℕ) → Summable cs → SFits w64 (sum (drop k cs))
  sum_fits cs k s =
      let few = s.few in
      let l : length (drop k cs) ≤ most_degree + 1 = simp length-drop (omega arith) in
      fits (sum (drop k cs)) (omega (arith, sum_small (drop k cs) (small_drop cs k s.small)))

  -- as a loop from the last coefficient down has the sum after ys: it is that of ys in their order,
  -- and takes the next coefficient x, in the words of the code
  abbrev pub Summed : List ℤ → List ℤ → ℤ → Type 0
  Summed cs ys s = (zs : List ℤ) → ys ++ zs ≡ reverse cs → s ≡ sum (reverse ys)

  pub sum_begins : (cs : List ℤ) → Summed cs [] (pos 0)
  sum_begins cs zs e = sym joins.none

  pub sum_ends : (cs : List ℤ) (s : ℤ) → Summed cs (reverse cs) s → s ≡ sum cs
  sum_ends cs s h = h [] (append-nil (reverse cs)) ∙ ap sum (reverse-reverse cs)

  reached : (cs ys zs : List ℤ) (x : ℤ) → ys ++ x ∷ zs ≡ reverse cs → drop (length (reverse zs)) cs ≡ x ∷ reverse ys
  reached cs ys zs x e =
      let back : reverse zs ++ (x ∷ reverse ys) ≡ cs =
      sym (append_assoc (reverse zs) (x ∷ []) (reverse ys))
      ∙ ap (λ (l : List ℤ). l ++ reverse ys) (sym (reverse-append (x ∷ []) zs))
      ∙ sym (reverse-append ys (x ∷ zs))
      ∙ ap reverse e
      ∙ reverse-reverse cs in
      ap (drop (length (reverse zs))) (sym back) ∙ drop-append_seam (reverse zs) (x ∷ reverse ys)

  pub sum_turns : (cs ys zs : List ℤ) (x s : ℤ) → Summable cs → ys ++ x ∷ zs ≡ reverse cs → Summed cs ys s
      → SFits w64 (op (read x) (read s))
      × (read (op (read x) (read s)) ≡ sum (reverse (ys ++ x ∷ [])))
  sum_turns cs ys zs x s summable e h =
      let k = length (reverse zs) in
      let at = reached cs ys zs x e in
      let few = summable.few in
      let small = rw at at (small_drop cs k summable.small) in
      let one = small_cons x (reverse ys) small in
      let fit = rw at at (sum_fits cs k summable) in
      let long = rw at at (length-drop k cs) in
      let later = sum_small (reverse ys) one.1 in
      let s_is : read s ≡ sum (reverse ys) = rw (h (x ∷ zs) e) (read_is _ (fits (sum (reverse ys)) (omega (arith, one.0)))) in
      let x_is : read x ≡ x = read_is x (fits x (omega (arith, one.0))) in
      let turn : op (read x) (read s) ≡ sum (x ∷ reverse ys) = rw (x_is, s_is) (sym (joins.one x (reverse ys))) in
      (rw turn fit, rw turn (read_is _ fit) ∙ ap sum (sym (reverse-append ys (x ∷ []))))

-- ---- the weight
-- the most that k² is
abbrev pub most_square : ℕ
most_square = most_degree * most_degree

-- the term of the weight at k, and the weight from c_k on
pub term_small : (k x : ℕ) → k ≤ most_degree → x ≤ largest → (k * k ≤ most_square) × (k * k * x ≤ most_square * largest)
term_small k x h l = let s = mul-le-mul {n₂ = most_degree} {m₂ = most_degree} h h in (s, mul-le-mul {n₂ = most_square} {m₂ = largest} s l)

weight_small : (k : ℕ) (cs : List ℤ) → is_small cs ≡ true → k + length cs ≤ most_degree + 1
    → weight_from k cs ≤ length cs * (most_square * largest)
weight_small k [] e h = rw (weight_nil k) (omega arith)
weight_small k (c ∷ cs) e h =
    let s = small_cons c cs e in
    let t = term_small k (nat_abs c) (omega arith) s.0 in
    rw (weight_cons k c cs) (omega (arith, weight_small (suc k) cs s.1 (omega arith)))

-- and in std's words
abbrev pub term_of : ℕ × ℤ → ℕ
term_of (k, c) = k * k * nat_abs c

weight_summed : (k : ℕ) (cs : List ℤ) → sum_by term_of (enumerate_from k cs) ≡ weight_from k cs
weight_summed k [] = sym (weight_nil k)
weight_summed k (c ∷ cs) =
    sum_by-cons term_of (k, c) (enumerate_from (k + 1) cs)
    ∙ ap (λ (n : ℕ). k * k * nat_abs c + n) (ap (λ (j : ℕ). sum_by term_of (enumerate_from j cs)) (add-one k) ∙ weight_summed (suc k) cs)
    ∙ sym (weight_cons k c cs)

pub weight_is : (cs : List ℤ) → sum_by term_of (enumerate_from 0 cs) ≡ weight_of cs
unfolding weight_of
weight_is cs = weight_summed 0 cs

pub terms_fit : (cs : List ℤ) → Summable cs → sum_by term_of (enumerate_from 0 cs) < 2 ^ 64
terms_fit cs s = let few = s.few in rw (weight_summed 0 cs) (omega (arith, weight_small 0 cs s.small (omega arith)))
