use mathlib.Core.Path.{◌≡◌, refl, ◌∙◌}
use mathlib.Core.List.{List}
use Prim.Native.Nat.{ℕ, suc, ◌-◌, ◌≤◌, ◌<◌}
use native.Mathlib.Omega.{arith}
use lib.IntN.{ℤ, pos}
use lib.ListN.{length, get_or}
use Rattle.numbers.proofs.Machine.{read, read_is}
use Rattle.granule.specs.declared.Units.{Units}
use Rattle.granule.specs.Rule.{p_of, u_of}
use Rattle.granule.proofs.Turns.{Turned, left_at, shortened, alone, starts, coefficient, fit, turns, ends}
use Rattle.granule.proofs.value.Goals as goal
use Rattle.granule.proofs.value.Goals.{After-argument-u, After-turn-b2, After-turn-b1, After-turn-b, At-loop-left}

made : (c : After-argument-u)
    → read c.argument-u.result
    ≡ u_of (p_of c.args.place c.args.length) c.args.length
made c = read_is _ (record { sfits = c.argument-u.type_inv }) ∙ c.argument-u.ensures

pub returns-in_default : goal.returns-in_default
returns-in_default c = alone c.args.coefficients.now c.args.place c.args.length c.requires c.in_default.len_below

pub loop-left-init : goal.loop-left-init
loop-left-init c = starts c.args.coefficients.now c.args.place c.args.length c.requires c.in-len2-up.len_at_least

-- the numbers at the loop, with c_k the last that is left
abbrev coefficients_of : At-loop-left → List ℤ
coefficients_of c = c.args.coefficients.now

abbrev left_of : At-loop-left → List ℤ
left_of c = c.loop-left.left.now

abbrev many : At-loop-left → ℕ
many c = length (left_of c)

abbrev TurnedTo : At-loop-left → ℕ → Units → Units → Type 0
TurnedTo c k b₁ b₂ = Turned c.args.coefficients.now c.args.place c.args.length k b₁.0 b₂.0

-- the i-th that is left is c_k
read_at : (c : At-loop-left) (i k : ℕ) → suc i ≡ k → k ≤ many c
    → read (get_or (left_of c) i (pos 0)) ≡ get_or (coefficients_of c) k (pos 0)
read_at c i k = left_at c.args.coefficients.now c.args.place c.args.length c.requires c.loop-left.left.now i k c.loop-left.invariant.front

upper : (c : At-loop-left) → 1 ≤ many c
    → read (get_or (left_of c) (many c - 1) (pos 0)) ≡ get_or (coefficients_of c) (many c) (pos 0)
upper c h = read_at c (many c - 1) (many c) (omega arith) (omega arith)

lower : (c : At-loop-left) → 2 ≤ many c
    → read (get_or (left_of c) (many c - 2) (pos 0)) ≡ get_or (coefficients_of c) (many c - 1) (pos 0)
lower c h = read_at c (many c - 2) (many c - 1) (omega (arith, h)) (omega (arith, h))

pub turn-b2-requires-clause-terms : goal.turn-b2-requires-clause-terms
turn-b2-requires-clause-terms c =
    let o = (goal.at.turn-b2-requires-clause-terms c).At-loop-left in
    fit c.args.coefficients.now c.args.place c.args.length c.requires _ (made (goal.at.turn-b2-requires-clause-terms c).After-argument-u)
    (many o) c.loop-left.b1.0 c.loop-left.b2.0 c.loop-left.invariant.turned _
    (upper o (omega (arith, c.in-len2-up-left.len_at_least)))

-- with c_k taken, one fewer is left
first : (c : After-turn-b2) → 2 ≤ length c.loop-left.left.now
    → TurnedTo (goal.at.After-turn-b2 c).At-loop-left (length c.loop-left.left.now - 1) c.turn-b2.result c.loop-left.b1
first c h =
    let o = (goal.at.After-turn-b2 c).At-loop-left in
    turns c.args.coefficients.now c.args.place c.args.length c.requires _ (made (goal.at.After-turn-b2 c).After-argument-u)
    (many o) c.loop-left.b1.0 c.loop-left.b2.0 c.loop-left.invariant.turned _ _
    (upper o (omega (arith, h))) c.turn-b2.ensures (omega (arith, h))

pub turn-b1-requires-clause-terms : goal.turn-b1-requires-clause-terms
turn-b1-requires-clause-terms c =
    let o = (goal.at.turn-b1-requires-clause-terms c).At-loop-left in
    let two = c.in-len2-up-left.len_at_least in
    fit c.args.coefficients.now c.args.place c.args.length c.requires _ (made (goal.at.turn-b1-requires-clause-terms c).After-argument-u)
    (many o - 1) c.turn-b2.result.0 c.loop-left.b1.0
    (first (goal.at.turn-b1-requires-clause-terms c).After-turn-b2 two) _ (lower o two)

pub loop-left-preserved : goal.loop-left-preserved
loop-left-preserved c =
    let o = (goal.at.loop-left-preserved c).At-loop-left in
    let two = c.in-len2-up-left.len_at_least in
    let less : many o - 1 - 1 ≡ many o - 2 = omega arith in
    let t = turns c.args.coefficients.now c.args.place c.args.length c.requires _ (made (goal.at.loop-left-preserved c).After-argument-u)
    (many o - 1) c.turn-b2.result.0 c.loop-left.b1.0 (first (goal.at.loop-left-preserved c).After-turn-b2 two) _ _
    (lower o two) c.turn-b1.ensures (omega (arith, two)) in
    shortened c.args.coefficients.now c.args.place c.args.length c.requires c.loop-left.left.now
    (many o - 2) _ _ c.loop-left.invariant.front (omega arith) (rw less at t)

-- c_0, as it is read
lowest : (c : At-loop-left) → read (get_or (coefficients_of c) 0 (pos 0)) ≡ get_or (coefficients_of c) 0 (pos 0)
lowest c = coefficient c.args.coefficients.now c.args.place c.args.length c.requires 0

-- where none is left, v is made of what there is
none : (c : At-loop-left) → many c < 1 → TurnedTo c 0 c.loop-left.b1 c.loop-left.b2
none c h = let e : many c ≡ 0 = omega (arith, h) in rw e at c.loop-left.invariant.turned

pub turn-requires-clause-terms : goal.turn-requires-clause-terms
turn-requires-clause-terms c =
    let o = (goal.at.turn-requires-clause-terms c).At-loop-left in
    fit c.args.coefficients.now c.args.place c.args.length c.requires _ (made (goal.at.turn-requires-clause-terms c).After-argument-u)
    0 c.loop-left.b1.0 c.loop-left.b2.0 (none o c.in_default-left-2.len_below) _ (lowest o)

pub returns-in_default-left-2 : goal.returns-in_default-left-2
returns-in_default-left-2 c =
    let o = (goal.at.returns-in_default-left-2 c).At-loop-left in
    ends c.args.coefficients.now c.args.place c.args.length c.requires _ (made (goal.at.returns-in_default-left-2 c).After-argument-u)
    0 c.loop-left.b1.0 c.loop-left.b2.0 (none o c.in_default-left-2.len_below) _ _ (lowest o) c.turn.ensures refl

-- where one is left, it is c_1
one : (c : At-loop-left) → 1 ≤ many c → many c < 2 → many c ≡ 1
one c h l = omega (arith, h, l)

second : (c : At-loop-left) → many c ≡ 1
    → read (get_or (left_of c) 0 (pos 0)) ≡ get_or (coefficients_of c) (many c) (pos 0)
second c h = read_at c 0 (many c) (omega (arith, h)) (omega arith)

pub turn-b-requires-clause-terms : goal.turn-b-requires-clause-terms
turn-b-requires-clause-terms c =
    let o = (goal.at.turn-b-requires-clause-terms c).At-loop-left in
    fit c.args.coefficients.now c.args.place c.args.length c.requires _ (made (goal.at.turn-b-requires-clause-terms c).After-argument-u)
    (many o) c.loop-left.b1.0 c.loop-left.b2.0 c.loop-left.invariant.turned _
    (second o (one o c.in-len1-up.len_at_least c.in_default-left.len_below))

last : (c : After-turn-b) → TurnedTo (goal.at.After-turn-b c).At-loop-left 0 c.turn-b.result c.loop-left.b1
last c =
    let o = (goal.at.After-turn-b c).At-loop-left in
    let e = one o c.in-len1-up.len_at_least c.in_default-left.len_below in
    let less : many o - 1 ≡ 0 = omega (arith, e) in
    rw less at (turns c.args.coefficients.now c.args.place c.args.length c.requires _ (made (goal.at.After-turn-b c).After-argument-u)
    (many o) c.loop-left.b1.0 c.loop-left.b2.0 c.loop-left.invariant.turned _ _
    (second o e) c.turn-b.ensures (omega (arith, e)))

pub turn-requires-2-clause-terms : goal.turn-requires-2-clause-terms
turn-requires-2-clause-terms c =
    let o = (goal.at.turn-requires-2-clause-terms c).At-loop-left in
    fit c.args.coefficients.now c.args.place c.args.length c.requires _ (made (goal.at.turn-requires-2-clause-terms c).After-argument-u)
    0 c.turn-b.result.0 c.loop-left.b1.0 (last (goal.at.turn-requires-2-clause-terms c).After-turn-b) _ (lowest o)

pub returns : goal.returns
returns c =
    let o = (goal.at.returns c).At-loop-left in
    ends c.args.coefficients.now c.args.place c.args.length c.requires _ (made (goal.at.returns c).After-argument-u)
    0 c.turn-b.result.0 c.loop-left.b1.0 (last (goal.at.returns c).After-turn-b) _ _ (lowest o) c.turn-2.ensures refl
