-- What trying a list tells: that every entry is accepted, or the first that is refused. Assumes
-- nothing.
use Rattle.entries.specs.declared.batched.RefusedAt.{RefusedAt}
use Rattle.entries.specs.Batched.{Batched, refused_at}
use Rattle.scales.specs.Answers.{Answer, converted_to}
use Rattle.std.specs.Prelude.{Err, Ok}
use mathlib.Core.Path.{◌≡◌, refl, ◌∙◌, ap}
use mathlib.Core.List.{List, [], ◌∷◌}
use Prim.Native.Nat.{ℕ, zero, suc, ◌+◌, ◌<◌}
use native.Mathlib.Nat.{not-suc-le-zero, le_of_suc-le-suc}
use native.Mathlib.Omega.{arith}
use lib.IntN.{ℤ, pos}
use lib.ListN.{length, get_or}
use Rattle.scales.specs.declared.answer.Epoch.{Epoch}
use Rattle.scales.specs.declared.refusal.Refusal.{Refusal}
use Rattle.entries.specs.Entries.{earlier, tried_of}
use Rattle.walk.proofs.Steps.{Answered}

-- a batch is accepted or refused, never both
pub never_both : {P : Type 0} {answer : Batched} {refusal : Refusal} {index n : ℕ} → answer ≡ refused_at refusal index
    → answer ≡ Ok n → P
never_both r e = let z : ◌≡◌ {A = ℕ} 0 1 = cc in let no : ⊥ = omega arith in absurd no

-- and one that is refused is so with one refusal, at one index
abbrev refused_with : RefusedAt → Batched → RefusedAt
refused_with else (Ok steps) = else
refused_with else (Err refused) = refused

same_refusal : {r s : Refusal} {i j : ℕ} → refused_at r i ≡ refused_at s j → r ≡ s
same_refusal {r} {i = i} e = ap (λ (b : Batched). (refused_with (record { refusal = r; index = i }) b).refusal) e

same_index : {r s : Refusal} {i j : ℕ} → refused_at r i ≡ refused_at s j → i ≡ j
same_index {r} {i = i} e = ap (λ (b : Batched). (refused_with (record { refusal = r; index = i }) b).index) e

-- ---- trying a list
-- every entry below a bound is accepted
abbrev pub AllAccepted : (ℤ → Answer) → List ℤ → ℕ → Type 0
AllAccepted entry ticks bound = (i : ℕ) → i < bound → Answered (entry (get_or ticks i (pos 0)))

-- the first entry that is refused, and its refusal
pub record FirstRefused (entry : ℤ → Answer) (ticks : List ℤ) (refusal : Refusal) (place : ℕ) : Type 0 where
  pub inside : place < length ticks
  pub refuses : entry (get_or ticks place (pos 0)) ≡ Err refusal
  pub before : AllAccepted entry ticks place

-- what trying a list tells, where it tells a refusal at an index: the list's first refused entry,
-- counted from where the trying began
abbrev pub ToldFirst : (ℤ → Answer) → List ℤ → ℕ → Refusal → ℕ → Type 0
ToldFirst entry ticks index refusal told = (place : ℕ) × (told ≡ index + place) × FirstRefused entry ticks refusal place

module _ (entry : ℤ → Answer) (tick : ℤ) (more : List ℤ) where
  -- one accepted entry before the others
  accepted_first : (epoch : Epoch) (n bound : ℕ) → entry tick ≡ converted_to epoch n → AllAccepted entry more bound
      → AllAccepted entry (tick ∷ more) (suc bound)
  accepted_first epoch n bound e rest zero h = (epoch, n, e)
  accepted_first epoch n bound e rest (suc i) h = rest i (le_of_suc-le-suc h)

  accepted_cons : (answer : Answer) (index many : ℕ) {n : ℕ} (later : Batched) → entry tick ≡ answer
      → (later ≡ Ok n → (n ≡ many) × AllAccepted entry more (length more))
      → earlier answer index later ≡ Ok n
      → (n ≡ many) × AllAccepted entry (tick ∷ more) (suc (length more))
  accepted_cons (Ok converted) index many later d rest e = let r = rest e in (r.0, accepted_first converted.epoch converted.steps (length more) d r.1)
  accepted_cons (Err refusal) index many later d rest e = never_both refl e

  refused_cons : (answer : Answer) (index : ℕ) {refusal : Refusal} {told : ℕ} (later : Batched) → entry tick ≡ answer
      → (later ≡ refused_at refusal told → ToldFirst entry more (suc index) refusal told)
      → earlier answer index later ≡ refused_at refusal told
      → ToldFirst entry (tick ∷ more) index refusal told
  refused_cons (Ok converted) index later d rest e =
      let r = rest e in
      let f = r.2 in
      let h = f.inside in
      let k = r.1 in
      (suc r.0, omega arith, record { inside = omega arith; refuses = f.refuses; before = accepted_first converted.epoch converted.steps r.0 d f.before })
  refused_cons (Err first) index {refusal} {told} later d rest e =
      let same : first ≡ refusal = same_refusal e in
      let here : index ≡ told = same_index e in
      (0, omega arith, record { inside = omega arith; refuses = d ∙ ap Err same; before = λ i h. absurd (not-suc-le-zero h) })

module _ (entry : ℤ → Answer) (many : ℕ) where
  -- 'All are tried first': where a list is accepted, each of its entries is
  pub tried_accepted : (index : ℕ) (ticks : List ℤ) {n : ℕ} → tried_of entry many index ticks ≡ Ok n
      → (n ≡ many) × AllAccepted entry ticks (length ticks)
  unfolding tried_of
  tried_accepted index [] e = (cc, λ i h. absurd (not-suc-le-zero h))
  tried_accepted index (tick ∷ more) e = accepted_cons entry tick more (entry tick) index many _ refl (tried_accepted (suc index) more) e

  -- 'the earliest refusal is the batch's, with its index'
  pub tried_refused : (index : ℕ) (ticks : List ℤ) {refusal : Refusal} {told : ℕ}
      → tried_of entry many index ticks ≡ refused_at refusal told
      → ToldFirst entry ticks index refusal told
  unfolding tried_of
  tried_refused index [] e = never_both e refl
  tried_refused index (tick ∷ more) e = refused_cons entry tick more (entry tick) index _ refl (tried_refused (suc index) more) e
