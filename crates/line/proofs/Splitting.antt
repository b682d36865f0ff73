-- A line's fields, one at a time: the first field of a text, and the fields of what stands after
-- its space. Assumes nothing.
use borrow.Author.Tests.{le-leb, lt-leb}
use mathlib.Core.Path.{◌≡◌, refl, ◌∙◌, ap}
use mathlib.Core.Bool.{true, false, cond}
use mathlib.Core.List.{List, [], ◌∷◌, map}
use mathlib.Core.Option.{Option, some, none}
use Prim.Native.Nat.{ℕ, suc, ◌+◌, ◌≤◌, ◌<◌}
use native.Mathlib.Omega.{arith}
use lib.Dec.{eqb}
use lib.IntN.{ℤ}
use lib.ListN.{length, drop, length-drop}
use lib.Seq.{drop-drop}
use Rattle.line.specs.Numbers.{number_in}
use Rattle.line.specs.Lines.{fields, three_numbers, not_understood, line_read}
use Rattle.line.specs.Scan.{field, found_at, found_number, number_scanned}
use Rattle.line.specs.declared.number.Found.{Found}
use Rattle.std.specs.Prelude as code
use Rattle.std.specs.Prelude.{None, Some}
use Rattle.line.proofs.Cases.{either}

-- the fields after the first
pub fields_after : List ℕ → List (List ℕ)
fields_after [] = []
fields_after (byte ∷ more) = cond (eqb byte 32) (fields more) (fields_after more)

first_field : (text : List ℕ) → fields text ≡ field text ∷ fields_after text
unfolding fields field fields_after
first_field [] = refl
first_field (byte ∷ more) = either (eqb byte 32)
    (λ (e : eqb byte 32 ≡ true). rw e)
    (λ (e : eqb byte 32 ≡ false). rw (e, first_field more))

ended : (text : List ℕ) → length text ≤ length (field text) → fields_after text ≡ []
unfolding field fields_after
ended [] h = refl
ended (byte ∷ more) h = either (eqb byte 32)
    (λ (e : eqb byte 32 ≡ true). let l : suc (length more) ≤ 0 = rw e at h in let z : ⊥ = omega arith in absurd z)
    (λ (e : eqb byte 32 ≡ false). let l : suc (length more) ≤ suc (length (field more)) = rw e at h in rw e (ended more (omega arith)))

spaced : (text : List ℕ) → length (field text) < length text
    → fields_after text ≡ fields (drop (suc (length (field text))) text)
unfolding field fields_after
spaced [] h = let z : ⊥ = omega arith in absurd z
spaced (byte ∷ more) h = either (eqb byte 32)
    (λ (e : eqb byte 32 ≡ true). rw e)
    (λ (e : eqb byte 32 ≡ false). let l : suc (length (field more)) < suc (length more) = rw e at h in rw e (spaced more (omega arith)))

-- ---- the same at a place of a line
module _ (text : List ℕ) (at : ℕ) where
  abbrev end_at : ℕ
  end_at = at + length (field (drop at text))

module _ (text : List ℕ) (at : ℕ) (inside : at ≤ length text) where
  last_at : length text ≤ end_at text at → fields_after (drop at text) ≡ []
  last_at h = ended (drop at text) (simp length-drop (omega arith))

  next_at : end_at text at < length text → fields_after (drop at text) ≡ fields (drop (end_at text at + 1) text)
  next_at h =
      let e : at + suc (length (field (drop at text))) ≡ end_at text at + 1 = omega arith in
      spaced (drop at text) (simp length-drop (omega arith))
      ∙ ap fields (drop-drop (suc (length (field (drop at text)))) at text ∙ ap (λ (n : ℕ). drop n text) e)

-- ---- the numbers of the fields from a place on
module _ (text : List ℕ) (at : ℕ) where
  abbrev pub numbers_from : List (Option ℤ)
  numbers_from = map number_in (fields (drop at text))

  numbers_first : numbers_from ≡ number_in (field (drop at text)) ∷ map number_in (fields_after (drop at text))
  numbers_first = ap (map number_in) (first_field (drop at text))

abbrev found_of : ℤ → code.Option Found → ℤ
found_of else (Some f) = f.number
found_of else None = else

abbrev end_of : ℕ → code.Option Found → ℕ
end_of else (Some f) = f.end
end_of else None = else

found_some : (o : Option ℤ) (end e : ℕ) (z : ℤ) → found_at o end ≡ found_number z e → (o ≡ some z) × (end ≡ e)
found_some (some y) end e z h = (ap some (ap (found_of y) h), ap (end_of end) h)
found_some none end e z h = let n : ◌≡◌ {A = ℕ} 0 1 = cc in let f : ⊥ = omega arith in absurd f

found_none : (o : Option ℤ) (end : ℕ) → found_at o end ≡ None → o ≡ none
found_none (some y) end h = let n : ◌≡◌ {A = ℕ} 0 1 = cc in let f : ⊥ = omega arith in absurd f
found_none none end h = refl

-- there is always one field more
pub one_more : (text : List ℕ) (at : ℕ) (from to tick : ℤ) (line : ℕ)
    → three_numbers (some from ∷ some to ∷ some tick ∷ numbers_from text at) line ≡ not_understood line
one_more text at from to tick line = rw (numbers_first text at)

-- no number here
pub wrong_at : (text : List ℕ) (at : ℕ) → number_scanned text at ≡ None
    → numbers_from text at ≡ none ∷ map number_in (fields_after (drop at text))
unfolding number_scanned
wrong_at text at e = numbers_first text at ∙ ap (λ (o : Option ℤ). o ∷ map number_in (fields_after (drop at text))) (found_none _ _ e)

module _ (text : List ℕ) (at : ℕ) (inside : at ≤ length text) (z : ℤ) (end : ℕ)
    (found : number_scanned text at ≡ found_number z end) where
  both : (number_in (field (drop at text)) ≡ some z) × (end_at text at ≡ end)
  unfolding number_scanned
  both = found_some _ _ end z found

  number_then : numbers_from text at ≡ some z ∷ map number_in (fields_after (drop at text))
  number_then = numbers_first text at ∙ ap (λ (o : Option ℤ). o ∷ map number_in (fields_after (drop at text))) both.0

  -- a number, and more after its space
  pub number_more : end < length text → numbers_from text at ≡ some z ∷ numbers_from text (end + 1)
  number_more h =
      let e = both.1 in
      number_then ∙ ap (λ (l : List (List ℕ)). some z ∷ map number_in l) (next_at text at inside (omega arith) ∙ ap (λ (n : ℕ). fields (drop (n + 1) text)) e)

  -- a number, and the line's end
  pub number_last : length text ≤ end → numbers_from text at ≡ some z ∷ []
  number_last h =
      let e = both.1 in
      number_then ∙ ap (λ (l : List (List ℕ)). some z ∷ map number_in l) (last_at text at inside (omega arith))

-- ---- a line of at most 64 bytes, and a longer one
pub short_line : (text : List ℕ) (line : ℕ) → length text ≤ 64
    → line_read text line ≡ three_numbers (numbers_from text 0) line
unfolding line_read
short_line text line h = rw (le-leb (length text) 64 h)

pub long_line : (text : List ℕ) (line : ℕ) → 64 < length text → line_read text line ≡ not_understood line
unfolding line_read
long_line text line h = rw (lt-leb (length text) 64 h)
