-- Texts put into a buffer one after the other. Assumes nothing.
use mathlib.Core.Path.{◌≡◌, refl, sym, ◌∙◌, ap}
use mathlib.Core.List.{List, [], ◌∷◌, ◌++◌, append_assoc}
use Prim.Native.Nat.{ℕ, ◌+◌, ◌≤◌, ◌<◌}
use native.Mathlib.Omega.{arith}
use native.Mathlib.Numerals.{add-one}
use lib.ListN.{length, take, drop, set, length-append, length-take, length-drop}
use lib.Seq.{length-take-le, take_at, drop-drop, drop-append-add, set_split, append_snoc}
use Rattle.printing.specs.Buffers.{with_text, TextPut}

-- a buffer keeps its length
length_with : (out : List ℕ) (at : ℕ) (text : List ℕ) → at + length text ≤ length out
    → length (with_text out at text) ≡ length out
unfolding with_text
length_with out at text h = simp (length-append, length-take, length-drop) (omega arith)

-- one byte
pub with_byte : (out : List ℕ) (at byte : ℕ) → at < length out → set out at byte ≡ with_text out at (byte ∷ [])
unfolding with_text
with_byte out at byte h =
    set_split out at byte h ∙ sym (append_snoc (take at out) byte (drop (at + 1) out) ∙ ap (λ (n : ℕ). take at out ++ byte ∷ drop n out) (add-one at))

-- one text after another
module _ (out : List ℕ) (at : ℕ) (first second : List ℕ) (room : at + length (first ++ second) ≤ length out) where
  both : length (first ++ second) ≡ length first + length second
  both = length-append first second

  front : length (take at out ++ first) ≡ at + length first
  front = length-append (take at out) first ∙ ap (λ (n : ℕ). n + length first) (length-take-le at out (omega (arith, both)))

  rest : drop (at + length first + length second) (with_text out at first) ≡ drop (at + length (first ++ second)) out
  unfolding with_text
  rest =
      let e : at + length first + length second ≡ at + length (first ++ second) = omega (arith, both) in
      ap (λ (n : ℕ). drop (n + length second) (take at out ++ first ++ drop (at + length first) out)) (sym front)
      ∙ drop-append-add (take at out ++ first) (drop (at + length first) out) (length second)
      ∙ drop-drop (length second) (at + length first) out
      ∙ ap (λ (n : ℕ). drop n out) e

  with_both : with_text (with_text out at first) (at + length first) second ≡ with_text out at (first ++ second)
  unfolding with_text
  with_both =
      ap (λ (l : List ℕ). l ++ second ++ drop (at + length first + length second) (take at out ++ first ++ drop (at + length first) out))
      (take_at (take at out ++ first) (drop (at + length first) out) (at + length first) front)
      ∙ ap (λ (l : List ℕ). take at out ++ first ++ second ++ l) rest
      ∙ ap (λ (l : List ℕ). l ++ drop (at + length (first ++ second)) out) (append_assoc (take at out) first second)

  put_both : {one two : List ℕ} {next end : ℕ} → TextPut out at first one next → TextPut one next second two end
      → TextPut out at (first ++ second) two end
  put_both {one} {two} {next} {end} p q = record {
    holds =
        q.holds ∙ ap (λ (l : List ℕ). with_text l next second) p.holds ∙ ap (λ (n : ℕ). with_text (with_text out at first) n second) p.after ∙ with_both;
    after = omega (arith, p.after, q.after, both);
  }

-- a byte stored is a text of one byte put
pub put_byte : (out : List ℕ) (at byte : ℕ) → at < length out → TextPut out at (byte ∷ []) (set out at byte) (at + 1)
put_byte out at byte h = record { holds = with_byte out at byte h; after = refl }

-- ---- after a text put, a byte or another text
module _ {out : List ℕ} {at : ℕ} {text left : List ℕ} {next : ℕ} (put : TextPut out at text left next) where
  pub length_kept : at + length text ≤ length out → length left ≡ length out
  length_kept h = ap length put.holds ∙ length_with out at text h

  pub place_inside : at + length text < length out → next < length left
  place_inside h = omega (arith, length_kept (omega arith), put.after)

  pub then_text : {more last : List ℕ} {end : ℕ} → TextPut left next more last end
      → at + length text + length more ≤ length out
      → TextPut out at (text ++ more) last end
  then_text {more} p h = put_both out at text more (omega (arith, length-append text more)) put p

  pub then_byte : (byte : ℕ) → at + length text < length out
      → TextPut out at (text ++ (byte ∷ [])) (set left next byte) (next + 1)
  then_byte byte h = then_text (put_byte left next byte (place_inside h)) (omega arith)
