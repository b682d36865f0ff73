-- `printing::writing::put_refused` meets its contract: the word, the number and the newline, one
-- after the other. Assumes nothing.
use Rattle.std.proofs.Common.{◌≡◌, ℕ, ◌+◌, ◌^◌, ◌≤◌, ◌<◌, List, length, [], ◌∷◌, ◌∙◌, arith}
use Rattle.std.specs.Fmt as std
use Rattle.printing.specs.Texts.{decimal, refused_word, refused_text, printed, refused_line}
use Rattle.printing.specs.Buffers.{TextPut, longest}
use Rattle.printing.proofs.Filling.{length_kept, then_text}
use Rattle.printing.proofs.Lengths.{small_length, refused_length}
use Rattle.printing.proofs.Printed.{decimal_printed}
use Rattle.printing.proofs.writing.put_refused.Goals as goal

module _ (out : List ℕ) (at number : ℕ) (room : at + longest ≤ length out) (small : number < 2 ^ 32) where
  module _ {left : List ℕ} {next : ℕ} (put : TextPut out at refused_word left next) where
    far : at + length refused_word + length (decimal number) ≤ length out
    far = omega (arith, small_length number small)

    number_room : (digits : List ℕ) → digits ≡ std.decimal number → next + length digits ≤ length left
    number_room digits e =
        let d : digits ≡ decimal number = e ∙ decimal_printed number (omega arith) in
        rw d (omega (arith, far, length_kept put (omega (arith, far)), put.after))

    module _ {digits left₂ : List ℕ} {end : ℕ} (e : digits ≡ std.decimal number)
        (put₂ : TextPut left next digits left₂ end) where
      text : TextPut out at (refused_text number) left₂ end
      unfolding refused_text
      text = then_text put (rw (e ∙ decimal_printed number (omega arith)) at put₂) far

      far₂ : at + length (refused_text number) < length out
      far₂ = omega (arith, refused_length number small)

      newline_room : end + 1 ≤ length left₂
      newline_room = omega (arith, far₂, text.after, length_kept text (omega (arith, far₂)))

      whole : {left₃ : List ℕ} {last : ℕ} → TextPut left₂ end (10 ∷ []) left₃ last
          → TextPut out at (refused_line number) left₃ last
      unfolding printed
      whole put₃ = then_text text put₃ (omega (arith, far₂))

pub put_text-word-requires : goal.put_text-word-requires
put_text-word-requires c = omega (arith, c.requires)

pub put_text-digits-requires : goal.put_text-digits-requires
put_text-digits-requires c =
    number_room c.args.out.now c.args.at c.args.number c.requires c.ranges.number.fits c.put_text-word.ensures _ c.format.ensures.text

pub put_text-requires : goal.put_text-requires
put_text-requires c =
    newline_room c.args.out.now c.args.at c.args.number c.requires c.ranges.number.fits c.put_text-word.ensures
    c.format.ensures.text c.put_text-digits.ensures

pub returns : goal.returns
returns c =
    whole c.args.out.now c.args.at c.args.number c.requires c.ranges.number.fits c.put_text-word.ensures
    c.format.ensures.text c.put_text-digits.ensures c.put_text.ensures
