-- `printing::writing::answer_line` meets its contract. Assumes nothing.
use Rattle.std.proofs.Common.{◌≡◌, ℕ, List, [], ◌∷◌, ◌++◌, ◌∙◌, arith}
use mir.Syntax.{w64}
use mir.ValLaws.{to_z-of_z}
use Rattle.printing.specs.Texts.{space, answer_text, printed}
use Rattle.printing.proofs.Printed.{decimal_printed, integer_printed}
use Rattle.printing.proofs.writing.answer_line.Goals as goal

-- six texts, one after the other
pushed : (empty one two three four five six to tick steps : List ℕ) → empty ≡ [] → one ≡ empty ++ to
    → two ≡ one ++ space → three ≡ two ++ tick → four ≡ three ++ space → five ≡ four ++ steps → six ≡ five ++ (10 ∷ [])
    → six ≡ to ++ space ++ tick ++ space ++ steps ++ (10 ∷ [])
pushed empty one two three four five six to tick steps a b c d e f g = rw (g, f, e, d, c, b, a)

pub returns : goal.returns
unfolding answer_text printed
returns c =
    pushed _ _ _ _ _ _ _ _ _ _ c.new-line.ensures c.push_str.ensures.bytes c.push_str-2.ensures.bytes c.push_str-3.ensures.bytes
    c.push_str-4.ensures.bytes c.push_str-5.ensures.bytes c.push_str-6.ensures.bytes
    ∙ rw (
      c.format.ensures.text,
      c.format-2.ensures.text,
      c.format-3.ensures.text,
      to_z-of_z w64 c.args.to c.ranges.to,
      to_z-of_z w64 c.args.tick c.ranges.tick,
      integer_printed c.args.to c.ranges.to,
      integer_printed c.args.tick c.ranges.tick,
      decimal_printed c.args.steps (omega arith),
    )
