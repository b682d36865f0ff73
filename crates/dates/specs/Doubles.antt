-- 'Each double stands for its exact value.' It is the fraction numerator / denominator. A NaN and
-- an infinity stand for none: 0 is put there, and refusal 2 comes first.
use Rattle.std.specs.Prelude.{Bool, true, false, ℕ, ◌*◌, ℤ, pos, ltb, Float}
use Rattle.std.specs.Float.{nan, inf, fin}
use Rattle.std.specs.Float.Ieee.{up, down}
use Rattle.numbers.specs.Signs.{signed}

-- `fin negative m e` is ±m·2^e, and 2^e is up e / down e
unfoldable pub numerator : Float → ℤ
numerator nan = pos 0
numerator (inf negative) = pos 0
numerator (fin negative m e) = signed negative (m * up e)

unfoldable pub denominator : Float → ℕ
denominator nan = 1
denominator (inf negative) = 1
denominator (fin negative m e) = down e

-- 'beyond' so much 'either way': |x| > most. An infinity is beyond every number, a NaN beyond none
unfoldable pub beyond : ℕ → Float → Bool
beyond most nan = false
beyond most (inf negative) = true
beyond most (fin negative m e) = ltb (most * down e) (m * up e)
