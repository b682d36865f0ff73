-- `line::number::number_from` meets its contract. Assumes nothing.
use Rattle.std.proofs.Common.{◌≡◌, ◌∙◌, ap, sym, List, ℕ, ◌+◌, ◌-◌, length, drop, take, ℤ, rules, arith}
use mathlib.Core.Option.{Option}
use lib.ListN.{length-drop}
use lib.Seq.{take_all}
use mir.Syntax.{w64}
use mir.ValLaws.{to_z-of_z}
use Rattle.line.specs.Numbers.{number_in}
use Rattle.line.specs.Scan.{field, told, found_at, number_scanned}
use Rattle.line.proofs.number.number_from.Goals as goal

-- what is found of the field
of_field : (text part : List ℕ) (at : ℕ) (o : Option ℤ) → part ≡ field (drop at text) → o ≡ number_in part
    → found_at o (at + length part) ≡ number_scanned text at
unfolding number_scanned
of_field text part at o p e = rw (e, p)

-- the text from a place on is its rest
rest : (text part : List ℕ) (at : ℕ) → part ≡ field (take (length text - at) (drop at text))
    → part ≡ field (drop at text)
rest text part at e = e ∙ ap field (take_all (length text - at) (drop at text) (omega (arith, length-drop at text)))

pub returns : goal.returns
returns c =
    rw (to_z-of_z w64 c.in_ok-number.number (search rules))
    (of_field _ _ _ _ (rest c.args.text.now _ c.args.at c.field-field.ensures)
    (ap told (sym c.in_ok-number.was) ∙ c.number_in.ensures))

pub returns-in_err-number : goal.returns-in_err-number
returns-in_err-number c =
    rw c.from_residual.ensures
    (of_field _ _ _ _ (rest c.args.text.now _ c.args.at c.field-field.ensures)
    (ap told (sym c.in_err-number.was) ∙ c.number_in.ensures))
