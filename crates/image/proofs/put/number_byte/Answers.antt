-- `image::put::number_byte` meets its contract. Assumes nothing.
use Prim.Native.Nat.{ℕ, ◌-◌, ◌≤◌, ◌<◌}
use Rattle.form.proofs.FreeBytes.{number_told}
use Rattle.form.specs.Form.{is_number}
use Rattle.image.specs.Image.{number_byte}
use Rattle.image.specs.declared.table.Table.{Table}
use Rattle.words.specs.Words.{byte_of}
use borrow.Author.Rules.{rules}
use borrow.Author.Tests.{lt-ltb, le-ltb, ne_eqb}
use mathlib.Core.Bool.{true}
use mathlib.Core.Path.{◌≡◌, ◌∙◌, ap}
use mir.Syntax.{w64}
use mir.Val.{of_z}
use mir.ValLaws.{to_z-of_z}
use native.Mathlib.Decide.{ℕ_discrete}
use native.Mathlib.Omega.{arith}
use Rattle.image.proofs.put.number_byte.Goals as goal

-- byte 2, the one below 8
second : (j : ℕ) → is_number j ≡ true → j < 8 → j ≡ 2
second j e h = go (ℕ_discrete j 2)
  where
    go : Dec (j ≡ 2) → j ≡ 2
    go (yes p) = p
    go (no p) = let n = number_told j e p in absurd (omega arith)

module _ (t : Table) (j : ℕ) where
  not_second : 8 ≤ j → j ≡ 2 → ⊥
  not_second h e = omega arith

  of_degree : is_number j ≡ true → j < 8 → t.degree ≡ number_byte t j
  unfolding number_byte
  of_degree e h = rw (second j e h)

  of_start : 8 ≤ j → j < 16 → byte_of (of_z w64 t.start.0) (j - 8) ≡ number_byte t j
  unfolding number_byte
  of_start h l = rw (ne_eqb j 2 (not_second h), lt-ltb j 16 l)

  of_length : 16 ≤ j → j < 24 → byte_of (of_z w64 t.length) (j - 16) ≡ number_byte t j
  unfolding number_byte
  of_length h l = rw (ne_eqb j 2 (not_second (omega arith)), le-ltb j 16 h, lt-ltb j 24 l)

  of_count : 24 ≤ j → byte_of t.count (j - 24) ≡ number_byte t j
  unfolding number_byte
  of_count h = rw (ne_eqb j 2 (not_second (omega arith)), le-ltb j 16 (omega arith), le-ltb j 24 h)

pub byte_of-requires-in_default : goal.byte_of-requires-in_default
byte_of-requires-in_default c =
    let n = number_told c.args.j c.requires.0 (not_second c.args.table c.args.j (omega arith)) in omega arith

pub returns-in-0-to-7 : goal.returns-in-0-to-7
returns-in-0-to-7 c = of_degree c.args.table c.args.j c.requires.0 (omega arith)

pub returns-in-8-to-15 : goal.returns-in-8-to-15
returns-in-8-to-15 c =
    c.byte_of.ensures ∙ ap (λ x. byte_of x (c.args.j - 8)) (c.cast_unsigned.ensures ∙ ap (of_z w64) (to_z-of_z w64 c.args.table.start.0 (search rules)))
    ∙ of_start c.args.table c.args.j (omega arith) (omega arith)

pub returns-in-16-to-23 : goal.returns-in-16-to-23
returns-in-16-to-23 c =
    c.byte_of-in-16-to-23.ensures
    ∙ ap (λ x. byte_of x (c.args.j - 16)) (c.cast_unsigned-in-16-to-23.ensures ∙ ap (of_z w64) (to_z-of_z w64 c.args.table.length (search rules)))
    ∙ of_length c.args.table c.args.j (omega arith) (omega arith)

pub returns-in_default : goal.returns-in_default
returns-in_default c =
    c.byte_of-in_default.ensures ∙ ap (λ x. byte_of x (c.args.j - 24)) c.from.ensures ∙ of_count c.args.table c.args.j (omega arith)
