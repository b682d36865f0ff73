-- `image::put::coefficient_byte` meets its contract: the coefficient is in the list. Assumes
-- nothing.
use Prim.Native.Nat.{◌+◌, ◌*◌, ◌-◌, ◌%◌, ◌≤◌, ◌<◌}
use Rattle.form.proofs.FreeBytes.{Slot, slot_told}
use Rattle.image.proofs.Slots.{index, room}
use Rattle.image.specs.Bounds.{most_coefficients}
use Rattle.form.specs.Form.{granule_at, which_at}
use Rattle.image.specs.Image.{coefficient_byte}
use Rattle.words.specs.Words.{byte_of}
use borrow.Author.Rules.{rules}
use lib.IntN.{pos}
use lib.ListN.{get_or}
use mathlib.Core.Path.{◌∙◌, ap}
use mir.Syntax.{w64}
use mir.Val.{of_z}
use mir.ValLaws.{to_z-of_z}
use native.Mathlib.Omega.{arith}
use Rattle.image.proofs.put.coefficient_byte.Goals as goal
use Rattle.image.proofs.put.coefficient_byte.Goals.{Start}

slot : (c : Start) → Slot c.args.shape.count c.args.shape.degree c.args.k c.args.j
slot c = slot_told _ _ _ _ c.requires.coefficient

at : (c : Start)
    → granule_at c.args.k c.args.j * (c.args.shape.degree + 1) + which_at c.args.j
    < c.args.shape.count * (c.args.shape.degree + 1)
at c = index _ _ _ _ (slot c).granule (slot c).which

all : (c : Start) → c.args.shape.count * (c.args.shape.degree + 1) ≤ most_coefficients
all c = room c.args.shape.count c.args.shape.degree c.args.shape.few

pub overflow_sub-number : goal.overflow_sub-number
overflow_sub-number c = (slot c).low

pub overflow_mul-c : goal.overflow_mul-c
overflow_mul-c c = let a = at (goal.at.overflow_mul-c c).Start in let b = all (goal.at.overflow_mul-c c).Start in omega arith

pub overflow_add-c-2 : goal.overflow_add-c-2
overflow_add-c-2 c = let a = at (goal.at.overflow_add-c-2 c).Start in let b = all (goal.at.overflow_add-c-2 c).Start in omega arith

pub offset_bounds-coefficients-granule : goal.offset_bounds-coefficients-granule
offset_bounds-coefficients-granule c =
    let a = at (goal.at.offset_bounds-coefficients-granule c).Start in
    let b = all (goal.at.offset_bounds-coefficients-granule c).Start in omega arith

pub bounds-coefficients-granule : goal.bounds-coefficients-granule
bounds-coefficients-granule c = rw c.requires.coefficients (at (goal.at.bounds-coefficients-granule c).Start)

pub overflow_sub-j : goal.overflow_sub-j
overflow_sub-j c = (slot (goal.at.overflow_sub-j c).Start).low

pub returns : goal.returns
unfolding coefficient_byte
returns c =
    let z = get_or c.args.coefficients.now (granule_at c.args.k c.args.j * (c.args.shape.degree + 1) + which_at c.args.j) (pos 0) in
    c.byte_of.ensures ∙ ap (λ x. byte_of x ((c.args.j - 8) % 8)) (c.cast_unsigned.ensures ∙ ap (of_z w64) (to_z-of_z w64 z (search rules)))
