-- `image::put::body_byte` meets its contract. Assumes nothing.
use Rattle.form.proofs.FreeBytes.{free_zero, free_more}
use Rattle.form.specs.Form.{is_free}
use Rattle.image.specs.Image.{body_byte}
use borrow.Author.Tests.{eq-eqb, ne_eqb}
use mathlib.Core.Bool.{Bool, true, false}
use mathlib.Core.Path.{◌≡◌, sym, ◌∙◌}
use native.Mathlib.Omega.{arith}
use Rattle.image.proofs.put.body_byte.Goals as goal
use Rattle.image.proofs.put.body_byte.Goals.{After-is_free, Else-not-is_free}

-- whether the byte asked for is free
abbrev free_at : After-is_free → Bool
free_at c = is_free c.args.table.count c.args.table.degree c.args.k c.args.j

free : (c : Else-not-is_free) → free_at (goal.at.Else-not-is_free c).After-is_free ≡ true
free c = sym c.is_free.ensures ∙ c.if-not-is_free.false

pub invariant_of-shape : goal.invariant_of-shape
invariant_of-shape c = record { few = c.requires.0.bounds.few }

pub number_byte-requires : goal.number_byte-requires
number_byte-requires c =
    let r = c.requires in
    (sym (free_zero c.args.table.count c.args.table.degree _ _ c.if-k-eq0.true) ∙ free (goal.at.number_byte-requires c).Else-not-is_free, r.0.bounds.few.degree)

pub returns-then-k-eq0 : goal.returns-then-k-eq0
unfolding body_byte
returns-then-k-eq0 c = rw (free (goal.at.returns-then-k-eq0 c).Else-not-is_free, eq-eqb _ _ c.if-k-eq0.true) c.number_byte.ensures

pub coefficient_byte-requires : goal.coefficient_byte-requires
coefficient_byte-requires c =
    let r = c.requires in
    record {
      within = record { full = omega arith; place = r.2 };
      coefficients = r.0.whole;
      coefficient = sym (free_more _ _ _ _ c.if-k-eq0.false) ∙ free (goal.at.coefficient_byte-requires c).Else-not-is_free;
      other = omega arith;
    }

pub returns-then-not-is_free : goal.returns-then-not-is_free
unfolding body_byte
returns-then-not-is_free c =
    let e : free_at (goal.at.returns-then-not-is_free c).After-is_free ≡ false = sym c.is_free.ensures ∙ c.if-not-is_free.true in
    rw e c.fixed_byte.ensures

pub returns : goal.returns
unfolding body_byte
returns c = rw (free (goal.at.returns c).Else-not-is_free, ne_eqb _ _ c.if-k-eq0.false) c.coefficient_byte.ensures
