-- The answers of writing: 8, 13, the coefficients' own refusal, or the table. Assumes nothing.
use Rattle.granules.specs.Answers.{Tested, tested_listed}
use Rattle.std.specs.Prelude.{Err, Ok}
use mathlib.Core.Path.{◌≡◌, sym, ◌∙◌, ap}
use mathlib.Core.Bool.{Bool, true, false, ◌&&◌}
use mathlib.Core.List.{List, ◌∷◌}
use Prim.Native.Nat.{ℕ, ◌+◌, ◌*◌, ◌^◌, ◌<◌}
use native.Mathlib.Nat.{mul-le-mul}
use native.Mathlib.Omega.{arith}
use borrow.Author.Tests.{eq-eqb, ne_eqb}
use lib.Dec.{eqb}
use lib.IntN.{ℤ}
use lib.ListN.{length}
use Rattle.numbers.specs.Tests.{Test, single}
use Rattle.numbers.proofs.Verdicts.{stop, go}
use Rattle.scales.specs.declared.refusal.Refusal.{Refusal}
use Rattle.form.specs.Form.{blocks_of}
use Rattle.image.specs.Image.{how_many, image_of, granule_in}
use Rattle.image.specs.declared.table.Table.{Table}
use Rattle.image.specs.Bounds.{is_bounded}
use Rattle.granules.specs.Tests.{granule_tests}
use Rattle.blocks.specs.Answers.{judged_refused, judged_tested}
use Rattle.blocks.specs.Judging.{judged_by, write_judged, write_into, Wrote}
use Rattle.blocks.proofs.Telling.{tested_is}
use Rattle.blocks.proofs.Taking.{stays, is_new}

-- G·(n+1) fits, whatever the two
pub product : (g n : ℕ) → g < 4294967296 → n < 4294967296 → g * (n + 1) < 2 ^ 64
product g n h k =
    let p = mul-le-mul {n₁ = g} {m₁ = n + 1} {n₂ = 4294967295} {m₂ = 4294967296} (omega arith) (omega arith) in
    omega arith

module _ (t : Table) (c : List ℤ) (b : List ℕ) where
  abbrev size : ℕ
  size = blocks_of t.count * 512

  abbrev fitting : Bool
  fitting = eqb (length c) (how_many t) && eqb (length b) size

  abbrev from14 : List Test
  from14 = granule_tests t (granule_in c t.degree)

  abbrev from13 : List Test
  from13 = single 13 (is_bounded t) ∷ from14

  -- a refusal leaves the buffer
  pub wrote_refused : (r : Refusal) → Err r ≡ write_judged t c (length b) → Wrote t c b b (Err r)
  unfolding write_into
  wrote_refused r e = record { answer = e; buffer = sym (stays _ r _ b (sym e)) }

  pub unfit_list : (length c ≡ how_many t → ⊥) → judged_refused 8 0 ≡ write_judged t c (length b)
  unfolding write_judged
  unfit_list n = stop judged_refused (Ok t) 8 fitting from13 (rw (ne_eqb (length c) (how_many t) n))

  module _ (e : length c ≡ how_many t) where
    pub unfit_buffer : (length b ≡ size → ⊥) → judged_refused 8 0 ≡ write_judged t c (length b)
    unfolding write_judged
    unfit_buffer n =
        stop judged_refused (Ok t) 8 fitting from13 (rw (eq-eqb (length c) (how_many t) e, ne_eqb (length b) size n))

    module _ (d : length b ≡ size) where
      past8 : write_judged t c (length b) ≡ judged_by from13 t
      unfolding write_judged
      past8 = go judged_refused (Ok t) 8 fitting from13 (rw (eq-eqb (length c) (how_many t) e, eq-eqb (length b) size d))

      pub unbounded : is_bounded t ≡ false → judged_refused 13 0 ≡ write_judged t c (length b)
      unbounded n = stop judged_refused (Ok t) 13 (is_bounded t) from14 n ∙ sym past8

      -- 'as reading does': the answer of the tests of the coefficients
      by_granules : is_bounded t ≡ true → (answer : Tested) → answer ≡ tested_listed c t
          → judged_tested t answer ≡ write_judged t c (length b)
      unfolding tested_listed
      by_granules o answer e =
          ap (judged_tested t) e ∙ tested_is from14 t ∙ sym (past8 ∙ go judged_refused (Ok t) 13 (is_bounded t) from14 o)

      pub by_refused : is_bounded t ≡ true → (r : Refusal) → Err r ≡ tested_listed c t
          → Err r ≡ write_judged t c (length b)
      unfolding judged_tested
      by_refused o r e = by_granules o (Err r) e

      pub wrote_done : is_bounded t ≡ true → (b' : List ℕ) → (Ok tt) ≡ tested_listed c t → b' ≡ image_of t c
          → Wrote t c b b' (Ok t)
      unfolding write_into judged_tested
      wrote_done o b' a k =
          let w = by_granules o (Ok tt) a in
          record { answer = w; buffer = k ∙ sym (is_new _ t _ b (sym w)) }
