use Prim.Native.Nat.{ℕ, ◌+◌, ◌*◌, ◌-◌, ◌/◌, ◌≤◌, ◌<◌}
use Rattle.std.specs.Int.{w64, from_le_bytes}
use Rattle.std.specs.Simd.{first_chunks}
use Rattle.words.proofs.Chunks.{chunk_byte}
use Rattle.words.proofs.Digits.{pick8, zero_more}
use Rattle.words.specs.Words.{from}
use Rattle.std.proofs.Common.{length-take}
use lib.ListN.{length, get_or, take, drop}
use lib.Seq.{get_or-take, get_or-drop}
use mathlib.Core.List.{List, []}
use mathlib.Core.Path.{◌≡◌, sym, ◌∙◌, ap}
use native.Mathlib.Omega.{arith}
use Rattle.form.proofs.zeros_from.Goals as goal

-- eight bytes that make up 0 are all 0
all_zero : (l : List ℕ) → from_le_bytes w64 l ≡ 0 → (u : ℕ) → u < 8 → get_or l u 0 ≡ 0
all_zero l e =
    pick8 (λ u. get_or l u 0 ≡ 0) (omega arith) (omega arith) (omega arith) (omega arith) (omega arith) (omega arith) (omega arith) (omega arith)

module _ (b : List ℕ) (at left i : ℕ) where
  abbrev part : List ℕ
  part = take (at + left - at) (drop at b)

  zero_chunk : (rows : List (List ℕ)) → rows ≡ first_chunks 8 (length part / 8) part → i < length part / 8
      → from_le_bytes w64 (get_or rows i []) ≡ 0 → (u : ℕ) → u < 8 → from b (at + 8 * i) u ≡ 0
  zero_chunk rows e h z u l =
      let room : length part ≤ at + left - at = omega (arith, length-take (at + left - at) (drop at b)) in
      let s : at + 8 * i + u ≡ at + (8 * i + u) = omega arith in
      ap (λ x. get_or b x 0) s
      ∙ sym (get_or-drop at b (8 * i + u) 0)
      ∙ sym (get_or-take (at + left - at) (drop at b) (8 * i + u) 0 (omega arith))
      ∙ sym (chunk_byte 8 (length part / 8) i u part h l)
      ∙ sym (ap (λ r. get_or (get_or r i []) u 0) e)
      ∙ all_zero (get_or rows i []) z u l

pub loop-word-preserved : goal.loop-word-preserved
loop-word-preserved c =
    let l = c.loop-word in
    let b = c.args.bytes.now in
    let z = sym c.from_le_bytes.ensures ∙ c.if-from_le_bytes-ne0.false in (
      omega arith,
      zero_more b c.args.at l.zeros 8 l.invariant.1
          (rw l.invariant.0 (zero_chunk b c.args.at c.args.left l.word-index c.as_chunks.result.0.now c.as_chunks.ensures.front
          (omega (arith, c.as_chunks.ensures.front_len)) z)),
    )
