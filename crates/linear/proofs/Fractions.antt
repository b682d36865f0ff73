-- The linear steps in the code's terms: a shift is exact, and the four drifting steps are 01's own
-- fractions with the common factor 2 or 8 taken out and a law of `Rates` put in. The share of each
-- drift is a rounded quotient, since its row passes the test; `bias` and `known` are the code's
-- constants, with what they have to be. Assumes nothing.
use mathlib.Core.Path.{◌≡◌, refl, sym, ◌∙◌, ap}
use Prim.Native.Nat.{ℕ, ◌+◌, ◌*◌, ◌-◌, ◌/◌, ◌≤◌}
use native.Mathlib.Omega.{arith}
use lib.Dec.{lit<, lit≤}
use lib.IntN.{ℤ, pos, negsuc, nat_abs, ◌+ℤ◌, ◌-ℤ◌, ◌*ℤ◌, +ℤ_idr}
use lib.Signed.{◌≤ℤ◌, ◌<ℤ◌}
use Rattle.numbers.specs.Rounding.{nearest}
use Rattle.numbers.proofs.Differences.{rep, rep₃, lin, sizes}
use Rattle.numbers.proofs.Ring.{*-assoc, one-*}
use Rattle.numbers.proofs.Rounding.{nearest_is, nearest_plus, nearest_reduced}
use Rattle.scales.specs.Tick.{furthest}
use Rattle.scales.specs.Linear.{nearest_tick, exact, tcg_to_tt, tcb_to_tdb, inverse}
use Rattle.pieces.specs.Rows.{share_of}
use Rattle.pieces.proofs.Rows.{exact_share}
use Rattle.linear.specs.declared.drift.Drift.{Drift}
use Rattle.linear.specs.declared.drift.TheConstants.{TT_LOSES, TDB_LOSES, TCG_GAINS, TCB_GAINS}
use Rattle.linear.specs.Drift.{drift_at}
use Rattle.linear.proofs.Rates.{slowed, quickened}

-- the reduced rates: L, D and E = D − L of the geocentric and of the barycentric pair
abbrev geo_l : ℕ
geo_l = 3484645067

abbrev geo_d : ℕ
geo_d = 5000000000000000000

abbrev geo_e : ℕ
geo_e = 4999999996515354933

abbrev bary_l : ℕ
bary_l = 193814971

abbrev bary_d : ℕ
bary_d = 12500000000000000

abbrev bary_e : ℕ
bary_e = 12499999806185029

-- ---- a mere shift is exact
whole : (z : ℤ) → nearest z 1 ≡ z
whole z = nearest_is z z 1 (lit< tt) (record { under = low z; above = high z })
  where
    low : (z : ℤ) → (pos 2 *ℤ (pos 1 *ℤ z)) ≤ℤ (pos 2 *ℤ z +ℤ pos 1)
    low = rep _ (λ a b. simp lin (omega arith))

    high : (z : ℤ) → (pos 2 *ℤ z +ℤ pos 1) <ℤ (pos 2 *ℤ (pos 1 *ℤ z) +ℤ pos 2 *ℤ pos 1)
    high = rep _ (λ a b. simp lin (omega arith))

pub shifted : (t by : ℤ) → t +ℤ by ≡ nearest_tick (record { times = 1; over = 1; plus = by }) t
unfolding nearest_tick exact
shifted t by = sym (whole (pos 1 *ℤ t +ℤ by) ∙ ap (λ (z : ℤ). z +ℤ by) (one-* t))

-- ---- what the drifting steps share
swapped : (x y z : ℤ) → x +ℤ y -ℤ z ≡ x -ℤ z +ℤ y
swapped = rep₃ _ (λ a b c d e f. simp lin (omega arith))

-- the ticks counted from a bias are as many as a row is exact for
pub count_small : (t : ℤ) (b bias : ℕ) → nat_abs t ≤ furthest → bias ≤ 10000000000000000000 → pos b ≡ t +ℤ pos bias
    → b ≤ 16000000000000000000
count_small t b bias =
    rep (λ t. nat_abs t ≤ furthest → bias ≤ 10000000000000000000 → pos b ≡ t +ℤ pos bias → b ≤ 16000000000000000000)
    (λ x y. simp lin (omega arith)) t

module _ (t : ℤ) (b q bias known : ℕ) (count : pos b ≡ t +ℤ pos bias) where
  -- ---- TT from TCG, and back
  pub tt_nearest : bias ≡ 2 * geo_d → known ≡ 2 * geo_l → q ≡ (b * geo_l + 2499999999999999999) / geo_d
      → t +ℤ pos known -ℤ pos q ≡ nearest_tick tcg_to_tt t
  unfolding nearest_tick exact
  tt_nearest eb ek f =
      swapped t (pos known) (pos q)
      ∙ ap (λ (n : ℕ). t -ℤ pos q +ℤ pos n) ek
      ∙ sym (slowed geo_d geo_l geo_e 2 2499999999999999999 refl t b q refl (count ∙ ap (λ (n : ℕ). t +ℤ pos n) eb) f)
      ∙ sym (nearest_reduced (pos geo_e *ℤ t) geo_d 2 (lit< tt) (lit< tt))
      ∙ ap (λ (z : ℤ). nearest z (2 * geo_d)) (sym (*-assoc (pos 2) (pos geo_e) t) ∙ sym (+ℤ_idr (pos 9999999993030709866 *ℤ t)))

  pub tcg_nearest : bias ≡ 2 * geo_e → known ≡ 2 * geo_l → q ≡ (b * geo_l + 2499999998257677466) / geo_e
      → t +ℤ pos q -ℤ pos known ≡ nearest_tick (inverse tcg_to_tt) t
  unfolding nearest_tick exact
  tcg_nearest eb ek f =
      ap (λ (n : ℕ). t +ℤ pos q -ℤ pos n) ek
      ∙ sym (quickened geo_d geo_l geo_e 2 2499999998257677466 refl t b q refl (count ∙ ap (λ (n : ℕ). t +ℤ pos n) eb) f)
      ∙ sym (nearest_reduced (pos geo_d *ℤ t) geo_e 2 (lit< tt) (lit< tt))
      ∙ ap (λ (z : ℤ). nearest z (2 * geo_e)) (sym (*-assoc (pos 2) (pos geo_d) t) ∙ sym (+ℤ_idr (pos 10000000000000000000 *ℤ t)))

  -- ---- TDB from TCB, and back
  tdb_exact : (t : ℤ)
      → pos 8 *ℤ (pos bary_e *ℤ t +ℤ pos bary_d *ℤ negsuc 65499)
      ≡ pos 99999998449480232 *ℤ t +ℤ negsuc 6549999999999999999999
  tdb_exact = rep _ (λ a b. simp lin (omega arith))

  late : (x : ℤ) → known ≡ 480 * bary_l - 65500 → x +ℤ pos known ≡ x +ℤ pos (480 * bary_l) +ℤ negsuc 65499
  late = rep _ (λ a b. simp lin (omega arith))

  pub tdb_nearest : bias ≡ 480 * bary_d → known ≡ 480 * bary_l - 65500 → q ≡ (b * bary_l + 6249999999999999) / bary_d
      → t +ℤ pos known -ℤ pos q ≡ nearest_tick tcb_to_tdb t
  unfolding nearest_tick exact
  tdb_nearest eb ek f =
      swapped t (pos known) (pos q)
      ∙ late (t -ℤ pos q) ek
      ∙ ap (λ (z : ℤ). z +ℤ negsuc 65499) (sym (slowed bary_d bary_l bary_e 480 6249999999999999 refl t b q refl (count ∙ ap (λ (n : ℕ). t +ℤ pos n) eb) f))
      ∙ sym (nearest_plus (pos bary_e *ℤ t) (negsuc 65499) bary_d (lit< tt))
      ∙ sym (nearest_reduced (pos bary_e *ℤ t +ℤ pos bary_d *ℤ negsuc 65499) bary_d 8 (lit< tt) (lit< tt))
      ∙ ap (λ (z : ℤ). nearest z (8 * bary_d)) (tdb_exact t)

  tcb_exact : (t : ℤ)
      → pos 8 *ℤ (pos bary_d *ℤ (t +ℤ pos 65500)) ≡ pos 100000000000000000 *ℤ t +ℤ pos 6550000000000000000000
  tcb_exact = rep _ (λ a b. simp lin (omega arith))

  early : (x : ℤ) → known ≡ 481 * bary_l - 65500 → x +ℤ pos q -ℤ pos known
      ≡ x +ℤ pos 65500 +ℤ pos q -ℤ pos (481 * bary_l)
  early = rep _ (λ a b. simp lin (omega arith))

  further : (x : ℤ) → bias ≡ 65500 + 481 * bary_e → x +ℤ pos bias ≡ x +ℤ pos 65500 +ℤ pos (481 * bary_e)
  further = rep _ (λ a b. simp lin (omega arith))

  pub tcb_nearest : bias ≡ 65500 + 481 * bary_e → known ≡ 481 * bary_l - 65500
      → q ≡ (b * bary_l + 6249999903092514) / bary_e → t +ℤ pos q -ℤ pos known ≡ nearest_tick (inverse tcb_to_tdb) t
  unfolding nearest_tick exact
  tcb_nearest eb ek f =
      early t ek
      ∙ sym (quickened bary_d bary_l bary_e 481 6249999903092514 refl (t +ℤ pos 65500) b q refl (count ∙ further t eb) f)
      ∙ sym (nearest_reduced (pos bary_d *ℤ (t +ℤ pos 65500)) bary_e 8 (lit< tt) (lit< tt))
      ∙ ap (λ (z : ℤ). nearest z (8 * bary_e)) (tcb_exact t)

-- ---- the four drifts: the share of each is a rounded quotient, for every count that can come
abbrev most : ℕ
most = 16000000000000000000

pub tt_share : (b : ℕ) → b ≤ most
    → share_of TT_LOSES.row b ≡ (b * 3484645067 + 2499999999999999999) / 5000000000000000000
tt_share = exact_share 3484645067 5000000000000000000 2499999999999999999 most TT_LOSES.row tt

pub tdb_share : (b : ℕ) → b ≤ most
    → share_of TDB_LOSES.row b ≡ (b * 193814971 + 6249999999999999) / 12500000000000000
tdb_share = exact_share 193814971 12500000000000000 6249999999999999 most TDB_LOSES.row tt

pub tcg_share : (b : ℕ) → b ≤ most
    → share_of TCG_GAINS.row b ≡ (b * 3484645067 + 2499999998257677466) / 4999999996515354933
tcg_share = exact_share 3484645067 4999999996515354933 2499999998257677466 most TCG_GAINS.row tt

pub tcb_share : (b : ℕ) → b ≤ most
    → share_of TCB_GAINS.row b ≡ (b * 193814971 + 6249999903092514) / 12499999806185029
tcb_share = exact_share 193814971 12499999806185029 6249999903092514 most TCB_GAINS.row tt

-- what is taken off is what is known less the share, and what is added the share less that
taken_off : (t : ℤ) (q k : ℕ) → t -ℤ (pos q -ℤ pos k) ≡ t +ℤ pos k -ℤ pos q
taken_off t q k = rep (λ t. t -ℤ (pos q -ℤ pos k) ≡ t +ℤ pos k -ℤ pos q) (λ a b. simp lin (omega arith)) t

added : (t : ℤ) (q k : ℕ) → t +ℤ (pos q -ℤ pos k) ≡ t +ℤ pos q -ℤ pos k
added t q k = rep (λ t. t +ℤ (pos q -ℤ pos k) ≡ t +ℤ pos q -ℤ pos k) (λ a b. simp lin (omega arith)) t

counted : (bias : ℕ) → furthest ≤ bias → (t : ℤ) → nat_abs t ≤ furthest → pos (nat_abs (t +ℤ pos bias)) ≡ t +ℤ pos bias
counted bias enough = rep _ (λ a b. simp sizes (omega arith))

module _ (t : ℤ) (near : nat_abs t ≤ furthest) where
  -- what is known of the share of any count holds of the count up to t
  share_at : (d : Drift) {n : ℕ → ℕ} → furthest ≤ d.bias → d.bias ≤ 10000000000000000000
      → ((b : ℕ) → b ≤ most → share_of d.row b ≡ n b)
      → share_of d.row (nat_abs (t +ℤ pos d.bias)) ≡ n (nat_abs (t +ℤ pos d.bias))
  share_at d enough some is = is _ (count_small t _ d.bias near some (counted d.bias enough t near))

  pub tt_is : t -ℤ drift_at TT_LOSES t ≡ nearest_tick tcg_to_tt t
  tt_is =
      taken_off t _ (nat_abs TT_LOSES.known)
      ∙ tt_nearest t _ _ TT_LOSES.bias (nat_abs TT_LOSES.known) (counted TT_LOSES.bias (lit≤ tt) t near) refl refl
      (share_at TT_LOSES (lit≤ tt) (lit≤ tt) tt_share)

  pub tcg_is : t +ℤ drift_at TCG_GAINS t ≡ nearest_tick (inverse tcg_to_tt) t
  tcg_is =
      added t _ (nat_abs TCG_GAINS.known)
      ∙ tcg_nearest t _ _ TCG_GAINS.bias (nat_abs TCG_GAINS.known) (counted TCG_GAINS.bias (lit≤ tt) t near) refl refl
      (share_at TCG_GAINS (lit≤ tt) (lit≤ tt) tcg_share)

  pub tdb_is : t -ℤ drift_at TDB_LOSES t ≡ nearest_tick tcb_to_tdb t
  tdb_is =
      taken_off t _ (nat_abs TDB_LOSES.known)
      ∙ tdb_nearest t _ _ TDB_LOSES.bias (nat_abs TDB_LOSES.known) (counted TDB_LOSES.bias (lit≤ tt) t near) refl refl
      (share_at TDB_LOSES (lit≤ tt) (lit≤ tt) tdb_share)

  pub tcb_is : t +ℤ drift_at TCB_GAINS t ≡ nearest_tick (inverse tcb_to_tdb) t
  tcb_is =
      added t _ (nat_abs TCB_GAINS.known)
      ∙ tcb_nearest t _ _ TCB_GAINS.bias (nat_abs TCB_GAINS.known) (counted TCB_GAINS.bias (lit≤ tt) t near) refl refl
      (share_at TCB_GAINS (lit≤ tt) (lit≤ tt) tcb_share)
