-- A step that reaches an epoch: what the others are not, and what is kept. Assumes nothing.
use Rattle.std.specs.Prelude.{Ok, Err}
use mathlib.Core.Path.{◌≡◌, refl, ap}
use mathlib.Core.Bool.{Bool, true, false, cond}
use Prim.Native.Nat.{ℕ}
use native.Mathlib.Omega.{arith}
use lib.IntN.{ℤ}
use Rattle.scales.specs.declared.answer.Epoch.{Epoch}
use Rattle.scales.specs.declared.answer.Outside.TheVariants as Outside
use Rattle.scales.specs.declared.scale.Scale.{Scale}
use Rattle.scales.specs.Answers.{Answer, Stepped, answer_steps, converted_to, kept_in}
use Rattle.scales.specs.Tick.{is_valid}

pub nowhere : {A : Type 0} {epoch : Epoch} → (Err Outside.Table) ≡ Ok epoch → A
nowhere e = let z : ◌≡◌ {A = ℕ} 0 1 = cc in let no : ⊥ = omega arith in absurd no

pub out_of_range : {A : Type 0} {epoch : Epoch} → (Err Outside.Range) ≡ Ok epoch → A
out_of_range e = let z : ◌≡◌ {A = ℕ} 0 1 = cc in let no : ⊥ = omega arith in absurd no

-- the parts of one epoch
pub same_tick : {x y : Epoch} → x ≡ y → x.tick ≡ y.tick
same_tick e = ap (λ (epoch : Epoch). epoch.tick) e

pub same_scale : {x y : Epoch} → x ≡ y → x.scale ≡ y.scale
same_scale e = ap (λ (epoch : Epoch). epoch.scale) e

-- what is kept is valid, and is the epoch reached
pub kept_reached : (scale : Scale) (tick : ℤ) (epoch : Epoch) → kept_in scale tick ≡ Ok epoch
    → (is_valid tick ≡ true) × (record { scale = scale; tick = tick } ≡ epoch)
unfolding kept_in
kept_reached scale tick epoch e = by (is_valid tick) e
  where
    by : (valid : Bool) → cond {A = Stepped} valid (Ok (record { scale = scale; tick = tick })) (Err Outside.Range)
        ≡ Ok epoch
        → (valid ≡ true) × (record { scale = scale; tick = tick } ≡ epoch)
    by true e = (refl, cc)
    by false e = out_of_range e

-- and what is valid is kept
pub valid_kept : (scale : Scale) (tick : ℤ) → is_valid tick ≡ true
    → kept_in scale tick ≡ Ok (record { scale = scale; tick = tick })
unfolding kept_in
valid_kept scale tick valid = rw valid

-- outside the table comes of no kept tick
pub kept_inside : {A : Type 0} (scale : Scale) (tick : ℤ) → kept_in scale tick ≡ (Err Outside.Table) → A
unfolding kept_in
kept_inside {A} scale tick e = by (is_valid tick) e
  where
    by : (valid : Bool) → cond {A = Stepped} valid (Ok (record { scale = scale; tick = tick })) (Err Outside.Range)
        ≡ (Err Outside.Table) → A
    by true e = let z : ◌≡◌ {A = ℕ} 0 1 = cc in let no : ⊥ = omega arith in absurd no
    by false e = let z : ◌≡◌ {A = ℕ} 0 1 = cc in let no : ⊥ = omega arith in absurd no

-- ---- two accepted answers that are equal: their epochs, and their steps
abbrev epoch_of : Epoch → Answer → Epoch
epoch_of else (Ok converted) = converted.epoch
epoch_of else (Err refusal) = else

pub same_epoch : {x y : Epoch} {m n : ℕ} → converted_to x m ≡ converted_to y n → x ≡ y
same_epoch {x} e = ap (epoch_of x) e

pub same_steps : {x y : Epoch} {m n : ℕ} → converted_to x m ≡ converted_to y n → m ≡ n
unfolding answer_steps
same_steps e = ap answer_steps e
