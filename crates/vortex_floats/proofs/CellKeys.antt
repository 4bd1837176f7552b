-- The whole numbers of the floats for which cells stand.
use Rattle.std.proofs.Common.{◌≡◌, ℕ, suc, ◌+◌, ◌<◌, ◌≤◌, Bool, true, false, refl, ◌∙◌, ap, arith}
use Rattle.std.specs.Prelude.{ℤ, pos, negsuc, nat_le, nat_lt, if◌then◌else◌}
use Rattle.std.proofs.lemmas.Bool.Decides.{nat_tests}
use Rattle.std.proofs.Math.Nat.{mod-eq_of_lt, add-mod_left}
use Rattle.vortex_logical.specs.declared.float_type.FloatType.{FloatType}
use Rattle.vortex_logical.specs.declared.float_type.FloatType.TheVariants.{F16, F32, F64}
use Rattle.vortex_logical.specs.Floats.{infinity_bits, key, nan_bits, sign_bit, signed_key}
use Rattle.vortex_floats.specs.Cells.{below_zero}

infinity_below_sign : (t : FloatType) → infinity_bits t < sign_bit t
infinity_below_sign F16 = omega arith
infinity_below_sign F32 = omega arith
infinity_below_sign F64 = omega arith

pub infinity_below_nan : (t : FloatType) → infinity_bits t < nan_bits t
infinity_below_nan F16 = omega arith
infinity_below_nan F32 = omega arith
infinity_below_nan F64 = omega arith

-- ---- floats of known numbers

pub key_of_infinity : (t : FloatType) → key t (infinity_bits t) ≡ pos (infinity_bits t)
key_of_infinity F16 = refl
key_of_infinity F32 = refl
key_of_infinity F64 = refl

pub key_of_nan_bits : (t : FloatType) → key t (nan_bits t) ≡ pos (nan_bits t)
key_of_nan_bits F16 = refl
key_of_nan_bits F32 = refl
key_of_nan_bits F64 = refl

pub key_of_minus_infinity : (t : FloatType) → key t (sign_bit t + infinity_bits t) ≡ negsuc (infinity_bits t)
key_of_minus_infinity F16 = refl
key_of_minus_infinity F32 = refl
key_of_minus_infinity F64 = refl

pub key_of_least : (t : FloatType) → key t (below_zero t 1) ≡ negsuc 1
key_of_least F16 = refl
key_of_least F32 = refl
key_of_least F64 = refl

-- ---- by the size

abbrev key_by : FloatType → Bool → ℕ → ℤ
key_by t s m = if nat_lt (infinity_bits t) m then pos (nan_bits t) else signed_key s m

abbrev sized : FloatType → ℕ → ℕ → ℤ
sized t b m = key_by t (nat_le (sign_bit t) b) m

not_nan : (m n : ℕ) → m ≤ n → nat_lt n m ≡ false
not_nan m n h = grind (arith, nat_tests)

not_signed : (m n : ℕ) → m < n → nat_le n m ≡ false
not_signed m n h = grind (arith, nat_tests)

is_signed : (n m : ℕ) → nat_le n (n + m) ≡ true
is_signed n m = grind (arith, nat_tests)

pub key_of_size : (t : FloatType) (m : ℕ) → m ≤ infinity_bits t → key t m ≡ pos m
key_of_size t m h =
    let short = infinity_below_sign t in
    let l : m < sign_bit t = omega arith in
    ap (sized t m) (mod-eq_of_lt l)
    ∙ ap (λ (z : Bool). if z then pos (nan_bits t) else signed_key (nat_le (sign_bit t) m) m) (not_nan m (infinity_bits t) h)
    ∙ ap (λ (s : Bool). signed_key s m) (not_signed m (sign_bit t) l)

pub key_of_negative : (t : FloatType) (m : ℕ) → suc m ≤ infinity_bits t → key t (sign_bit t + suc m) ≡ negsuc (suc m)
key_of_negative t m h =
    let short = infinity_below_sign t in
    let l : suc m < sign_bit t = omega arith in
    ap (sized t (sign_bit t + suc m)) (add-mod_left (sign_bit t) (suc m) ∙ mod-eq_of_lt l)
    ∙ ap (λ (z : Bool). if z then pos (nan_bits t) else signed_key (nat_le (sign_bit t) (sign_bit t + suc m)) (suc m)) (not_nan (suc m) (infinity_bits t) h)
    ∙ ap (λ (s : Bool). signed_key s (suc m)) (is_signed (sign_bit t) (suc m))
