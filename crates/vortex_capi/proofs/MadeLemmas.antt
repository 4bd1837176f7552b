-- The numbers that bytes make, where there are enough.
use Rattle.std.proofs.Common.{◌≡◌, ◌<◌, ◌≤◌, ◌+◌, ◌*◌, ◌-◌, ◌^◌, ◌∷◌, ℕ, ℤ, zero, suc, pos, negsuc, true, List, [], Some, None, arith, cond, drop, length, refl, get_or, take, ◌∙◌}
use Rattle.std.proofs.lemmas.Bool.Decides.{nat_tests}
use Rattle.std.specs.Prelude.{nat_le, slice_range}
use Rattle.std.proofs.lemmas.List.{get_or-drop, length-drop, length-take-le}
use Rattle.std.proofs.lemmas.Nat.{row_fits}
use Rattle.std.specs.Int.{cast_signed, from_le_bytes, w8, w16, w32, w64}
use Rattle.std.specs.Int.Signed.{mag}
use Rattle.std.proofs.Math.Facts.{sfits_to_z}
use Rattle.vortex_base.specs.declared.pvalue.PValue.{PValue}
use Rattle.vortex_base.specs.declared.pvalue.PValue.TheVariants as number
use Rattle.vortex_base.specs.declared.types.PType.{PType}
use Rattle.vortex_base.specs.declared.types.PType.TheVariants as ptype
use Rattle.vortex_capi.specs.Encoding.{AreNumbers, IsNumberAt, is_number, number_at, number_of}
use Rattle.vortex_capi.specs.Given.{fixed}
use Rattle.vortex_capi.specs.Types.{number_width}

-- each is a byte
abbrev pub AreBytes : List ℕ → Type 0
AreBytes bs = (i : ℕ) → get_or bs i 0 < 256

taken_bytes : (k : ℕ) (bs : List ℕ) → AreBytes bs → AreBytes (take k bs)
taken_bytes zero bs small i = omega arith
taken_bytes (suc k) [] small i = omega arith
taken_bytes (suc k) (b ∷ bs) small zero = small 0
taken_bytes (suc k) (b ∷ bs) small (suc i) = taken_bytes k bs (λ j. small (suc j)) i

module _ (bs : List ℕ) (small : AreBytes bs) where
  below_8 : from_le_bytes w8 bs < 2 ^ 8
  below_8 = omega (arith, small 0)

  below_16 : from_le_bytes w16 bs < 2 ^ 16
  below_16 = omega (arith, small 0, small 1)

  below_32 : from_le_bytes w32 bs < 2 ^ 32
  below_32 = omega (arith, small 0, small 1, small 2, small 3)

  below_64 : from_le_bytes w64 bs < 2 ^ 64
  below_64 = omega (arith, small 0, small 1, small 2, small 3, small 4, small 5, small 6, small 7)

-- ---- within the range of their type

u8_within : (n : ℕ) → n < 2 ^ 8 → is_number ptype.U8 (number.U8 n) ≡ true
u8_within n h = grind (arith, nat_tests)

u16_within : (n : ℕ) → n < 2 ^ 16 → is_number ptype.U16 (number.U16 n) ≡ true
u16_within n h = grind (arith, nat_tests)

u32_within : (n : ℕ) → n < 2 ^ 32 → is_number ptype.U32 (number.U32 n) ≡ true
u32_within n h = grind (arith, nat_tests)

u64_within : (n : ℕ) → n < 2 ^ 64 → is_number ptype.U64 (number.U64 n) ≡ true
u64_within n h = grind (arith, nat_tests)

i8_within : (z : ℤ) → mag z < 2 ^ 7 → is_number ptype.I8 (number.I8 z) ≡ true
i8_within (pos n) h = grind (arith, nat_tests)
i8_within (negsuc n) h = grind (arith, nat_tests)

i8_cast : (n : ℕ) → n < 2 ^ 8 → is_number ptype.I8 (number.I8 (cast_signed w8 n)) ≡ true
i8_cast n h = i8_within (cast_signed w8 n) (sfits_to_z {w = w8} {n = n} (record { fits = h })).sfits

i16_within : (z : ℤ) → mag z < 2 ^ 15 → is_number ptype.I16 (number.I16 z) ≡ true
i16_within (pos n) h = grind (arith, nat_tests)
i16_within (negsuc n) h = grind (arith, nat_tests)

i16_cast : (n : ℕ) → n < 2 ^ 16 → is_number ptype.I16 (number.I16 (cast_signed w16 n)) ≡ true
i16_cast n h = i16_within (cast_signed w16 n) (sfits_to_z {w = w16} {n = n} (record { fits = h })).sfits

i32_within : (z : ℤ) → mag z < 2 ^ 31 → is_number ptype.I32 (number.I32 z) ≡ true
i32_within (pos n) h = grind (arith, nat_tests)
i32_within (negsuc n) h = grind (arith, nat_tests)

i32_cast : (n : ℕ) → n < 2 ^ 32 → is_number ptype.I32 (number.I32 (cast_signed w32 n)) ≡ true
i32_cast n h = i32_within (cast_signed w32 n) (sfits_to_z {w = w32} {n = n} (record { fits = h })).sfits

i64_within : (z : ℤ) → mag z < 2 ^ 63 → is_number ptype.I64 (number.I64 z) ≡ true
i64_within (pos n) h = grind (arith, nat_tests)
i64_within (negsuc n) h = grind (arith, nat_tests)

i64_cast : (n : ℕ) → n < 2 ^ 64 → is_number ptype.I64 (number.I64 (cast_signed w64 n)) ≡ true
i64_cast n h = i64_within (cast_signed w64 n) (sfits_to_z {w = w64} {n = n} (record { fits = h })).sfits

-- ---- where the bytes are there

-- the bytes make a number of the type
pub record IsMade (t : PType) (bs : List ℕ) : Type 0 where
  pub number : PValue
  pub read : number_of t bs ≡ Some number
  pub fits : is_number t number ≡ true

made : (w : ℕ) (f : List ℕ → PValue) (bs : List ℕ) → w ≤ length bs → cond (nat_le w (length bs)) (Some (f (take w bs))) None ≡ Some (f (take w bs))
made w f bs h = let t : nat_le w (length bs) ≡ true = grind (arith, nat_tests) in rw t refl

pub is_made : (t : PType) (bs : List ℕ) → AreBytes bs → number_width t ≤ length bs → IsMade t bs
is_made ptype.U8 bs small h = record { number = _; read = made 1 (λ b. number.U8 (from_le_bytes w8 b)) bs h; fits = u8_within _ (below_8 (take 1 bs) (taken_bytes 1 bs small)) }
is_made ptype.U16 bs small h = record { number = _; read = made 2 (λ b. number.U16 (from_le_bytes w16 b)) bs h; fits = u16_within _ (below_16 (take 2 bs) (taken_bytes 2 bs small)) }
is_made ptype.U32 bs small h = record { number = _; read = made 4 (λ b. number.U32 (from_le_bytes w32 b)) bs h; fits = u32_within _ (below_32 (take 4 bs) (taken_bytes 4 bs small)) }
is_made ptype.U64 bs small h = record { number = _; read = made 8 (λ b. number.U64 (from_le_bytes w64 b)) bs h; fits = u64_within _ (below_64 (take 8 bs) (taken_bytes 8 bs small)) }
is_made ptype.I8 bs small h = record { number = _; read = made 1 (λ b. number.I8 (cast_signed w8 (from_le_bytes w8 b))) bs h; fits = i8_cast _ (below_8 (take 1 bs) (taken_bytes 1 bs small)) }
is_made ptype.I16 bs small h = record { number = _; read = made 2 (λ b. number.I16 (cast_signed w16 (from_le_bytes w16 b))) bs h; fits = i16_cast _ (below_16 (take 2 bs) (taken_bytes 2 bs small)) }
is_made ptype.I32 bs small h = record { number = _; read = made 4 (λ b. number.I32 (cast_signed w32 (from_le_bytes w32 b))) bs h; fits = i32_cast _ (below_32 (take 4 bs) (taken_bytes 4 bs small)) }
is_made ptype.I64 bs small h = record { number = _; read = made 8 (λ b. number.I64 (cast_signed w64 (from_le_bytes w64 b))) bs h; fits = i64_cast _ (below_64 (take 8 bs) (taken_bytes 8 bs small)) }

-- ---- numbers one behind the other

module _ (t : PType) (values : List ℕ) (i : ℕ) (h : i * number_width t + number_width t ≤ length values) where
  abbrev from : ℕ
  from = i * number_width t

  -- the bytes of number i
  abbrev pub part : List ℕ
  part = slice_range values from (from + number_width t)

  pub part_there : fixed values (number_width t) i ≡ Some part
  part_there =
      let a : nat_le from (from + number_width t) ≡ true = grind (arith, nat_tests) in
      let b : nat_le (from + number_width t) (length values) ≡ true = grind (arith, nat_tests) in
      rw (a, b) refl

  pub part_long : length part ≡ number_width t
  part_long =
      let rest : length (drop from values) ≡ length values - from = length-drop from values in
      let taken = length-take-le (from + number_width t - from) (drop from values) (omega (arith, rest, h)) in
      omega (arith, taken)

  pub read_part : number_at t values i ≡ number_of t part
  read_part = rw part_there refl

  -- number i, of its type
  pub number_there : AreBytes values → IsNumberAt t values i
  number_there small =
      let m = is_made t part (taken_bytes (from + number_width t - from) (drop from values) (λ k. rw (get_or-drop from values k 0) (small (from + k)))) (omega (arith, part_long)) in
      record { number = m.number; read = read_part ∙ m.read; fits = m.fits }

pub numbers_there : (t : PType) (values : List ℕ) (n : ℕ) → AreBytes values → n * number_width t ≤ length values → AreNumbers t values n
numbers_there t values n small h i within = number_there t values i (let row = row_fits i (number_width t) n (number_width t) within (omega arith) in omega (arith, row, h)) small
