-- Worked rows of the eight types of numbers: their ends, and the numbers next to those.
use Rattle.std.proofs.Common.{refl}
use Rattle.std.specs.Prelude.{◌≡◌, Bool, true, false, List, [], ◌∷◌, Some, None, pos, negsuc, map}
use Rattle.vortex_base.specs.declared.types.Nullability.TheVariants.{NonNullable}
use Rattle.vortex_base.specs.declared.types.PType.{PType}
use Rattle.vortex_base.specs.declared.types.PType.TheVariants as ptype
use Rattle.vortex_base.specs.declared.dtype.DType.TheVariants as dtype
use Rattle.vortex_base.specs.declared.pvalue.PValue.{PValue}
use Rattle.vortex_base.specs.declared.pvalue.PValue.TheVariants.{U8, U16, U32, U64, I8, I16, I32, I64}
use Rattle.vortex_base.specs.declared.scalar_value.ScalarValue.TheVariants as value
use Rattle.vortex_base.specs.Data.Values.{is_value, least, greatest, ptype_of}
use Rattle.vortex_base.specs.Data.Neighbours.{next_number, prev_number}
use Rattle.vortex_base.specs.Data.States.{is_signed}

abbrev unsigned : List PType
unsigned = ptype.U8 ∷ ptype.U16 ∷ ptype.U32 ∷ ptype.U64 ∷ []

abbrev signed : List PType
signed = ptype.I8 ∷ ptype.I16 ∷ ptype.I32 ∷ ptype.I64 ∷ []

no_sign : map is_signed unsigned ≡ false ∷ false ∷ false ∷ false ∷ []
no_sign = refl

sign : map is_signed signed ≡ true ∷ true ∷ true ∷ true ∷ []
sign = refl

least_unsigned : map least unsigned ≡ pos 0 ∷ pos 0 ∷ pos 0 ∷ pos 0 ∷ []
least_unsigned = refl

greatest_unsigned : map greatest unsigned ≡ pos 255 ∷ pos 65535 ∷ pos 4294967295 ∷ pos 18446744073709551615 ∷ []
greatest_unsigned = refl

-- `negsuc n` is the number n + 1 below zero
least_signed : map least signed ≡ negsuc 127 ∷ negsuc 32767 ∷ negsuc 2147483647 ∷ negsuc 9223372036854775807 ∷ []
least_signed = refl

greatest_signed : map greatest signed ≡ pos 127 ∷ pos 32767 ∷ pos 2147483647 ∷ pos 9223372036854775807 ∷ []
greatest_signed = refl

-- ---- unsigned: the least, the greatest, one past it

abbrev are_values : List PValue → List Bool
are_values ps = map (λ p. is_value (value.Primitive p) (dtype.Primitive (ptype_of p) NonNullable)) ps

abbrev up_to_the_greatest : List Bool
up_to_the_greatest = true ∷ true ∷ false ∷ []

u8_values : are_values (U8 0 ∷ U8 255 ∷ U8 256 ∷ []) ≡ up_to_the_greatest
u8_values = refl

u16_values : are_values (U16 0 ∷ U16 65535 ∷ U16 65536 ∷ []) ≡ up_to_the_greatest
u16_values = refl

u32_values : are_values (U32 0 ∷ U32 4294967295 ∷ U32 4294967296 ∷ []) ≡ up_to_the_greatest
u32_values = refl

u64_values : are_values (U64 0 ∷ U64 18446744073709551615 ∷ U64 18446744073709551616 ∷ []) ≡ up_to_the_greatest
u64_values = refl

-- ---- signed: one below the least, the least, the greatest, one past it

abbrev between_the_ends : List Bool
between_the_ends = false ∷ true ∷ true ∷ false ∷ []

i8_values : are_values (I8 (negsuc 128) ∷ I8 (negsuc 127) ∷ I8 (pos 127) ∷ I8 (pos 128) ∷ []) ≡ between_the_ends
i8_values = refl

i16_values : are_values (I16 (negsuc 32768) ∷ I16 (negsuc 32767) ∷ I16 (pos 32767) ∷ I16 (pos 32768) ∷ []) ≡ between_the_ends
i16_values = refl

i32_values : are_values (I32 (negsuc 2147483648) ∷ I32 (negsuc 2147483647) ∷ I32 (pos 2147483647) ∷ I32 (pos 2147483648) ∷ []) ≡ between_the_ends
i32_values = refl

i64_values : are_values (I64 (negsuc 9223372036854775808) ∷ I64 (negsuc 9223372036854775807) ∷ I64 (pos 9223372036854775807) ∷ I64 (pos 9223372036854775808) ∷ []) ≡ between_the_ends
i64_values = refl

-- ---- the number above: of the least, of the one before the greatest, of the greatest

u8_next : map next_number (U8 0 ∷ U8 254 ∷ U8 255 ∷ []) ≡ Some (U8 1) ∷ Some (U8 255) ∷ None ∷ []
u8_next = refl

u16_next : map next_number (U16 0 ∷ U16 65534 ∷ U16 65535 ∷ []) ≡ Some (U16 1) ∷ Some (U16 65535) ∷ None ∷ []
u16_next = refl

u32_next : map next_number (U32 0 ∷ U32 4294967294 ∷ U32 4294967295 ∷ []) ≡ Some (U32 1) ∷ Some (U32 4294967295) ∷ None ∷ []
u32_next = refl

u64_next : map next_number (U64 0 ∷ U64 18446744073709551614 ∷ U64 18446744073709551615 ∷ []) ≡ Some (U64 1) ∷ Some (U64 18446744073709551615) ∷ None ∷ []
u64_next = refl

i8_next : map next_number (I8 (negsuc 127) ∷ I8 (pos 126) ∷ I8 (pos 127) ∷ []) ≡ Some (I8 (negsuc 126)) ∷ Some (I8 (pos 127)) ∷ None ∷ []
i8_next = refl

i16_next : map next_number (I16 (negsuc 32767) ∷ I16 (pos 32766) ∷ I16 (pos 32767) ∷ []) ≡ Some (I16 (negsuc 32766)) ∷ Some (I16 (pos 32767)) ∷ None ∷ []
i16_next = refl

i32_next : map next_number (I32 (negsuc 2147483647) ∷ I32 (pos 2147483646) ∷ I32 (pos 2147483647) ∷ []) ≡ Some (I32 (negsuc 2147483646)) ∷ Some (I32 (pos 2147483647)) ∷ None ∷ []
i32_next = refl

i64_next : map next_number (I64 (negsuc 9223372036854775807) ∷ I64 (pos 9223372036854775806) ∷ I64 (pos 9223372036854775807) ∷ [])
    ≡ Some (I64 (negsuc 9223372036854775806)) ∷ Some (I64 (pos 9223372036854775807)) ∷ None ∷ []
i64_next = refl

-- ---- the number below: of the least, of the one after the least, of the greatest

u8_prev : map prev_number (U8 0 ∷ U8 1 ∷ U8 255 ∷ []) ≡ None ∷ Some (U8 0) ∷ Some (U8 254) ∷ []
u8_prev = refl

u16_prev : map prev_number (U16 0 ∷ U16 1 ∷ U16 65535 ∷ []) ≡ None ∷ Some (U16 0) ∷ Some (U16 65534) ∷ []
u16_prev = refl

u32_prev : map prev_number (U32 0 ∷ U32 1 ∷ U32 4294967295 ∷ []) ≡ None ∷ Some (U32 0) ∷ Some (U32 4294967294) ∷ []
u32_prev = refl

u64_prev : map prev_number (U64 0 ∷ U64 1 ∷ U64 18446744073709551615 ∷ []) ≡ None ∷ Some (U64 0) ∷ Some (U64 18446744073709551614) ∷ []
u64_prev = refl

i8_prev : map prev_number (I8 (negsuc 127) ∷ I8 (negsuc 126) ∷ I8 (pos 127) ∷ []) ≡ None ∷ Some (I8 (negsuc 127)) ∷ Some (I8 (pos 126)) ∷ []
i8_prev = refl

i16_prev : map prev_number (I16 (negsuc 32767) ∷ I16 (negsuc 32766) ∷ I16 (pos 32767) ∷ []) ≡ None ∷ Some (I16 (negsuc 32767)) ∷ Some (I16 (pos 32766)) ∷ []
i16_prev = refl

i32_prev : map prev_number (I32 (negsuc 2147483647) ∷ I32 (negsuc 2147483646) ∷ I32 (pos 2147483647) ∷ []) ≡ None ∷ Some (I32 (negsuc 2147483647)) ∷ Some (I32 (pos 2147483646)) ∷ []
i32_prev = refl

i64_prev : map prev_number (I64 (negsuc 9223372036854775807) ∷ I64 (negsuc 9223372036854775806) ∷ I64 (pos 9223372036854775807) ∷ [])
    ≡ None ∷ Some (I64 (negsuc 9223372036854775807)) ∷ Some (I64 (pos 9223372036854775806)) ∷ []
i64_prev = refl

-- across zero
zero_row : map next_number (I8 (negsuc 0) ∷ I64 (negsuc 0) ∷ []) ≡ Some (I8 (pos 0)) ∷ Some (I64 (pos 0)) ∷ []
zero_row = refl

below_zero_row : map prev_number (I8 (pos 0) ∷ I64 (pos 0) ∷ []) ≡ Some (I8 (negsuc 0)) ∷ Some (I64 (negsuc 0)) ∷ []
below_zero_row = refl
