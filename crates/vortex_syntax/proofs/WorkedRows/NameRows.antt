-- Worked rows: names and types, computed.
use Rattle.std.proofs.Common.{◌≡◌, [], true, false, None, Some, codes, refl}
use Rattle.vortex_base.specs.declared.dtype.DType.TheVariants as dtype
use Rattle.vortex_base.specs.declared.types.Nullability.TheVariants.{Nullable, NonNullable}
use Rattle.vortex_base.specs.declared.types.PType.TheVariants as ptype
use Rattle.vortex_syntax.specs.Names.{is_name, type_of}

name_by_letters : is_name (codes "_a9") ≡ true
name_by_letters = refl

name_by_digit : is_name (codes "1a") ≡ false
name_by_digit = refl

name_with_dash : is_name (codes "a-b") ≡ false
name_with_dash = refl

name_with_dot : is_name (codes "a.b") ≡ false
name_with_dot = refl

name_in_capitals : is_name (codes "AZ_09") ≡ true
name_in_capitals = refl

no_name : is_name [] ≡ false
no_name = refl

longest_name : is_name (codes "aaaaaaaaaaaaaaaabbbbbbbbbbbbbbbbccccccccccccccccdddddddddddddddd") ≡ true
longest_name = refl

longer_name : is_name (codes "aaaaaaaaaaaaaaaabbbbbbbbbbbbbbbbccccccccccccccccdddddddddddddddde") ≡ false
longer_name = refl

null_type : type_of (codes "null") ≡ Some dtype.Null
null_type = refl

-- null is a value of it anyway
null_with_mark : type_of (codes "null?") ≡ None
null_with_mark = refl

bool_type : type_of (codes "bool") ≡ Some (dtype.Bool NonNullable)
bool_type = refl

small_type : type_of (codes "u8?") ≡ Some (dtype.Primitive ptype.U8 Nullable)
small_type = refl

signed_type : type_of (codes "i64") ≡ Some (dtype.Primitive ptype.I64 NonNullable)
signed_type = refl

text_type : type_of (codes "utf8?") ≡ Some (dtype.Utf8 Nullable)
text_type = refl

bytes_type : type_of (codes "binary") ≡ Some (dtype.Binary NonNullable)
bytes_type = refl

two_marks : type_of (codes "i8??") ≡ None
two_marks = refl

other_type : type_of (codes "i128") ≡ None
other_type = refl

type_u8 : type_of (codes "u8") ≡ Some (dtype.Primitive ptype.U8 NonNullable)
type_u8 = refl

type_u16 : type_of (codes "u16") ≡ Some (dtype.Primitive ptype.U16 NonNullable)
type_u16 = refl

type_u16_with_null : type_of (codes "u16?") ≡ Some (dtype.Primitive ptype.U16 Nullable)
type_u16_with_null = refl

type_u32 : type_of (codes "u32") ≡ Some (dtype.Primitive ptype.U32 NonNullable)
type_u32 = refl

type_u32_with_null : type_of (codes "u32?") ≡ Some (dtype.Primitive ptype.U32 Nullable)
type_u32_with_null = refl

type_u64 : type_of (codes "u64") ≡ Some (dtype.Primitive ptype.U64 NonNullable)
type_u64 = refl

type_u64_with_null : type_of (codes "u64?") ≡ Some (dtype.Primitive ptype.U64 Nullable)
type_u64_with_null = refl

type_i8 : type_of (codes "i8") ≡ Some (dtype.Primitive ptype.I8 NonNullable)
type_i8 = refl

type_i8_with_null : type_of (codes "i8?") ≡ Some (dtype.Primitive ptype.I8 Nullable)
type_i8_with_null = refl

type_i16 : type_of (codes "i16") ≡ Some (dtype.Primitive ptype.I16 NonNullable)
type_i16 = refl

type_i16_with_null : type_of (codes "i16?") ≡ Some (dtype.Primitive ptype.I16 Nullable)
type_i16_with_null = refl

type_i32 : type_of (codes "i32") ≡ Some (dtype.Primitive ptype.I32 NonNullable)
type_i32 = refl

type_i32_with_null : type_of (codes "i32?") ≡ Some (dtype.Primitive ptype.I32 Nullable)
type_i32_with_null = refl

type_i64_with_null : type_of (codes "i64?") ≡ Some (dtype.Primitive ptype.I64 Nullable)
type_i64_with_null = refl

bool_with_null : type_of (codes "bool?") ≡ Some (dtype.Bool Nullable)
bool_with_null = refl

text_without_null : type_of (codes "utf8") ≡ Some (dtype.Utf8 NonNullable)
text_without_null = refl

bytes_with_null : type_of (codes "binary?") ≡ Some (dtype.Binary Nullable)
bytes_with_null = refl

mark_in_front : type_of (codes "?i8") ≡ None
mark_in_front = refl

capital_type : type_of (codes "Bool") ≡ None
capital_type = refl

no_type : type_of [] ≡ None
no_type = refl

mark_alone : type_of (codes "?") ≡ None
mark_alone = refl
