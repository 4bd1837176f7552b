-- By which keys the values of a type are compared while a column is measured.
use Rattle.std.specs.Prelude.{ℕ, ℤ, List, Bool, true, false, Option, Some, None}
use Rattle.vortex_base.specs.declared.dtype.DType.{DType}
use Rattle.vortex_base.specs.declared.dtype.DType.TheVariants as dtype
use Rattle.vortex_base.specs.declared.types.PType.{PType}
use Rattle.vortex_base.specs.declared.types.PType.TheVariants as ptype
use Rattle.vortex_base.specs.declared.pvalue.PValue.TheVariants as number
use Rattle.vortex_base.specs.declared.scalar_value.ScalarValue.{ScalarValue}
use Rattle.vortex_base.specs.declared.scalar_value.ScalarValue.TheVariants as value
use Rattle.vortex_stats.specs.declared.measure.pass.Family.{Family}
use Rattle.vortex_stats.specs.declared.measure.pass.Family.TheVariants.{Signed, Unsigned, Texts, Bytes, Nulls}

-- numbers of a type are signed or unsigned
abbrev pub number_family : PType → Family
number_family ptype.U8 = Unsigned
number_family ptype.U16 = Unsigned
number_family ptype.U32 = Unsigned
number_family ptype.U64 = Unsigned
number_family ptype.I8 = Signed
number_family ptype.I16 = Signed
number_family ptype.I32 = Signed
number_family ptype.I64 = Signed

-- truths are unsigned numbers, and what has no values is of the family of nulls
abbrev pub family_of : DType → Family
family_of dtype.Null = Nulls
family_of (dtype.Bool n) = Unsigned
family_of (dtype.Primitive p n) = number_family p
family_of (dtype.Utf8 n) = Texts
family_of (dtype.Binary n) = Bytes
family_of (dtype.MinMaxState e n) = Nulls

-- the number of an optional value that is a signed one
abbrev pub signed_number : Option ScalarValue → Option ℤ
signed_number (Some (value.Primitive (number.I8 n))) = Some n
signed_number (Some (value.Primitive (number.I16 n))) = Some n
signed_number (Some (value.Primitive (number.I32 n))) = Some n
signed_number (Some (value.Primitive (number.I64 n))) = Some n
signed_number x = None

-- the number of an optional value that is an unsigned one, a true being 1
abbrev pub unsigned_number : Option ScalarValue → Option ℕ
unsigned_number (Some (value.Bool false)) = Some 0
unsigned_number (Some (value.Bool true)) = Some 1
unsigned_number (Some (value.Primitive (number.U8 n))) = Some n
unsigned_number (Some (value.Primitive (number.U16 n))) = Some n
unsigned_number (Some (value.Primitive (number.U32 n))) = Some n
unsigned_number (Some (value.Primitive (number.U64 n))) = Some n
unsigned_number x = None

-- the bytes of an optional value that is a text
abbrev pub text_of : Option ScalarValue → Option (List ℕ)
text_of (Some (value.Utf8 bs)) = Some bs
text_of x = None

-- the bytes of an optional value that is a string of bytes
abbrev pub bytes_of : Option ScalarValue → Option (List ℕ)
bytes_of (Some (value.Binary bs)) = Some bs
bytes_of x = None
