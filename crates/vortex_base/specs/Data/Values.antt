-- What a value of a type is, and the one total order of values.
use Rattle.std.specs.Prelude.{ℕ, ◌^◌, ◌-◌, Bool, true, false, ◌==◌, ◌&&◌, ℤ, pos, negsuc, int_le, List, []}
use Rattle.std.specs.Str.{is_utf8}
use Rattle.std.specs.declared.cmp.Ordering.{Ordering}
use Rattle.std.specs.Ordering.{nat_cmp, int_cmp, on, then_cmp}
use Rattle.std.specs.Cmp.Lexicographic.{slice_cmp}
use Rattle.vortex_base.specs.Data.Types.{ptype_index}
use Rattle.vortex_base.specs.declared.types.PType.{PType}
use Rattle.vortex_base.specs.declared.types.PType.TheVariants as ptype
use Rattle.vortex_base.specs.declared.dtype.DType.{DType}
use Rattle.vortex_base.specs.declared.dtype.DType.TheVariants as dtype
use Rattle.vortex_base.specs.declared.pvalue.PValue.{PValue}
use Rattle.vortex_base.specs.declared.pvalue.PValue.TheVariants as number
use Rattle.vortex_base.specs.declared.scalar_value.ScalarValue.{ScalarValue}
use Rattle.vortex_base.specs.declared.scalar_value.ScalarValue.TheVariants as value

abbrev pub ptype_of : PValue → PType
ptype_of (number.U8 n) = ptype.U8
ptype_of (number.U16 n) = ptype.U16
ptype_of (number.U32 n) = ptype.U32
ptype_of (number.U64 n) = ptype.U64
ptype_of (number.I8 n) = ptype.I8
ptype_of (number.I16 n) = ptype.I16
ptype_of (number.I32 n) = ptype.I32
ptype_of (number.I64 n) = ptype.I64

-- the number itself, whatever its type
abbrev pub number_of : PValue → ℤ
number_of (number.U8 n) = pos n
number_of (number.U16 n) = pos n
number_of (number.U32 n) = pos n
number_of (number.U64 n) = pos n
number_of (number.I8 n) = n
number_of (number.I16 n) = n
number_of (number.I32 n) = n
number_of (number.I64 n) = n

-- the least number of a type, and the greatest
abbrev pub least : PType → ℤ
least ptype.U8 = pos 0
least ptype.U16 = pos 0
least ptype.U32 = pos 0
least ptype.U64 = pos 0
least ptype.I8 = negsuc (2 ^ 7 - 1)
least ptype.I16 = negsuc (2 ^ 15 - 1)
least ptype.I32 = negsuc (2 ^ 31 - 1)
least ptype.I64 = negsuc (2 ^ 63 - 1)

abbrev pub greatest : PType → ℤ
greatest ptype.U8 = pos (2 ^ 8 - 1)
greatest ptype.U16 = pos (2 ^ 16 - 1)
greatest ptype.U32 = pos (2 ^ 32 - 1)
greatest ptype.U64 = pos (2 ^ 64 - 1)
greatest ptype.I8 = pos (2 ^ 7 - 1)
greatest ptype.I16 = pos (2 ^ 15 - 1)
greatest ptype.I32 = pos (2 ^ 31 - 1)
greatest ptype.I64 = pos (2 ^ 63 - 1)

-- the number lies from the least to the greatest of its type
abbrev pub in_range : PValue → Bool
in_range p = int_le (least (ptype_of p)) (number_of p) && int_le (number_of p) (greatest (ptype_of p))

-- a value of the type: it is of the type's kind, a number is of the type's PType and in its range, and a text is UTF-8
abbrev pub is_value : ScalarValue → DType → Bool
is_value (value.Bool b) (dtype.Bool n) = true
is_value (value.Primitive p) (dtype.Primitive t n) = (ptype_index (ptype_of p) == ptype_index t) && in_range p
is_value (value.Utf8 bs) (dtype.Utf8 n) = is_utf8 bs
is_value (value.Binary bs) (dtype.Binary n) = true
is_value v t = false

-- the place of a value's kind among the four
abbrev pub kind_index : ScalarValue → ℕ
kind_index (value.Bool b) = 0
kind_index (value.Primitive p) = 1
kind_index (value.Utf8 bs) = 2
kind_index (value.Binary bs) = 3

-- the place of a number's type among the eight
abbrev pub ptype_place : ScalarValue → ℕ
ptype_place (value.Primitive p) = ptype_index (ptype_of p)
ptype_place v = 0

-- false is 0 and true is 1
abbrev pub whole : ScalarValue → ℤ
whole (value.Bool false) = pos 0
whole (value.Bool true) = pos 1
whole (value.Primitive p) = number_of p
whole v = pos 0

abbrev pub bytes_of : ScalarValue → List ℕ
bytes_of (value.Utf8 bs) = bs
bytes_of (value.Binary bs) = bs
bytes_of v = []

-- kinds in order, then false before true and numbers by type and then by size, then texts and bytes by their bytes
abbrev pub value_cmp : ScalarValue → ScalarValue → Ordering
value_cmp = then_cmp (on kind_index nat_cmp) (then_cmp (on ptype_place nat_cmp) (then_cmp (on whole int_cmp) (on bytes_of (slice_cmp nat_cmp))))
