-- The types by the numbers of their kinds, and how many bytes their values take.
use Rattle.std.specs.Prelude.{ℕ, ◌==◌, Option, None, Some, Result, Ok, Err, if◌then◌else◌}
use Rattle.vortex_base.specs.declared.dtype.DType.{DType}
use Rattle.vortex_base.specs.declared.dtype.DType.TheVariants as dtype
use Rattle.vortex_base.specs.declared.types.Nullability.{Nullability}
use Rattle.vortex_base.specs.declared.types.Nullability.TheVariants.{Nullable, NonNullable}
use Rattle.vortex_base.specs.declared.types.PType.{PType}
use Rattle.vortex_base.specs.declared.types.PType.TheVariants as ptype
use Rattle.vortex_capi.specs.declared.status.Status.{Status}
use Rattle.vortex_capi.specs.declared.status.Status.TheVariants.{BadKind}

abbrev pub nullability_of : ℕ → Option Nullability
nullability_of n = if n == 0 then Some NonNullable else (if n == 1 then Some Nullable else None)

-- what values are kept as: dates in 32 bits, times, timestamps and decimals in 64
abbrev pub kind_of : ℕ → Nullability → Option DType
kind_of k n =
    if k == 0 then Some dtype.Null else (
    if k == 1 then Some (dtype.Bool n) else (
    if k == 2 then Some (dtype.Primitive ptype.U8 n) else (
    if k == 3 then Some (dtype.Primitive ptype.U16 n) else (
    if k == 4 then Some (dtype.Primitive ptype.U32 n) else (
    if k == 5 then Some (dtype.Primitive ptype.U64 n) else (
    if k == 6 then Some (dtype.Primitive ptype.I8 n) else (
    if k == 7 then Some (dtype.Primitive ptype.I16 n) else (
    if k == 8 then Some (dtype.Primitive ptype.I32 n) else (
    if k == 9 then Some (dtype.Primitive ptype.I64 n) else (
    if k == 10 then Some (dtype.Utf8 n) else (
    if k == 11 then Some (dtype.Binary n) else (
    if k == 12 then Some (dtype.Primitive ptype.I32 n) else (
    if k == 13 then Some (dtype.Primitive ptype.I64 n) else (
    if k == 14 then Some (dtype.Primitive ptype.I64 n) else (
    if k == 15 then Some (dtype.Primitive ptype.I64 n) else (
    if k == 16 then Some (dtype.Primitive ptype.I64 n) else None))))))))))))))))

abbrev pub ok_or_bad_kind : Option DType → Result DType Status
ok_or_bad_kind None = Err BadKind
ok_or_bad_kind (Some t) = Ok t

-- the type of a kind, with null or without
abbrev pub typed : ℕ → Option Nullability → Result DType Status
typed k None = Err BadKind
typed k (Some n) = ok_or_bad_kind (kind_of k n)

abbrev pub dtype_of : ℕ → ℕ → Result DType Status
dtype_of k n = typed k (nullability_of n)

abbrev pub number_width : PType → ℕ
number_width ptype.U8 = 1
number_width ptype.I8 = 1
number_width ptype.U16 = 2
number_width ptype.I16 = 2
number_width ptype.U32 = 4
number_width ptype.I32 = 4
number_width ptype.U64 = 8
number_width ptype.I64 = 8

-- the bytes that a value takes, for types whose values all take as many
abbrev pub width : DType → Option ℕ
width dtype.Null = Some 0
width (dtype.Bool n) = Some 1
width (dtype.Primitive p n) = Some (number_width p)
width (dtype.Utf8 n) = None
width (dtype.Binary n) = None
width (dtype.MinMaxState e n) = None
