-- Types, and whether null is a value of one.
use Rattle.std.specs.Prelude.{ℕ, Bool, true, false}
use Rattle.std.proofs.Common.{rules}
use Rattle.vortex_base.specs.Data.Exact.{IsExact}
use Rattle.vortex_base.specs.declared.dtype.DType.{DType}
use Rattle.vortex_base.specs.declared.dtype.DType.TheVariants as dtype
use Rattle.vortex_base.specs.declared.types.Nullability.{Nullability}
use Rattle.vortex_base.specs.declared.types.Nullability.TheVariants.{Nullable, NonNullable}
use Rattle.vortex_base.specs.declared.types.PType.{PType}
use Rattle.vortex_base.specs.declared.types.PType.TheVariants as ptype
use Rattle.vortex_base.specs.contracts.dtype.DTypePartialEq.TheImpl as dtypes

-- the place of a type of numbers among the eight
abbrev pub ptype_index : PType → ℕ
ptype_index ptype.U8 = 0
ptype_index ptype.U16 = 1
ptype_index ptype.U32 = 2
ptype_index ptype.U64 = 3
ptype_index ptype.I8 = 4
ptype_index ptype.I16 = 5
ptype_index ptype.I32 = 6
ptype_index ptype.I64 = 7

abbrev pub allows_null : Nullability → Bool
allows_null Nullable = true
allows_null NonNullable = false

-- null is a value of the type
abbrev pub is_nullable : DType → Bool
is_nullable dtype.Null = true
is_nullable (dtype.Bool n) = allows_null n
is_nullable (dtype.Primitive p n) = allows_null n
is_nullable (dtype.Utf8 n) = allows_null n
is_nullable (dtype.Binary n) = allows_null n
is_nullable (dtype.MinMaxState e n) = allows_null n

-- the type has no value but null
abbrev pub has_null_alone : DType → Bool
has_null_alone dtype.Null = true
has_null_alone (dtype.Bool n) = false
has_null_alone (dtype.Primitive p n) = false
has_null_alone (dtype.Utf8 n) = false
has_null_alone (dtype.Binary n) = false
has_null_alone (dtype.MinMaxState e n) = true

-- the type, with null
abbrev pub as_nullable : DType → DType
as_nullable dtype.Null = dtype.Null
as_nullable (dtype.Bool n) = dtype.Bool Nullable
as_nullable (dtype.Primitive p n) = dtype.Primitive p Nullable
as_nullable (dtype.Utf8 n) = dtype.Utf8 Nullable
as_nullable (dtype.Binary n) = dtype.Binary Nullable
as_nullable (dtype.MinMaxState e n) = dtype.MinMaxState e Nullable

-- whether two types are one
abbrev pub dtype_eq : DType → DType → Bool
dtype_eq = dtypes.ghosts.eq

-- whether two types are one, nullability aside
abbrev pub eq_ignore_nullability : DType → DType → Bool
eq_ignore_nullability s t = dtype_eq (as_nullable s) (as_nullable t)

pub dtype_eq_is_exact : IsExact dtype_eq
dtype_eq_is_exact a b = search rules
