-- The state types of aggregates.
use Rattle.std.specs.Prelude.{Bool, true, false, Option, Some, None, if◌then◌else◌}
use Rattle.vortex_base.specs.declared.dtype.DType.{DType}
use Rattle.vortex_base.specs.declared.dtype.DType.TheVariants as dtype
use Rattle.vortex_base.specs.declared.types.PType.{PType}
use Rattle.vortex_base.specs.declared.types.PType.TheVariants as ptype
use Rattle.vortex_base.specs.declared.types.Element.{Element}
use Rattle.vortex_base.specs.declared.types.Element.TheVariants as element
use Rattle.vortex_base.specs.declared.types.Nullability.TheVariants.{Nullable, NonNullable}
use Rattle.vortex_base.specs.declared.aggregate.AggregateFnRef.{AggregateFnRef}
use Rattle.vortex_base.specs.declared.aggregate.AggregateFnRef.TheVariants as aggregate
use Rattle.vortex_base.specs.Data.Types.{as_nullable}

-- a column's kind of values, where an aggregate of values supports it
abbrev pub element_of : DType → Option Element
element_of (dtype.Bool n) = Some element.Bool
element_of (dtype.Primitive p n) = Some (element.Primitive p)
element_of (dtype.Utf8 n) = Some element.Utf8
element_of (dtype.Binary n) = Some element.Binary
element_of t = None

abbrev pub is_signed : PType → Bool
is_signed ptype.I8 = true
is_signed ptype.I16 = true
is_signed ptype.I32 = true
is_signed ptype.I64 = true
is_signed p = false

-- a sum is of the widest type of its sign, and a Bool counts as unsigned
abbrev pub sum_type : DType → Option DType
sum_type (dtype.Bool n) = Some (dtype.Primitive ptype.U64 Nullable)
sum_type (dtype.Primitive p n) = Some (dtype.Primitive (if is_signed p then ptype.I64 else ptype.U64) Nullable)
sum_type t = None

-- what the function makes of the type's element, if it has one
abbrev pub of_element : Option Element → (Element → DType) → Option DType
of_element None f = None
of_element (Some e) f = Some (f e)

-- the type of an aggregate's state over an input type that it supports
abbrev pub state_dtype : AggregateFnRef → DType → Option DType
state_dtype aggregate.Max t = of_element (element_of t) (λ e. as_nullable t)
state_dtype aggregate.Min t = of_element (element_of t) (λ e. as_nullable t)
state_dtype aggregate.MinMax t = of_element (element_of t) (λ e. dtype.MinMaxState e Nullable)
state_dtype aggregate.Sum t = sum_type t
state_dtype aggregate.NullCount t = Some (dtype.Primitive ptype.U64 NonNullable)
state_dtype aggregate.UncompressedSizeInBytes t = Some (dtype.Primitive ptype.U64 NonNullable)
state_dtype aggregate.AllNull t = Some (dtype.Bool NonNullable)
state_dtype aggregate.AllNonNull t = Some (dtype.Bool NonNullable)
state_dtype aggregate.NanCount t = None
