-- Worked rows of each type, with null and without: where null may stand, and what values the type has.
use Rattle.std.proofs.Common.{refl}
use Rattle.std.specs.Prelude.{◌≡◌, true, false, List, [], ◌∷◌, None, Ok, Err, map}
use Rattle.vortex_base.specs.declared.types.Nullability.{Nullability}
use Rattle.vortex_base.specs.declared.types.Nullability.TheVariants.{Nullable, NonNullable}
use Rattle.vortex_base.specs.declared.types.PType.TheVariants.{U8, U16, U32, U64, I8, I16, I32, I64}
use Rattle.vortex_base.specs.declared.types.Element.TheVariants as element
use Rattle.vortex_base.specs.declared.dtype.DType.{DType}
use Rattle.vortex_base.specs.declared.dtype.DType.TheVariants as dtype
use Rattle.vortex_base.specs.declared.error.BaseError.TheVariants.{Mismatch}
use Rattle.vortex_base.specs.Data.Columns.{column_of}
use Rattle.vortex_base.specs.Data.Scalars.{is_optional_value}
use Rattle.vortex_base.specs.Data.Types.{as_nullable, eq_ignore_nullability, has_null_alone, is_nullable}

-- every type that says whether it has null, the states of each kind included
abbrev types_with : Nullability → List DType
types_with n =
    dtype.Bool n ∷ dtype.Primitive U8 n ∷ dtype.Primitive U16 n ∷ dtype.Primitive U32 n ∷ dtype.Primitive U64 n
    ∷ dtype.Primitive I8 n ∷ dtype.Primitive I16 n ∷ dtype.Primitive I32 n ∷ dtype.Primitive I64 n
    ∷ dtype.Utf8 n ∷ dtype.Binary n
    ∷ dtype.MinMaxState element.Bool n ∷ dtype.MinMaxState (element.Primitive I64) n
    ∷ dtype.MinMaxState element.Utf8 n ∷ dtype.MinMaxState element.Binary n ∷ []

-- each has null where it says so
nullable_types : map is_nullable (types_with Nullable)
    ≡ true ∷ true ∷ true ∷ true ∷ true ∷ true ∷ true ∷ true ∷ true ∷ true ∷ true ∷ true ∷ true ∷ true ∷ true ∷ []
nullable_types = refl

-- and none where it says so
plain_types : map is_nullable (types_with NonNullable)
    ≡ false ∷ false ∷ false ∷ false ∷ false ∷ false ∷ false ∷ false ∷ false ∷ false ∷ false ∷ false ∷ false ∷ false ∷ false ∷ []
plain_types = refl

-- so null may stand under each of the first
null_under_nullable : map (is_optional_value None) (types_with Nullable)
    ≡ true ∷ true ∷ true ∷ true ∷ true ∷ true ∷ true ∷ true ∷ true ∷ true ∷ true ∷ true ∷ true ∷ true ∷ true ∷ []
null_under_nullable = refl

-- and under none of the others
null_under_plain : map (is_optional_value None) (types_with NonNullable)
    ≡ false ∷ false ∷ false ∷ false ∷ false ∷ false ∷ false ∷ false ∷ false ∷ false ∷ false ∷ false ∷ false ∷ false ∷ false ∷ []
null_under_plain = refl

-- a column of one null is made of the first alone
null_columns : map (λ t. column_of t (None ∷ []) 0) (types_with Nullable)
    ≡ map (λ t. Ok (record { dtype = t; values = None ∷ []; size = 0 })) (types_with Nullable)
null_columns = refl

refused_columns : map (λ t. column_of t (None ∷ []) 0) (types_with NonNullable)
    ≡ Err Mismatch ∷ Err Mismatch ∷ Err Mismatch ∷ Err Mismatch ∷ Err Mismatch ∷ Err Mismatch ∷ Err Mismatch ∷ Err Mismatch ∷ Err Mismatch ∷ Err Mismatch ∷ Err Mismatch ∷ Err Mismatch ∷ Err Mismatch ∷ Err Mismatch ∷ Err Mismatch ∷ []
refused_columns = refl

-- with null each is the type that says so
with_null : map as_nullable (types_with NonNullable) ≡ types_with Nullable
with_null = refl

still_with_null : map as_nullable (types_with Nullable) ≡ types_with Nullable
still_with_null = refl

-- which is equal to it but for null
equal_but_null : map (λ t. eq_ignore_nullability t (as_nullable t)) (types_with NonNullable)
    ≡ true ∷ true ∷ true ∷ true ∷ true ∷ true ∷ true ∷ true ∷ true ∷ true ∷ true ∷ true ∷ true ∷ true ∷ true ∷ []
equal_but_null = refl

-- states have no value but null
null_alone : map has_null_alone (types_with NonNullable)
    ≡ false ∷ false ∷ false ∷ false ∷ false ∷ false ∷ false ∷ false ∷ false ∷ false ∷ false ∷ true ∷ true ∷ true ∷ true ∷ []
null_alone = refl

null_alone_or_null : map has_null_alone (types_with Nullable)
    ≡ false ∷ false ∷ false ∷ false ∷ false ∷ false ∷ false ∷ false ∷ false ∷ false ∷ false ∷ true ∷ true ∷ true ∷ true ∷ []
null_alone_or_null = refl

-- and the type of null has none either, but has null
null_has_null : is_nullable dtype.Null ≡ true
null_has_null = refl

null_is_all : has_null_alone dtype.Null ≡ true
null_is_all = refl

null_under_null : is_optional_value None dtype.Null ≡ true
null_under_null = refl
