-- Worked rows: what columns stand for by their kinds, units and digits, each case by computation.
use Rattle.std.proofs.Common.{◌≡◌, ℕ, [], ◌∷◌, None, Some, Ok, Err, ap, refl}
use Rattle.vortex_base.specs.declared.dtype.DType.TheVariants as dtype
use Rattle.vortex_base.specs.declared.types.Nullability.TheVariants.{Nullable, NonNullable}
use Rattle.vortex_base.specs.declared.types.PType.TheVariants as ptype
use Rattle.vortex_logical.specs.declared.decimal.DecimalDType.{DecimalDType}
use Rattle.vortex_logical.specs.declared.logical_type.LogicalType.TheVariants.{Date, Decimal, Time, Timestamp, TimestampTz}
use Rattle.vortex_logical.specs.declared.time_unit.TimeUnit.TheVariants.{Seconds, Milliseconds, Microseconds, Nanoseconds}
use Rattle.vortex_parquet.specs.Meanings.{decimal_type}
use Rattle.vortex_capi.specs.LogicalKinds.{decimals_in, logical_of, cells_told, or_bad_kind}
use Rattle.vortex_capi.specs.Scopes.{schema_given, scope_given}
use Rattle.vortex_capi.specs.Statuses.{at_column, nowhere}
use Rattle.vortex_sql.specs.declared.cells.Cells.TheVariants.{Exact, Values}
use Rattle.vortex_capi.specs.declared.field.Field.{Field}
use Rattle.vortex_capi.specs.declared.logical.Kinds.TheVariants.{Logical, Plain}
use Rattle.vortex_capi.specs.declared.status.Status.TheVariants.{BadKind, BadLength, BadName}
use Rattle.vortex_capi.proofs.WorkedRows.TableRows.{field, lent}
use Rattle.vortex_parquet.proofs.DecimalTypes.{of_digits}

abbrev of_kind : (kind unit precision scale : ℕ) → Field
of_kind k u p s = record { name = lent (97 ∷ []); kind = k; nullable = 0; unit = u; precision = p; scale = s }

-- ---- the values themselves

nulls : logical_of (of_kind 0 0 0 0) ≡ Ok None
nulls = refl

bytes : logical_of (of_kind 11 0 0 0) ≡ Ok None
bytes = refl

bytes_with_a_unit : logical_of (of_kind 11 1 0 0) ≡ Err BadKind
bytes_with_a_unit = refl

bytes_with_digits : logical_of (of_kind 11 0 1 0) ≡ Err BadKind
bytes_with_digits = refl

bytes_with_a_scale : logical_of (of_kind 11 0 0 1) ≡ Err BadKind
bytes_with_a_scale = refl

-- ---- dates

dates : logical_of (of_kind 12 0 0 0) ≡ Ok (Some Date)
dates = refl

dates_with_a_unit : logical_of (of_kind 12 1 0 0) ≡ Err BadKind
dates_with_a_unit = refl

dates_with_digits : logical_of (of_kind 12 0 1 0) ≡ Err BadKind
dates_with_digits = refl

dates_with_a_scale : logical_of (of_kind 12 0 0 1) ≡ Err BadKind
dates_with_a_scale = refl

-- ---- times and timestamps

times : logical_of (of_kind 13 1 0 0) ≡ Ok (Some (Time Seconds))
times = refl

timestamps : logical_of (of_kind 14 2 0 0) ≡ Ok (Some (Timestamp Milliseconds))
timestamps = refl

instants : logical_of (of_kind 15 3 0 0) ≡ Ok (Some (TimestampTz Microseconds))
instants = refl

nanoseconds : logical_of (of_kind 13 4 0 0) ≡ Ok (Some (Time Nanoseconds))
nanoseconds = refl

times_without_a_unit : logical_of (of_kind 13 0 0 0) ≡ Err BadKind
times_without_a_unit = refl

no_such_unit : logical_of (of_kind 14 5 0 0) ≡ Err BadKind
no_such_unit = refl

instants_with_digits : logical_of (of_kind 15 1 1 0) ≡ Err BadKind
instants_with_digits = refl

instants_with_a_scale : logical_of (of_kind 15 1 0 1) ≡ Err BadKind
instants_with_a_scale = refl

-- ---- decimals

no_digits : logical_of (of_kind 16 0 0 0) ≡ Err BadKind
unfolding decimal_type
no_digits = refl

too_many_digits : logical_of (of_kind 16 0 19 2) ≡ Err BadKind
too_many_digits = refl

too_many_behind : logical_of (of_kind 16 0 9 39) ≡ Err BadKind
unfolding decimal_type
too_many_behind = refl

decimals_with_a_unit : logical_of (of_kind 16 1 9 2) ≡ Err BadKind
decimals_with_a_unit = refl

decimals : (d : DecimalDType) → d.precision ≡ 18 → d.scale ≡ 2 → logical_of (of_kind 16 0 18 2) ≡ Ok (Some (Decimal d))
decimals d digits behind = ap (λ o. or_bad_kind (decimals_in o)) (of_digits 18 2 d digits behind)

-- ---- other kinds

no_kind : logical_of (of_kind 17 0 0 0) ≡ Err BadKind
no_kind = refl

nothing_told : cells_told (of_kind 17 0 0 0) ≡ Values
nothing_told = refl

days_told : cells_told (of_kind 12 0 0 0) ≡ Exact Date
days_told = refl

-- ---- columns

-- a call of plain kinds takes no dates
no_dates : scope_given Plain (of_kind 12 0 0 0 ∷ []) ≡ Err (at_column BadKind 0)
no_dates = refl

no_unit : scope_given Plain (of_kind 9 1 0 0 ∷ []) ≡ Err (at_column BadKind 0)
no_unit = refl

some_dates : scope_given Logical (of_kind 12 0 0 0 ∷ []) ≡ Ok ((97 ∷ [], dtype.Primitive ptype.I32 NonNullable) ∷ [])
some_dates = refl

plain_and_logical : schema_given (field (98 ∷ []) 10 1 ∷ of_kind 14 2 0 0 ∷ []) ≡ Ok (record {
  scope = (98 ∷ [], dtype.Utf8 Nullable) ∷ (97 ∷ [], dtype.Primitive ptype.I64 NonNullable) ∷ [];
  cells = Values ∷ Exact (Timestamp Milliseconds) ∷ [];
})
plain_and_logical = refl

twice : schema_given (of_kind 12 0 0 0 ∷ of_kind 9 0 0 0 ∷ []) ≡ Err (at_column BadName 1)
twice = refl

no_columns : schema_given [] ≡ Err (nowhere BadLength)
no_columns = refl
