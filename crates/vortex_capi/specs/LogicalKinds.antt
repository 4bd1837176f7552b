-- What the values of a caller's columns stand for, by the numbers of their kinds, units and digits.
use Rattle.std.specs.Prelude.{ℕ, Bool, ◌==◌, ◌&&◌, nat_le, Option, None, Some, Result, Ok, Err, if◌then◌else◌}
use Rattle.vortex_logical.specs.declared.decimal.DecimalDType.{DecimalDType}
use Rattle.vortex_logical.specs.declared.logical_type.LogicalType.{LogicalType}
use Rattle.vortex_logical.specs.declared.logical_type.LogicalType.TheVariants.{Date, Time, Timestamp, TimestampTz, Decimal}
use Rattle.vortex_logical.specs.declared.time_unit.TimeUnit.{TimeUnit}
use Rattle.vortex_logical.specs.declared.time_unit.TimeUnit.TheVariants.{Seconds, Milliseconds, Microseconds, Nanoseconds}
use Rattle.vortex_parquet.specs.Meanings.{decimal_type}
use Rattle.vortex_sql.specs.declared.cells.Cells.{Cells}
use Rattle.vortex_sql.specs.declared.cells.Cells.TheVariants.{Exact, Values}
use Rattle.vortex_capi.specs.declared.field.Field.{Field}
use Rattle.vortex_capi.specs.declared.status.Status.{Status}
use Rattle.vortex_capi.specs.declared.status.Status.TheVariants.{BadKind}

abbrev pub unit_of : ℕ → Option TimeUnit
unit_of u =
    if u == 1 then Some Seconds else (
    if u == 2 then Some Milliseconds else (
    if u == 3 then Some Microseconds else (
    if u == 4 then Some Nanoseconds else None)))

abbrev pub time_of : (kind : ℕ) → TimeUnit → Option LogicalType
time_of k u =
    if k == 13 then Some (Time u) else (
    if k == 14 then Some (Timestamp u) else (
    if k == 15 then Some (TimestampTz u) else None))

abbrev pub time_in : (kind : ℕ) → Option TimeUnit → Option LogicalType
time_in k None = None
time_in k (Some u) = time_of k u

-- decimals of which 64 bits hold each
abbrev pub decimal_of : (precision scale : ℕ) → Option DecimalDType
decimal_of precision scale = if nat_le precision 18 then decimal_type precision scale else None

abbrev pub decimals_in : Option DecimalDType → Option LogicalType
decimals_in None = None
decimals_in (Some d) = Some (Decimal d)

abbrev pub has_no_digits : Field → Bool
has_no_digits f = (f.precision == 0) && (f.scale == 0)

abbrev pub is_bare : Field → Bool
is_bare f = (f.unit == 0) && has_no_digits f

-- dates have neither a unit nor digits, decimals have digits, and times have a unit
abbrev pub logical_type_of : Field → Option LogicalType
logical_type_of f =
    if f.kind == 12 then (if is_bare f then Some Date else None) else (
    if f.kind == 16 then (if f.unit == 0 then decimals_in (decimal_of f.precision f.scale) else None) else (
    if has_no_digits f then time_in f.kind (unit_of f.unit) else None))

abbrev pub or_bad_kind : Option LogicalType → Result (Option LogicalType) Status
or_bad_kind None = Err BadKind
or_bad_kind (Some t) = Ok (Some t)

-- the values of kinds up to 11 are what they are kept as
abbrev pub logical_of : Field → Result (Option LogicalType) Status
logical_of f = if nat_le f.kind 11 then (if is_bare f then Ok None else Err BadKind) else or_bad_kind (logical_type_of f)

abbrev pub unless_refused : Result (Option LogicalType) Status → Cells
unless_refused (Ok (Some t)) = Exact t
unless_refused (Ok None) = Values
unless_refused (Err s) = Values

-- what the values of a column stand for, which isn't refused
abbrev pub cells_told : Field → Cells
cells_told f = unless_refused (logical_of f)
