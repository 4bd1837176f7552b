-- The records of a footer, as definitions over the fields of its structs.
use Rattle.std.specs.Prelude.{ℕ, Bool, false, List, [], ◌∷◌, Option, Some, None, Result, Ok, Err, map, is_some, option_copied, option_map, ◌&&◌, ◌==◌, ◌||◌, if◌then◌else◌}
use Rattle.vortex_logical.specs.declared.time_unit.TimeUnit.{TimeUnit}
use Rattle.vortex_logical.specs.declared.time_unit.TimeUnit.TheVariants as unit
use Rattle.vortex_parquet.specs.declared.fault.Fault.{Fault}
use Rattle.vortex_parquet.specs.declared.fault.Fault.TheVariants as fault
use Rattle.vortex_parquet.specs.declared.compact.Kind.TheVariants as kind
use Rattle.vortex_parquet.specs.declared.records.Statistics.{Statistics}
use Rattle.vortex_parquet.specs.declared.records.ColumnChunk.{ColumnChunk}
use Rattle.vortex_parquet.specs.declared.records.RowGroup.{RowGroup}
use Rattle.vortex_parquet.specs.declared.records.Annotation.{Annotation}
use Rattle.vortex_parquet.specs.declared.records.Annotation.TheVariants as annotation
use Rattle.vortex_parquet.specs.declared.records.SchemaElement.{SchemaElement}
use Rattle.vortex_parquet.specs.declared.records.FileMetaData.{FileMetaData}
use Rattle.vortex_parquet.specs.Reading.{◌>>=◌, Read}
use Rattle.vortex_parquet.specs.Skip.{FieldData}
use Rattle.vortex_parquet.specs.Fields.{ItemsData, binary_in, byte_in, found, is_told, items_in, items_view, kind_eq, many, natural_in, number_in, on_found, spans_in, struct_of, truth_in}

-- ---- the records, without where their bytes lie

pub record StatisticsData : Type 0 where
  pub old_max : Option (List ℕ)
  pub old_min : Option (List ℕ)
  pub null_count : Option ℕ
  pub max : Option (List ℕ)
  pub min : Option (List ℕ)
  pub is_max_exact : Bool
  pub is_min_exact : Bool

pub record ColumnChunkData : Type 0 where
  pub physical : Option ℕ
  pub statistics : Option StatisticsData

-- how many rows a row group has, how many bytes it is told to take in the file, and the bytes from each of its column chunks on
pub record RowGroupData : Type 0 where
  pub rows : ℕ
  pub size : Option ℕ
  pub columns : List (List ℕ)

pub record ElementData : Type 0 where
  pub physical : Option ℕ
  pub repetition : Option ℕ
  pub name : List ℕ
  pub children : Option ℕ
  pub converted : Option ℕ
  pub scale : Option ℕ
  pub precision : Option ℕ
  pub annotation : Option Annotation

-- the schema, for each column whether its order is that of its type, and the row groups
pub record FileData : Type 0 where
  pub schema : List ElementData
  pub orders : List Bool
  pub groups : ItemsData

abbrev pub statistics_view : Statistics → StatisticsData
statistics_view s = record {
  old_max = option_copied s.old_max;
  old_min = option_copied s.old_min;
  null_count = s.null_count;
  max = option_copied s.max;
  min = option_copied s.min;
  is_max_exact = s.is_max_exact;
  is_min_exact = s.is_min_exact;
}

abbrev pub statistics_views : Option Statistics → Option StatisticsData
statistics_views o = option_map statistics_view o

abbrev pub chunk_view : ColumnChunk → ColumnChunkData
chunk_view c = record { physical = c.physical; statistics = statistics_views c.statistics }

abbrev pub row_group_view : RowGroup → RowGroupData
row_group_view g = record { rows = g.rows; size = g.size; columns = map (λ s. s.now) g.columns.items }

abbrev pub element_view : SchemaElement → ElementData
element_view n = record {
  physical = n.physical;
  repetition = n.repetition;
  name = n.name.now;
  children = n.children;
  converted = n.converted;
  scale = n.scale;
  precision = n.precision;
  annotation = n.annotation;
}

abbrev pub file_view : FileMetaData → FileData
file_view f = record { schema = map element_view f.schema.items; orders = f.orders.items; groups = items_view f.groups }

-- ---- what their fields say: parquet.thrift's numbers

abbrev pub required : {A : Type 0} → Option A → Result A Fault
required None = Err fault.Missing
required (Some x) = Ok x

-- struct Statistics
unfoldable pub statistics_of : List ℕ → Result StatisticsData Fault
statistics_of bytes = do
  s ← struct_of bytes
  old_max ← binary_in s.0 1
  old_min ← binary_in s.0 2
  null_count ← natural_in s.0 3 kind.I64
  max ← binary_in s.0 5
  min ← binary_in s.0 6
  Ok (record { old_max = old_max; old_min = old_min; null_count = null_count; max = max; min = min; is_max_exact = is_told s.0 7; is_min_exact = is_told s.0 8 })

unfoldable pub statistics_in : List FieldData → ℕ → Result (Option StatisticsData) Fault
statistics_in fs id = on_found (Ok None) (λ from. statistics_of from >>= λ s. Ok (Some s)) (found fs id kind.Struct)

-- struct ColumnMetaData
unfoldable pub meta_of : List ℕ → Result ColumnChunkData Fault
meta_of bytes = do
  s ← struct_of bytes
  physical ← natural_in s.0 1 kind.I32
  statistics ← statistics_in s.0 12
  Ok (record { physical = physical; statistics = statistics })

-- struct ColumnChunk
unfoldable pub chunk_of : List ℕ → Result ColumnChunkData Fault
chunk_of bytes = struct_of bytes >>= λ s. on_found (Ok (record { physical = None; statistics = None })) meta_of (found s.0 3 kind.Struct)

-- how many bytes a column chunk takes in the file, if its metadata tells it
unfoldable pub meta_size : List ℕ → Result (Option ℕ) Fault
meta_size bytes = struct_of bytes >>= λ s. natural_in s.0 7 kind.I64

unfoldable pub chunk_size : List ℕ → Result (Option ℕ) Fault
chunk_size bytes = struct_of bytes >>= λ s. on_found (Ok None) meta_size (found s.0 3 kind.Struct)

-- the bytes from each struct on of a list in a field
unfoldable pub spans_of : List FieldData → ℕ → Result (List (List ℕ)) Fault
spans_of fs id = items_in fs id kind.Struct >>= λ l. spans_in l.count l.from

-- struct RowGroup, and the bytes behind it
unfoldable pub row_group_of : List ℕ → Read RowGroupData
row_group_of bytes = do
  s ← struct_of bytes
  number ← natural_in s.0 3 kind.I64
  rows ← required number
  size ← natural_in s.0 6 kind.I64
  columns ← spans_of s.0 1
  Ok (record { rows = rows; size = size; columns = columns }, s.1)

abbrev pub integer_from : Option ℕ → Bool → Annotation
integer_from None signed = annotation.Other
integer_from (Some bits) signed = annotation.Integer bits signed

-- struct IntType
unfoldable pub integer_of : List ℕ → Result Annotation Fault
integer_of bytes = struct_of bytes >>= λ s. Ok (integer_from (byte_in s.0 1) (is_told s.0 2))

abbrev pub is_number : ℕ → Option ℕ → Bool
is_number n None = false
is_number n (Some m) = m == n

-- struct DecimalType
unfoldable pub decimal_of : List ℕ → Result Annotation Fault
decimal_of bytes = do
  s ← struct_of bytes
  scale ← natural_in s.0 1 kind.I32
  precision ← natural_in s.0 2 kind.I32
  Ok (annotation.Decimal scale precision)

-- union TimeUnit: which field it has
abbrev pub unit_from : List FieldData → Option TimeUnit
unit_from [] = None
unit_from (f ∷ fs) =
    if f.id == 1 then Some unit.Milliseconds else (
    if f.id == 2 then Some unit.Microseconds else (
    if f.id == 3 then Some unit.Nanoseconds else None))

unfoldable pub unit_at : List ℕ → Result (Option TimeUnit) Fault
unit_at bytes = struct_of bytes >>= λ s. Ok (unit_from s.0)

unfoldable pub unit_in : List FieldData → ℕ → Result (Option TimeUnit) Fault
unit_in fs id = on_found (Ok None) unit_at (found fs id kind.Struct)

-- struct TimeType: its unit
unfoldable pub time_of : List ℕ → Result Annotation Fault
time_of bytes = do
  s ← struct_of bytes
  unit ← unit_in s.0 2
  Ok (annotation.Time unit)

-- struct TimestampType: whether it is adjusted to UTC, and its unit
unfoldable pub timestamp_of : List ℕ → Result Annotation Fault
timestamp_of bytes = do
  s ← struct_of bytes
  unit ← unit_in s.0 2
  Ok (annotation.Timestamp (truth_in s.0 1) unit)

-- union LogicalType: which field it has
unfoldable pub annotation_from : List FieldData → Result Annotation Fault
annotation_from [] = Ok annotation.None
annotation_from (f ∷ fs) =
    if (f.id == 1) || (f.id == 4) || (f.id == 12) then Ok annotation.Text else (
    if (f.id == 5) && kind_eq f.kind kind.Struct then decimal_of f.from else (
    if (f.id == 6) && kind_eq f.kind kind.Struct then Ok annotation.Date else (
    if (f.id == 7) && kind_eq f.kind kind.Struct then time_of f.from else (
    if (f.id == 8) && kind_eq f.kind kind.Struct then timestamp_of f.from else (
    if (f.id == 10) && kind_eq f.kind kind.Struct then integer_of f.from else (
    if (f.id == 13) || (f.id == 14) then Ok annotation.Bytes else Ok annotation.Other))))))

unfoldable pub annotation_at : List ℕ → Result Annotation Fault
annotation_at bytes = struct_of bytes >>= λ s. annotation_from s.0

unfoldable pub annotation_in : List FieldData → ℕ → Result (Option Annotation) Fault
annotation_in fs id = on_found (Ok None) (λ from. annotation_at from >>= λ l. Ok (Some l)) (found fs id kind.Struct)

-- struct SchemaElement, and the bytes behind it
unfoldable pub element_of : List ℕ → Read ElementData
element_of bytes = do
  s ← struct_of bytes
  text ← binary_in s.0 4
  name ← required text
  physical ← natural_in s.0 1 kind.I32
  repetition ← natural_in s.0 3 kind.I32
  children ← natural_in s.0 5 kind.I32
  converted ← natural_in s.0 6 kind.I32
  scale ← number_in s.0 7 kind.I32
  precision ← natural_in s.0 8 kind.I32
  annotation ← annotation_in s.0 10
  Ok (record { physical = physical; repetition = repetition; name = name; children = children; converted = converted; scale = scale; precision = precision; annotation = annotation }, s.1)

-- union ColumnOrder: whether it is TYPE_ORDER; and the bytes behind it
unfoldable pub order_of : List ℕ → Read Bool
order_of bytes = struct_of bytes >>= λ s. Ok (is_some (found s.0 1 kind.Struct), s.1)

-- struct FileMetaData
unfoldable pub file_of : List ℕ → Result FileData Fault
file_of bytes = do
  s ← struct_of bytes
  elements ← items_in s.0 2 kind.Struct
  schema ← many element_of elements.count elements.from
  unions ← items_in s.0 7 kind.Struct
  orders ← many order_of unions.count unions.from
  groups ← items_in s.0 4 kind.Struct
  Ok (record { schema = schema; orders = orders; groups = groups })

-- the row groups of a file
unfoldable pub row_groups_of : FileData → Result (List RowGroupData) Fault
row_groups_of f = many row_group_of f.groups.count f.groups.from
