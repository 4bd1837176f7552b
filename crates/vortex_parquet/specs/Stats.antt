-- Sets of statistics from the statistics of a footer.
use Rattle.std.specs.Prelude.{ℕ, ◌^◌, ◌-◌, ℤ, pos, negsuc, int_le, Bool, true, false, ◌&&◌, List, [], ◌∷◌, length, Option, Some, None, Result, Ok, Err, is_some, slice_get, slice_index, nat_lt, sum_by, ◌==◌, if◌then◌else◌}
use Rattle.std.specs.Int.{w32, w64, from_le_bytes, cast_signed}
use Rattle.std.specs.List.{list_all}
use Rattle.std.specs.Str.{is_utf8}
use Rattle.vortex_base.specs.declared.pvalue.PValue.{PValue}
use Rattle.vortex_base.specs.declared.pvalue.PValue.TheVariants as number
use Rattle.vortex_base.specs.declared.scalar_value.ScalarValue.{ScalarValue}
use Rattle.vortex_base.specs.declared.scalar_value.ScalarValue.TheVariants as value
use Rattle.vortex_base.specs.declared.types.Nullability.{Nullability}
use Rattle.vortex_base.specs.declared.types.Nullability.TheVariants.{Nullable, NonNullable}
use Rattle.vortex_base.specs.declared.types.PType.{PType}
use Rattle.vortex_base.specs.declared.types.PType.TheVariants as ptype
use Rattle.vortex_stats.specs.declared.precision.Precision.{Precision}
use Rattle.vortex_stats.specs.declared.precision.Precision.TheVariants.{Exact, Inexact, Absent}
use Rattle.vortex_stats.specs.declared.stat.Stat.{Stat}
use Rattle.vortex_stats.specs.declared.stat.Stat.TheVariants.{Max, Min, NullCount}
use Rattle.vortex_logical.specs.Floats.{is_nan_bits, key}
use Rattle.vortex_logical.specs.declared.float_type.FloatType.{FloatType}
use Rattle.vortex_logical.specs.declared.float_type.FloatType.TheVariants.{F16, F32, F64}
use Rattle.vortex_parquet.specs.declared.fault.Fault.{Fault}
use Rattle.vortex_parquet.specs.declared.fault.Fault.TheVariants as fault
use Rattle.vortex_parquet.specs.declared.columns.Form.{Form}
use Rattle.vortex_parquet.specs.declared.columns.Form.TheVariants as form
use Rattle.vortex_parquet.specs.declared.stats.Bound.{Bound}
use Rattle.vortex_parquet.specs.declared.stats.GroupStats.{GroupStats}
use Rattle.vortex_parquet.specs.declared.columns.Leaf.{Leaf}
use Rattle.vortex_parquet.specs.Reading.{◌>>=◌, Read}
use Rattle.vortex_parquet.specs.Fields.{many, on_found}
use Rattle.vortex_parquet.specs.Records.{ColumnChunkData, FileData, RowGroupData, StatisticsData, chunk_of, chunk_size, is_number, row_group_of}
use Rattle.vortex_parquet.specs.Columns.{is_signed}
use Rattle.vortex_parquet.specs.Decimals.{number_of}

-- a set of statistics, as the list of its entries
abbrev pub Entries : Type 0
Entries = List (Stat × Precision ScalarValue)

abbrev pub within : (low high : ℤ) → (ℤ → PValue) → ℤ → Option PValue
within low high make n = if int_le low n && int_le n high then Some (make n) else None

abbrev pub under : (limit : ℕ) → (ℕ → PValue) → ℕ → Option PValue
under limit make n = if nat_lt n limit then Some (make n) else None

-- a number of a type by its bits in four bytes, if it is one of the type
unfoldable pub four_of : PType → ℕ → Option PValue
four_of ptype.I8 bits = within (negsuc (2 ^ 7 - 1)) (pos (2 ^ 7 - 1)) number.I8 (cast_signed w32 bits)
four_of ptype.I16 bits = within (negsuc (2 ^ 15 - 1)) (pos (2 ^ 15 - 1)) number.I16 (cast_signed w32 bits)
four_of ptype.I32 bits = Some (number.I32 (cast_signed w32 bits))
four_of ptype.U8 bits = under (2 ^ 8) number.U8 bits
four_of ptype.U16 bits = under (2 ^ 16) number.U16 bits
four_of ptype.U32 bits = Some (number.U32 bits)
four_of ptype.I64 bits = None
four_of ptype.U64 bits = None

-- the same in eight bytes
unfoldable pub eight_of : PType → ℕ → Option PValue
eight_of ptype.I64 bits = Some (number.I64 (cast_signed w64 bits))
eight_of ptype.U64 bits = Some (number.U64 bits)
eight_of p bits = None

abbrev pub number_value : Option PValue → Option ScalarValue
number_value None = None
number_value (Some n) = Some (value.Primitive n)

-- plain encoding: a Boolean is a byte, and a number's lowest byte comes first
unfoldable pub bool_value : List ℕ → Option ScalarValue
bool_value [] = None
bool_value (b ∷ []) = if b == 0 then Some (value.Bool false) else (if b == 1 then Some (value.Bool true) else None)
bool_value (b ∷ c ∷ bytes) = None

unfoldable pub four_value : PType → List ℕ → Option ScalarValue
four_value p bytes = if length bytes == 4 then number_value (four_of p (from_le_bytes w32
    (slice_index bytes 0 ∷ slice_index bytes 1 ∷ slice_index bytes 2 ∷ slice_index bytes 3 ∷ []))) else None

unfoldable pub eight_value : PType → List ℕ → Option ScalarValue
eight_value p bytes = if length bytes == 8 then number_value (eight_of p (from_le_bytes w64
    (slice_index bytes 0 ∷ slice_index bytes 1 ∷ slice_index bytes 2 ∷ slice_index bytes 3 ∷ slice_index bytes 4 ∷ slice_index bytes 5 ∷ slice_index bytes 6 ∷ slice_index bytes 7 ∷ []))) else None

abbrev pub text_value : List ℕ → Option ScalarValue
text_value bytes = if is_utf8 bytes then Some (value.Utf8 bytes) else None

-- a decimal in bytes is the number that they are, if it fits 64 bits
abbrev pub whole_value : Option ℤ → Option ScalarValue
whole_value None = None
whole_value (Some n) = Some (value.Primitive (number.I64 n))

abbrev pub decimal_value : List ℕ → Option ScalarValue
decimal_value bytes = whole_value (number_of bytes)

-- the whole number of a float by its bits, if it isn't NaN
abbrev pub single_of : ℕ → Option PValue
single_of bits = if is_nan_bits F32 bits then None else within (negsuc (2 ^ 31 - 1)) (pos (2 ^ 31 - 1)) number.I32 (key F32 bits)

abbrev pub double_of : ℕ → Option PValue
double_of bits = if is_nan_bits F64 bits then None else Some (number.I64 (key F64 bits))

unfoldable pub float_value : FloatType → List ℕ → Option ScalarValue
float_value F16 bytes = None
float_value F32 bytes = if length bytes == 4 then number_value (single_of (from_le_bytes w32
    (slice_index bytes 0 ∷ slice_index bytes 1 ∷ slice_index bytes 2 ∷ slice_index bytes 3 ∷ []))) else None
float_value F64 bytes = if length bytes == 8 then number_value (double_of (from_le_bytes w64
    (slice_index bytes 0 ∷ slice_index bytes 1 ∷ slice_index bytes 2 ∷ slice_index bytes 3 ∷ slice_index bytes 4 ∷ slice_index bytes 5 ∷ slice_index bytes 6 ∷ slice_index bytes 7 ∷ []))) else None

-- the value of a form that the bytes are
abbrev pub value_of : Form → List ℕ → Option ScalarValue
value_of form.Bool bytes = bool_value bytes
value_of (form.Four p) bytes = four_value p bytes
value_of (form.Eight p) bytes = eight_value p bytes
value_of form.Utf8 bytes = text_value bytes
value_of form.Binary bytes = Some (value.Binary bytes)
value_of form.Decimal bytes = decimal_value bytes
value_of (form.Float t) bytes = float_value t bytes

-- the value that is a greatest bound: none of floats, which may have NaN above their bound
abbrev pub greatest_value : Form → List ℕ → Option ScalarValue
greatest_value (form.Float t) bytes = None
greatest_value form.Bool bytes = value_of form.Bool bytes
greatest_value (form.Four p) bytes = value_of (form.Four p) bytes
greatest_value (form.Eight p) bytes = value_of (form.Eight p) bytes
greatest_value form.Utf8 bytes = value_of form.Utf8 bytes
greatest_value form.Binary bytes = value_of form.Binary bytes
greatest_value form.Decimal bytes = value_of form.Decimal bytes

abbrev pub told : Option (List ℕ) → Bool → Option (List ℕ × Bool)
told None exact = None
told (Some bytes) exact = Some (bytes, exact)

abbrev pub bound_view : Option Bound → Option (List ℕ × Bool)
bound_view None = None
bound_view (Some b) = Some (b.bytes.now, b.is_exact)

-- the bytes of the bound that may be used, and whether it is told to be exact: the newer one where the column's order is that of its type, and else the deprecated one where that is the order of signed numbers
abbrev pub chosen : Form → Bool → Option (List ℕ) → Option (List ℕ) → Bool → Option (List ℕ × Bool)
chosen f ordered newer older exact =
    if ordered && is_some newer then told newer exact else (
    if is_signed f then told older false else None)

abbrev pub precise : Bool → Option ScalarValue → Precision ScalarValue
precise exact None = Absent
precise true (Some v) = Exact v
precise false (Some v) = Inexact v

-- a bound as a statistic, by the value that its bytes are: exact only if it is told to be
abbrev pub bound_by : (List ℕ → Option ScalarValue) → Option (List ℕ × Bool) → Precision ScalarValue
bound_by read None = Absent
bound_by read (Some b) = precise b.1 (read b.0)

abbrev pub count_of : Option ℕ → Precision ScalarValue
count_of None = Absent
count_of (Some n) = Exact (value.Primitive (number.U64 n))

-- the set of a column's statistics
unfoldable pub set_of : Form → Bool → StatisticsData → Entries
set_of f ordered s =
    (Max, bound_by (greatest_value f) (chosen f ordered s.max s.old_max s.is_max_exact)) ∷
    (Min, bound_by (value_of f) (chosen f ordered s.min s.old_min s.is_min_exact)) ∷
    (NullCount, count_of s.null_count) ∷ []

abbrev pub set_or_none : Form → Bool → Option StatisticsData → Entries
set_or_none f ordered None = []
set_or_none f ordered (Some s) = set_of f ordered s

-- the number of nulls, as it is told, and 0 where it isn't told of a column that the schema has without nulls
abbrev pub nulls_of : Nullability → Option ℕ → Option ℕ
nulls_of n (Some k) = Some k
nulls_of NonNullable None = Some 0
nulls_of Nullable None = None

abbrev pub with_nulls : Nullability → StatisticsData → StatisticsData
with_nulls n s = record s { null_count = nulls_of n s.null_count }

-- no bounds, and no nulls
abbrev pub without_nulls : StatisticsData
without_nulls = record { old_max = None; old_min = None; null_count = Some 0; max = None; min = None; is_max_exact = false; is_min_exact = false }

-- the statistics of a column chunk, as they are told and by the schema
abbrev pub statistics_by : Nullability → Option StatisticsData → Option StatisticsData
statistics_by n (Some s) = Some (with_nulls n s)
statistics_by NonNullable None = Some without_nulls
statistics_by Nullable None = None

-- the set of a column chunk, without an entry where that is told to be of another physical type
unfoldable pub chunk_set : Leaf → Bool → ColumnChunkData → Entries
chunk_set l ordered c = if is_number l.physical c.physical then set_or_none l.form ordered (statistics_by l.nullability c.statistics) else []

abbrev pub or_false : Option Bool → Bool
or_false None = false
or_false (Some b) = b

-- the set of the column chunk with which the bytes begin
unfoldable pub span_set : Leaf → Bool → List ℕ → Result Entries Fault
span_set l ordered bytes = chunk_of bytes >>= λ c. Ok (chunk_set l ordered c)

-- the set of a leaf column of a row group, of which the bytes from each column chunk on are given
unfoldable pub leaf_set : List Bool → List (List ℕ) → Leaf → Result Entries Fault
leaf_set orders columns l = on_found (Ok []) (span_set l (or_false (slice_get orders l.place))) (slice_get columns l.place)

-- what each is, or the first fault
unfoldable pub all_of : {A B : Type 0} → (B → Result A Fault) → List B → Result (List A) Fault
all_of one [] = Ok []
all_of one (item ∷ others) = one item >>= λ x. all_of one others >>= λ xs. Ok (x ∷ xs)

-- ---- sizes

abbrev pub or_zero : Option ℕ → ℕ
or_zero None = 0
or_zero (Some n) = n

-- sizes together, if each is told and their sum fits 64 bits
abbrev pub sum_of : List (Option ℕ) → Option ℕ
sum_of os = if list_all is_some os && nat_lt (sum_by or_zero os) (2 ^ 64) then Some (sum_by or_zero os) else None

-- how many bytes a row group takes in the file: as it is told, and else as many as its column chunks take together, if that is told
unfoldable pub size_of : Option ℕ → List (List ℕ) → Result (Option ℕ) Fault
size_of (Some n) columns = Ok (Some n)
size_of None columns = all_of chunk_size columns >>= λ os. Ok (sum_of os)

-- ---- row groups

-- how many rows a row group has, how many bytes it takes, and a set for each leaf column that is read
pub record GroupData : Type 0 where
  pub rows : ℕ
  pub size : Option ℕ
  pub stats : List Entries

abbrev pub group_view : GroupStats → GroupData
group_view g = record { rows = g.rows; size = g.size; stats = g.stats.items }

-- what is known of a row group, of a file with so many leaf columns
unfoldable pub group_of : List Leaf → ℕ → List Bool → RowGroupData → Result GroupData Fault
group_of leaves count orders g =
    if length g.columns == count then (all_of (leaf_set orders g.columns) leaves >>= λ sets. size_of g.size g.columns >>= λ size. Ok (record { rows = g.rows; size = size; stats = sets })) else Err fault.Columns

-- the same of the row group with which the bytes begin, and the bytes behind it
unfoldable pub group_at : List Leaf → ℕ → List Bool → List ℕ → Read GroupData
group_at leaves count orders bytes = row_group_of bytes >>= λ g. group_of leaves count orders g.0 >>= λ known. Ok (known, g.1)

-- what is known of each row group of a file with so many leaf columns
unfoldable pub groups_of : List Leaf → ℕ → FileData → Result (List GroupData) Fault
groups_of leaves count file = many (group_at leaves count file.orders) file.groups.count file.groups.from
