-- The columns of a schema, and how the bounds of those that are read are read.
use Rattle.std.specs.Prelude.{◌≡◌, ℕ, ◌+◌, ◌-◌, Bool, true, false, not, ◌||◌, List, [], ◌∷◌, ◌++◌, length, Option, Some, None, Result, Ok, Err, option_and_then, filter, map, ◌==◌, nat_le, nat_lt, if◌then◌else◌, ⊤}
use lib.Pointwise.{pointwise}
use Rattle.vortex_base.specs.Data.Scopes.{Named}
use Rattle.vortex_base.specs.declared.dtype.DType.{DType}
use Rattle.vortex_base.specs.declared.dtype.DType.TheVariants as dtype
use Rattle.vortex_base.specs.declared.types.Nullability.{Nullability}
use Rattle.vortex_base.specs.declared.types.Nullability.TheVariants.{Nullable, NonNullable}
use Rattle.vortex_base.specs.declared.types.PType.{PType}
use Rattle.vortex_base.specs.declared.types.PType.TheVariants as ptype
use Rattle.vortex_logical.specs.declared.float_type.FloatType.{FloatType}
use Rattle.vortex_logical.specs.declared.float_type.FloatType.TheVariants.{F16, F32, F64}
use Rattle.vortex_logical.specs.declared.time_unit.TimeUnit.TheVariants as unit
use Rattle.vortex_parquet.specs.declared.fault.Fault.{Fault}
use Rattle.vortex_parquet.specs.declared.fault.Fault.TheVariants as fault
use Rattle.vortex_parquet.specs.declared.columns.Column.{Column}
use Rattle.vortex_parquet.specs.declared.columns.Columns.{Columns}
use Rattle.vortex_parquet.specs.declared.columns.Content.{Content}
use Rattle.vortex_parquet.specs.declared.columns.Content.TheVariants as content
use Rattle.vortex_parquet.specs.declared.columns.Form.{Form}
use Rattle.vortex_parquet.specs.declared.columns.Form.TheVariants as form
use Rattle.vortex_parquet.specs.declared.columns.Leaf.{Leaf}
use Rattle.vortex_parquet.specs.declared.columns.LeftOut.TheVariants as left_out
use Rattle.vortex_parquet.specs.declared.records.Annotation.{Annotation}
use Rattle.vortex_parquet.specs.declared.records.Annotation.TheVariants as annotation
use Rattle.vortex_parquet.specs.Fields.{natural_of}
use Rattle.vortex_parquet.specs.Meanings.{meaning_of}
use Rattle.vortex_parquet.specs.Reading.{◌>>=◌}
use Rattle.vortex_parquet.specs.Records.{ElementData, is_number}

-- the type of the whole numbers of floats
abbrev pub float_ptype : FloatType → PType
float_ptype F16 = ptype.I16
float_ptype F32 = ptype.I32
float_ptype F64 = ptype.I64

-- the type of the values of a form
abbrev pub form_dtype : Form → Nullability → DType
form_dtype form.Bool n = dtype.Bool n
form_dtype (form.Four p) n = dtype.Primitive p n
form_dtype (form.Eight p) n = dtype.Primitive p n
form_dtype form.Utf8 n = dtype.Utf8 n
form_dtype form.Binary n = dtype.Binary n
form_dtype form.Decimal n = dtype.Primitive ptype.I64 n
form_dtype (form.Float t) n = dtype.Primitive (float_ptype t) n

abbrev pub is_signed_ptype : PType → Bool
is_signed_ptype ptype.U8 = false
is_signed_ptype ptype.U16 = false
is_signed_ptype ptype.U32 = false
is_signed_ptype ptype.U64 = false
is_signed_ptype ptype.I8 = true
is_signed_ptype ptype.I16 = true
is_signed_ptype ptype.I32 = true
is_signed_ptype ptype.I64 = true

-- the deprecated bounds are in the order of the values, as those of signed numbers are; those of decimals in bytes and of floats need not be
abbrev pub is_signed : Form → Bool
is_signed form.Bool = true
is_signed (form.Four p) = is_signed_ptype p
is_signed (form.Eight p) = is_signed_ptype p
is_signed form.Utf8 = false
is_signed form.Binary = false
is_signed form.Decimal = false
is_signed (form.Float t) = false

-- how many digits stand behind the point of decimals that are annotated in the older way: none where it isn't told
abbrev pub older_scale : Option ℕ → Option ℕ
older_scale None = Some 0
older_scale (Some n) = natural_of (Some n)

-- the older annotation, enum ConvertedType, as the newer one
unfoldable pub converted : ℕ → (scale precision : Option ℕ) → Annotation
converted n scale precision =
    if (n == 0) || (n == 4) || (n == 19) then annotation.Text else (
    if n == 5 then annotation.Decimal (older_scale scale) precision else (
    if n == 6 then annotation.Date else (
    if n == 7 then annotation.Time (Some unit.Milliseconds) else (
    if n == 8 then annotation.Time (Some unit.Microseconds) else (
    if n == 9 then annotation.Timestamp (Some true) (Some unit.Milliseconds) else (
    if n == 10 then annotation.Timestamp (Some true) (Some unit.Microseconds) else (
    if n == 11 then annotation.Integer 8 false else (
    if n == 12 then annotation.Integer 16 false else (
    if n == 13 then annotation.Integer 32 false else (
    if n == 14 then annotation.Integer 64 false else (
    if n == 15 then annotation.Integer 8 true else (
    if n == 16 then annotation.Integer 16 true else (
    if n == 17 then annotation.Integer 32 true else (
    if n == 18 then annotation.Integer 64 true else (
    if n == 20 then annotation.Bytes else annotation.Other)))))))))))))))

abbrev pub converted_or_none : Option ℕ → (scale precision : Option ℕ) → Annotation
converted_or_none None scale precision = annotation.None
converted_or_none (Some n) scale precision = converted n scale precision

-- the newer annotation if there is one, and else the older one
abbrev pub annotation_of : Option Annotation → Option ℕ → (scale precision : Option ℕ) → Annotation
annotation_of None c scale precision = converted_or_none c scale precision
annotation_of (Some annotation.None) c scale precision = converted_or_none c scale precision
annotation_of (Some l) c scale precision = l

-- a whole number of so many bits, in four bytes
abbrev pub four_integer : ℕ → Bool → Option Form
four_integer bits signed =
    if bits == 8 then Some (form.Four (if signed then ptype.I8 else ptype.U8)) else (
    if bits == 16 then Some (form.Four (if signed then ptype.I16 else ptype.U16)) else (
    if bits == 32 then Some (form.Four (if signed then ptype.I32 else ptype.U32)) else None))

-- numbers in four bytes
unfoldable pub four : Annotation → Option Form
four annotation.None = Some (form.Four ptype.I32)
four (annotation.Decimal scale precision) = Some (form.Four ptype.I32)
four annotation.Date = Some (form.Four ptype.I32)
four (annotation.Time u) = Some (form.Four ptype.I32)
four (annotation.Timestamp adjusted u) = Some (form.Four ptype.I32)
four (annotation.Integer bits signed) = four_integer bits signed
four l = None

-- a whole number of so many bits, in eight bytes
abbrev pub eight_integer : ℕ → Bool → Option Form
eight_integer bits signed = if bits == 64 then Some (form.Eight (if signed then ptype.I64 else ptype.U64)) else None

-- numbers in eight bytes
unfoldable pub eight : Annotation → Option Form
eight annotation.None = Some (form.Eight ptype.I64)
eight (annotation.Decimal scale precision) = Some (form.Eight ptype.I64)
eight annotation.Date = Some (form.Eight ptype.I64)
eight (annotation.Time u) = Some (form.Eight ptype.I64)
eight (annotation.Timestamp adjusted u) = Some (form.Eight ptype.I64)
eight (annotation.Integer bits signed) = eight_integer bits signed
eight l = None

-- decimals of at most 18 digits fit 64 bits
abbrev pub is_short : Option ℕ → Bool
is_short None = false
is_short (Some n) = nat_le n 18

-- decimals in bytes are read where each fits 64 bits
abbrev pub decimal_form : Option ℕ → Option Form
decimal_form precision = if is_short precision then Some form.Decimal else None

-- bytes of any length, and of one length
unfoldable pub bytes_form : Annotation → Option Form
bytes_form annotation.None = Some form.Binary
bytes_form annotation.Bytes = Some form.Binary
bytes_form annotation.Text = Some form.Utf8
bytes_form (annotation.Decimal scale precision) = decimal_form precision
bytes_form l = None

unfoldable pub fixed_form : Annotation → Option Form
fixed_form annotation.None = Some form.Binary
fixed_form annotation.Bytes = Some form.Binary
fixed_form (annotation.Decimal scale precision) = decimal_form precision
fixed_form l = None

unfoldable pub float_form : FloatType → Annotation → Option Form
float_form t annotation.None = Some (form.Float t)
float_form t l = None

unfoldable pub bool_form : Annotation → Option Form
bool_form annotation.None = Some form.Bool
bool_form l = None

-- enum Type: BOOLEAN 0, INT32 1, INT64 2, FLOAT 4, DOUBLE 5, BYTE_ARRAY 6, FIXED_LEN_BYTE_ARRAY 7. Of INT96 nothing is read
unfoldable pub form_of : ℕ → Annotation → Option Form
form_of physical l =
    if physical == 0 then bool_form l else (
    if physical == 1 then four l else (
    if physical == 2 then eight l else (
    if physical == 4 then float_form F32 l else (
    if physical == 5 then float_form F64 l else (
    if physical == 6 then bytes_form l else (
    if physical == 7 then fixed_form l else None))))))

-- enum FieldRepetitionType: REQUIRED 0, OPTIONAL 1; a repeated column is none that is flat
unfoldable pub nullability : ℕ → Option Nullability
nullability n = if n == 0 then Some NonNullable else (if n == 1 then Some Nullable else None)

infixl 10 ◌>=>◌
abbrev pub ◌>=>◌ : {A B : Type 0} → Option A → (A → Option B) → Option B
o >=> f = option_and_then f o

-- the leaf column of an element at a place among the leaf columns, if its statistics are read
unfoldable pub leaf_of : ℕ → ElementData → Option Leaf
leaf_of place e =
    e.physical >=> λ physical.
    e.repetition >=> λ repetition.
    nullability repetition >=> λ n.
    form_of physical (annotation_of e.annotation e.converted e.scale e.precision) >=> λ form.
    Some (record { place = place; physical = physical; form = form; meaning = meaning_of physical (annotation_of e.annotation e.converted e.scale e.precision); nullability = n })

-- how many elements stand right below one
abbrev pub below : Option ℕ → ℕ
below None = 0
below (Some n) = n

abbrev pub leaf_or_type : Option Leaf → Content
leaf_or_type None = content.LeftOut left_out.Type
leaf_or_type (Some l) = content.Leaf l

-- what an element of the first level is: no leaf if elements stand below it, and REPEATED is 2
unfoldable pub content_of : ℕ → ElementData → Content
content_of place e =
    if not (below e.children == 0) then content.LeftOut left_out.Nested else (
    if is_number 2 e.repetition then content.LeftOut left_out.Repeated else
    leaf_or_type (leaf_of place e))

pub record ColumnView : Type 0 where
  pub name : List ℕ
  pub content : Content

abbrev pub column_view : Column → ColumnView
column_view c = record { name = c.name.now; content = c.content }

abbrev pub column_views : List Column → List ColumnView
column_views cs = map column_view cs

abbrev pub column_of : ℕ → ElementData → ColumnView
column_of place e = record { name = e.name; content = content_of place e }

-- the column that an element is, if it stands on the first level
abbrev pub first_level : ℕ → ℕ → ElementData → List ColumnView
first_level inside place e = if inside == 0 then column_of place e ∷ [] else []

-- how many of the next elements stand below one of the first level
abbrev pub inside_after : ℕ → ElementData → ℕ
inside_after inside e = (inside - 1) + below e.children

-- how many leaf columns there are up to here
abbrev pub places_after : ℕ → ElementData → ℕ
places_after place e = if below e.children == 0 then place + 1 else place

-- a number that may not pass another
unfoldable pub checked : ℕ → ℕ → Result ℕ Fault
checked most n = if nat_lt most n then Err fault.Schema else Ok n

-- the columns of the first level, of elements in the order of a walk, and how many leaf columns there are; no element has more below it than are left
unfoldable pub columns_in : ℕ → ℕ → List ElementData → Result (List ColumnView × ℕ) Fault
columns_in inside place [] = Ok ([], place)
columns_in inside place (e ∷ es) =
    checked (length es) (inside_after inside e) >>= λ after.
    columns_in after (places_after place e) es >>= λ x.
    Ok (first_level inside place e ++ x.0, x.1)

-- those below the root
unfoldable pub columns_of : List ElementData → Result (List ColumnView × ℕ) Fault
columns_of [] = Err fault.Schema
columns_of (root ∷ es) = columns_in 0 0 es

abbrev pub columns_view : Columns → List ColumnView × ℕ
columns_view c = (column_views c.columns.items, c.leaves)

-- ---- the column of a name

abbrev pub is_named : List ℕ → ColumnView → Bool
is_named name c = pointwise ◌==◌ c.name name

-- the one of a list; of several none can be told from the others
abbrev pub only : List ColumnView → Option Content
only [] = None
only (c ∷ []) = Some c.content
only (c ∷ d ∷ cs) = Some (content.LeftOut left_out.Duplicate)

unfoldable pub lookup : List ℕ → List ColumnView → Option Content
lookup name cs = only (filter (is_named name) cs)

-- what is found, with one more column behind those that were looked at
abbrev pub twice : Option Content → Content → Option Content
twice None c = Some c
twice (Some d) c = Some (content.LeftOut left_out.Duplicate)

abbrev pub with_column : List ℕ → Option Content → ColumnView → Option Content
with_column name before c = if is_named name c then twice before c.content else before

-- the type of a leaf column
abbrev pub leaf_dtype : Leaf → DType
leaf_dtype l = form_dtype l.form l.nullability

-- each name is that of one column alone, the leaf beside it, and each type is the leaf's
abbrev pub AreNamed : List ColumnView → List Named → List Leaf → Type 0
AreNamed cs [] [] = ⊤
AreNamed cs (n ∷ ns) (l ∷ ls) = (lookup n.0 cs ≡ Some (content.Leaf l)) × (n.1 ≡ leaf_dtype l) × AreNamed cs ns ls
AreNamed cs ns ls = ⊥
