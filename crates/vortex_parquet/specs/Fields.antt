-- Structs and lists by their fields and items.
use Rattle.std.specs.Prelude.{ℕ, zero, suc, ◌/◌, ◌%◌, Bool, true, false, ◌&&◌, List, [], ◌∷◌, Option, Some, None, Result, Ok, map, is_some, is_none, ◌==◌, if◌then◌else◌}
use Rattle.vortex_parquet.specs.declared.fault.Fault.{Fault}
use Rattle.vortex_parquet.specs.declared.compact.Kind.{Kind}
use Rattle.vortex_parquet.specs.declared.compact.Kind.TheVariants as kind
use Rattle.vortex_parquet.specs.declared.compact.ListHead.{ListHead}
use Rattle.vortex_parquet.specs.declared.fields.Field.{Field}
use Rattle.vortex_parquet.specs.declared.fields.Items.{Items}
use Rattle.vortex_parquet.specs.contracts.compact.KindPartialEq.TheImpl as kinds
use Rattle.vortex_parquet.specs.Reading.{◌>>=◌, Read}
use Rattle.vortex_parquet.specs.Compact.{binary_at, items_at, varint_at}
use Rattle.vortex_parquet.specs.Skip.{FieldData, skip_at, struct_at}

abbrev pub field_view : Field → FieldData
field_view f = record { id = f.id; kind = f.kind; from = f.from.now }

abbrev pub field_views : List Field → List FieldData
field_views fs = map field_view fs

-- how deep the parts of a record may be nested, and those of an item of a list in one of its fields
abbrev pub depth : ℕ
depth = 32

abbrev pub item_depth : ℕ
item_depth = 31

-- the fields of the struct with which the bytes begin, and the bytes behind it
unfoldable pub struct_of : List ℕ → Read (List FieldData)
struct_of bytes = struct_at (skip_at depth) bytes

-- fields, and the bytes behind the struct
abbrev pub fields_before : List FieldData → List ℕ → Read (List FieldData)
fields_before fs rest = Ok (fs, rest)

-- the same kind
abbrev pub kind_eq : Kind → Kind → Bool
kind_eq = kinds.ghosts.eq

-- ---- the last field of an identifier and a kind

abbrev pub is_field : ℕ → Kind → FieldData → Bool
is_field id k f = (f.id == id) && kind_eq f.kind k

-- its bytes if it is, or else what was there before
abbrev pub pick : FieldData → ℕ → Kind → Option (List ℕ) → Option (List ℕ)
pick f id k before = if is_field id k f then Some f.from else before

-- the last such one, or what was there before
unfoldable pub last_found : ℕ → Kind → Option (List ℕ) → List FieldData → Option (List ℕ)
last_found id k before [] = before
last_found id k before (f ∷ fs) = last_found id k (pick f id k before) fs

abbrev pub found : List FieldData → ℕ → Kind → Option (List ℕ)
found fs id k = last_found id k None fs

abbrev pub on_found : {A : Type 0} → A → (List ℕ → A) → Option (List ℕ) → A
on_found none some None = none
on_found none some (Some bytes) = some bytes

-- ---- the values of fields

unfoldable pub binary_in : List FieldData → ℕ → Result (Option (List ℕ)) Fault
binary_in fs id = on_found (Ok None) (λ from. binary_at from >>= λ b. Ok (Some b.0)) (found fs id kind.Binary)

unfoldable pub number_in : List FieldData → ℕ → Kind → Result (Option ℕ) Fault
number_in fs id k = on_found (Ok None) (λ from. varint_at from >>= λ n. Ok (Some n.0)) (found fs id k)

-- a number with a sign, which is the lowest bit, if it is not below 0
abbrev pub natural_of : Option ℕ → Option ℕ
natural_of None = None
natural_of (Some n) = if n % 2 == 0 then Some (n / 2) else None

unfoldable pub natural_in : List FieldData → ℕ → Kind → Result (Option ℕ) Fault
natural_in fs id k = number_in fs id k >>= λ n. Ok (natural_of n)

abbrev pub first_of : Option (List ℕ) → Option ℕ
first_of None = None
first_of (Some []) = None
first_of (Some (b ∷ bytes)) = Some b

unfoldable pub byte_in : List FieldData → ℕ → Option ℕ
byte_in fs id = first_of (found fs id kind.Byte)

-- it is told to be true, and never to be false
unfoldable pub is_told : List FieldData → ℕ → Bool
is_told fs id = is_some (found fs id kind.True) && is_none (found fs id kind.False)

abbrev pub truth_from : (is_true is_false : Bool) → Option Bool
truth_from true true = None
truth_from true false = Some true
truth_from false true = Some false
truth_from false false = None

-- what it is told to be, and never otherwise
unfoldable pub truth_in : List FieldData → ℕ → Option Bool
truth_in fs id = truth_from (is_some (found fs id kind.True)) (is_some (found fs id kind.False))

-- ---- lists

-- the bytes from each of so many structs on
unfoldable pub spans_in : ℕ → List ℕ → Result (List (List ℕ)) Fault
spans_in zero bytes = Ok []
spans_in (suc n) bytes = skip_at item_depth kind.Struct bytes >>= λ rest. spans_in n rest >>= λ spans. Ok (bytes ∷ spans)

-- how many items a list has, and the bytes from the first one on; none if they are of another kind
pub record ItemsData : Type 0 where
  pub count : ℕ
  pub from : List ℕ

abbrev pub items_view : Items → ItemsData
items_view s = record { count = s.count; from = s.from.now }

abbrev pub items_under : Kind → Option ListHead × List ℕ → ItemsData
items_under k (None, rest) = record { count = 0; from = rest }
items_under k (Some l, rest) = if kind_eq l.kind k then record { count = l.count; from = rest } else record { count = 0; from = rest }

unfoldable pub items_of : Kind → List ℕ → Result ItemsData Fault
items_of k bytes = items_at bytes >>= λ h. Ok (items_under k h)

-- those in a field; none if it isn't there
unfoldable pub items_in : List FieldData → ℕ → Kind → Result ItemsData Fault
items_in fs id k = on_found (Ok (record { count = 0; from = [] })) (items_of k) (found fs id kind.List)

-- what each of so many items is, one behind the other, or the first fault
unfoldable pub many : {A : Type 0} → (List ℕ → Read A) → ℕ → List ℕ → Result (List A) Fault
many one zero bytes = Ok []
many one (suc n) bytes = one bytes >>= λ x. many one n x.1 >>= λ xs. Ok (x.0 ∷ xs)
