-- Where a value ends, and the fields of a struct.
use Rattle.std.specs.Prelude.{ℕ, zero, suc, List, [], ◌∷◌, length, Option, Some, None, Result, Ok, Err}
use Rattle.vortex_parquet.specs.declared.fault.Fault.{Fault}
use Rattle.vortex_parquet.specs.declared.fault.Fault.TheVariants as fault
use Rattle.vortex_parquet.specs.declared.compact.Kind.{Kind}
use Rattle.vortex_parquet.specs.declared.compact.Kind.TheVariants as kind
use Rattle.vortex_parquet.specs.declared.compact.FieldHead.{FieldHead}
use Rattle.vortex_parquet.specs.declared.compact.ListHead.{ListHead}
use Rattle.vortex_parquet.specs.declared.compact.MapHead.{MapHead}
use Rattle.vortex_parquet.specs.Reading.{◌>>=◌, Read}
use Rattle.vortex_parquet.specs.Compact.{jump, varint_at, binary_at, head_at, items_at, map_at}

-- the bytes behind a value of a kind
abbrev pub Skip : Type 0
Skip = Kind → List ℕ → Result (List ℕ) Fault

-- an item of a list: a Boolean among items takes a byte
abbrev pub skip_item : Skip → Skip
skip_item skip kind.True bytes = jump 1 bytes
skip_item skip kind.False bytes = jump 1 bytes
skip_item skip k bytes = skip k bytes

-- so many things behind one another
unfoldable pub times : (List ℕ → Result (List ℕ) Fault) → ℕ → List ℕ → Result (List ℕ) Fault
times skip zero bytes = Ok bytes
times skip (suc n) bytes = skip bytes >>= times skip n

-- an entry of a map
unfoldable pub skip_entry : Skip → Kind → Kind → List ℕ → Result (List ℕ) Fault
skip_entry skip k v bytes = skip_item skip k bytes >>= skip_item skip v

abbrev pub skip_list : Skip → Option ListHead × List ℕ → Result (List ℕ) Fault
skip_list skip (None, bytes) = Ok bytes
skip_list skip (Some l, bytes) = times (skip_item skip l.kind) l.count bytes

abbrev pub skip_map : Skip → Option MapHead × List ℕ → Result (List ℕ) Fault
skip_map skip (None, bytes) = Ok bytes
skip_map skip (Some m, bytes) = times (skip_entry skip m.key m.value) m.count bytes

-- one thing where there is no head, and another by the head
abbrev pub by_head : {A : Type 0} → A → (FieldHead → A) → Option FieldHead → A
by_head none some None = none
by_head none some (Some h) = some h

-- a field, with the bytes from its value on
pub record FieldData : Type 0 where
  pub id : ℕ
  pub kind : Kind
  pub from : List ℕ

abbrev pub field_data : FieldHead → List ℕ → FieldData
field_data h bytes = record { id = h.id; kind = h.kind; from = bytes }

-- a field before others
abbrev pub with_field : FieldData → List FieldData × List ℕ → Read (List FieldData)
with_field f (fs, bytes) = Ok (f ∷ fs, bytes)

-- at most so many fields behind one of identifier last, up to the end of the struct
unfoldable pub fields_in : Skip → ℕ → ℕ → List ℕ → Read (List FieldData)
fields_in skip zero last bytes = Err fault.Short
fields_in skip (suc n) last bytes = head_at last bytes >>= λ h.
    by_head (Ok ([], h.1)) (λ head. skip head.kind h.1 >>= λ next. fields_in skip n head.id next >>= with_field (field_data head h.1)) h.0

-- the fields of a struct: each takes a byte, and so does the end
unfoldable pub struct_at : Skip → List ℕ → Read (List FieldData)
struct_at skip bytes = fields_in skip (length bytes) 0 bytes

-- what stands behind
abbrev pub behind : {A : Type 0} → Read A → Result (List ℕ) Fault
behind read = read >>= λ x. Ok x.1

-- a value whose parts are skipped so
unfoldable pub skip_value : Skip → Skip
skip_value skip kind.True bytes = Ok bytes
skip_value skip kind.False bytes = Ok bytes
skip_value skip kind.Byte bytes = jump 1 bytes
skip_value skip kind.I16 bytes = behind (varint_at bytes)
skip_value skip kind.I32 bytes = behind (varint_at bytes)
skip_value skip kind.I64 bytes = behind (varint_at bytes)
skip_value skip kind.Double bytes = jump 8 bytes
skip_value skip kind.Binary bytes = behind (binary_at bytes)
skip_value skip kind.List bytes = items_at bytes >>= skip_list skip
skip_value skip kind.Set bytes = items_at bytes >>= skip_list skip
skip_value skip kind.Map bytes = map_at bytes >>= skip_map skip
skip_value skip kind.Struct bytes = behind (struct_at skip bytes)
skip_value skip kind.Uuid bytes = jump 16 bytes

-- a value whose parts are nested less deep than so
unfoldable pub skip_at : ℕ → Skip
skip_at zero k bytes = Err fault.Depth
skip_at (suc depth) k bytes = skip_value (skip_at depth) k bytes
