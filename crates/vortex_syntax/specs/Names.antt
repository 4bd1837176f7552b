-- The words that name columns, types and statistics.
use Rattle.std.specs.Prelude.{ℕ, Bool, true, false, ◌&&◌, ◌||◌, ◌==◌, nat_le, if◌then◌else◌, List, length, Option, Some, None, is_some, option_map, codes, slice_index, take, ◌-◌}
use Rattle.std.specs.Char.{is_ascii_alphabetic, is_ascii_alphanumeric}
use Rattle.std.specs.List.{list_all}
use Rattle.std.specs.Str.{bytes_eq}
use Rattle.vortex_base.specs.Data.Scopes.{Named, place_of}
use Rattle.vortex_base.specs.declared.dtype.DType.{DType}
use Rattle.vortex_base.specs.declared.dtype.DType.TheVariants as dtype
use Rattle.vortex_base.specs.declared.types.Nullability.{Nullability}
use Rattle.vortex_base.specs.declared.types.Nullability.TheVariants.{Nullable, NonNullable}
use Rattle.vortex_base.specs.declared.types.PType.{PType}
use Rattle.vortex_base.specs.declared.types.PType.TheVariants as ptype

-- begins a name: a letter or an underscore
abbrev pub begins_name : ℕ → Bool
begins_name b = is_ascii_alphabetic b || b == 95

-- goes on in a name: a letter, a digit or an underscore
abbrev pub continues_name : ℕ → Bool
continues_name b = is_ascii_alphanumeric b || b == 95

-- the longest name of a column, in bytes
abbrev pub name_limit : ℕ
name_limit = 64

-- the name of a column
abbrev pub is_name : List ℕ → Bool
is_name word = nat_le (length word) name_limit && (begins_name (slice_index word 0) && list_all continues_name word)

-- a name that no column has yet
abbrev pub is_new : List Named → List ℕ → Bool
is_new scope name = if is_name name then (if is_some (place_of name scope) then false else true) else false

-- the type of numbers of a word
abbrev pub ptype_of : List ℕ → Option PType
ptype_of word =
    if bytes_eq word (codes "u8") then Some ptype.U8 else (
    if bytes_eq word (codes "u16") then Some ptype.U16 else (
    if bytes_eq word (codes "u32") then Some ptype.U32 else (
    if bytes_eq word (codes "u64") then Some ptype.U64 else (
    if bytes_eq word (codes "i8") then Some ptype.I8 else (
    if bytes_eq word (codes "i16") then Some ptype.I16 else (
    if bytes_eq word (codes "i32") then Some ptype.I32 else (
    if bytes_eq word (codes "i64") then Some ptype.I64 else None)))))))

-- the type of a word without its question mark
abbrev pub kind_of : List ℕ → Nullability → Option DType
kind_of word n =
    if bytes_eq word (codes "bool") then Some (dtype.Bool n) else (
    if bytes_eq word (codes "utf8") then Some (dtype.Utf8 n) else (
    if bytes_eq word (codes "binary") then Some (dtype.Binary n) else option_map (λ p. dtype.Primitive p n) (ptype_of word)))

-- the type of a word: a question mark at its end lets null in
abbrev pub type_of : List ℕ → Option DType
type_of word =
    if bytes_eq word (codes "null") then Some dtype.Null else (
    if slice_index word (length word - 1) == 63 then kind_of (take (length word - 1) word) Nullable else kind_of word NonNullable)
