-- Thrift's compact protocol: numbers, byte strings, and the heads of fields and lists.
use Rattle.std.specs.Prelude.{ℕ, zero, suc, ◌+◌, ◌-◌, ◌*◌, ◌/◌, ◌%◌, ◌^◌, List, [], ◌∷◌, length, take, drop, Option, Some, None, Result, Ok, Err, nat_lt, ◌==◌, if◌then◌else◌}
use Rattle.vortex_parquet.specs.declared.fault.Fault.{Fault}
use Rattle.vortex_parquet.specs.declared.fault.Fault.TheVariants as fault
use Rattle.vortex_parquet.specs.declared.compact.Kind.{Kind}
use Rattle.vortex_parquet.specs.declared.compact.Kind.TheVariants as kind
use Rattle.vortex_parquet.specs.declared.compact.FieldHead.{FieldHead}
use Rattle.vortex_parquet.specs.declared.compact.ListHead.{ListHead}
use Rattle.vortex_parquet.specs.declared.compact.MapHead.{MapHead}
use Rattle.vortex_parquet.specs.Reading.{◌>>=◌, Read}

-- the kind of a code
abbrev pub kind_of : ℕ → Option Kind
kind_of n =
    if n == 1 then Some kind.True else (
    if n == 2 then Some kind.False else (
    if n == 3 then Some kind.Byte else (
    if n == 4 then Some kind.I16 else (
    if n == 5 then Some kind.I32 else (
    if n == 6 then Some kind.I64 else (
    if n == 7 then Some kind.Double else (
    if n == 8 then Some kind.Binary else (
    if n == 9 then Some kind.List else (
    if n == 10 then Some kind.Set else (
    if n == 11 then Some kind.Map else (
    if n == 12 then Some kind.Struct else (
    if n == 13 then Some kind.Uuid else None))))))))))))

abbrev pub or_fault : {A : Type 0} → Fault → Option A → Result A Fault
or_fault f (Some x) = Ok x
or_fault f None = Err f

unfoldable pub kind_at : ℕ → Result Kind Fault
kind_at n = or_fault fault.Kind (kind_of n)

-- what stands behind so many bytes
unfoldable pub jump : ℕ → List ℕ → Result (List ℕ) Fault
jump n bytes = if nat_lt (length bytes) n then Err fault.Short else Ok (drop n bytes)

-- ---- numbers

-- a byte below 128 is the last one, and stands for itself; another has the low seven bits, and those behind it stand for the rest
unfoldable pub varint_from : (List ℕ → Read ℕ) → List ℕ → Read ℕ
varint_from others [] = Err fault.Short
varint_from others (b ∷ bytes) = if nat_lt b 128 then Ok (b, bytes) else (others bytes >>= λ high.
    if nat_lt high.0 (2 ^ 57) then Ok (b - 128 + high.0 * 128, high.1) else Err fault.Varint)

-- a number of at most so many bytes
unfoldable pub varint_in : ℕ → List ℕ → Read ℕ
varint_in zero bytes = Err fault.Varint
varint_in (suc n) bytes = varint_from (varint_in n) bytes

unfoldable pub varint_at : List ℕ → Read ℕ
varint_at bytes = varint_in 10 bytes

-- a number with a sign, which is the lowest bit: it is not below 0
unfoldable pub natural_at : List ℕ → Read ℕ
natural_at bytes = do
  n ← varint_at bytes
  if n.0 % 2 == 1 then Err fault.Negative else Ok (n.0 / 2, n.1)

-- ---- byte strings

unfoldable pub binary_at : List ℕ → Read (List ℕ)
binary_at bytes = do
  n ← varint_at bytes
  if nat_lt (length n.1) n.0 then Err fault.Short else Ok (take n.0 n.1, drop n.0 n.1)

-- ---- heads

-- the identifier of a field: so much above the last one, or behind the head where that is 0
unfoldable pub id_at : ℕ → ℕ → List ℕ → Read ℕ
id_at last delta bytes = if delta == 0 then natural_at bytes else Ok (last + delta, bytes)

-- the head of a field, or none where the struct ends
unfoldable pub head_at : ℕ → List ℕ → Read (Option FieldHead)
head_at last [] = Err fault.Short
head_at last (b ∷ bytes) = if b == 0 then Ok (None, bytes) else (
    kind_at (b % 16) >>= λ kind.
    id_at last (b / 16) bytes >>= λ id.
    if nat_lt id.0 (2 ^ 15) then Ok (Some (record { id = id.0; kind = kind }), id.1) else Err fault.FieldId)

-- how many items a list has: as its head tells, or behind it where that tells 15
unfoldable pub count_at : ℕ → List ℕ → Read ℕ
count_at short bytes = if short == 15 then varint_at bytes else Ok (short, bytes)

-- the head of a list: one without items has no kind, and none has more items than bytes are left
unfoldable pub items_at : List ℕ → Read (Option ListHead)
items_at [] = Err fault.Short
items_at (b ∷ bytes) = do
  n ← count_at (b / 16) bytes
  if n.0 == 0 then Ok (None, n.1) else (
      if nat_lt (length n.1) n.0 then Err fault.Length else (
      kind_at (b % 16) >>= λ kind. Ok (Some (record { count = n.0; kind = kind }), n.1)))

unfoldable pub kinds_at : ℕ → List ℕ → Read MapHead
kinds_at count [] = Err fault.Short
kinds_at count (b ∷ bytes) = do
  key ← kind_at (b / 16)
  value ← kind_at (b % 16)
  Ok (record { count = count; key = key; value = value }, bytes)

-- the head of a map: one without entries has no kinds
unfoldable pub map_at : List ℕ → Read (Option MapHead)
map_at bytes = do
  n ← varint_at bytes
  if n.0 == 0 then Ok (None, n.1) else (
      if nat_lt (length n.1) n.0 then Err fault.Length else (
      kinds_at n.0 n.1 >>= λ m. Ok (Some m.0, m.1)))
