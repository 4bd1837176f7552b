-- What stands behind a thing is shorter than what it stands in.
use Rattle.std.proofs.Common.{ℕ, zero, suc, ◌+◌, ◌≤◌, List, [], ◌∷◌, length, Option, Some, None, ap, arith, inl, inr}
use Rattle.std.proofs.lemmas.List.{length-append, length-drop}
use Rattle.vortex_parquet.specs.declared.compact.Kind.{Kind}
use Rattle.vortex_parquet.specs.declared.compact.Kind.TheVariants as kind
use Rattle.vortex_parquet.specs.declared.compact.FieldHead.{FieldHead}
use Rattle.vortex_parquet.specs.declared.compact.ListHead.{ListHead}
use Rattle.vortex_parquet.specs.declared.compact.MapHead.{MapHead}
use Rattle.vortex_parquet.specs.Skip.{FieldData}
use Rattle.vortex_parquet.specs.Grammar.{AreAll, AreEntries, AreFields, AreItems, AreKinds, IsBinary, IsCount, IsCut, IsEntry, IsHead, IsId, IsItem, IsListHead, IsMapHead, IsValue, IsValueOf, IsVarint, Thing}

-- how many bytes a value takes at least
abbrev pub least : Kind → ℕ
least kind.True = 0
least kind.False = 0
least k = 1

abbrev pub IsSmaller : (Kind → Thing) → Type 0
IsSmaller Is = (k : Kind) (bytes rest : List ℕ) → Is k bytes rest → length rest + least k ≤ length bytes

cut_smaller : (n : ℕ) (bytes rest : List ℕ) → IsCut n bytes rest → length rest + n ≤ length bytes
cut_smaller n bytes rest h = omega (arith, ap length h.1, length-drop n bytes, h.0)

number_smaller : (most : ℕ) (bytes : List ℕ) (n : ℕ) (rest : List ℕ) → IsVarint most bytes n rest → length rest + 1 ≤ length bytes
number_smaller zero bytes n rest h = absurd h
number_smaller (suc most) [] n rest h = absurd h
number_smaller (suc most) (b ∷ bytes) n rest h =
    elim h [
      | inl x ↦ omega (arith, ap length x.2)
      | inr x ↦ let ih = number_smaller most bytes x.1.0 rest x.1.3 in omega (arith, ih)
    ]

binary_smaller : (bytes text rest : List ℕ) → IsBinary bytes text rest → length rest + 1 ≤ length bytes
binary_smaller bytes text rest h = omega (arith, number_smaller 10 bytes (length text) h.0 h.1, ap length h.2, length-append text rest)

id_smaller : (last delta : ℕ) (bytes : List ℕ) (id : ℕ) (rest : List ℕ) → IsId last delta bytes id rest → length rest ≤ length bytes
id_smaller last delta bytes id rest h =
    elim h [
      | inl x ↦ let k = number_smaller 10 bytes _ rest x.1 in omega (arith, k)
      | inr x ↦ omega (arith, ap length x.2)
    ]

head_smaller : (last : ℕ) (bytes : List ℕ) (head : FieldHead) (rest : List ℕ) → IsHead last bytes head rest → length rest + 1 ≤ length bytes
head_smaller last [] head rest h = absurd h
head_smaller last (b ∷ bytes) head rest h = omega (arith, id_smaller last _ bytes head.id rest h.3)

count_smaller : (short : ℕ) (bytes : List ℕ) (n : ℕ) (rest : List ℕ) → IsCount short bytes n rest → length rest ≤ length bytes
count_smaller short bytes n rest h =
    elim h [
      | inl x ↦ let k = number_smaller 10 bytes n rest x.1 in omega (arith, k)
      | inr x ↦ omega (arith, ap length x.2)
    ]

list_head_smaller : (bytes : List ℕ) (l : Option ListHead) (rest : List ℕ) → IsListHead bytes l rest → length rest + 1 ≤ length bytes
list_head_smaller [] l rest h = absurd h
list_head_smaller (b ∷ bytes) None rest h = omega (arith, count_smaller _ bytes 0 rest h)
list_head_smaller (b ∷ bytes) (Some l) rest h = omega (arith, count_smaller _ bytes l.count rest h.2)

pub kinds_smaller : (bytes : List ℕ) (m : MapHead) (rest : List ℕ) → AreKinds bytes m rest → length rest + 1 ≤ length bytes
kinds_smaller [] m rest h = absurd h
kinds_smaller (b ∷ bytes) m rest h = omega (arith, ap length h.2)

map_head_smaller : (bytes : List ℕ) (m : Option MapHead) (rest : List ℕ) → IsMapHead bytes m rest → length rest + 1 ≤ length bytes
map_head_smaller bytes None rest h = number_smaller 10 bytes 0 rest h
map_head_smaller bytes (Some m) rest h = omega (arith, number_smaller 10 bytes m.count h.1.0 h.1.1, kinds_smaller h.1.0 m rest h.1.2)

item_smaller : (Is : Kind → Thing) → IsSmaller Is → (k : Kind) (bytes rest : List ℕ) → IsItem Is k bytes rest → length rest + 1 ≤ length bytes
item_smaller Is s kind.True bytes rest h = cut_smaller 1 bytes rest h
item_smaller Is s kind.False bytes rest h = cut_smaller 1 bytes rest h
item_smaller Is s kind.Byte bytes rest h = s kind.Byte bytes rest h
item_smaller Is s kind.I16 bytes rest h = s kind.I16 bytes rest h
item_smaller Is s kind.I32 bytes rest h = s kind.I32 bytes rest h
item_smaller Is s kind.I64 bytes rest h = s kind.I64 bytes rest h
item_smaller Is s kind.Double bytes rest h = s kind.Double bytes rest h
item_smaller Is s kind.Binary bytes rest h = s kind.Binary bytes rest h
item_smaller Is s kind.List bytes rest h = s kind.List bytes rest h
item_smaller Is s kind.Set bytes rest h = s kind.Set bytes rest h
item_smaller Is s kind.Map bytes rest h = s kind.Map bytes rest h
item_smaller Is s kind.Struct bytes rest h = s kind.Struct bytes rest h
item_smaller Is s kind.Uuid bytes rest h = s kind.Uuid bytes rest h

-- so many things take so many bytes
all_smaller : (Is : Thing) → ((bytes rest : List ℕ) → Is bytes rest → length rest + 1 ≤ length bytes) → (n : ℕ) (bytes rest : List ℕ) → AreAll Is n bytes rest → length rest + n ≤ length bytes
all_smaller Is s zero bytes rest h = omega (arith, ap length h)
all_smaller Is s (suc n) bytes rest h = let more = all_smaller Is s n h.0 rest h.2 in omega (arith, s bytes h.0 h.1, more)

pub items_smaller : (Is : Kind → Thing) → IsSmaller Is → (k : Kind) (n : ℕ) (bytes rest : List ℕ) → AreAll (IsItem Is k) n bytes rest → length rest + n ≤ length bytes
items_smaller Is s k n bytes rest h = all_smaller (IsItem Is k) (item_smaller Is s k) n bytes rest h

list_smaller : (Is : Kind → Thing) → IsSmaller Is → (l : Option ListHead) (bytes rest : List ℕ) → AreItems Is l bytes rest → length rest ≤ length bytes
list_smaller Is s None bytes rest h = omega (arith, ap length h)
list_smaller Is s (Some l) bytes rest h = let k = items_smaller Is s l.kind l.count bytes rest h in omega (arith, k)

entry_smaller : (Is : Kind → Thing) → IsSmaller Is → (k v : Kind) (bytes rest : List ℕ) → IsEntry Is k v bytes rest → length rest + 1 ≤ length bytes
entry_smaller Is s k v bytes rest h = omega (arith, item_smaller Is s k bytes h.0 h.1, item_smaller Is s v h.0 rest h.2)

pub entries_smaller : (Is : Kind → Thing) → IsSmaller Is → (m : MapHead) (bytes rest : List ℕ) → AreEntries Is (Some m) bytes rest → length rest + m.count ≤ length bytes
entries_smaller Is s m bytes rest h = all_smaller (IsEntry Is m.key m.value) (entry_smaller Is s m.key m.value) m.count bytes rest h

map_smaller : (Is : Kind → Thing) → IsSmaller Is → (m : Option MapHead) (bytes rest : List ℕ) → AreEntries Is m bytes rest → length rest ≤ length bytes
map_smaller Is s None bytes rest h = omega (arith, ap length h)
map_smaller Is s (Some m) bytes rest h = let k = entries_smaller Is s m bytes rest h in omega (arith, k)

-- so many fields and the end take so many bytes
pub fields_smaller : (Is : Kind → Thing) → IsSmaller Is → (last : ℕ) (fs : List FieldData) (bytes rest : List ℕ) → AreFields Is last fs bytes rest → length rest + length fs + 1 ≤ length bytes
fields_smaller Is s last [] bytes rest h = omega (arith, ap length h)
fields_smaller Is s last (f ∷ fs) bytes rest h =
    let more = fields_smaller Is s f.id fs h.1.0 rest h.1.2 in
    omega (arith, head_smaller last bytes (record { id = f.id; kind = f.kind }) f.from h.0, s f.kind f.from h.1.0 h.1.1, more)

value_smaller : (Is : Kind → Thing) → IsSmaller Is → IsSmaller (IsValueOf Is)
value_smaller Is s kind.True bytes rest h = omega (arith, ap length h)
value_smaller Is s kind.False bytes rest h = omega (arith, ap length h)
value_smaller Is s kind.Byte bytes rest h = cut_smaller 1 bytes rest h
value_smaller Is s kind.I16 bytes rest h = number_smaller 10 bytes h.0 rest h.1
value_smaller Is s kind.I32 bytes rest h = number_smaller 10 bytes h.0 rest h.1
value_smaller Is s kind.I64 bytes rest h = number_smaller 10 bytes h.0 rest h.1
value_smaller Is s kind.Double bytes rest h = let k = cut_smaller 8 bytes rest h in omega (arith, k)
value_smaller Is s kind.Binary bytes rest h = binary_smaller bytes h.0 rest h.1
value_smaller Is s kind.List bytes rest h = let k = list_smaller Is s h.0 h.1.0 rest h.1.2 in omega (arith, list_head_smaller bytes h.0 h.1.0 h.1.1, k)
value_smaller Is s kind.Set bytes rest h = let k = list_smaller Is s h.0 h.1.0 rest h.1.2 in omega (arith, list_head_smaller bytes h.0 h.1.0 h.1.1, k)
value_smaller Is s kind.Map bytes rest h = let k = map_smaller Is s h.0 h.1.0 rest h.1.2 in omega (arith, map_head_smaller bytes h.0 h.1.0 h.1.1, k)
value_smaller Is s kind.Struct bytes rest h = let k = fields_smaller Is s 0 h.0 bytes rest h.1 in omega (arith, k)
value_smaller Is s kind.Uuid bytes rest h = let k = cut_smaller 16 bytes rest h in omega (arith, k)

pub smaller : (depth : ℕ) → IsSmaller (IsValue depth)
smaller zero k bytes rest h = absurd h
smaller (suc depth) k bytes rest h = value_smaller (IsValue depth) (smaller depth) k bytes rest h
