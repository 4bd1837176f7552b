-- What bytes mean as values of Thrift's compact protocol: a grammar by cases. Each word says of some bytes that they are a thing, and then the rest.
use Rattle.std.specs.Prelude.{◌≡◌, ℕ, zero, suc, ◌+◌, ◌-◌, ◌*◌, ◌/◌, ◌%◌, ◌^◌, ◌<◌, ◌≤◌, ◌≢◌, ◌⊎◌, List, [], ◌∷◌, ◌++◌, length, drop, Option, Some, None}
use Rattle.vortex_parquet.specs.declared.compact.Kind.{Kind}
use Rattle.vortex_parquet.specs.declared.compact.Kind.TheVariants as kind
use Rattle.vortex_parquet.specs.declared.compact.FieldHead.{FieldHead}
use Rattle.vortex_parquet.specs.declared.compact.ListHead.{ListHead}
use Rattle.vortex_parquet.specs.declared.compact.MapHead.{MapHead}
use Rattle.vortex_parquet.specs.Compact.{kind_of}
use Rattle.vortex_parquet.specs.Skip.{FieldData}

-- so many bytes
abbrev pub IsCut : ℕ → List ℕ → List ℕ → Type 0
IsCut n bytes rest = (n ≤ length bytes) × (rest ≡ drop n bytes)

-- ---- numbers

-- A byte below 128 is the last one, and stands for itself; another has the low seven bits of the number, and at most so many others stand for its other bits. It fits 64 bits.
abbrev pub IsVarint : ℕ → List ℕ → ℕ → List ℕ → Type 0
IsVarint zero bytes n rest = ⊥
IsVarint (suc most) [] n rest = ⊥
IsVarint (suc most) (b ∷ bytes) n rest =
    ((b < 128) × (n ≡ b) × (rest ≡ bytes)) ⊎
    ((128 ≤ b) × ((high : ℕ) × (high < 2 ^ 57) × (n ≡ b - 128 + high * 128) × IsVarint most bytes high rest))

-- a number without a sign
abbrev pub IsNumber : List ℕ → ℕ → List ℕ → Type 0
IsNumber bytes n rest = IsVarint 10 bytes n rest

-- a number with a sign, which is the lowest bit: one that is not below 0
abbrev pub IsNatural : List ℕ → ℕ → List ℕ → Type 0
IsNatural bytes n rest = IsNumber bytes (2 * n) rest

-- a string of bytes behind its length
abbrev pub IsBinary : List ℕ → List ℕ → List ℕ → Type 0
IsBinary bytes text rest = (from : List ℕ) × IsNumber bytes (length text) from × (from ≡ text ++ rest)

-- ---- heads

-- the identifier of a field: so much above the last one, or written out where that is 0
abbrev pub IsId : ℕ → ℕ → List ℕ → ℕ → List ℕ → Type 0
IsId last delta bytes id rest =
    ((delta ≡ 0) × IsNatural bytes id rest) ⊎
    ((delta ≢ 0) × (id ≡ last + delta) × (rest ≡ bytes))

-- the head of a field behind one of identifier last
abbrev pub IsHead : ℕ → List ℕ → FieldHead → List ℕ → Type 0
IsHead last [] head rest = ⊥
IsHead last (b ∷ bytes) head rest = (b ≢ 0) × (kind_of (b % 16) ≡ Some head.kind) × (head.id < 2 ^ 15) × IsId last (b / 16) bytes head.id rest

-- how many items a list has: as its head tells, or behind it where that tells 15
abbrev pub IsCount : ℕ → List ℕ → ℕ → List ℕ → Type 0
IsCount short bytes n rest =
    ((short ≡ 15) × IsNumber bytes n rest) ⊎
    ((short ≢ 15) × (n ≡ short) × (rest ≡ bytes))

-- the head of a list or a set, or of one without items, whose kind may be anything
abbrev pub IsListHead : List ℕ → Option ListHead → List ℕ → Type 0
IsListHead [] items rest = ⊥
IsListHead (b ∷ bytes) None rest = IsCount (b / 16) bytes 0 rest
IsListHead (b ∷ bytes) (Some l) rest = (l.count ≢ 0) × (kind_of (b % 16) ≡ Some l.kind) × IsCount (b / 16) bytes l.count rest

-- the kinds of a map's keys and values
abbrev pub AreKinds : List ℕ → MapHead → List ℕ → Type 0
AreKinds [] m rest = ⊥
AreKinds (b ∷ bytes) m rest = (kind_of (b / 16) ≡ Some m.key) × (kind_of (b % 16) ≡ Some m.value) × (rest ≡ bytes)

-- the head of a map, or of one without entries, which has no kinds
abbrev pub IsMapHead : List ℕ → Option MapHead → List ℕ → Type 0
IsMapHead bytes None rest = IsNumber bytes 0 rest
IsMapHead bytes (Some m) rest = (m.count ≢ 0) × ((mid : List ℕ) × IsNumber bytes m.count mid × AreKinds mid m rest)

-- ---- values

-- the bytes are one thing, and then the rest
abbrev pub Thing : Type 1
Thing = List ℕ → List ℕ → Type 0

-- so many things behind one another
abbrev pub AreAll : Thing → ℕ → List ℕ → List ℕ → Type 0
AreAll Is zero bytes rest = rest ≡ bytes
AreAll Is (suc n) bytes rest = (mid : List ℕ) × Is bytes mid × AreAll Is n mid rest

-- an item of a list: a Boolean among items takes a byte
abbrev pub IsItem : (Kind → Thing) → Kind → List ℕ → List ℕ → Type 0
IsItem Is kind.True bytes rest = IsCut 1 bytes rest
IsItem Is kind.False bytes rest = IsCut 1 bytes rest
IsItem Is k bytes rest = Is k bytes rest

-- the items of a list
abbrev pub AreItems : (Kind → Thing) → Option ListHead → List ℕ → List ℕ → Type 0
AreItems Is None bytes rest = rest ≡ bytes
AreItems Is (Some l) bytes rest = AreAll (IsItem Is l.kind) l.count bytes rest

-- an entry of a map
abbrev pub IsEntry : (Kind → Thing) → Kind → Kind → List ℕ → List ℕ → Type 0
IsEntry Is k v bytes rest = (mid : List ℕ) × IsItem Is k bytes mid × IsItem Is v mid rest

abbrev pub AreEntries : (Kind → Thing) → Option MapHead → List ℕ → List ℕ → Type 0
AreEntries Is None bytes rest = rest ≡ bytes
AreEntries Is (Some m) bytes rest = AreAll (IsEntry Is m.key m.value) m.count bytes rest

-- the fields of a struct behind one of identifier last, each with the bytes from its value on, and the end
abbrev pub AreFields : (Kind → Thing) → ℕ → List FieldData → List ℕ → List ℕ → Type 0
AreFields Is last [] bytes rest = bytes ≡ 0 ∷ rest
AreFields Is last (f ∷ fs) bytes rest =
    IsHead last bytes (record { id = f.id; kind = f.kind }) f.from × ((next : List ℕ) × Is f.kind f.from next × AreFields Is f.id fs next rest)

-- a struct
abbrev pub IsStruct : (Kind → Thing) → List FieldData → List ℕ → List ℕ → Type 0
IsStruct Is fs bytes rest = AreFields Is 0 fs bytes rest

-- a value whose parts are those that Is says
abbrev pub IsValueOf : (Kind → Thing) → Kind → List ℕ → List ℕ → Type 0
IsValueOf Is kind.True bytes rest = rest ≡ bytes
IsValueOf Is kind.False bytes rest = rest ≡ bytes
IsValueOf Is kind.Byte bytes rest = IsCut 1 bytes rest
IsValueOf Is kind.I16 bytes rest = (n : ℕ) × IsNumber bytes n rest
IsValueOf Is kind.I32 bytes rest = (n : ℕ) × IsNumber bytes n rest
IsValueOf Is kind.I64 bytes rest = (n : ℕ) × IsNumber bytes n rest
IsValueOf Is kind.Double bytes rest = IsCut 8 bytes rest
IsValueOf Is kind.Binary bytes rest = (text : List ℕ) × IsBinary bytes text rest
IsValueOf Is kind.List bytes rest = (l : Option ListHead) × ((from : List ℕ) × IsListHead bytes l from × AreItems Is l from rest)
IsValueOf Is kind.Set bytes rest = (l : Option ListHead) × ((from : List ℕ) × IsListHead bytes l from × AreItems Is l from rest)
IsValueOf Is kind.Map bytes rest = (m : Option MapHead) × ((from : List ℕ) × IsMapHead bytes m from × AreEntries Is m from rest)
IsValueOf Is kind.Struct bytes rest = (fs : List FieldData) × IsStruct Is fs bytes rest
IsValueOf Is kind.Uuid bytes rest = IsCut 16 bytes rest

-- a value whose parts are nested less deep than so
abbrev pub IsValue : ℕ → Kind → List ℕ → List ℕ → Type 0
IsValue zero k bytes rest = ⊥
IsValue (suc depth) k bytes rest = IsValueOf (IsValue depth) k bytes rest
