-- What is in the grammar is read.
use Rattle.std.proofs.Common.{◌≡◌, ℕ, zero, suc, ◌+◌, ◌-◌, ◌*◌, ◌/◌, ◌%◌, ◌^◌, ◌<◌, ◌≤◌, true, false, cond, ltb, eqb, List, [], ◌∷◌, ◌++◌, length, take, drop, Option, Some, None, Result, Ok, Err, refl, sym, ap, subst, ◌∙◌, arith, inl, inr}
use Rattle.std.proofs.lemmas.Bool.{lt-ltb, le-ltb, eq-eqb, ne_eqb}
use Rattle.std.proofs.lemmas.List.{take_at, drop_at, length-append}
use Rattle.vortex_parquet.specs.declared.fault.Fault.{Fault}
use Rattle.vortex_parquet.specs.declared.fault.Fault.TheVariants as fault
use Rattle.vortex_parquet.specs.declared.fault.ReadError.{ReadError}
use Rattle.vortex_parquet.specs.declared.compact.Kind.{Kind}
use Rattle.vortex_parquet.specs.declared.compact.Kind.TheVariants as kind
use Rattle.vortex_parquet.specs.declared.compact.FieldHead.{FieldHead}
use Rattle.vortex_parquet.specs.declared.compact.ListHead.{ListHead}
use Rattle.vortex_parquet.specs.declared.compact.MapHead.{MapHead}
use Rattle.vortex_parquet.specs.Reading.{Gives}
use Rattle.vortex_parquet.specs.Compact.{binary_at, count_at, head_at, id_at, items_at, jump, kind_at, kind_of, kinds_at, map_at, natural_at, or_fault, varint_at, varint_from, varint_in}
use Rattle.vortex_parquet.specs.Skip.{FieldData, Skip, behind, fields_in, skip_at, skip_entry, skip_item, skip_list, skip_map, skip_value, struct_at, times}
use Rattle.vortex_parquet.proofs.Smaller.{IsSmaller, entries_smaller, fields_smaller, items_smaller, kinds_smaller, smaller}
use Rattle.vortex_parquet.specs.Grammar.{AreAll, AreEntries, AreFields, AreItems, AreKinds, IsBinary, IsCount, IsCut, IsEntry, IsHead, IsId, IsItem, IsListHead, IsMapHead, IsNatural, IsNumber, IsStruct, IsValue, IsValueOf, IsVarint, Thing}

pair_eq : {A B : Type 0} (a c : A) (b d : B) → c ≡ a → d ≡ b → (let r : Result (A × B) Fault = Ok (a, b) in r) ≡ Ok (c, d)
pair_eq {A} {B} a c b d p q = ap (λ (x : A). Ok (x, b)) (sym p) ∙ ap (λ (y : B). Ok (c, y)) (sym q)

pub jump_complete : (n : ℕ) (bytes rest : List ℕ) → IsCut n bytes rest → jump n bytes ≡ Ok rest
unfolding jump
jump_complete n bytes rest h =
    let t : ltb (length bytes) n ≡ false = le-ltb _ _ h.0 in
    rw t (ap (λ (r : List ℕ). Ok r) (sym h.1))

pub varint_complete : (most : ℕ) (bytes : List ℕ) (n : ℕ) (rest : List ℕ) → IsVarint most bytes n rest → varint_in most bytes ≡ Ok (n, rest)
unfolding varint_in varint_from
varint_complete zero bytes n rest h = absurd h
varint_complete (suc most) [] n rest h = absurd h
varint_complete (suc most) (b ∷ bytes) n rest h =
    elim h [
      | inl x ↦ let t : ltb b 128 ≡ true = lt-ltb _ _ x.0 in rw t (pair_eq b n bytes rest x.1 x.2)
      | inr x ↦
          let t : ltb b 128 ≡ false = le-ltb _ _ x.0 in
          let ih : varint_in most bytes ≡ Ok (x.1.0, rest) = varint_complete most bytes x.1.0 rest x.1.3 in
          let fits : ltb x.1.0 (2 ^ 57) ≡ true = lt-ltb _ _ x.1.1 in
          rw (t, ih, fits) (pair_eq (b - 128 + x.1.0 * 128) n rest rest x.1.2 refl)
    ]

pub number_complete : (bytes : List ℕ) (n : ℕ) (rest : List ℕ) → IsNumber bytes n rest → varint_at bytes ≡ Ok (n, rest)
unfolding varint_at
number_complete bytes n rest h = varint_complete 10 bytes n rest h

halves : (n : ℕ) (rest : List ℕ) → cond {A = Result (ℕ × List ℕ) Fault} (eqb (2 * n % 2) 1) (Err fault.Negative) (Ok (2 * n / 2, rest)) ≡ Ok (n, rest)
halves n rest =
    let t : eqb (2 * n % 2) 1 ≡ false = ne_eqb _ _ (λ e. omega (arith, e)) in
    let d : 2 * n / 2 ≡ n = omega arith in
    rw t (pair_eq (2 * n / 2) n rest rest (sym d) refl)

pub natural_complete : (bytes : List ℕ) (n : ℕ) (rest : List ℕ) → IsNatural bytes n rest → natural_at bytes ≡ Ok (n, rest)
unfolding natural_at
natural_complete bytes n rest h = rw (number_complete bytes (2 * n) rest h) (halves n rest)

strings : (text rest : List ℕ) → cond {A = Result (List ℕ × List ℕ) Fault} (ltb (length (text ++ rest)) (length text)) (Err fault.Short) (Ok (take (length text) (text ++ rest), drop (length text) (text ++ rest))) ≡ Ok (text, rest)
strings text rest =
    let t : ltb (length (text ++ rest)) (length text) ≡ false = le-ltb _ _ (omega (arith, length-append text rest)) in
    rw t (pair_eq (take (length text) (text ++ rest)) text (drop (length text) (text ++ rest)) rest (sym (take_at text rest (length text) refl)) (sym (drop_at text rest (length text) refl)))

pub binary_complete : (bytes text rest : List ℕ) → IsBinary bytes text rest → binary_at bytes ≡ Ok (text, rest)
unfolding binary_at
binary_complete bytes text rest h =
    rw (number_complete bytes (length text) h.0 h.1) (subst (λ (from : List ℕ). cond {A = Result (List ℕ × List ℕ) Fault} (ltb (length from) (length text)) (Err fault.Short) (Ok (take (length text) from, drop (length text) from)) ≡ Ok (text, rest)) (sym h.2) (strings text rest))

kind_complete : (n : ℕ) (k : Kind) → kind_of n ≡ Some k → kind_at n ≡ Ok k
unfolding kind_at
kind_complete n k e = ap (or_fault fault.Kind) e

id_complete : (last delta : ℕ) (bytes : List ℕ) (id : ℕ) (rest : List ℕ) → IsId last delta bytes id rest → id_at last delta bytes ≡ Ok (id, rest)
unfolding id_at
id_complete last delta bytes id rest h =
    elim h [
      | inl x ↦ let t : eqb delta 0 ≡ true = eq-eqb _ _ x.0 in rw t (natural_complete bytes id rest x.1)
      | inr x ↦ let t : eqb delta 0 ≡ false = ne_eqb _ _ x.0 in rw t (pair_eq (last + delta) id bytes rest x.1 x.2)
    ]

pub head_complete : (last : ℕ) (bytes : List ℕ) (head : FieldHead) (rest : List ℕ) → IsHead last bytes head rest → head_at last bytes ≡ Ok (Some head, rest)
unfolding head_at
head_complete last [] head rest h = absurd h
head_complete last (b ∷ bytes) head rest h =
    let t : eqb b 0 ≡ false = ne_eqb _ _ h.0 in
    let fits : ltb head.id (2 ^ 15) ≡ true = lt-ltb _ _ h.2 in
    rw (t, kind_complete (b % 16) head.kind h.1, id_complete last (b / 16) bytes head.id rest h.3, fits) refl

pub end_complete : (last : ℕ) (bytes rest : List ℕ) → bytes ≡ 0 ∷ rest → head_at last bytes ≡ Ok (None, rest)
unfolding head_at
end_complete last bytes rest e = rw e refl

count_complete : (short : ℕ) (bytes : List ℕ) (n : ℕ) (rest : List ℕ) → IsCount short bytes n rest → count_at short bytes ≡ Ok (n, rest)
unfolding count_at
count_complete short bytes n rest h =
    elim h [
      | inl x ↦ let t : eqb short 15 ≡ true = eq-eqb _ _ x.0 in rw t (number_complete bytes n rest x.1)
      | inr x ↦ let t : eqb short 15 ≡ false = ne_eqb _ _ x.0 in rw t (pair_eq short n bytes rest x.1 x.2)
    ]

pub items_complete : (bytes : List ℕ) (l : Option ListHead) (rest : List ℕ) → IsListHead bytes l rest → ((x : ListHead) → l ≡ Some x → x.count ≤ length rest) → items_at bytes ≡ Ok (l, rest)
unfolding items_at
items_complete [] l rest h few = absurd h
items_complete (b ∷ bytes) None rest h few = rw (count_complete (b / 16) bytes 0 rest h) refl
items_complete (b ∷ bytes) (Some l) rest h few =
    let t : eqb l.count 0 ≡ false = ne_eqb _ _ h.0 in
    let s : ltb (length rest) l.count ≡ false = le-ltb _ _ (few l refl) in
    rw (count_complete (b / 16) bytes l.count rest h.2, t, s, kind_complete (b % 16) l.kind h.1) refl

kinds_complete : (bytes : List ℕ) (m : MapHead) (rest : List ℕ) → AreKinds bytes m rest → kinds_at m.count bytes ≡ Ok (m, rest)
unfolding kinds_at
kinds_complete [] m rest h = absurd h
kinds_complete (b ∷ bytes) m rest h =
    rw (kind_complete (b / 16) m.key h.0, kind_complete (b % 16) m.value h.1) (pair_eq m m bytes rest refl h.2)

pub map_complete : (bytes : List ℕ) (m : Option MapHead) (rest : List ℕ) → IsMapHead bytes m rest → ((x : MapHead) → m ≡ Some x → x.count ≤ length rest) → map_at bytes ≡ Ok (m, rest)
unfolding map_at
map_complete bytes None rest h few = rw (number_complete bytes 0 rest h) refl
map_complete bytes (Some m) rest h few =
    let t : eqb m.count 0 ≡ false = ne_eqb _ _ h.0 in
    let fits : m.count ≤ length h.1.0 = omega (arith, few m refl, kinds_smaller h.1.0 m rest h.1.2) in
    let s : ltb (length h.1.0) m.count ≡ false = le-ltb _ _ fits in
    rw (number_complete bytes m.count h.1.0 h.1.1, t, s, kinds_complete h.1.0 m rest h.1.2) refl

-- ---- values whose parts are

abbrev pub IsComplete : Skip → (Kind → Thing) → Type 0
IsComplete skip Is = (k : Kind) (bytes rest : List ℕ) → Is k bytes rest → skip k bytes ≡ Ok rest

item_complete : (skip : Skip) (Is : Kind → Thing) → IsComplete skip Is → (k : Kind) (bytes rest : List ℕ) → IsItem Is k bytes rest → skip_item skip k bytes ≡ Ok rest
item_complete skip Is h kind.True bytes rest e = jump_complete 1 bytes rest e
item_complete skip Is h kind.False bytes rest e = jump_complete 1 bytes rest e
item_complete skip Is h kind.Byte bytes rest e = h kind.Byte bytes rest e
item_complete skip Is h kind.I16 bytes rest e = h kind.I16 bytes rest e
item_complete skip Is h kind.I32 bytes rest e = h kind.I32 bytes rest e
item_complete skip Is h kind.I64 bytes rest e = h kind.I64 bytes rest e
item_complete skip Is h kind.Double bytes rest e = h kind.Double bytes rest e
item_complete skip Is h kind.Binary bytes rest e = h kind.Binary bytes rest e
item_complete skip Is h kind.List bytes rest e = h kind.List bytes rest e
item_complete skip Is h kind.Set bytes rest e = h kind.Set bytes rest e
item_complete skip Is h kind.Map bytes rest e = h kind.Map bytes rest e
item_complete skip Is h kind.Struct bytes rest e = h kind.Struct bytes rest e
item_complete skip Is h kind.Uuid bytes rest e = h kind.Uuid bytes rest e

times_complete : (one : List ℕ → Result (List ℕ) Fault) (Is : Thing) → ((bytes rest : List ℕ) → Is bytes rest → one bytes ≡ Ok rest) → (n : ℕ) (bytes rest : List ℕ) → AreAll Is n bytes rest → times one n bytes ≡ Ok rest
unfolding times
times_complete one Is h zero bytes rest e = ap (λ (r : List ℕ). Ok r) (sym e)
times_complete one Is h (suc n) bytes rest e = rw (h bytes e.0 e.1) (times_complete one Is h n e.0 rest e.2)

list_complete : (skip : Skip) (Is : Kind → Thing) → IsComplete skip Is → (l : Option ListHead) (bytes rest : List ℕ) → AreItems Is l bytes rest → skip_list skip (l, bytes) ≡ Ok rest
list_complete skip Is h None bytes rest e = ap (λ (r : List ℕ). Ok r) (sym e)
list_complete skip Is h (Some l) bytes rest e = times_complete (skip_item skip l.kind) (IsItem Is l.kind) (item_complete skip Is h l.kind) l.count bytes rest e

entry_complete : (skip : Skip) (Is : Kind → Thing) → IsComplete skip Is → (k v : Kind) (bytes rest : List ℕ) → IsEntry Is k v bytes rest → skip_entry skip k v bytes ≡ Ok rest
unfolding skip_entry
entry_complete skip Is h k v bytes rest e = rw (item_complete skip Is h k bytes e.0 e.1) (item_complete skip Is h v e.0 rest e.2)

entries_complete : (skip : Skip) (Is : Kind → Thing) → IsComplete skip Is → (m : Option MapHead) (bytes rest : List ℕ) → AreEntries Is m bytes rest → skip_map skip (m, bytes) ≡ Ok rest
entries_complete skip Is h None bytes rest e = ap (λ (r : List ℕ). Ok r) (sym e)
entries_complete skip Is h (Some m) bytes rest e = times_complete (skip_entry skip m.key m.value) (IsEntry Is m.key m.value) (entry_complete skip Is h m.key m.value) m.count bytes rest e

pub fields_complete : (skip : Skip) (Is : Kind → Thing) → IsComplete skip Is → (n last : ℕ) (bytes : List ℕ) (fs : List FieldData) (rest : List ℕ) → length fs < n → AreFields Is last fs bytes rest → fields_in skip n last bytes ≡ Ok (fs, rest)
unfolding fields_in
fields_complete skip Is h zero last bytes fs rest lt e = absurd (omega arith)
fields_complete skip Is h (suc n) last bytes [] rest lt e = rw (end_complete last bytes rest e) refl
fields_complete skip Is h (suc n) last bytes (f ∷ fs) rest lt e =
    rw (head_complete last bytes (record { id = f.id; kind = f.kind }) f.from e.0, h f.kind f.from e.1.0 e.1.1, fields_complete skip Is h n f.id e.1.0 fs rest (omega arith) e.1.2) refl

pub struct_complete : (skip : Skip) (Is : Kind → Thing) → IsComplete skip Is → IsSmaller Is → (bytes : List ℕ) (fs : List FieldData) (rest : List ℕ) → IsStruct Is fs bytes rest → struct_at skip bytes ≡ Ok (fs, rest)
unfolding struct_at
struct_complete skip Is h s bytes fs rest e = let k = fields_smaller Is s 0 fs bytes rest e in fields_complete skip Is h (length bytes) 0 bytes fs rest (omega (arith, k)) e

many_fit : (Is : Kind → Thing) → IsSmaller Is → (m : Option MapHead) (bytes rest : List ℕ) → AreEntries Is m bytes rest → (x : MapHead) → m ≡ Some x → x.count ≤ length bytes
many_fit Is s None bytes rest h x e = absurd cc
many_fit Is s (Some m) bytes rest h x e =
    let k = entries_smaller Is s m bytes rest h in
    let same : m ≡ x = cc in
    let few : m.count ≤ length bytes = omega (arith, k) in
    subst (λ (y : MapHead). y.count ≤ length bytes) same few

few_items : (Is : Kind → Thing) → IsSmaller Is → (l : Option ListHead) (bytes rest : List ℕ) → AreItems Is l bytes rest → (x : ListHead) → l ≡ Some x → x.count ≤ length bytes
few_items Is s None bytes rest h x e = absurd cc
few_items Is s (Some l) bytes rest h x e =
    let k = items_smaller Is s l.kind l.count bytes rest h in
    let same : l ≡ x = cc in
    let few : l.count ≤ length bytes = omega (arith, k) in
    subst (λ (y : ListHead). y.count ≤ length bytes) same few

value_complete : (skip : Skip) (Is : Kind → Thing) → IsComplete skip Is → IsSmaller Is → IsComplete (skip_value skip) (IsValueOf Is)
unfolding skip_value
value_complete skip Is h s kind.True bytes rest e = ap (λ (r : List ℕ). Ok r) (sym e)
value_complete skip Is h s kind.False bytes rest e = ap (λ (r : List ℕ). Ok r) (sym e)
value_complete skip Is h s kind.Byte bytes rest e = jump_complete 1 bytes rest e
value_complete skip Is h s kind.I16 bytes rest e = ap behind (number_complete bytes e.0 rest e.1)
value_complete skip Is h s kind.I32 bytes rest e = ap behind (number_complete bytes e.0 rest e.1)
value_complete skip Is h s kind.I64 bytes rest e = ap behind (number_complete bytes e.0 rest e.1)
value_complete skip Is h s kind.Double bytes rest e = jump_complete 8 bytes rest e
value_complete skip Is h s kind.Binary bytes rest e = ap behind (binary_complete bytes e.0 rest e.1)
value_complete skip Is h s kind.List bytes rest e = rw (items_complete bytes e.0 e.1.0 e.1.1 (few_items Is s e.0 e.1.0 rest e.1.2)) (list_complete skip Is h e.0 e.1.0 rest e.1.2)
value_complete skip Is h s kind.Set bytes rest e = rw (items_complete bytes e.0 e.1.0 e.1.1 (few_items Is s e.0 e.1.0 rest e.1.2)) (list_complete skip Is h e.0 e.1.0 rest e.1.2)
value_complete skip Is h s kind.Map bytes rest e = rw (map_complete bytes e.0 e.1.0 e.1.1 (many_fit Is s e.0 e.1.0 rest e.1.2)) (entries_complete skip Is h e.0 e.1.0 rest e.1.2)
value_complete skip Is h s kind.Struct bytes rest e = ap behind (struct_complete skip Is h s bytes e.0 rest e.1)
value_complete skip Is h s kind.Uuid bytes rest e = jump_complete 16 bytes rest e

-- a value is skipped
pub skip_complete : (depth : ℕ) → IsComplete (skip_at depth) (IsValue depth)
unfolding skip_at
skip_complete zero k bytes rest e = absurd e
skip_complete (suc depth) k bytes rest e = value_complete (skip_at depth) (IsValue depth) (skip_complete depth) (smaller depth) k bytes rest e

pub value_gives : {X : Type 0} (k : Kind) (bytes : List ℕ) (now : X → List ℕ) (r : Result X ReadError) → Gives now r (skip_at 32 k bytes) → (rest : List ℕ) → IsValue 32 k bytes rest → Gives now r (Ok rest)
value_gives k bytes now r h rest v = subst (Gives now r) (skip_complete 32 k bytes rest v) h
