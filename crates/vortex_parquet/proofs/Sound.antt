-- What is read is in the grammar.
use Rattle.std.proofs.Common.{◌≡◌, ℕ, zero, suc, ◌+◌, ◌-◌, ◌*◌, ◌/◌, ◌%◌, ◌^◌, ◌<◌, ◌≤◌, ◌≢◌, ◌⊎◌, Bool, true, false, cond, ltb, eqb, List, [], ◌∷◌, ◌++◌, length, take, drop, Option, Some, None, Result, Ok, Err, refl, sym, ap, subst, ◌∙◌, arith, inl, inr}
use Rattle.std.proofs.lemmas.Bool.{ltb-false, eqb-true, eqb-false}
use borrow.Author.Tests.{ltb-true}
use Rattle.std.proofs.lemmas.List.{take-append-drop, length-take}
use Rattle.vortex_parquet.specs.declared.fault.Fault.{Fault}
use Rattle.vortex_parquet.specs.declared.fault.Fault.TheVariants as fault
use Rattle.vortex_parquet.specs.declared.compact.Kind.{Kind}
use Rattle.vortex_parquet.specs.declared.compact.Kind.TheVariants as kind
use Rattle.vortex_parquet.specs.declared.compact.FieldHead.{FieldHead}
use Rattle.vortex_parquet.specs.declared.compact.ListHead.{ListHead}
use Rattle.vortex_parquet.specs.declared.compact.MapHead.{MapHead}
use Rattle.std.specs.Prelude.{IfOk}
use Rattle.vortex_parquet.specs.declared.fault.ReadError.{ReadError}
use Rattle.vortex_parquet.specs.Reading.{◌>>=◌, Gives, Read}
use Rattle.vortex_parquet.specs.Compact.{binary_at, count_at, head_at, id_at, items_at, jump, kind_at, kind_of, kinds_at, map_at, natural_at, or_fault, varint_at, varint_from, varint_in}
use Rattle.vortex_parquet.specs.Skip.{FieldData, Skip, behind, by_head, field_data, fields_in, skip_at, skip_entry, skip_item, skip_list, skip_map, skip_value, struct_at, times, with_field}
use Rattle.vortex_parquet.specs.Grammar.{AreAll, AreEntries, AreFields, AreItems, AreKinds, IsBinary, IsCount, IsCut, IsEntry, IsHead, IsId, IsItem, IsListHead, IsMapHead, IsNatural, IsNumber, IsStruct, IsValue, IsValueOf, IsVarint, Thing}

-- the value of a step that did not fail
pub bind_ok : {A B : Type 0} (r : Result A Fault) (f : A → Result B Fault) (y : B) → (r >>= f) ≡ Ok y → (x : A) × (r ≡ Ok x) × (f x ≡ Ok y)
bind_ok (Ok x) f y e = (x, refl, e)
bind_ok (Err d) f y e = absurd cc

-- a test that did not fail, which fails where it holds
pub guard : {A : Type 0} (b : Bool) (d : Fault) (r : Result A Fault) (y : A) → cond b (Err d) r ≡ Ok y → (b ≡ false) × (r ≡ Ok y)
guard true d r y e = absurd cc
guard false d r y e = (refl, e)

-- one that fails where it doesn't hold
guard_not : {A : Type 0} (b : Bool) (d : Fault) (r : Result A Fault) (y : A) → cond b r (Err d) ≡ Ok y → (b ≡ true) × (r ≡ Ok y)
guard_not true d r y e = (refl, e)
guard_not false d r y e = absurd cc

chosen : {A : Type 0} (b : Bool) (x y z : A) → cond b x y ≡ z → ((b ≡ true) × (x ≡ z)) ⊎ ((b ≡ false) × (y ≡ z))
chosen true x y z e = inl (refl, e)
chosen false x y z e = inr (refl, e)

pub one_ok : {A : Type 0} (a c : A) → (let r : Result A Fault = Ok a in r) ≡ Ok c → a ≡ c
one_ok a c e = cc

pair_ok : {A B : Type 0} (a c : A) (b d : B) → (let r : Result (A × B) Fault = Ok (a, b) in r) ≡ Ok (c, d) → (a ≡ c) × (b ≡ d)
pair_ok {A} {B} a c b d e = let p = one_ok (a, b) (c, d) e in (ap (λ (x : A × B). x.0) p, ap (λ (x : A × B). x.1) p)

pub jump_sound : (n : ℕ) (bytes rest : List ℕ) → jump n bytes ≡ Ok rest → IsCut n bytes rest
unfolding jump
jump_sound n bytes rest e =
    let g = guard (ltb (length bytes) n) fault.Short (Ok (drop n bytes)) rest e in
    (ltb-false _ _ g.0, sym (one_ok (drop n bytes) rest g.1))

pub varint_sound : (most : ℕ) (bytes : List ℕ) (n : ℕ) (rest : List ℕ) → varint_in most bytes ≡ Ok (n, rest) → IsVarint most bytes n rest
unfolding varint_in varint_from
varint_sound zero bytes n rest e = absurd cc
varint_sound (suc most) [] n rest e = absurd cc
varint_sound (suc most) (b ∷ bytes) n rest e =
    elim (chosen (ltb b 128) (Ok (b, bytes)) (varint_in most bytes >>= λ high. cond (ltb high.0 (2 ^ 57)) (Ok (b - 128 + high.0 * 128, high.1)) (Err fault.Varint)) (Ok (n, rest)) e) [
      | inl (t, k) ↦ let p = pair_ok b n bytes rest k in inl (ltb-true _ _ t, sym p.0, sym p.1)
      | inr (t, k) ↦
          let h = bind_ok (varint_in most bytes) (λ high. cond (ltb high.0 (2 ^ 57)) (Ok (b - 128 + high.0 * 128, high.1)) (Err fault.Varint)) (n, rest) k in
          let g = guard_not (ltb h.0.0 (2 ^ 57)) fault.Varint (Ok (b - 128 + h.0.0 * 128, h.0.1)) (n, rest) h.2 in
          let p = pair_ok (b - 128 + h.0.0 * 128) n h.0.1 rest g.1 in
          inr (ltb-false _ _ t, (h.0.0, ltb-true _ _ g.0, sym p.0, varint_sound most bytes h.0.0 rest (h.1 ∙ ap (λ (r : List ℕ). Ok (h.0.0, r)) p.1)))
    ]

pub number_sound : (bytes : List ℕ) (n : ℕ) (rest : List ℕ) → varint_at bytes ≡ Ok (n, rest) → IsNumber bytes n rest
unfolding varint_at
number_sound bytes n rest e = varint_sound 10 bytes n rest e

pub natural_sound : (bytes : List ℕ) (n : ℕ) (rest : List ℕ) → natural_at bytes ≡ Ok (n, rest) → IsNatural bytes n rest
unfolding natural_at
natural_sound bytes n rest e =
    let h = bind_ok (varint_at bytes) (λ m. cond (eqb (m.0 % 2) 1) (Err fault.Negative) (Ok (m.0 / 2, m.1))) (n, rest) e in
    let g = guard (eqb (h.0.0 % 2) 1) fault.Negative (Ok (h.0.0 / 2, h.0.1)) (n, rest) h.2 in
    let p = pair_ok (h.0.0 / 2) n h.0.1 rest g.1 in
    let odd : h.0.0 % 2 ≢ 1 = eqb-false _ _ g.0 in
    let twice : h.0.0 ≡ 2 * n = omega (arith, odd, p.0) in
    number_sound bytes (2 * n) rest (h.1 ∙ ap (λ (i : ℕ). Ok (i, h.0.1)) twice ∙ ap (λ (r : List ℕ). Ok (2 * n, r)) p.1)

pub binary_sound : (bytes text rest : List ℕ) → binary_at bytes ≡ Ok (text, rest) → IsBinary bytes text rest
unfolding binary_at
binary_sound bytes text rest e =
    let h = bind_ok (varint_at bytes) (λ m. cond (ltb (length m.1) m.0) (Err fault.Short) (Ok (take m.0 m.1, drop m.0 m.1))) (text, rest) e in
    let g = guard (ltb (length h.0.1) h.0.0) fault.Short (Ok (take h.0.0 h.0.1, drop h.0.0 h.0.1)) (text, rest) h.2 in
    let p = pair_ok (take h.0.0 h.0.1) text (drop h.0.0 h.0.1) rest g.1 in
    let long : h.0.0 ≤ length h.0.1 = ltb-false _ _ g.0 in
    let len : length text ≡ h.0.0 = ap length (sym p.0) ∙ (let k : length (take h.0.0 h.0.1) ≡ h.0.0 = omega (arith, length-take h.0.0 h.0.1) in k) in
    (h.0.1, subst (λ (n : ℕ). IsNumber bytes n h.0.1) (sym len) (number_sound bytes h.0.0 h.0.1 h.1), sym (take-append-drop h.0.0 h.0.1) ∙ ap (λ (t : List ℕ). t ++ drop h.0.0 h.0.1) p.0 ∙ ap (λ (t : List ℕ). text ++ t) p.1)

or_sound : {A : Type 0} (d : Fault) (o : Option A) (x : A) → or_fault d o ≡ Ok x → o ≡ Some x
or_sound d (Some y) x e = cc
or_sound d None x e = absurd cc

kind_sound : (n : ℕ) (k : Kind) → kind_at n ≡ Ok k → kind_of n ≡ Some k
unfolding kind_at
kind_sound n k e = or_sound fault.Kind (kind_of n) k e

id_sound : (last delta : ℕ) (bytes : List ℕ) (id : ℕ) (rest : List ℕ) → id_at last delta bytes ≡ Ok (id, rest) → IsId last delta bytes id rest
unfolding id_at
id_sound last delta bytes id rest e =
    elim (chosen (eqb delta 0) (natural_at bytes) (Ok (last + delta, bytes)) (Ok (id, rest)) e) [
      | inl (t, k) ↦ inl (eqb-true _ _ t, natural_sound bytes id rest k)
      | inr (t, k) ↦ let p = pair_ok (last + delta) id bytes rest k in inr (eqb-false _ _ t, sym p.0, sym p.1)
    ]

head_rest : ℕ → ℕ → List ℕ → Read (Option FieldHead)
head_rest last b bytes = kind_at (b % 16) >>= λ kind. id_at last (b / 16) bytes >>= λ id. cond (ltb id.0 (2 ^ 15)) (Ok (Some (record { id = id.0; kind = kind }), id.1)) (Err fault.FieldId)

some_head : (last b : ℕ) (bytes : List ℕ) (head : FieldHead) (rest : List ℕ) → b ≢ 0 → head_rest last b bytes ≡ Ok (Some head, rest) → IsHead last (b ∷ bytes) head rest
unfolding head_rest
some_head last b bytes head rest ne e =
    let k = bind_ok (kind_at (b % 16)) (λ kind. id_at last (b / 16) bytes >>= λ id. cond (ltb id.0 (2 ^ 15)) (Ok (Some (record { id = id.0; kind = kind }), id.1)) (Err fault.FieldId)) (Some head, rest) e in
    let i = bind_ok (id_at last (b / 16) bytes) (λ id. cond (ltb id.0 (2 ^ 15)) (Ok (Some (record { id = id.0; kind = k.0 }), id.1)) (Err fault.FieldId)) (Some head, rest) k.2 in
    let g = guard_not (ltb i.0.0 (2 ^ 15)) fault.FieldId (Ok (Some (record { id = i.0.0; kind = k.0 }), i.0.1)) (Some head, rest) i.2 in
    let p = pair_ok (Some (record { id = i.0.0; kind = k.0 })) (Some head) i.0.1 rest g.1 in
    let h : head ≡ record { id = i.0.0; kind = k.0 } = cc in
    subst (λ (x : FieldHead). IsHead last (b ∷ bytes) x rest) (sym h) (ne, kind_sound _ _ k.1, ltb-true _ _ g.0, id_sound last (b / 16) bytes i.0.0 rest (i.1 ∙ ap (λ (r : List ℕ). Ok (i.0.0, r)) p.1))

no_head : (last b : ℕ) (bytes rest : List ℕ) → head_rest last b bytes ≡ Ok (None, rest) → ⊥
unfolding head_rest
no_head last b bytes rest e =
    let k = bind_ok (kind_at (b % 16)) (λ kind. id_at last (b / 16) bytes >>= λ id. cond (ltb id.0 (2 ^ 15)) (Ok (Some (record { id = id.0; kind = kind }), id.1)) (Err fault.FieldId)) (None, rest) e in
    let i = bind_ok (id_at last (b / 16) bytes) (λ id. cond (ltb id.0 (2 ^ 15)) (Ok (Some (record { id = id.0; kind = k.0 }), id.1)) (Err fault.FieldId)) (None, rest) k.2 in
    let g = guard_not (ltb i.0.0 (2 ^ 15)) fault.FieldId (Ok (Some (record { id = i.0.0; kind = k.0 }), i.0.1)) (None, rest) i.2 in
    let p = pair_ok (Some (record { id = i.0.0; kind = k.0 })) None i.0.1 rest g.1 in cc

pub head_sound : (last : ℕ) (bytes : List ℕ) (head : FieldHead) (rest : List ℕ) → head_at last bytes ≡ Ok (Some head, rest) → IsHead last bytes head rest
unfolding head_at head_rest
head_sound last [] head rest e = absurd cc
head_sound last (b ∷ bytes) head rest e =
    elim (chosen (eqb b 0) (Ok (None, bytes)) (head_rest last b bytes) (Ok (Some head, rest)) e) [
      | inl (t, k) ↦ let p = pair_ok None (Some head) bytes rest k in let q = p.0 in absurd cc
      | inr (t, k) ↦ some_head last b bytes head rest (eqb-false _ _ t) k
    ]

pub end_sound : (last : ℕ) (bytes rest : List ℕ) → head_at last bytes ≡ Ok (None, rest) → bytes ≡ 0 ∷ rest
unfolding head_at head_rest
end_sound last [] rest e = absurd cc
end_sound last (b ∷ bytes) rest e =
    elim (chosen (eqb b 0) (Ok (None, bytes)) (head_rest last b bytes) (Ok (None, rest)) e) [
      | inl (t, k) ↦ let n : b ≡ 0 = eqb-true _ _ t in let p = pair_ok None None bytes rest k in let q = p.1 in cc
      | inr (t, k) ↦ absurd (no_head last b bytes rest k)
    ]

count_sound : (short : ℕ) (bytes : List ℕ) (n : ℕ) (rest : List ℕ) → count_at short bytes ≡ Ok (n, rest) → IsCount short bytes n rest
unfolding count_at
count_sound short bytes n rest e =
    elim (chosen (eqb short 15) (varint_at bytes) (Ok (short, bytes)) (Ok (n, rest)) e) [
      | inl (t, k) ↦ inl (eqb-true _ _ t, number_sound bytes n rest k)
      | inr (t, k) ↦ let p = pair_ok short n bytes rest k in inr (eqb-false _ _ t, sym p.0, sym p.1)
    ]

pub items_sound : (bytes : List ℕ) (l : Option ListHead) (rest : List ℕ) → items_at bytes ≡ Ok (l, rest) → IsListHead bytes l rest
unfolding items_at
items_sound [] l rest e = absurd cc
items_sound (b ∷ bytes) l rest e =
    let n = bind_ok (count_at (b / 16) bytes) (λ n. cond (eqb n.0 0) (Ok (None, n.1)) (cond (ltb (length n.1) n.0) (Err fault.Length) (kind_at (b % 16) >>= λ kind. Ok (Some (record { count = n.0; kind = kind }), n.1)))) (l, rest) e in
    elim (chosen (eqb n.0.0 0) (Ok (None, n.0.1)) (cond (ltb (length n.0.1) n.0.0) (Err fault.Length) (kind_at (b % 16) >>= λ kind. Ok (Some (record { count = n.0.0; kind = kind }), n.0.1))) (Ok (l, rest)) n.2) [
      | inl (t, k) ↦
          let z : n.0.0 ≡ 0 = eqb-true _ _ t in
          let whole : IsListHead (b ∷ bytes) None n.0.1 = count_sound (b / 16) bytes 0 n.0.1 (n.1 ∙ ap (λ (i : ℕ). Ok (i, n.0.1)) z) in
          subst (λ (x : Option ListHead × List ℕ). IsListHead (b ∷ bytes) x.0 x.1) (one_ok (None, n.0.1) (l, rest) k) whole
      | inr (t, k) ↦
          let g = guard (ltb (length n.0.1) n.0.0) fault.Length (kind_at (b % 16) >>= λ kind. Ok (Some (record { count = n.0.0; kind = kind }), n.0.1)) (l, rest) k in
          let x = bind_ok (kind_at (b % 16)) (λ kind. Ok (Some (record { count = n.0.0; kind = kind }), n.0.1)) (l, rest) g.1 in
          let whole : IsListHead (b ∷ bytes) (Some (record { count = n.0.0; kind = x.0 })) n.0.1 = (eqb-false _ _ t, kind_sound _ _ x.1, count_sound (b / 16) bytes n.0.0 n.0.1 n.1) in
          subst (λ (z : Option ListHead × List ℕ). IsListHead (b ∷ bytes) z.0 z.1) (one_ok (Some (record { count = n.0.0; kind = x.0 }), n.0.1) (l, rest) x.2) whole
    ]

kinds_sound : (count : ℕ) (bytes : List ℕ) (m : MapHead) (rest : List ℕ) → kinds_at count bytes ≡ Ok (m, rest) → (m.count ≡ count) × AreKinds bytes m rest
unfolding kinds_at
kinds_sound count [] m rest e = absurd cc
kinds_sound count (b ∷ bytes) m rest e =
    let k = bind_ok (kind_at (b / 16)) (λ key. kind_at (b % 16) >>= λ value. Ok (record { count = count; key = key; value = value }, bytes)) (m, rest) e in
    let v = bind_ok (kind_at (b % 16)) (λ value. Ok (record { count = count; key = k.0; value = value }, bytes)) (m, rest) k.2 in
    let whole : (count ≡ count) × AreKinds (b ∷ bytes) (record { count = count; key = k.0; value = v.0 }) bytes = (refl, (kind_sound _ _ k.1, kind_sound _ _ v.1, refl)) in
    subst (λ (x : MapHead × List ℕ). (x.0.count ≡ count) × AreKinds (b ∷ bytes) x.0 x.1) (one_ok (record { count = count; key = k.0; value = v.0 }, bytes) (m, rest) v.2) whole

pub map_sound : (bytes : List ℕ) (m : Option MapHead) (rest : List ℕ) → map_at bytes ≡ Ok (m, rest) → IsMapHead bytes m rest
unfolding map_at
map_sound bytes m rest e =
    let n = bind_ok (varint_at bytes) (λ n. cond (eqb n.0 0) (Ok (None, n.1)) (cond (ltb (length n.1) n.0) (Err fault.Length) (kinds_at n.0 n.1 >>= λ m. Ok (Some m.0, m.1)))) (m, rest) e in
    elim (chosen (eqb n.0.0 0) (Ok (None, n.0.1)) (cond (ltb (length n.0.1) n.0.0) (Err fault.Length) (kinds_at n.0.0 n.0.1 >>= λ m. Ok (Some m.0, m.1))) (Ok (m, rest)) n.2) [
      | inl (t, k) ↦
          let z : n.0.0 ≡ 0 = eqb-true _ _ t in
          let whole : IsMapHead bytes None n.0.1 = number_sound bytes 0 n.0.1 (n.1 ∙ ap (λ (i : ℕ). Ok (i, n.0.1)) z) in
          subst (λ (x : Option MapHead × List ℕ). IsMapHead bytes x.0 x.1) (one_ok (None, n.0.1) (m, rest) k) whole
      | inr (t, k) ↦
          let g = guard (ltb (length n.0.1) n.0.0) fault.Length (kinds_at n.0.0 n.0.1 >>= λ m. Ok (Some m.0, m.1)) (m, rest) k in
          let x = bind_ok (kinds_at n.0.0 n.0.1) (λ m. Ok (Some m.0, m.1)) (m, rest) g.1 in
          let y = kinds_sound n.0.0 n.0.1 x.0.0 x.0.1 x.1 in
          let ne : n.0.0 ≢ 0 = eqb-false _ _ t in
          let some : x.0.0.count ≢ 0 = λ z. ne (sym y.0 ∙ z) in
          let whole : IsMapHead bytes (Some x.0.0) x.0.1 = (some, (n.0.1, rw y.0 (number_sound bytes n.0.0 n.0.1 n.1), y.1)) in
          subst (λ (z : Option MapHead × List ℕ). IsMapHead bytes z.0 z.1) (one_ok (Some x.0.0, x.0.1) (m, rest) x.2) whole
    ]

-- ---- values whose parts are

abbrev pub IsSound : Skip → (Kind → Thing) → Type 0
IsSound skip Is = (k : Kind) (bytes rest : List ℕ) → skip k bytes ≡ Ok rest → Is k bytes rest

item_sound : (skip : Skip) (Is : Kind → Thing) → IsSound skip Is → (k : Kind) (bytes rest : List ℕ) → skip_item skip k bytes ≡ Ok rest → IsItem Is k bytes rest
item_sound skip Is h kind.True bytes rest e = jump_sound 1 bytes rest e
item_sound skip Is h kind.False bytes rest e = jump_sound 1 bytes rest e
item_sound skip Is h kind.Byte bytes rest e = h kind.Byte bytes rest e
item_sound skip Is h kind.I16 bytes rest e = h kind.I16 bytes rest e
item_sound skip Is h kind.I32 bytes rest e = h kind.I32 bytes rest e
item_sound skip Is h kind.I64 bytes rest e = h kind.I64 bytes rest e
item_sound skip Is h kind.Double bytes rest e = h kind.Double bytes rest e
item_sound skip Is h kind.Binary bytes rest e = h kind.Binary bytes rest e
item_sound skip Is h kind.List bytes rest e = h kind.List bytes rest e
item_sound skip Is h kind.Set bytes rest e = h kind.Set bytes rest e
item_sound skip Is h kind.Map bytes rest e = h kind.Map bytes rest e
item_sound skip Is h kind.Struct bytes rest e = h kind.Struct bytes rest e
item_sound skip Is h kind.Uuid bytes rest e = h kind.Uuid bytes rest e

times_sound : (one : List ℕ → Result (List ℕ) Fault) (Is : Thing) → ((bytes rest : List ℕ) → one bytes ≡ Ok rest → Is bytes rest) → (n : ℕ) (bytes rest : List ℕ) → times one n bytes ≡ Ok rest → AreAll Is n bytes rest
unfolding times
times_sound one Is h zero bytes rest e = sym (one_ok bytes rest e)
times_sound one Is h (suc n) bytes rest e =
    let m = bind_ok (one bytes) (times one n) rest e in
    (m.0, h bytes m.0 m.1, times_sound one Is h n m.0 rest m.2)

list_sound : (skip : Skip) (Is : Kind → Thing) → IsSound skip Is → (l : Option ListHead) (bytes rest : List ℕ) → skip_list skip (l, bytes) ≡ Ok rest → AreItems Is l bytes rest
list_sound skip Is h None bytes rest e = sym (one_ok bytes rest e)
list_sound skip Is h (Some l) bytes rest e = times_sound (skip_item skip l.kind) (IsItem Is l.kind) (item_sound skip Is h l.kind) l.count bytes rest e

entry_sound : (skip : Skip) (Is : Kind → Thing) → IsSound skip Is → (k v : Kind) (bytes rest : List ℕ) → skip_entry skip k v bytes ≡ Ok rest → IsEntry Is k v bytes rest
unfolding skip_entry
entry_sound skip Is h k v bytes rest e =
    let m = bind_ok (skip_item skip k bytes) (skip_item skip v) rest e in
    (m.0, item_sound skip Is h k bytes m.0 m.1, item_sound skip Is h v m.0 rest m.2)

entries_sound : (skip : Skip) (Is : Kind → Thing) → IsSound skip Is → (m : Option MapHead) (bytes rest : List ℕ) → skip_map skip (m, bytes) ≡ Ok rest → AreEntries Is m bytes rest
entries_sound skip Is h None bytes rest e = sym (one_ok bytes rest e)
entries_sound skip Is h (Some m) bytes rest e = times_sound (skip_entry skip m.key m.value) (IsEntry Is m.key m.value) (entry_sound skip Is h m.key m.value) m.count bytes rest e

one_field : (skip : Skip) (Is : Kind → Thing) → IsSound skip Is → (n last : ℕ) (bytes : List ℕ) (head : Option FieldHead) (from : List ℕ) (fs : List FieldData) (rest : List ℕ)
    → head_at last bytes ≡ Ok (head, from)
    → by_head (Ok ([], from)) (λ head. skip head.kind from >>= λ next. fields_in skip n head.id next >>= with_field (field_data head from)) head ≡ Ok (fs, rest)
    → ((last : ℕ) (bytes : List ℕ) (fs : List FieldData) (rest : List ℕ) → fields_in skip n last bytes ≡ Ok (fs, rest) → (length fs < n) × AreFields Is last fs bytes rest)
    → (length fs < suc n) × AreFields Is last fs bytes rest
one_field skip Is h n last bytes None from fs rest k e more =
    let p = pair_ok [] fs from rest e in
    subst (λ (x : List FieldData × List ℕ). (length x.0 < suc n) × AreFields Is last x.0 bytes x.1) (one_ok ([], from) (fs, rest) e) (omega arith, end_sound last bytes from k)
one_field skip Is h n last bytes (Some head) from fs rest k e more =
    let s = bind_ok (skip head.kind from) (λ next. fields_in skip n head.id next >>= with_field (field_data head from)) (fs, rest) e in
    let x = bind_ok (fields_in skip n head.id s.0) (with_field (field_data head from)) (fs, rest) s.2 in
    let m = more head.id s.0 x.0.0 x.0.1 x.1 in
    let whole : (length (field_data head from ∷ x.0.0) < suc n) × AreFields Is last (field_data head from ∷ x.0.0) bytes x.0.1 = (omega (arith, m.0), (head_sound last bytes head from k, (s.0, h head.kind from s.0 s.1, m.1))) in
    subst (λ (y : List FieldData × List ℕ). (length y.0 < suc n) × AreFields Is last y.0 bytes y.1) (one_ok (field_data head from ∷ x.0.0, x.0.1) (fs, rest) x.2) whole

pub fields_sound : (skip : Skip) (Is : Kind → Thing) → IsSound skip Is → (n last : ℕ) (bytes : List ℕ) (fs : List FieldData) (rest : List ℕ) → fields_in skip n last bytes ≡ Ok (fs, rest) → (length fs < n) × AreFields Is last fs bytes rest
unfolding fields_in
fields_sound skip Is h zero last bytes fs rest e = absurd cc
fields_sound skip Is h (suc n) last bytes fs rest e =
    let b = bind_ok (head_at last bytes) (λ h. by_head (Ok ([], h.1)) (λ head. skip head.kind h.1 >>= λ next. fields_in skip n head.id next >>= with_field (field_data head h.1)) h.0) (fs, rest) e in
    one_field skip Is h n last bytes b.0.0 b.0.1 fs rest b.1 b.2 (λ l x f r. fields_sound skip Is h n l x f r)

pub struct_sound : (skip : Skip) (Is : Kind → Thing) → IsSound skip Is → (bytes : List ℕ) (fs : List FieldData) (rest : List ℕ) → struct_at skip bytes ≡ Ok (fs, rest) → IsStruct Is fs bytes rest
unfolding struct_at
struct_sound skip Is h bytes fs rest e = (fields_sound skip Is h (length bytes) 0 bytes fs rest e).1

behind_ok : {A : Type 0} (r : Read A) (rest : List ℕ) → behind r ≡ Ok rest → (x : A) × (r ≡ Ok (x, rest))
behind_ok (Ok x) rest e = (x.0, ap (λ (t : List ℕ). Ok (x.0, t)) (one_ok x.1 rest e))
behind_ok (Err d) rest e = absurd cc

value_sound : (skip : Skip) (Is : Kind → Thing) → IsSound skip Is → IsSound (skip_value skip) (IsValueOf Is)
unfolding skip_value
value_sound skip Is h kind.True bytes rest e = sym (one_ok bytes rest e)
value_sound skip Is h kind.False bytes rest e = sym (one_ok bytes rest e)
value_sound skip Is h kind.Byte bytes rest e = jump_sound 1 bytes rest e
value_sound skip Is h kind.I16 bytes rest e = let b = behind_ok (varint_at bytes) rest e in (b.0, number_sound bytes b.0 rest b.1)
value_sound skip Is h kind.I32 bytes rest e = let b = behind_ok (varint_at bytes) rest e in (b.0, number_sound bytes b.0 rest b.1)
value_sound skip Is h kind.I64 bytes rest e = let b = behind_ok (varint_at bytes) rest e in (b.0, number_sound bytes b.0 rest b.1)
value_sound skip Is h kind.Double bytes rest e = jump_sound 8 bytes rest e
value_sound skip Is h kind.Binary bytes rest e = let b = behind_ok (binary_at bytes) rest e in (b.0, binary_sound bytes b.0 rest b.1)
value_sound skip Is h kind.List bytes rest e =
    let b = bind_ok (items_at bytes) (skip_list skip) rest e in
    (b.0.0, (b.0.1, items_sound bytes b.0.0 b.0.1 b.1, list_sound skip Is h b.0.0 b.0.1 rest b.2))
value_sound skip Is h kind.Set bytes rest e =
    let b = bind_ok (items_at bytes) (skip_list skip) rest e in
    (b.0.0, (b.0.1, items_sound bytes b.0.0 b.0.1 b.1, list_sound skip Is h b.0.0 b.0.1 rest b.2))
value_sound skip Is h kind.Map bytes rest e =
    let b = bind_ok (map_at bytes) (skip_map skip) rest e in
    (b.0.0, (b.0.1, map_sound bytes b.0.0 b.0.1 b.1, entries_sound skip Is h b.0.0 b.0.1 rest b.2))
value_sound skip Is h kind.Struct bytes rest e = let b = behind_ok (struct_at skip bytes) rest e in (b.0, struct_sound skip Is h bytes b.0 rest b.1)
value_sound skip Is h kind.Uuid bytes rest e = jump_sound 16 bytes rest e

-- what is skipped is a value
pub skip_sound : (depth : ℕ) → IsSound (skip_at depth) (IsValue depth)
unfolding skip_at
skip_sound zero k bytes rest e = absurd cc
skip_sound (suc depth) k bytes rest e = value_sound (skip_at depth) (IsValue depth) (skip_sound depth) k bytes rest e

pub gives_value : {X : Type 0} (k : Kind) (bytes : List ℕ) (now : X → List ℕ) (r : Result X ReadError) → Gives now r (skip_at 32 k bytes) → IfOk r (λ x. IsValue 32 k bytes (now x))
gives_value k bytes now (Ok x) h = skip_sound 32 k bytes (now x) h
gives_value k bytes now (Err e) h = tt
