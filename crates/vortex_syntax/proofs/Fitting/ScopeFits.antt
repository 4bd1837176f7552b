-- A column with a new name and a type that words name keeps a scope one.
use Rattle.std.proofs.Common.{◌≡◌, ◌≤◌, ◌||◌, ◌-◌, ◌==◌, ◌&&◌, ℕ, zero, suc, Bool, IsAscii, IsUtf8, nat_le, true, false, List, [], ◌∷◌, ◌++◌, Option, None, Some, is_some, codes, length, slice_index, take, refl, ap, sym, ◌∙◌, inl, inr, arith}
use Rattle.std.proofs.lemmas.Bool.{cases_Bool, false_from_ne_true}
use Rattle.std.proofs.lemmas.List.Folds.{list_any-append, list_any_none}
use Rattle.std.proofs.lemmas.List.Sums.{fails_before_first}
use Rattle.std.proofs.lemmas.Bool.Decides.{nat_tests}
use Rattle.std.proofs.lemmas.Str.{IsUtf8-from_ascii}
use Rattle.std.specs.List.{list_all, list_any, position_or_len}
use Rattle.std.specs.Str.{bytes_eq}
use Rattle.vortex_base.specs.Data.Exact.{both_true}
use Rattle.vortex_base.specs.Data.Scopes.{Named, bytes_eq_is_exact, has_duplicate, is_named, is_state_column, place_of}
use Rattle.vortex_base.specs.declared.dtype.DType.{DType}
use Rattle.vortex_base.specs.declared.dtype.DType.TheVariants as dtype
use Rattle.vortex_base.specs.declared.types.Nullability.{Nullability}
use Rattle.vortex_base.specs.declared.types.Nullability.TheVariants.{Nullable, NonNullable}
use Rattle.vortex_syntax.proofs.FirstLine.{none_found}
use Rattle.vortex_syntax.specs.Names.{begins_name, continues_name, is_name, is_new, kind_of, name_limit, ptype_of, type_of}
use Rattle.vortex_syntax.proofs.Fitting.ValueFits.{mapped}

-- ---- the types that words name

kind_storable : (name word : List ℕ) (n : Nullability) (t : DType) → kind_of word n ≡ Some t → is_state_column (name, t) ≡ false
kind_storable name word n t h = elim (cases_Bool (bytes_eq word (codes "bool"))) [
  | inl bool ↦ (let same : dtype.Bool n ≡ t = (let e = rw bool at h in cc) in ap (λ u. is_state_column (name, u)) (sym same))
  | inr no_bool ↦ (elim (cases_Bool (bytes_eq word (codes "utf8"))) [
    | inl text ↦ (let same : dtype.Utf8 n ≡ t = (let e = rw (no_bool, text) at h in cc) in ap (λ u. is_state_column (name, u)) (sym same))
    | inr no_text ↦ (elim (cases_Bool (bytes_eq word (codes "binary"))) [
      | inl bytes ↦ (let same : dtype.Binary n ≡ t = (let e = rw (no_bool, no_text, bytes) at h in cc) in ap (λ u. is_state_column (name, u)) (sym same))
      | inr no_bytes ↦ (let m = mapped (λ p. dtype.Primitive p n) (ptype_of word) t (rw (no_bool, no_text, no_bytes) at h) in ap (λ u. is_state_column (name, u)) (sym m.same))
    ])
  ])
]

pub type_storable : (name word : List ℕ) (t : DType) → type_of word ≡ Some t → is_state_column (name, t) ≡ false
type_storable name word t h = elim (cases_Bool (bytes_eq word (codes "null"))) [
  | inl null ↦ (let same : dtype.Null ≡ t = (let e = rw null at h in cc) in ap (λ u. is_state_column (name, u)) (sym same))
  | inr other ↦ (elim (cases_Bool (slice_index word (length word - 1) == 63)) [
    | inl mark ↦ kind_storable name (take (length word - 1) word) Nullable t (rw (other, mark) at h)
    | inr none ↦ kind_storable name word NonNullable t (rw (other, none) at h)
  ])
]

pub storable_more : (scope : List Named) (name : List ℕ) (t : DType) → list_any is_state_column scope ≡ false → is_state_column (name, t) ≡ false → list_any is_state_column (scope ++ (name, t) ∷ []) ≡ false
storable_more scope name t h one = list_any-append is_state_column scope ((name, t) ∷ []) ∙ rw (h, one) refl

-- ---- new names

letters_are_ascii : (word : List ℕ) → list_all continues_name word ≡ true → IsAscii word
letters_are_ascii [] h i = omega arith
letters_are_ascii (b ∷ bs) h zero = let one = (both_true (continues_name b) (list_all continues_name bs) h).0 in grind (arith, nat_tests)
letters_are_ascii (b ∷ bs) h (suc i) = letters_are_ascii bs (both_true (continues_name b) (list_all continues_name bs) h).1 i

-- a name is a text
pub new_is_text : (scope : List Named) (name : List ℕ) → is_new scope name ≡ true → IsUtf8 name
new_is_text scope name h = elim (cases_Bool (is_name name)) [
  | inl word ↦ (let rest = both_true (nat_le (length name) name_limit) (begins_name (slice_index name 0) && list_all continues_name name) word in
      IsUtf8-from_ascii name (letters_are_ascii name (both_true (begins_name (slice_index name 0)) (list_all continues_name name) rest.1).1))
  | inr other ↦ (let e = rw other at h in cc)
]

nothing : {X : Type 0} (o : Option X) → is_some o ≡ false → o ≡ None
nothing None h = refl
nothing (Some x) h = cc

unnamed : (scope : List Named) (name : List ℕ) → is_some (place_of name scope) ≡ false → list_any (is_named name) scope ≡ false
unnamed scope name h =
    let far : length scope ≤ position_or_len (is_named name) scope = none_found (position_or_len (is_named name) scope) (length scope) (nothing (place_of name scope) h) in
    list_any_none (is_named name) scope (λ k d within. fails_before_first (is_named name) scope k d (omega arith))

unlike : (a b : List ℕ) → bytes_eq a b ≡ false → bytes_eq b a ≡ false
unlike a b h = false_from_ne_true (bytes_eq b a) (λ same. let back : bytes_eq a b ≡ true = (bytes_eq_is_exact a b).1 (sym ((bytes_eq_is_exact b a).0 same)) in cc)

neither_of : (a b : Bool) → (a || b) ≡ false → (a ≡ false) × (b ≡ false)
neither_of true b h = cc
neither_of false b h = (refl, h)

distinct_end : (scope : List Named) (name : List ℕ) (t : DType) → has_duplicate scope ≡ false → list_any (is_named name) scope ≡ false → has_duplicate (scope ++ (name, t) ∷ []) ≡ false
distinct_end [] name t h none = refl
distinct_end (c ∷ cs) name t h none =
    let both = neither_of (list_any (is_named c.0) cs) (has_duplicate cs) h in
    let rest = neither_of (is_named name c) (list_any (is_named name) cs) none in
    let more = distinct_end cs name t both.1 rest.1 in
    let last : is_named c.0 (name, t) ≡ false = unlike c.0 name rest.0 in
    let first : list_any (is_named c.0) (cs ++ (name, t) ∷ []) ≡ false = list_any-append (is_named c.0) cs ((name, t) ∷ []) ∙ rw (both.0, last) refl in
    rw (first, more) refl

new_name : (scope : List Named) (name : List ℕ) → is_new scope name ≡ true → is_some (place_of name scope) ≡ false
new_name scope name h = elim (cases_Bool (is_name name)) [
  | inl word ↦ (let rest = rw word at h in elim (cases_Bool (is_some (place_of name scope))) [ inl some ↦ (let e = rw some at rest in cc) | inr none ↦ none ])
  | inr other ↦ (let e = rw other at h in cc)
]

pub distinct_more : (scope : List Named) (name : List ℕ) (t : DType) → has_duplicate scope ≡ false → is_new scope name ≡ true → has_duplicate (scope ++ (name, t) ∷ []) ≡ false
distinct_more scope name t h new = distinct_end scope name t h (unnamed scope name (new_name scope name new))
