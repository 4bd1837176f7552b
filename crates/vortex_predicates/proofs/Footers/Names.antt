-- Names in scopes.
use Rattle.std.proofs.Common.{◌≡◌, ◌<◌, ◌≤◌, ◌||◌, ℕ, zero, suc, Bool, true, false, List, [], ◌∷◌, ◌++◌, None, Some, length, get_or, refl, ap, sym, subst, ◌∙◌, arith}
use Rattle.std.specs.Prelude.{Contains}
use Rattle.std.specs.List.{list_any, position_or_len}
use Rattle.std.specs.Str.{bytes_eq}
use Rattle.std.proofs.lemmas.Bool.{false_from_ne_true}
use Rattle.std.proofs.lemmas.List.Elements.{Contains-get_or}
use Rattle.std.proofs.lemmas.List.Folds.{list_any-append, list_any_none}
use Rattle.std.proofs.lemmas.List.Quantifiers.{position-Some}
use Rattle.std.proofs.lemmas.List.Sums.{fails_before_first}
use Rattle.vortex_base.specs.Data.Scopes.{Named, bytes_eq_is_exact, has_duplicate, is_named, place_of}
use Rattle.vortex_base.specs.declared.dtype.DType.{DType}
use Rattle.vortex_parquet.specs.Columns.{AreNamed, ColumnView, leaf_dtype, lookup}
use Rattle.vortex_parquet.specs.declared.columns.Content.TheVariants as content
use Rattle.vortex_parquet.specs.declared.columns.Leaf.{Leaf}
use Rattle.vortex_syntax.proofs.FirstLine.{none_found}
use Rattle.vortex_predicates.specs.Footers.Choosing.{no_column}

-- ---- a new name

unnamed : (scope : List Named) (name : List ℕ) → place_of name scope ≡ None → list_any (is_named name) scope ≡ false
unnamed scope name h =
    let far : length scope ≤ position_or_len (is_named name) scope = none_found (position_or_len (is_named name) scope) (length scope) h in
    list_any_none (is_named name) scope (λ k d within. fails_before_first (is_named name) scope k d (omega arith))

unlike : (a b : List ℕ) → bytes_eq a b ≡ false → bytes_eq b a ≡ false
unlike a b h = false_from_ne_true (bytes_eq b a) (λ same. let back : bytes_eq a b ≡ true = (bytes_eq_is_exact a b).1 (sym ((bytes_eq_is_exact b a).0 same)) in cc)

neither_of : (a b : Bool) → (a || b) ≡ false → (a ≡ false) × (b ≡ false)
neither_of true b h = cc
neither_of false b h = (refl, h)

distinct_end : (scope : List Named) (name : List ℕ) (t : DType) → has_duplicate scope ≡ false → list_any (is_named name) scope ≡ false → has_duplicate (scope ++ (name, t) ∷ []) ≡ false
distinct_end [] name t h none = refl
distinct_end (c ∷ cs) name t h none =
    let both = neither_of (list_any (is_named c.0) cs) (has_duplicate cs) h in
    let rest = neither_of (is_named name c) (list_any (is_named name) cs) none in
    let more = distinct_end cs name t both.1 rest.1 in
    let last : is_named c.0 (name, t) ≡ false = unlike c.0 name rest.0 in
    let first : list_any (is_named c.0) (cs ++ (name, t) ∷ []) ≡ false = list_any-append (is_named c.0) cs ((name, t) ∷ []) ∙ rw (both.0, last) refl in
    rw (first, more) refl

pub distinct_new : (scope : List Named) (name : List ℕ) (t : DType) → has_duplicate scope ≡ false → place_of name scope ≡ None → has_duplicate (scope ++ (name, t) ∷ []) ≡ false
distinct_new scope name t h new = distinct_end scope name t h (unnamed scope name new)

-- ---- a name that is there

-- the column of a file that a column of the scope is
pub record IsColumnAs (cs : List ColumnView) (c : Named) : Type 0 where
  pub leaf : Leaf
  pub named : lookup c.0 cs ≡ Some (content.Leaf leaf)
  pub typed : c.1 ≡ leaf_dtype leaf

column_at : (cs : List ColumnView) (scope : List Named) (ls : List Leaf) (i : ℕ) (d : Named) → AreNamed cs scope ls → i < length scope → IsColumnAs cs (get_or scope i d)
column_at cs [] ls i d h lt = absurd (omega arith)
column_at cs (c ∷ scope) [] i d h lt = absurd h
column_at cs (c ∷ scope) (l ∷ ls) zero d h lt = record { leaf = l; named = h.0; typed = h.1 }
column_at cs (c ∷ scope) (l ∷ ls) (suc i) d h lt = column_at cs scope ls i d h.2 (omega arith)

pub column_there : (cs : List ColumnView) (scope : List Named) (ls : List Leaf) (name : List ℕ) (i : ℕ) → AreNamed cs scope ls → place_of name scope ≡ Some i
    → (l : Leaf) × (lookup name cs ≡ Some (content.Leaf l)) × Contains scope (name, leaf_dtype l)
column_there cs scope ls name i h found =
    let (within, at, before) = position-Some (is_named name) scope i no_column found in
    let it : IsColumnAs cs (get_or scope i no_column) = column_at cs scope ls i no_column h within in
    let same : (get_or scope i no_column).0 ≡ name = (bytes_eq_is_exact (get_or scope i no_column).0 name).0 at in
    let whole : get_or scope i no_column ≡ (name, leaf_dtype it.leaf) = λ j. (same j, it.typed j) in
    (it.leaf, ap (λ n. lookup n cs) (sym same) ∙ it.named, subst (λ (c : Named). Contains scope c) whole (Contains-get_or scope i no_column within))

-- ---- one more column

pub named_more : (cs : List ColumnView) (scope : List Named) (ls : List Leaf) (name : List ℕ) (l : Leaf) → AreNamed cs scope ls → lookup name cs ≡ Some (content.Leaf l) → AreNamed cs (scope ++ (name, leaf_dtype l) ∷ []) (ls ++ l ∷ [])
named_more cs [] [] name l h found = (found, refl, tt)
named_more cs [] (k ∷ ls) name l h found = absurd h
named_more cs (c ∷ scope) [] name l h found = absurd h
named_more cs (c ∷ scope) (k ∷ ls) name l h found = (h.0, h.1, named_more cs scope ls name l h.2 found)
