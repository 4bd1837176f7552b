-- Columns that are copied or added one by one.
use Rattle.std.proofs.Common.{◌≡◌, ◌∙◌, ◌&&◌, ◌||◌, not, ℕ, zero, suc, Bool, true, false, List, [], ◌∷◌, ◌++◌, take, refl, ap}
use Rattle.std.proofs.lemmas.List.Folds.{list_any-append}
use Rattle.std.specs.Prelude.{Option, Some, Result, Ok, Err, String, map, option_map, slice_get, if◌then◌else◌}
use Rattle.std.specs.declared.alloc.Global.{Global}
use Rattle.vortex_base.specs.declared.dtype.DType.{DType}
use Rattle.vortex_base.specs.declared.error.BaseError.{BaseError}
use Rattle.vortex_base.specs.declared.error.BaseError.TheVariants.{EmptyScope, DuplicateColumn, TypeFault}
use Rattle.vortex_base.specs.Data.Scopes.{IsScope, Named, named, named_columns, scope_of, is_empty, has_duplicate, is_state_column}
use Rattle.std.specs.List.{list_any}
use Rattle.vortex_sql.specs.Readings.{bool_or_null}
use Rattle.vortex_sql.specs.Readings.{bool_or_null}
use Rattle.vortex_sql.specs.Lowering.{leaf_column, leaf_columns, types_of}

pub named-append : (xs ys : List (String Global × DType)) → named_columns (xs ++ ys) ≡ named_columns xs ++ named_columns ys
named-append [] ys = refl
named-append (x ∷ xs) ys = ap (λ rest. named x ∷ rest) (named-append xs ys)

abbrev some_name : List ℕ → Option (List ℕ)
some_name n = Some n

abbrev some_type : DType → Option DType
some_type t = Some t

same_name : (m n : List ℕ) → some_name m ≡ some_name n → m ≡ n
same_name m n h = cc

same_type : (s t : DType) → some_type s ≡ some_type t → s ≡ t
same_type s t h = cc

abbrev some_span : ℕ × ℕ → Option (ℕ × ℕ)
some_span s = Some s

same_span : (s t : ℕ × ℕ) → some_span s ≡ some_span t → s ≡ t
same_span s t h = cc

abbrev first : Named → List ℕ
first c = c.0

abbrev second : Named → DType
second c = c.1

pub one_more : (scope : List Named) (i : ℕ) (n : List ℕ) (t : DType) → option_map first (slice_get scope i) ≡ Some n → option_map second (slice_get scope i) ≡ Some t
    → take (suc i) scope ≡ take i scope ++ (n, t) ∷ []
one_more [] i n t h k = cc
one_more (c ∷ cs) zero n t h k =
    let p : c.0 ≡ n = same_name c.0 n h in
    let q : c.1 ≡ t = same_type c.1 t k in
    λ i. (p i, q i) ∷ []
one_more (c ∷ cs) (suc i) n t h k = ap (λ rest. c ∷ rest) (one_more cs i n t h k)

pub one_leaf_more : (text : List ℕ) (spans : List (ℕ × ℕ)) (i : ℕ) (span : ℕ × ℕ) → slice_get spans i ≡ Some span → leaf_columns text (take (suc i) spans) ≡ leaf_columns text (take i spans) ++ leaf_column text span ∷ []
one_leaf_more text [] i span h = cc
one_leaf_more text (s ∷ ss) zero span h = ap (λ x. leaf_column text x ∷ []) (same_span s span h)
one_leaf_more text (s ∷ ss) (suc i) span h = ap (λ rest. leaf_column text s ∷ rest) (one_leaf_more text ss i span h)

abbrev scoped : List Named → Result (List Named) BaseError
scoped cs = Ok cs

by_tests : (a b d : Bool) (cs w : List Named) → scoped w ≡ (if a then Err EmptyScope else (if b then Err DuplicateColumn else (if d then Err TypeFault else Ok cs))) → w ≡ cs
by_tests true b d cs w h = cc
by_tests false true d cs w h = cc
by_tests false false true cs w h = cc
by_tests false false false cs w h = cc

abbrev faulty : BaseError → Result (List Named) BaseError
faulty f = Err f

pub scope_is : (cs w : List Named) → scoped w ≡ scope_of cs → w ≡ cs
scope_is cs w h = by_tests (is_empty cs) (has_duplicate cs) (list_any is_state_column cs) cs w h

-- columns behind those of a scope are refused for their names alone
by_faults : (a b d : Bool) (cs : List Named) (f : BaseError) → a ≡ false → d ≡ false → faulty f ≡ (if a then Err EmptyScope else (if b then Err DuplicateColumn else (if d then Err TypeFault else Ok cs))) → b ≡ true
by_faults true b d cs f p q h = cc
by_faults false true d cs f p q h = refl
by_faults false false true cs f p q h = cc
by_faults false false false cs f p q h = cc

no_state : (text : List ℕ) (spans : List (ℕ × ℕ)) → list_any is_state_column (leaf_columns text spans) ≡ false
no_state text [] = refl
no_state text (s ∷ ss) = no_state text ss

three : (a b d : Bool) → (not a && (not b && not d)) ≡ true → (a ≡ false) × (d ≡ false)
three true b d h = cc
three false true d h = cc
three false false true h = cc
three false false false h = (refl, refl)

still_some : (scope more : List Named) → is_empty scope ≡ false → is_empty (scope ++ more) ≡ false
still_some [] more h = cc
still_some (c ∷ cs) more h = refl

pub duplicate_told : (text : List ℕ) (scope : List Named) (spans : List (ℕ × ℕ)) (cs : List Named) (f : BaseError) → IsScope scope → cs ≡ scope ++ leaf_columns text spans → faulty f ≡ scope_of cs → has_duplicate (scope ++ leaf_columns text spans) ≡ true
duplicate_told text scope spans cs f is made h =
    let more = leaf_columns text spans in
    let parts = three (is_empty scope) (has_duplicate scope) (list_any is_state_column scope) is in
    let none = list_any-append is_state_column scope more ∙ ap (λ b. b || list_any is_state_column more) parts.1 ∙ no_state text spans in
    by_faults (is_empty (scope ++ more)) (has_duplicate (scope ++ more)) (list_any is_state_column (scope ++ more)) (scope ++ more) f (still_some scope more parts.0) none (h ∙ ap scope_of made)

-- the columns behind those of a scope are of truths that may be null
pub leaf_types : (text : List ℕ) (spans : List (ℕ × ℕ)) → types_of (leaf_columns text spans) ≡ map (λ span. bool_or_null) spans
leaf_types text [] = refl
leaf_types text (s ∷ ss) = ap (λ rest. bool_or_null ∷ rest) (leaf_types text ss)

pub columns_behind : (text : List ℕ) (scope : List Named) (spans : List (ℕ × ℕ)) (wide : List Named) → wide ≡ scope ++ leaf_columns text spans
    → (more : List Named) × (wide ≡ scope ++ more) × (types_of more ≡ map (λ span. bool_or_null) spans)
columns_behind text scope spans wide made = (leaf_columns text spans, made, leaf_types text spans)
