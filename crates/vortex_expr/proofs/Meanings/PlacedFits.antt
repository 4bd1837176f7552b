-- An expression that has a type under a scope fits the scope when its columns are placed.
use Rattle.std.proofs.Common.{◌≡◌, ℕ, true, List, refl, ◌∙◌, ap}
use Rattle.std.specs.Prelude.{Option, Some, None, Result, Ok, Err, IsOk, IfOk, IsTrue, slice_get}
use Rattle.vortex_base.specs.declared.error.BaseError.{BaseError}
use Rattle.vortex_base.specs.Data.Exact.{both_hold}
use Rattle.vortex_base.specs.Data.Types.{dtype_eq_is_exact}
use Rattle.vortex_base.specs.Data.Scopes.{Named, place_of}
use Rattle.vortex_expr.specs.Trees.Tree.{Tree, Place, column, literal, binary, between, is_null, is_not_null, not, like, stat, row_count}
use Rattle.vortex_expr.specs.Meanings.Typing.{binary_type, between_type, null_test_type, not_type, like_type, stat_type}
use Rattle.vortex_expr.specs.Meanings.Binding.{Name, found, place_at, type_at, place_or_any, type_in, placed_in}
use Rattle.vortex_expr.specs.Meanings.Fitting.{is_of_type, fits_scope}
use Rattle.vortex_base.specs.Answer.{Makes}
use Rattle.vortex_expr.proofs.Meanings.PlacedTypes.{with_type-ok, with_types-ok, with_three-ok}

-- the place is the scope's
abbrev IsPlaced : List Named → Place → Type 0
IsPlaced scope p = is_of_type p.dtype (slice_get scope p.index) ≡ true

placed_at : (scope : List Named) (i : ℕ) (c : Option Named) → slice_get scope i ≡ c → IsOk (type_at (place_at i c)) → IsPlaced scope (place_or_any (place_at i c))
placed_at scope i None e h = cc
placed_at scope i (Some c) e h = ap (is_of_type c.1) e ∙ (dtype_eq_is_exact c.1 c.1).1 refl

placed_found : (scope : List Named) (i : Option ℕ) → IsOk (type_at (found scope i)) → IsPlaced scope (place_or_any (found scope i))
placed_found scope None h = cc
placed_found scope (Some i) h = placed_at scope i (slice_get scope i) refl h

all_placed : (scope : List Named) (e : Tree Name) → IsOk (type_in scope e) → fits_scope (placed_in scope e) scope ≡ true
all_placed scope (column name) h = placed_found scope (place_of name scope) h
all_placed scope (literal c) h = refl
all_placed scope (binary o l r) h =
    let w = with_types-ok (binary_type o) (type_in scope l) (type_in scope r) h in
    both_hold _ _ (all_placed scope l w.0) (all_placed scope r w.1)
all_placed scope (between o x l u) h =
    let w = with_three-ok between_type (type_in scope x) (type_in scope l) (type_in scope u) h in
    both_hold _ _ (all_placed scope x w.0) (both_hold _ _ (all_placed scope l w.1.0) (all_placed scope u w.1.1))
all_placed scope (is_null x) h = all_placed scope x (with_type-ok null_test_type (type_in scope x) h)
all_placed scope (is_not_null x) h = all_placed scope x (with_type-ok null_test_type (type_in scope x) h)
all_placed scope (not x) h = all_placed scope x (with_type-ok not_type (type_in scope x) h)
all_placed scope (like o x p) h =
    let w = with_types-ok like_type (type_in scope x) (type_in scope p) h in
    both_hold _ _ (all_placed scope x w.0) (all_placed scope p w.1)
all_placed scope (stat f x) h = all_placed scope x (with_type-ok (stat_type f) (type_in scope x) h)
all_placed scope row_count h = refl

-- what is made so fits the scope
pub makes-fits : (scope : List Named) (e : Tree Name) (r : Result (Tree Place) BaseError) → IsOk (type_in scope e) → Makes (placed_in scope e) r → IfOk r (λ b. IsTrue (fits_scope b scope))
makes-fits scope e (Ok b) h m = ap (λ x. fits_scope x scope) m ∙ all_placed scope e h
makes-fits scope e (Err f) h m = tt
