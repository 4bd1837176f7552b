-- Joining in halves keeps what is told of columns and of nodes.
use Rattle.std.proofs.Common.{◌≡◌, Bool, true, false, ◌&&◌, ◌||◌, not as not_b, List, Result, Ok, Err, refl, ap₂, slice_get, if◌then◌else◌}
use Rattle.vortex_base.specs.Data.Scopes.{Named}
use Rattle.vortex_base.specs.declared.error.BaseError.{BaseError}
use Rattle.vortex_base.specs.declared.error.BaseError.TheVariants.{Placeholder, RowShape}
use Rattle.vortex_expr.specs.Meanings.Meaning.{can_evaluate}
use Rattle.vortex_base.specs.Data.Scalars.{Constant}
use Rattle.vortex_expr.specs.Meanings.Fitting.{fits_scope, is_cell_of, is_of_type}
use Rattle.vortex_expr.specs.Trees.Tree.{Tree, Place, all_columns, is_plain, is_placeholder, is_row_count, some_node}
use Rattle.vortex_capi.specs.Nesting.Halves.{halved}
use Rattle.vortex_capi.proofs.Nesting.Values.{kept}

and_assoc : (a b c : Bool) → ((a && b) && c) ≡ (a && (b && c))
and_assoc true b c = refl
and_assoc false b c = refl

and_true : (a : Bool) → (a && true) ≡ a
and_true true = refl
and_true false = refl

or_assoc : (a b c : Bool) → ((a || b) || c) ≡ (a || (b || c))
or_assoc true b c = refl
or_assoc false b c = refl

or_false : (a : Bool) → (a || false) ≡ a
or_false true = refl
or_false false = refl

pub same_columns : (e : Tree Place) (test : Place → Bool) → all_columns test (halved e) ≡ all_columns test e
same_columns e test =
    kept (all_columns test) (λ a. a) (λ a. a) (λ w. ◌&&◌) (λ w. true) (λ w. and_assoc) (λ w a. refl) (λ w. and_true) (λ a. refl) (λ w a b. refl)
    (λ o l r m s h k. ap₂ ◌&&◌ h k)
    (λ o x l u y m v h i j. ap₂ ◌&&◌ h (ap₂ ◌&&◌ i j))
    (λ x y h. h) (λ x y h. h) (λ x y h. h)
    (λ o x p y q h k. ap₂ ◌&&◌ h k)
    (λ f x y h. h)
    e

pub same_placeholders : (e : Tree Place) → some_node is_placeholder (halved e) ≡ some_node is_placeholder e
same_placeholders e =
    kept (some_node is_placeholder) (λ a. a) (λ a. a) (λ w. ◌||◌) (λ w. false) (λ w. or_assoc) (λ w a. refl) (λ w. or_false) (λ a. refl) (λ w a b. refl)
    (λ o l r m s h k. ap₂ ◌||◌ h k)
    (λ o x l u y m v h i j. ap₂ ◌||◌ h (ap₂ ◌||◌ i j))
    (λ x y h. h) (λ x y h. h) (λ x y h. h)
    (λ o x p y q h k. ap₂ ◌||◌ h k)
    (λ f x y h. refl)
    e

pub same_row_counts : (e : Tree Place) → some_node is_row_count (halved e) ≡ some_node is_row_count e
same_row_counts e =
    kept (some_node is_row_count) (λ a. a) (λ a. a) (λ w. ◌||◌) (λ w. false) (λ w. or_assoc) (λ w a. refl) (λ w. or_false) (λ a. refl) (λ w a b. refl)
    (λ o l r m s h k. ap₂ ◌||◌ h k)
    (λ o x l u y m v h i j. ap₂ ◌||◌ h (ap₂ ◌||◌ i j))
    (λ x y h. h) (λ x y h. h) (λ x y h. h)
    (λ o x p y q h k. ap₂ ◌||◌ h k)
    (λ f x y h. h)
    e

pub same_fit : (e : Tree Place) (scope : List Named) → fits_scope (halved e) scope ≡ fits_scope e scope
same_fit e scope = same_columns e (λ c. is_of_type c.dtype (slice_get scope c.index))

pub same_plain : (e : Tree Place) → is_plain (halved e) ≡ is_plain e
same_plain e = ap₂ (λ a b. not_b a && not_b b) (same_placeholders e) (same_row_counts e)

pub same_evaluation : (e : Tree Place) (row : List Constant) → can_evaluate (halved e) row ≡ can_evaluate e row
same_evaluation e row =
    let answer : Bool → Bool → Result (Unit {0}) BaseError = λ a b. if a then Err Placeholder else (if b then Ok tt else Err RowShape) in
    ap₂ answer (same_placeholders e) (same_columns e (λ c. is_cell_of c.dtype (slice_get row c.index)))
