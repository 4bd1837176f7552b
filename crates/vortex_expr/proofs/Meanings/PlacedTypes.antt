-- An expression that has a type under a scope keeps it when its columns are placed.
use Rattle.std.proofs.Common.{◌≡◌, refl, sym, subst}
use Rattle.std.specs.Prelude.{List, Option, Some, None, Result, Ok, Err, IsOk}
use Rattle.vortex_base.specs.declared.dtype.DType.{DType}
use Rattle.vortex_base.specs.declared.error.BaseError.{BaseError}
use Rattle.vortex_base.specs.Data.Scopes.{Named}
use Rattle.vortex_expr.specs.Trees.Tree.{Tree, Place, map_columns, column, literal, binary, between, is_null, is_not_null, not, like, stat, row_count}
use Rattle.vortex_expr.specs.Meanings.Typing.{with_type, with_types, type_by, type_of, binary_type, between_type, null_test_type, not_type, like_type, stat_type}
use Rattle.vortex_expr.specs.Meanings.Binding.{Name, find_column, type_at, place_or_any, type_in, placed_in}
use Rattle.vortex_base.specs.Answer.{Answers, Makes}

pub with_type-ok : {A B E : Type 0} (f : A → Result B E) (a : Result A E) → IsOk (with_type f a) → IsOk a
with_type-ok f (Ok a) h = refl
with_type-ok f (Err e) h = h

pub with_types-ok : {A B C E : Type 0} (f : A → B → Result C E) (a : Result A E) (b : Result B E) → IsOk (with_types f a b) → IsOk a × IsOk b
with_types-ok f (Ok a) b h = (refl, with_type-ok (f a) b h)
with_types-ok f (Err e) b h = (h, cc)

-- the same, where the function is made of a first type
pub with_three-ok : {A B C D E : Type 0} (f : A → B → C → Result D E) (a : Result A E) (b : Result B E) (c : Result C E) → IsOk (with_type (λ x. with_types (f x) b c) a) → IsOk a × (IsOk b × IsOk c)
with_three-ok f (Ok a) b c h = (refl, with_types-ok (f a) b c h)
with_three-ok f (Err e) b c h = (h, cc)

placed_column : (p : Option Place) → IsOk (type_at p) → Ok (place_or_any p).dtype ≡ type_at p
placed_column None h = cc
placed_column (Some p) h = refl

-- the lookup may be any
same_type : (find : Name → Option Place) (e : Tree Name) → IsOk (type_by (λ name. type_at (find name)) e) → type_of (map_columns (λ name. place_or_any (find name)) e) ≡ type_by (λ name. type_at (find name)) e
same_type find (column name) h = placed_column (find name) h
same_type find (literal c) h = refl
same_type find (binary o l r) h =
    let w = with_types-ok (binary_type o) (type_by (λ name. type_at (find name)) l) (type_by (λ name. type_at (find name)) r) h in
    let p = same_type find l w.0 in
    let q = same_type find r w.1 in
    λ k. with_types (binary_type o) (p k) (q k)
same_type find (between o x l u) h =
    let w = with_three-ok between_type (type_by (λ name. type_at (find name)) x) (type_by (λ name. type_at (find name)) l) (type_by (λ name. type_at (find name)) u) h in
    let p = same_type find x w.0 in
    let q = same_type find l w.1.0 in
    let r = same_type find u w.1.1 in
    λ k. with_type (λ t. with_types (between_type t) (q k) (r k)) (p k)
same_type find (is_null x) h =
    let p = same_type find x (with_type-ok null_test_type (type_by (λ name. type_at (find name)) x) h) in λ k. with_type null_test_type (p k)
same_type find (is_not_null x) h =
    let p = same_type find x (with_type-ok null_test_type (type_by (λ name. type_at (find name)) x) h) in λ k. with_type null_test_type (p k)
same_type find (not x) h =
    let p = same_type find x (with_type-ok not_type (type_by (λ name. type_at (find name)) x) h) in λ k. with_type not_type (p k)
same_type find (like o x y) h =
    let w = with_types-ok like_type (type_by (λ name. type_at (find name)) x) (type_by (λ name. type_at (find name)) y) h in
    let p = same_type find x w.0 in
    let q = same_type find y w.1 in
    λ k. with_types like_type (p k) (q k)
same_type find (stat f x) h =
    let p = same_type find x (with_type-ok (stat_type f) (type_by (λ name. type_at (find name)) x) h) in λ k. with_type (stat_type f) (p k)
same_type find row_count h = refl

pub type_of-placed_in : (scope : List Named) (e : Tree Name) → IsOk (type_in scope e) → type_of (placed_in scope e) ≡ type_in scope e
type_of-placed_in scope e h = same_type (find_column scope) e h

makes-answers : (e : Tree Place) (r : Result (Tree Place) BaseError) (t : Result DType BaseError) → IsOk t → Answers t e r → Makes e r
makes-answers e r (Ok t) h a = a
makes-answers e r (Err f) h a = cc

-- what answers with the placed tree of the parts makes the placed tree of the whole
pub makes-placed_in : (scope : List Named) (whole parts : Tree Name) (made : Tree Place) (r : Result (Tree Place) BaseError) → parts ≡ whole → made ≡ placed_in scope parts → IsOk (type_in scope whole) → Answers (type_of made) made r → Makes (placed_in scope whole) r
makes-placed_in scope whole parts made r same placed h a =
    let P : Tree Place → Type 0 = λ m. Answers (type_of m) m r in
    let Q : Result DType BaseError → Type 0 = IsOk in
    let M : Tree Name → Type 0 = λ e. Makes (placed_in scope e) r in
    let typed : IsOk (type_in scope parts) = subst (λ e. Q (type_in scope e)) (sym same) h in
    subst M same (makes-answers (placed_in scope parts) r (type_of (placed_in scope parts)) (subst Q (sym (type_of-placed_in scope parts typed)) typed) (subst P placed a))
