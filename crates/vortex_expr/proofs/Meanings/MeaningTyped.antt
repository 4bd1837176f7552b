-- On a row with the very types of an expression's columns, its value is of the expression's type, and null only where that has null.
use Rattle.std.proofs.Common.{◌≡◌, ◌<◌, ◌^◌, ℕ, zero, suc, Bool, true, false, ◌||◌, ◌&&◌, List, [], ◌∷◌, ◌⊎◌, ⊎_elim, inl, inr, refl, sym, ◌∙◌, ap, cond}
use Rattle.std.specs.Prelude.{Option, Some, None, Result, Ok, Err, slice_get, is_none, not as not_b}
use Rattle.vortex_base.specs.declared.dtype.DType.{DType}
use Rattle.vortex_base.specs.declared.dtype.DType.TheVariants as dtype
use Rattle.vortex_base.specs.declared.pvalue.PValue.TheVariants as number
use Rattle.vortex_base.specs.declared.scalar_value.ScalarValue.{ScalarValue}
use Rattle.vortex_base.specs.declared.scalar_value.ScalarValue.TheVariants as value
use Rattle.vortex_base.specs.declared.error.BaseError.{BaseError}
use Rattle.vortex_base.specs.declared.error.BaseError.TheVariants.{Mismatch}
use Rattle.vortex_expr.specs.declared.scalar_fn.Operator.{Operator}
use Rattle.vortex_expr.specs.declared.scalar_fn.Operator.TheVariants as operator
use Rattle.vortex_expr.specs.declared.scalar_fn.BetweenOptions.{BetweenOptions}
use Rattle.vortex_expr.specs.declared.like.LikeOptions.{LikeOptions}
use Rattle.vortex_expr.specs.Trees.Between.{to_operator}
use Rattle.vortex_base.specs.Data.Exact.{both_true}
use Rattle.vortex_base.specs.Data.Types.{dtype_eq_is_exact, is_nullable}
use Rattle.vortex_base.specs.Data.Scalars.{Constant, is_optional_value}
use Rattle.vortex_base.specs.Data.Columns.{cell_value, is_row}
use Rattle.vortex_expr.specs.Meanings.Fitting.{is_cell_of_type, matches_row}
use Rattle.vortex_expr.specs.Trees.Tree.{Tree, Place, column, literal, binary, between, is_null, is_not_null, not, like, stat, row_count}
use Rattle.vortex_base.specs.Data.States.{state_dtype}
use Rattle.vortex_expr.specs.Meanings.Typing.{type_of, with_type, with_types, type_if, truth_type, is_bool, are_comparable, binary_type, between_type, not_type, like_type, stat_type, placeholder_type, row_count_type}
use Rattle.vortex_expr.specs.Meanings.Meaning.{meaning, truth, truth_value, both, either, opposite, unless_null, compared, applied, within, is_like, liked, MeaningIsTyped, NullOnlyWhereNullable}
use Rattle.vortex_expr.proofs.Meanings.MeaningFits.{null_fits, count_fits}

-- the answer of a check of types that passes
abbrev ok : DType → Result DType BaseError
ok t = Ok t

same_ok : (s t : DType) → ok s ≡ ok t → s ≡ t
same_ok s t h = cc

no_fault : (e : BaseError) (t : DType) → Err e ≡ ok t → ⊥
no_fault e t h = cc

from_one : {P : Type 0} (f : DType → Result DType BaseError) (a : Result DType BaseError) (t : DType) → ((x : DType) → a ≡ ok x → f x ≡ ok t → P) → with_type f a ≡ ok t → P
from_one f (Ok x) t g h = g x refl h
from_one f (Err e) t g h = absurd (no_fault e t h)

from_two : {P : Type 0} (f : DType → DType → Result DType BaseError) (a b : Result DType BaseError) (t : DType) → ((x y : DType) → a ≡ ok x → b ≡ ok y → f x y ≡ ok t → P) → with_types f a b ≡ ok t → P
from_two f (Ok x) b t g h = from_one (f x) b t (λ y. g x y refl) h
from_two f (Err e) b t g h = absurd (no_fault e t h)

or_left : (a b : Bool) → a ≡ true → (a || b) ≡ true
or_left true b h = refl
or_left false b h = cc

or_right : (a b : Bool) → b ≡ true → (a || b) ≡ true
or_right true b h = refl
or_right false b h = h

-- ---- truths

-- a truth that is null only where its type has null is of its type
truth_typed : (b : Option Bool) (nullable : Bool) → (b ≡ None → nullable ≡ true) → is_optional_value (truth_value b) (truth_type nullable) ≡ true
truth_typed (Some b) nullable h = refl
truth_typed None nullable h = ap (λ n. is_nullable (truth_type n)) (h refl)

typed_if : (fits nullable : Bool) (t : DType) (b : Option Bool) → type_if fits (truth_type nullable) ≡ ok t → (fits ≡ true → b ≡ None → nullable ≡ true) → is_optional_value (truth_value b) t ≡ true
typed_if true nullable t b h w = ap (is_optional_value (truth_value b)) (sym (same_ok _ t h)) ∙ truth_typed b nullable (w refl)
typed_if false nullable t b h w = cc

some_none : {A : Type 0} (a : A) → Some a ≡ None → ⊥
some_none a h = cc

-- a test of two values is null only where one of them is
either_null : (test : ScalarValue → ScalarValue → Bool) (a b : Option ScalarValue) (l r : DType) → is_optional_value a l ≡ true → is_optional_value b r ≡ true → unless_null test a b ≡ None
    → (is_nullable l ≡ true) ⊎ (is_nullable r ≡ true)
either_null test None b l r p q h = inl p
either_null test (Some a) None l r p q h = inr q
either_null test (Some a) (Some b) l r p q h = absurd (some_none (test a b) h)

-- a value of a type of truths is no truth only where it is null
no_truth : (a : Option ScalarValue) (t : DType) → is_bool t ≡ true → is_optional_value a t ≡ true → truth a ≡ None → is_nullable t ≡ true
no_truth None t b p h = p
no_truth (Some (value.Bool x)) t b p h = absurd (some_none x h)
no_truth (Some v) (dtype.Bool n) b p h = cc
no_truth (Some v) t b p h = cc

both_null : (a b : Option Bool) → both a b ≡ None → (a ≡ None) ⊎ (b ≡ None)
both_null (Some false) b h = absurd (some_none false h)
both_null (Some true) b h = inr h
both_null None b h = inl refl

either_no_truth : (a b : Option Bool) → either a b ≡ None → (a ≡ None) ⊎ (b ≡ None)
either_no_truth (Some true) b h = absurd (some_none true h)
either_no_truth (Some false) b h = inr h
either_no_truth None b h = inl refl

-- ---- nodes

module _ (a b : Option ScalarValue) (l r : DType) (p : is_optional_value a l ≡ true) (q : is_optional_value b r ≡ true) where
  tested : (test : ScalarValue → ScalarValue → Bool) → unless_null test a b ≡ None → (is_nullable l || is_nullable r) ≡ true
  tested test h = ⊎_elim (or_left (is_nullable l) (is_nullable r)) (or_right (is_nullable l) (is_nullable r)) (either_null test a b l r p q h)

  joined : (is_bool l && is_bool r) ≡ true → (truth a ≡ None) ⊎ (truth b ≡ None) → (is_nullable l || is_nullable r) ≡ true
  joined fits h =
      let bools = both_true (is_bool l) (is_bool r) fits in
      ⊎_elim (λ k. or_left (is_nullable l) (is_nullable r) (no_truth a l bools.0 p k)) (λ k. or_right (is_nullable l) (is_nullable r) (no_truth b r bools.1 q k)) h

  compared_typed : (o : Operator) (t : DType) → type_if (are_comparable l r) (truth_type (is_nullable l || is_nullable r)) ≡ ok t → is_optional_value (truth_value (compared o a b)) t ≡ true
  compared_typed o t h = typed_if (are_comparable l r) _ t (compared o a b) h (λ fits k. tested _ k)

  binary_typed : (o : Operator) (t : DType) → binary_type o l r ≡ ok t → is_optional_value (truth_value (applied o a b)) t ≡ true
  binary_typed operator.And t h = typed_if (is_bool l && is_bool r) _ t (both (truth a) (truth b)) h (λ fits k. joined fits (both_null (truth a) (truth b) k))
  binary_typed operator.Or t h = typed_if (is_bool l && is_bool r) _ t (either (truth a) (truth b)) h (λ fits k. joined fits (either_no_truth (truth a) (truth b) k))
  binary_typed operator.Eq t h = compared_typed operator.Eq t h
  binary_typed operator.NotEq t h = compared_typed operator.NotEq t h
  binary_typed operator.Gt t h = compared_typed operator.Gt t h
  binary_typed operator.Gte t h = compared_typed operator.Gte t h
  binary_typed operator.Lt t h = compared_typed operator.Lt t h
  binary_typed operator.Lte t h = compared_typed operator.Lte t h

  like_typed : (o : LikeOptions) (t : DType) → like_type l r ≡ ok t → is_optional_value (truth_value (liked o a b)) t ≡ true
  like_typed o t h = typed_if _ _ t (liked o a b) h (λ fits k. tested (is_like o) k)

between_typed : (o : BetweenOptions) (x l u : Option ScalarValue) (a b c t : DType) → is_optional_value x a ≡ true → is_optional_value l b ≡ true → is_optional_value u c ≡ true
    → between_type a b c ≡ ok t → is_optional_value (truth_value (within o x l u)) t ≡ true
between_typed o x l u a b c t p q r h = typed_if _ _ t (within o x l u) h null
  where
    first : is_nullable a ≡ true → (is_nullable a || (is_nullable b || is_nullable c)) ≡ true
    first k = or_left (is_nullable a) (is_nullable b || is_nullable c) k

    second : is_nullable b ≡ true → (is_nullable a || (is_nullable b || is_nullable c)) ≡ true
    second k = or_right (is_nullable a) (is_nullable b || is_nullable c) (or_left (is_nullable b) (is_nullable c) k)

    third : is_nullable c ≡ true → (is_nullable a || (is_nullable b || is_nullable c)) ≡ true
    third k = or_right (is_nullable a) (is_nullable b || is_nullable c) (or_right (is_nullable b) (is_nullable c) k)

    null : (are_comparable a b && are_comparable a c) ≡ true → within o x l u ≡ None → (is_nullable a || (is_nullable b || is_nullable c)) ≡ true
    null fits k = ⊎_elim
        (λ e. ⊎_elim second first (either_null _ l x b a q p e))
        (λ e. ⊎_elim first third (either_null _ x u a c p r e))
        (both_null (compared (to_operator o.lower_strict) l x) (compared (to_operator o.upper_strict) x u) k)

opposite_null : (a : Option Bool) → opposite a ≡ None → a ≡ None
opposite_null None h = refl
opposite_null (Some b) h = absurd (some_none (not_b b) h)

not_typed : (a : Option ScalarValue) (x t : DType) → is_optional_value a x ≡ true → not_type x ≡ ok t → is_optional_value (truth_value (opposite (truth a))) t ≡ true
not_typed a (dtype.Bool n) t p h = ap (is_optional_value (truth_value (opposite (truth a)))) (sym (same_ok _ t h)) ∙ go (opposite (truth a)) refl
  where
    go : (b : Option Bool) → opposite (truth a) ≡ b → is_optional_value (truth_value b) (dtype.Bool n) ≡ true
    go (Some b) e = refl
    go None e = no_truth a (dtype.Bool n) refl p (opposite_null (truth a) e)
not_typed a dtype.Null t p h = cc
not_typed a (dtype.Primitive q n) t p h = cc
not_typed a (dtype.Utf8 n) t p h = cc
not_typed a (dtype.Binary n) t p h = cc
not_typed a (dtype.MinMaxState e n) t p h = cc

placeholder_null : (s : Option DType) (t : DType) → placeholder_type s ≡ ok t → is_nullable t ≡ true
placeholder_null None t h = cc
placeholder_null (Some s) t h = ap is_nullable (sym (same_ok _ t h)) ∙ null_fits s

literal_typed : (c : Constant) (t : DType) (fits : Bool) → is_optional_value c.value c.dtype ≡ fits → cond fits (ok c.dtype) (Err Mismatch) ≡ ok t → is_optional_value c.value t ≡ true
literal_typed c t true e h = ap (is_optional_value c.value) (sym (same_ok _ t h)) ∙ e
literal_typed c t false e h = cc

cell_typed : (row : List Constant) (i : ℕ) (t : DType) → is_row row ≡ true → is_cell_of_type t (slice_get row i) ≡ true → is_optional_value (cell_value (slice_get row i)) t ≡ true
cell_typed [] i t h k = cc
cell_typed (c ∷ row) zero t h k = ap (is_optional_value c.value) (sym ((dtype_eq_is_exact c.dtype t).0 k)) ∙ (both_true _ _ h).0
cell_typed (c ∷ row) (suc i) t h k = cell_typed row i t (both_true _ _ h).1 k

-- ---- trees

module _ (row : List Constant) (n : ℕ) (cells : is_row row ≡ true) (small : n < 2 ^ 64) where
  typed : (e : Tree Place) (t : DType) → type_of e ≡ ok t → matches_row e row ≡ true → is_optional_value (meaning e row n) t ≡ true
  typed (column c) t h f = cell_typed row c.index t cells (ap (λ s. is_cell_of_type s (slice_get row c.index)) (sym (same_ok c.dtype t h)) ∙ f)
  typed (literal c) t h f = literal_typed c t _ refl h
  typed (binary o a b) t h f =
      let p = both_true (matches_row a row) (matches_row b row) f in
      from_two (binary_type o) (type_of a) (type_of b) t (λ x y ax by k. binary_typed (meaning a row n) (meaning b row n) x y (typed a x ax p.0) (typed b y by p.1) o t k) h
  typed (between o a b c) t h f =
      let p = both_true (matches_row a row) (matches_row b row && matches_row c row) f in
      let q = both_true (matches_row b row) (matches_row c row) p.1 in
      from_one (λ x. with_types (between_type x) (type_of b) (type_of c)) (type_of a) t
      (λ x ax g. from_two (between_type x) (type_of b) (type_of c) t
      (λ y z by cz k. between_typed o (meaning a row n) (meaning b row n) (meaning c row n) x y z t (typed a x ax p.0) (typed b y by q.0) (typed c z cz q.1) k) g) h
  typed (is_null a) t h f = from_one _ (type_of a) t (λ x ax k. ap (is_optional_value (Some (value.Bool (is_none (meaning a row n))))) (sym (same_ok _ t k))) h
  typed (is_not_null a) t h f = from_one _ (type_of a) t (λ x ax k. ap (is_optional_value (Some (value.Bool (not_b (is_none (meaning a row n)))))) (sym (same_ok _ t k))) h
  typed (not a) t h f = from_one not_type (type_of a) t (λ x ax k. not_typed (meaning a row n) x t (typed a x ax f) k) h
  typed (like o a b) t h f =
      let p = both_true (matches_row a row) (matches_row b row) f in
      from_two like_type (type_of a) (type_of b) t (λ x y ax by k. like_typed (meaning a row n) (meaning b row n) x y (typed a x ax p.0) (typed b y by p.1) o t k) h
  typed (stat g a) t h f = from_one (stat_type g) (type_of a) t (λ x ax k. placeholder_null (state_dtype g x) t k) h
  typed row_count t h f = ap (is_optional_value (Some (value.Primitive (number.U64 n)))) (sym (same_ok row_count_type t h)) ∙ count_fits n small

pub meaning-typed : (e : Tree Place) (row : List Constant) (n : ℕ) → MeaningIsTyped e row n
meaning-typed e row n t h cells f small = typed row n cells small e t h f

pub null-where-nullable : (e : Tree Place) (row : List Constant) (n : ℕ) → NullOnlyWhereNullable e row n
null-where-nullable e row n t h cells f small null = ap (λ v. is_optional_value v t) (sym null) ∙ typed row n cells small e t h f
