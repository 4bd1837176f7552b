-- An expression that has a type means a value of it or null.
use Rattle.std.proofs.Common.{◌≡◌, ◌<◌, ◌^◌, ℕ, zero, suc, Bool, true, false, List, [], ◌∷◌, refl, sym, ◌∙◌, ap, cond, arith}
use Rattle.std.proofs.lemmas.Bool.Decides.{nat_tests}
use Rattle.std.specs.Prelude.{nat_le, Option, Some, None, Result, Ok, Err, slice_get, is_none, not as not_b}
use Rattle.vortex_base.specs.declared.types.Nullability.TheVariants.{Nullable}
use Rattle.vortex_base.specs.declared.dtype.DType.{DType}
use Rattle.vortex_base.specs.declared.dtype.DType.TheVariants as dtype
use Rattle.vortex_base.specs.declared.pvalue.PValue.TheVariants as number
use Rattle.vortex_base.specs.declared.scalar_value.ScalarValue.{ScalarValue}
use Rattle.vortex_base.specs.declared.scalar_value.ScalarValue.TheVariants as value
use Rattle.vortex_base.specs.declared.error.BaseError.{BaseError}
use Rattle.vortex_base.specs.declared.error.BaseError.TheVariants.{Mismatch}
use Rattle.vortex_expr.specs.declared.scalar_fn.Operator.{Operator}
use Rattle.vortex_expr.specs.declared.scalar_fn.Operator.TheVariants as operator
use Rattle.vortex_base.specs.Data.Exact.{both_hold, both_true}
use Rattle.vortex_base.specs.Data.Types.{as_nullable, dtype_eq_is_exact, eq_ignore_nullability, is_nullable}
use Rattle.vortex_base.specs.Data.Values.{is_value, in_range}
use Rattle.vortex_base.specs.Data.Scalars.{Constant, is_optional_value}
use Rattle.vortex_base.specs.Data.Columns.{cell_value, is_row}
use Rattle.vortex_expr.specs.Meanings.Fitting.{is_cell_of}
use Rattle.vortex_expr.specs.Trees.Tree.{Tree, Place, column, literal, binary, between, is_null, is_not_null, not, like, stat, row_count}
use Rattle.vortex_expr.specs.Meanings.Typing.{type_of, with_type, with_types, type_if, truth_type, binary_type, between_type, not_type, like_type, row_count_type}
use Rattle.vortex_expr.specs.Meanings.Meaning.{meaning, truth_value, MeaningFits}

pub is_value-as_nullable : (v : ScalarValue) (t : DType) → is_value v (as_nullable t) ≡ is_value v t
is_value-as_nullable (value.Bool b) (dtype.Bool n) = refl
is_value-as_nullable (value.Primitive p) (dtype.Primitive q n) = refl
is_value-as_nullable (value.Utf8 s) (dtype.Utf8 n) = refl
is_value-as_nullable (value.Binary s) (dtype.Binary n) = refl
is_value-as_nullable v t = refl

pub null_fits : (t : DType) → is_nullable (as_nullable t) ≡ true
null_fits dtype.Null = refl
null_fits (dtype.Bool n) = refl
null_fits (dtype.Primitive p n) = refl
null_fits (dtype.Utf8 n) = refl
null_fits (dtype.Binary n) = refl
null_fits (dtype.MinMaxState e n) = refl

-- what may stand under a type may stand under it with null
weakened : (v : Option ScalarValue) (t : DType) → is_optional_value v t ≡ true → is_optional_value v (as_nullable t) ≡ true
weakened None t h = null_fits t
weakened (Some v) t h = is_value-as_nullable v t ∙ h

cell_fits : (c : Constant) (t : DType) → is_optional_value c.value c.dtype ≡ true → eq_ignore_nullability c.dtype t ≡ true → is_optional_value c.value (as_nullable t) ≡ true
cell_fits c t h e =
    let same : as_nullable c.dtype ≡ as_nullable t = (dtype_eq_is_exact (as_nullable c.dtype) (as_nullable t)).0 e in
    ap (is_optional_value c.value) (sym same) ∙ weakened c.value c.dtype h

at_place : (row : List Constant) (i : ℕ) (t : DType) → is_row row ≡ true → is_cell_of t (slice_get row i) ≡ true → is_optional_value (cell_value (slice_get row i)) (as_nullable t) ≡ true
at_place [] i t h k = cc
at_place (c ∷ row) zero t h k = cell_fits c t (both_true _ _ h).0 k
at_place (c ∷ row) (suc i) t h k = at_place row i t (both_true _ _ h).1 k

truth_fits : (b : Option Bool) (t : DType) → as_nullable t ≡ dtype.Bool Nullable → is_optional_value (truth_value b) (as_nullable t) ≡ true
truth_fits None t e = null_fits t
truth_fits (Some b) t e = ap (is_value (value.Bool b)) e

-- the answer of a check of types that passes
abbrev ok : DType → Result DType BaseError
ok t = Ok t

same_ok : (s t : DType) → ok s ≡ ok t → s ≡ t
same_ok s t h = cc

truth_if : (fits nullable : Bool) (t : DType) → type_if fits (truth_type nullable) ≡ Ok t → as_nullable t ≡ dtype.Bool Nullable
truth_if true nullable t h = sym (ap as_nullable (same_ok _ t h))
truth_if false nullable t h = cc

binary_truth : (o : Operator) (l r t : DType) → binary_type o l r ≡ Ok t → as_nullable t ≡ dtype.Bool Nullable
binary_truth operator.And l r t h = truth_if _ _ t h
binary_truth operator.Or l r t h = truth_if _ _ t h
binary_truth operator.Eq l r t h = truth_if _ _ t h
binary_truth operator.NotEq l r t h = truth_if _ _ t h
binary_truth operator.Gt l r t h = truth_if _ _ t h
binary_truth operator.Gte l r t h = truth_if _ _ t h
binary_truth operator.Lt l r t h = truth_if _ _ t h
binary_truth operator.Lte l r t h = truth_if _ _ t h

not_truth : (x t : DType) → not_type x ≡ Ok t → as_nullable t ≡ dtype.Bool Nullable
not_truth (dtype.Bool n) t h = sym (ap as_nullable (same_ok _ t h))
not_truth dtype.Null t h = cc
not_truth (dtype.Primitive p n) t h = cc
not_truth (dtype.Utf8 n) t h = cc
not_truth (dtype.Binary n) t h = cc
not_truth (dtype.MinMaxState e n) t h = cc

-- where the children have types, what the node makes of them has the property
of_one : (f : DType → Result DType BaseError) (a : Result DType BaseError) (t s : DType) → ((x : DType) → f x ≡ Ok t → as_nullable t ≡ s) → with_type f a ≡ Ok t → as_nullable t ≡ s
of_one f (Ok x) t s g h = g x h
of_one f (Err e) t s g h = cc

of_two : (f : DType → DType → Result DType BaseError) (a b : Result DType BaseError) (t s : DType) → ((x y : DType) → f x y ≡ Ok t → as_nullable t ≡ s) → with_types f a b ≡ Ok t → as_nullable t ≡ s
of_two f (Ok x) b t s g h = of_one (f x) b t s (g x) h
of_two f (Err e) b t s g h = cc

literal_fits : (c : Constant) (t : DType) (fits : Bool) → is_optional_value c.value c.dtype ≡ fits → cond fits (ok c.dtype) (Err Mismatch) ≡ ok t → is_optional_value c.value (as_nullable t) ≡ true
literal_fits c t true e h = ap (λ s. is_optional_value c.value (as_nullable s)) (sym (same_ok _ t h)) ∙ weakened c.value c.dtype e
literal_fits c t false e h = cc

pub count_fits : (n : ℕ) → n < 2 ^ 64 → in_range (number.U64 n) ≡ true
count_fits n h =
    let low : nat_le 0 n ≡ true = grind (arith, nat_tests) in
    let high : nat_le n 18446744073709551615 ≡ true = grind (arith, nat_tests) in
    both_hold _ _ low high

pub meaning-fits : (e : Tree Place) (row : List Constant) (n : ℕ) → MeaningFits e row n
meaning-fits (column c) row n t h r f l =
    at_place row c.index t r (ap (λ s. is_cell_of s (slice_get row c.index)) (sym (same_ok c.dtype t h)) ∙ f)
meaning-fits (literal c) row n t h r f l = literal_fits c t _ refl h
meaning-fits (binary o a b) row n t h r f l = truth_fits _ t (of_two (binary_type o) (type_of a) (type_of b) t _ (λ x y. binary_truth o x y t) h)
meaning-fits (between o a b c) row n t h r f l =
    truth_fits _ t (of_one (λ x. with_types (between_type x) (type_of b) (type_of c)) (type_of a) t _ (λ x. of_two (between_type x) (type_of b) (type_of c) t _ (λ y z. truth_if _ _ t)) h)
meaning-fits (is_null a) row n t h r f l = truth_fits (Some (is_none (meaning a row n))) t (of_one _ (type_of a) t _ (λ x p. sym (ap as_nullable (same_ok _ t p))) h)
meaning-fits (is_not_null a) row n t h r f l = truth_fits (Some (not_b (is_none (meaning a row n)))) t (of_one _ (type_of a) t _ (λ x p. sym (ap as_nullable (same_ok _ t p))) h)
meaning-fits (not a) row n t h r f l = truth_fits _ t (of_one not_type (type_of a) t _ (λ x. not_truth x t) h)
meaning-fits (like o a b) row n t h r f l = truth_fits _ t (of_two like_type (type_of a) (type_of b) t _ (λ x y. truth_if _ _ t) h)
meaning-fits (stat g a) row n t h r f l = null_fits t
meaning-fits row_count row n t h r f l =
    ap (is_optional_value (Some (value.Primitive (number.U64 n)))) (sym (ap as_nullable (same_ok row_count_type t h))) ∙ count_fits n l
