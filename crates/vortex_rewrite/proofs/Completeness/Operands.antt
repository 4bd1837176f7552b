-- The operands of comparisons, columns and literals, as intervals of values.
use Rattle.std.proofs.Common.{◌≡◌, ◌<◌, ℕ, Bool, true, false, not as not_b, List, Option, Some, None, Ok, Err, refl, sym, ap, ◌∙◌, subst, subst₂, if◌then◌else◌}
use Rattle.std.specs.Prelude.{is_ok}
use Rattle.std.specs.List.{AllByRecursion}
use Rattle.std.specs.Option.{is_some}
use Rattle.std.proofs.lemmas.Bool.{and_parts}
use Rattle.vortex_base.specs.declared.aggregate.AggregateFnRef.TheVariants.{Max, Min}
use Rattle.vortex_base.specs.declared.dtype.DType.{DType}
use Rattle.vortex_base.specs.declared.dtype.DType.TheVariants as dtype
use Rattle.vortex_base.specs.declared.error.BaseError.{BaseError}
use Rattle.vortex_base.specs.declared.scalar_value.ScalarValue.{ScalarValue}
use Rattle.vortex_base.specs.declared.scalar_value.ScalarValue.TheVariants as value
use Rattle.vortex_expr.specs.Meanings.Meaning.{meaning}
use Rattle.vortex_base.specs.Data.Scalars.{Constant, is_optional_value}
use Rattle.vortex_expr.specs.Trees.Tree.{Tree, Place, column, literal, binary, between, is_null, is_not_null, not, like, stat, row_count, has_bare_column}
use Rattle.vortex_base.specs.Data.Types.{as_nullable, dtype_eq_is_exact, eq_ignore_nullability}
use Rattle.vortex_expr.specs.Meanings.Typing.{comparison_type, stat_type, type_of, with_types}
use Rattle.vortex_base.specs.Data.Values.{is_value}
use Rattle.vortex_rewrite.proofs.Completeness.Choices.{IsBetween, row_with, cell_with}
use Rattle.vortex_rewrite.proofs.Soundness.ValueTests.{value_le, le_refl, le_antisym}
use Rattle.vortex_rewrite.specs.Rewriting.ReadOnce.{Box, IsWithin, columns_of, is_operand}
use Rattle.vortex_rewrite.specs.Rewriting.Proof.{Assignment, value_under}
use Rattle.vortex_rewrite.specs.Rewriting.Falsifiers.{max_of, min_of}
use Rattle.vortex_expr.proofs.Meanings.MeaningFits.{is_value-as_nullable}

-- ---- types that are equal but for null have the same values

pub same_values : (v : ScalarValue) (s t : DType) → eq_ignore_nullability s t ≡ true → is_value v s ≡ is_value v t
same_values v s t h = sym (is_value-as_nullable v s) ∙ ap (is_value v) ((dtype_eq_is_exact (as_nullable s) (as_nullable t)).0 h) ∙ is_value-as_nullable v t

-- a type that has a value has a least and a greatest one
extremes_typed : (v : ScalarValue) (t : DType) → is_value v t ≡ true → (is_ok (stat_type Min t) ≡ true) × (is_ok (stat_type Max t) ≡ true)
extremes_typed (value.Bool b) (dtype.Bool n) h = (refl, refl)
extremes_typed (value.Primitive p) (dtype.Primitive q n) h = (refl, refl)
extremes_typed (value.Utf8 s) (dtype.Utf8 n) h = (refl, refl)
extremes_typed (value.Binary s) (dtype.Binary n) h = (refl, refl)
extremes_typed v t h = cc

module _ (c : Place) (v : ScalarValue) (h : is_value v c.dtype ≡ true) where
  pub min_is : min_of (column c) ≡ Some (stat Min (column c))
  min_is = ap (λ (b : Bool). if b then Some (stat Min (column c)) else None) (extremes_typed v c.dtype h).0

  pub max_is : max_of (column c) ≡ Some (stat Max (column c))
  max_is = ap (λ (b : Bool). if b then Some (stat Max (column c)) else None) (extremes_typed v c.dtype h).1

-- ---- the types of operands

pub if_ok : (b : Bool) (t : DType) (e : BaseError) → is_ok (if b then Ok t else Err e) ≡ true → b ≡ true
if_ok true t e h = refl
if_ok false t e h = cc

-- the type of an operand
unfoldable pub operand_type : Tree Place → DType
operand_type (column c) = c.dtype
operand_type (literal c) = c.dtype
operand_type e = dtype.Null

pub if_typed : (b : Bool) (t : DType) (e : BaseError) → is_ok (if b then Ok t else Err e) ≡ true → (if b then Ok t else Err e) ≡ Ok t
if_typed true t e h = refl
if_typed false t e h = cc

operand_typed : (x : Tree Place) → is_operand x ≡ true → is_ok (type_of x) ≡ true → type_of x ≡ Ok (operand_type x)
unfolding operand_type
operand_typed (column c) h ok = refl
operand_typed (literal c) h ok = if_typed (is_optional_value c.value c.dtype) c.dtype _ ok
operand_typed (binary o l r) h ok = cc
operand_typed (between o x l u) h ok = cc
operand_typed (is_null x) h ok = cc
operand_typed (is_not_null x) h ok = cc
operand_typed (not x) h ok = cc
operand_typed (like o x p) h ok = cc
operand_typed (stat f x) h ok = cc
operand_typed row_count h ok = cc

-- operands of a comparison that has a type are of one type
pub same_operands : (x y : Tree Place) → is_operand x ≡ true → is_operand y ≡ true → is_ok (type_of x) ≡ true → is_ok (type_of y) ≡ true
    → is_ok (with_types comparison_type (type_of x) (type_of y)) ≡ true → eq_ignore_nullability (operand_type x) (operand_type y) ≡ true
same_operands x y hx hy tx ty ok =
    let typed = subst₂ (λ a b. is_ok (with_types comparison_type a b) ≡ true) (operand_typed x hx tx) (operand_typed y hy ty) ok in
    (and_parts _ _ (if_ok _ _ _ typed)).0

pub some_value : (o : Option ScalarValue) → is_some o ≡ true → (v : ScalarValue) × (o ≡ Some v)
some_value (Some v) h = (v, refl)
some_value None h = cc

module _ (box : Box) (A : Assignment) (m n : ℕ) where
  -- a column inside a row of m cells, whose bounds are the answers, of its type and in order
  pub record IsInterval (c : Place) : Type 0 where
    pub inside : c.index < m
    pub min_told : A Min (column c) ≡ Some (box.low c.index)
    pub max_told : A Max (column c) ≡ Some (box.high c.index)
    pub low : is_value (box.low c.index) c.dtype ≡ true
    pub high : is_value (box.high c.index) c.dtype ≡ true
    pub order : value_le (box.low c.index) (box.high c.index) ≡ true

  -- an operand takes all values from lo to hi, and these alone, and its proofs know the ends
  pub record Operand (x : Tree Place) (t : DType) : Type 0 where
    pub lo : ScalarValue
    pub hi : ScalarValue
    pub least : Tree Place
    pub most : Tree Place
    pub least_is : min_of x ≡ Some least
    pub most_is : max_of x ≡ Some most
    pub least_told : value_under A n least ≡ Some lo
    pub most_told : value_under A n most ≡ Some hi
    pub least_closed : has_bare_column least ≡ false
    pub most_closed : has_bare_column most ≡ false
    pub lo_fits : is_value lo t ≡ true
    pub hi_fits : is_value hi t ≡ true
    pub order : value_le lo hi ≡ true
    pub reach : (v : ScalarValue) → is_value v t ≡ true → value_le lo v ≡ true → value_le v hi ≡ true
        → AllByRecursion (IsBetween box (λ i. v)) (columns_of x) × (meaning x (row_with (λ i. v) m) n ≡ Some v)
    pub bounded : (row : List Constant) → AllByRecursion (IsWithin box row) (columns_of x)
        → (v : ScalarValue) × (meaning x row n ≡ Some v) × (value_le lo v ≡ true) × (value_le v hi ≡ true)

  column_operand : (c : Place) → IsInterval c → Operand (column c) c.dtype
  column_operand c known = record {
    lo = box.low c.index;
    hi = box.high c.index;
    least = stat Min (column c);
    most = stat Max (column c);
    least_is = min_is c (box.low c.index) known.low;
    most_is = max_is c (box.low c.index) known.low;
    least_told = known.min_told;
    most_told = known.max_told;
    least_closed = refl;
    most_closed = refl;
    lo_fits = known.low;
    hi_fits = known.high;
    order = known.order;
    reach = λ v f l h. ((record { of_type = f; above_low = l; below_high = h }, tt), cell_with (λ i. v) m c.index known.inside);
    bounded = λ row w. (w.0.chosen, w.0.cell, ap not_b w.0.above_low, ap not_b w.0.below_high);
  }

  literal_operand : (c : Constant) (v : ScalarValue) → c.value ≡ Some v → is_optional_value c.value c.dtype ≡ true → Operand (literal c) c.dtype
  literal_operand c v is fit = record {
    lo = v;
    hi = v;
    least = literal c;
    most = literal c;
    least_is = refl;
    most_is = refl;
    least_told = is;
    most_told = is;
    least_closed = refl;
    most_closed = refl;
    lo_fits = subst (λ o. is_optional_value o c.dtype ≡ true) is fit;
    hi_fits = subst (λ o. is_optional_value o c.dtype ≡ true) is fit;
    order = le_refl v;
    reach = λ w f l h. (tt, is ∙ ap Some (le_antisym v w l h));
    bounded = λ row w. (v, is, le_refl v, le_refl v);
  }

  pub operand : (x : Tree Place) → is_operand x ≡ true → is_ok (type_of x) ≡ true → AllByRecursion IsInterval (columns_of x) → Operand x (operand_type x)
  unfolding operand_type
  operand (column c) h ok known = column_operand c known.0
  operand (literal c) h ok known = let some = some_value c.value h in literal_operand c some.0 some.1 (if_ok _ _ _ ok)
  operand (binary o l r) h ok known = cc
  operand (between o x l u) h ok known = cc
  operand (is_null x) h ok known = cc
  operand (is_not_null x) h ok known = cc
  operand (not x) h ok known = cc
  operand (like o x p) h ok known = cc
  operand (stat f x) h ok known = cc
  operand row_count h ok known = cc
