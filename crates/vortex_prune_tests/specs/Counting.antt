-- A binder of the tests that knows a count of nulls: what it answers, over which rows of statistics it is faithful, and a chunk for which it is honest.
use Rattle.std.specs.Prelude.{◌≡◌, ◌==◌, ◌&&◌, ℕ, Bool, true, false, MatchBool, List, [], ◌∷◌, Option, Some, None, Result, Ok, Err, IsTrue, pos, codes, if◌then◌else◌, refl, slice_get, ⊤}
use Rattle.std.proofs.Common.{ap, subst, sym, ◌∙◌}
use Rattle.std.proofs.lemmas.Bool.{and_parts, eqb-true}
use Rattle.std.proofs.lemmas.Option.{same_Some}
use Rattle.vortex_base.specs.declared.aggregate.AggregateFnRef.{AggregateFnRef}
use Rattle.vortex_base.specs.declared.aggregate.AggregateFnRef.TheVariants.{NullCount}
use Rattle.vortex_base.specs.declared.dtype.DType.{DType}
use Rattle.vortex_base.specs.declared.dtype.DType.TheVariants as dtype
use Rattle.vortex_base.specs.declared.error.BaseError.{BaseError}
use Rattle.vortex_base.specs.declared.types.Nullability.TheVariants.{NonNullable, Nullable}
use Rattle.vortex_base.specs.declared.types.PType.TheVariants as ptype
use Rattle.vortex_base.specs.declared.pvalue.PValue.TheVariants as number
use Rattle.vortex_base.specs.declared.scalar_value.ScalarValue.{ScalarValue}
use Rattle.vortex_base.specs.declared.scalar_value.ScalarValue.TheVariants as value
use Rattle.vortex_base.specs.Data.Columns.{ChunkData, cell_value}
use Rattle.vortex_base.specs.Data.Scalars.{Constant, is_optional_value, null_of}
use Rattle.vortex_base.specs.Data.Types.{as_nullable, dtype_eq, dtype_eq_is_exact}
use Rattle.vortex_expr.specs.Meanings.Fitting.{is_cell_of}
use Rattle.vortex_expr.specs.Meanings.Meaning.{meaning}
use Rattle.vortex_expr.specs.Meanings.Typing.{stat_type, type_of, with_type}
use Rattle.vortex_expr.specs.Trees.Tree.{Tree, Place, column, stat}
use Rattle.vortex_rewrite.proofs.NullErasure.{typed_null}
use Rattle.vortex_rewrite.specs.Facts.{IsFact, is_over, meanings, size_of}
use Rattle.vortex_rewrite.specs.Rewriting.Proof.{Assignment}
use Rattle.vortex_rewrite.specs.StateTypes.{as_nullable-again}
use Rattle.vortex_stats.specs.Sets.Claims.{count_value}
use Rattle.vortex_prune.specs.Binding.Binders.{BinderAnswer, IsAnswerOf, IsFaithful, IsHonestOver}
use Rattle.vortex_prune.specs.Binding.PartBinder.{IsNullOf}
use Rattle.vortex_prune.specs.Binding.PartFaithful.{literal_is_answer}

abbrev number_type : DType
number_type = dtype.Primitive ptype.I32 NonNullable

abbrev count_type : DType
count_type = dtype.Primitive ptype.U64 NonNullable

-- the first column, of numbers
abbrev pub is_first : Tree Place → Bool
is_first (column c) = (c.index == 0) && dtype_eq c.dtype number_type
is_first e = false

-- the column of counts in a table of statistics
abbrev pub counts : Tree Place
counts = column (record { index = 1; dtype = count_type })

-- the count of nulls of the first column is that column, if it is known
abbrev pub counted : (are_known : Bool) → BinderAnswer
counted are_known NullCount x t = if are_known && is_first x then Some counts else None
counted are_known f x t = None

-- and its value is what the row has there
abbrev pub counted_value : (are_known : Bool) → List Constant → Assignment
counted_value are_known row NullCount x = if are_known && is_first x then cell_value (slice_get row 1) else None
counted_value are_known row f x = None

-- the second cell is a count
abbrev pub has_count : List Constant → Bool
has_count row = is_cell_of count_type (slice_get row 1)

-- ---- it is faithful over such rows

counted_type : (r : Result DType BaseError) (t : DType) → with_type (stat_type NullCount) r ≡ Ok t → dtype.Primitive ptype.U64 Nullable ≡ t
counted_type (Ok s) t h = cc
counted_type (Err e) t h = absurd cc

the_counts : (known : Bool) (r : Tree Place) → (if known then Some counts else None) ≡ Some r → counts ≡ r
the_counts true r e = same_Some counts r e
the_counts false r e = absurd cc

same_type : (s : DType) → type_of counts ≡ Ok s → count_type ≡ s
same_type s h = cc

counts_answer : (t : DType) (row : List Constant) → has_count row ≡ true → dtype.Primitive ptype.U64 Nullable ≡ t → IsAnswerOf t row counts
counts_answer t row has is = record { typed = λ s h. ap as_nullable (sym (same_type s h)) ∙ ap as_nullable is; free = refl; fits = has }

answers : (known : Bool) (row : List Constant) → has_count row ≡ true → (f : AggregateFnRef) (x : Tree Place) (t : DType) (r : Tree Place) → type_of (stat f x) ≡ Ok t → counted known f x t ≡ Some r → IsAnswerOf t row r
answers known row has NullCount x t r h e = subst (IsAnswerOf t row) (the_counts (known && is_first x) r e) (counts_answer t row has (counted_type (type_of x) t h))
answers known row has f x t r h e = absurd cc

value_of : (known : Bool) (row : List Constant) (n : ℕ) (r : Tree Place) → (if known then Some counts else None) ≡ Some r → meaning r row n ≡ (if known then cell_value (slice_get row 1) else None)
value_of true row n r e = ap (λ (y : Tree Place). meaning y row n) (sym (the_counts true r e))
value_of false row n r e = absurd cc

named : (known : Bool) (row : List Constant) (n : ℕ) (f : AggregateFnRef) (x : Tree Place) (t : DType) (r : Tree Place) → counted known f x t ≡ Some r → meaning r row n ≡ counted_value known row f x
named known row n NullCount x t r e = value_of (known && is_first x) row n r e
named known row n f x t r e = absurd cc

none_of : (known : Bool) (row : List Constant) → (if known then Some counts else None) ≡ None → (if known then cell_value (slice_get row 1) else None) ≡ None
none_of true row e = absurd cc
none_of false row e = refl

unknown : (known : Bool) (row : List Constant) (f : AggregateFnRef) (x : Tree Place) (t : DType) → counted known f x t ≡ None → counted_value known row f x ≡ None
unknown known row NullCount x t e = none_of (known && is_first x) row e
unknown known row f x t e = refl

pub counted_is_faithful : (known : Bool) (row : List Constant) (n : ℕ) → IsTrue (has_count row) → IsFaithful (counted known) IsNullOf (counted_value known row) row n
counted_is_faithful known row n has = record {
  answers = answers known row has;
  named = λ f x t r h e. named known row n f x t r e;
  unknown = λ f x t h e. unknown known row f x t e;
  missing = λ t r h. literal_is_answer (null_of (as_nullable t)) t row r h (as_nullable-again t);
  null = λ t r h. ap (λ (y : Tree Place). meaning y row n) h;
}

abbrev place_at : ℕ → DType → Place
place_at i t = record { index = i; dtype = t }

-- ---- and honest for the numbers 3, null and 5, over a row that counts one null

abbrev pub three_numbers : ChunkData
three_numbers = record {
  scope = (codes "a", as_nullable number_type) ∷ [];
  columns =
      record { dtype = as_nullable number_type; values = Some (value.Primitive (number.I32 (pos 3))) ∷ None ∷ Some (value.Primitive (number.I32 (pos 5))) ∷ []; size = 0 } ∷ [];
}

abbrev pub one_null : List Constant
one_null = record { dtype = number_type; value = None } ∷ record { dtype = count_type; value = Some (count_value 1) } ∷ []

no_answer : (b : Bool) (o : Option ScalarValue) → MatchBool b ⊤ (o ≡ o)
no_answer true o = tt
no_answer false o = refl

same_place : (i : ℕ) (t : DType) → i ≡ 0 → t ≡ number_type → place_at i t ≡ place_at 0 number_type
same_place i t same also = ap (λ (j : ℕ). place_at j t) same ∙ ap (place_at 0) also

-- the answer to a column, if it is the first
first_fact : (c : Place) (b : Bool) → is_first (column c) ≡ b
    → MatchBool (is_over (column c) three_numbers.columns) (IsFact NullCount (if b then Some (count_value 1) else None) (meanings (column c) three_numbers.columns) (size_of (column c) three_numbers.columns))
    ((if b then Some (count_value 1) else None) ≡ None)
first_fact c true is =
    let parts = and_parts (c.index == 0) (dtype_eq c.dtype number_type) is in
    let place : c ≡ record { index = 0; dtype = number_type } = same_place c.index c.dtype (eqb-true c.index 0 parts.0) ((dtype_eq_is_exact c.dtype number_type).0 parts.1) in
    subst (λ (d : Place). MatchBool (is_over (column d) three_numbers.columns) (IsFact NullCount (Some (count_value 1)) (meanings (column d) three_numbers.columns) (size_of (column d) three_numbers.columns)) (Some (count_value 1) ≡ None))
    (sym place) refl
first_fact c false is = no_answer (is_over (column c) three_numbers.columns) None

facts : (f : AggregateFnRef) (x : Tree Place)
    → MatchBool (is_over x three_numbers.columns) (IsFact f (counted_value true one_null f x) (meanings x three_numbers.columns) (size_of x three_numbers.columns)) (counted_value true one_null f x ≡ None)
facts NullCount (column c) = first_fact c (is_first (column c)) refl
facts f x = no_answer (is_over x three_numbers.columns) None

count_fits : (b : Bool) (r : Result DType BaseError) (t : DType) → with_type (stat_type NullCount) r ≡ Ok t → is_optional_value (if b then Some (count_value 1) else None) t ≡ true
count_fits true r t h = subst (λ (u : DType). is_optional_value (Some (count_value 1)) u ≡ true) (counted_type r t h) refl
count_fits false r t h = typed_null NullCount r t h

types : (f : AggregateFnRef) (x : Tree Place) (t : DType) → type_of (stat f x) ≡ Ok t → is_optional_value (counted_value true one_null f x) t ≡ true
types NullCount x t h = count_fits (is_first x) (type_of x) t h
types f x t h = typed_null f (type_of x) t h

pub counted_is_honest : IsHonestOver (λ row n. has_count row) (λ row n. counted_value true row) one_null three_numbers
counted_is_honest = (refl, record { facts = facts; types = types })
