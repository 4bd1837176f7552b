-- How a condition of SQL is said by an expression over a schema, and what it means if each leaf that isn't read has a truth of its own.
use Rattle.std.specs.Prelude.{◌≡◌, ℕ, ◌+◌, ◌++◌, Bool, true, false, ◌||◌, not as not_b, Option, Some, None, List, [], ◌∷◌, Result, Ok, Err, IsTrue, codes, decimal, is_none, length, map}
use Rattle.std.specs.Str.Lossy.{utf8_lossy}
use lib.Pointwise.{pointwise}
use Rattle.vortex_base.specs.declared.dtype.DType.{DType}
use Rattle.vortex_base.specs.declared.error.BaseError.{BaseError}
use Rattle.vortex_base.specs.Data.Scalars.{Constant, is_optional_value}
use Rattle.vortex_base.specs.Data.Scopes.{Named}
use Rattle.vortex_expr.specs.declared.scalar_fn.Operator.TheVariants as operator
use Rattle.vortex_expr.specs.Meanings.Meaning.{both, either, opposite, truth_value, meaning}
use Rattle.vortex_expr.specs.Meanings.Typing.{is_bool, type_of}
use Rattle.vortex_expr.specs.Trees.Tree.{Tree, Place, column, binary, is_null, is_not_null, not}
use Rattle.vortex_sql.specs.declared.syntax.tree.Leaf.{Leaf}
use Rattle.vortex_sql.specs.declared.syntax.tree.Condition.{Condition}
use Rattle.vortex_sql.specs.declared.syntax.tree.Condition.TheVariants.{Leaf as Leaf', Not', And', Or', IsNull', IsTrue', IsFalse'}
use Rattle.vortex_sql.specs.Parsing.Places.{bytes_between}
use Rattle.vortex_sql.specs.Schemas.{SchemaData}
use Rattle.vortex_sql.specs.Sql.{test_truth}
use Rattle.vortex_sql.specs.Readings.{Reading, reading, bool_or_null, truth_literal}

abbrev pub span_of : Leaf → ℕ × ℕ
span_of l = (l.start, l.end)

-- ---- the leaves

-- the leaves of a condition that aren't read, in their order
abbrev pub opaque_if : Reading → Leaf → List Leaf
opaque_if (Ok (Some t)) l = []
opaque_if (Ok None) l = l ∷ []
opaque_if (Err e) l = l ∷ []

abbrev pub opaques : SchemaData → Condition → List Leaf
opaques s (Leaf' l) = opaque_if (reading s l.test) l
opaques s (Not' p x) = opaques s x
opaques s (And' p x q y) = opaques s x ++ opaques s y
opaques s (Or' p x q y) = opaques s x ++ opaques s y
opaques s (IsNull' p x) = opaques s x
opaques s (IsTrue' p x) = opaques s x
opaques s (IsFalse' p x) = opaques s x

-- ---- the expression

-- a leaf that isn't read is a column of its own
abbrev pub opaque_tree : ℕ → Tree Place
opaque_tree k = column (record { index = k; dtype = bool_or_null })

abbrev pub leaf_tree : ℕ → Reading → Tree Place
leaf_tree k (Ok (Some t)) = t
leaf_tree k (Ok None) = opaque_tree k
leaf_tree k (Err f) = opaque_tree k

abbrev pub and_tree : Tree Place → Tree Place → Tree Place
and_tree s t = binary operator.And s t

abbrev pub or_tree : Tree Place → Tree Place → Tree Place
or_tree s t = binary operator.Or s t

-- the condition has IS TRUE or IS FALSE in it
abbrev pub has_truth_test : Condition → Bool
has_truth_test (Leaf' l) = false
has_truth_test (Not' p x) = has_truth_test x
has_truth_test (And' p x q y) = has_truth_test x || has_truth_test y
has_truth_test (Or' p x q y) = has_truth_test x || has_truth_test y
has_truth_test (IsNull' p x) = has_truth_test x
has_truth_test (IsTrue' p x) = true
has_truth_test (IsFalse' p x) = true

-- a truth and that it is known: a part that is skipped by the truth is skipped by this. The form with the truth once keeps nested ones from growing
abbrev pub is_true_tree : (once : Bool) → Tree Place → Tree Place
is_true_tree true e = is_not_null (or_tree e (truth_literal None))
is_true_tree false e = and_tree e (is_not_null e)

abbrev pub is_false_tree : (once : Bool) → Tree Place → Tree Place
is_false_tree true e = is_not_null (and_tree e (truth_literal None))
is_false_tree false e = and_tree (not e) (is_not_null e)

-- the expression of a condition whose first leaf that isn't read is the column k
abbrev pub lowered : SchemaData → ℕ → Condition → Tree Place
lowered s k (Leaf' l) = leaf_tree k (reading s l.test)
lowered s k (Not' p x) = not (lowered s k x)
lowered s k (And' p x q y) = and_tree (lowered s k x) (lowered s (k + length (opaques s x)) y)
lowered s k (Or' p x q y) = or_tree (lowered s k x) (lowered s (k + length (opaques s x)) y)
lowered s k (IsNull' p x) = is_null (lowered s k x)
lowered s k (IsTrue' p x) = is_true_tree (has_truth_test x) (lowered s k x)
lowered s k (IsFalse' p x) = is_false_tree (has_truth_test x) (lowered s k x)

-- ---- the meaning of a condition, where a leaf that isn't read has the truth that f tells

abbrev pub leaf_truth : Reading → Option Bool → Option Bool → Option Bool
leaf_truth (Ok (Some t)) read told = read
leaf_truth (Ok None) read told = told
leaf_truth (Err f) read told = told

abbrev pub is_known_as : Bool → Option Bool → Bool
is_known_as b None = false
is_known_as true (Some a) = a
is_known_as false (Some a) = not_b a

abbrev pub truth_on : SchemaData → List Constant → (Leaf → Option Bool) → Condition → Option Bool
truth_on s row f (Leaf' l) = leaf_truth (reading s l.test) (test_truth s row l.test) (f l)
truth_on s row f (Not' p x) = opposite (truth_on s row f x)
truth_on s row f (And' p x q y) = both (truth_on s row f x) (truth_on s row f y)
truth_on s row f (Or' p x q y) = either (truth_on s row f x) (truth_on s row f y)
truth_on s row f (IsNull' p x) = Some (is_none (truth_on s row f x))
truth_on s row f (IsTrue' p x) = Some (is_known_as true (truth_on s row f x))
truth_on s row f (IsFalse' p x) = Some (is_known_as false (truth_on s row f x))

-- ---- the columns of the leaves that aren't read

-- where a leaf begins, and its text
abbrev pub leaf_name : List ℕ → ℕ × ℕ → List ℕ
leaf_name text (start, end) = decimal start ++ (codes ": " ++ utf8_lossy (bytes_between text start end))

abbrev pub leaf_column : List ℕ → ℕ × ℕ → Named
leaf_column text span = (leaf_name text span, bool_or_null)

abbrev pub leaf_columns : List ℕ → List (ℕ × ℕ) → List Named
leaf_columns text spans = map (leaf_column text) spans

-- ---- types

abbrev pub types_of : List Named → List DType
types_of cs = map (λ c. c.1) cs

abbrev pub is_bool_type : Result DType BaseError → Bool
is_bool_type (Ok t) = is_bool t
is_bool_type (Err f) = false

abbrev pub is_of_bool : Tree Place → Bool
is_of_bool e = is_bool_type (type_of e)

-- ---- the theorem

-- each value of the row may stand under the type of its column
abbrev pub IsRowOf : List Named → List Constant → Type 0
IsRowOf scope row = IsTrue (pointwise (λ s c. is_optional_value c.value s.1) scope row)

abbrev pub told_cell : Option Bool → Constant
told_cell b = record { dtype = bool_or_null; value = truth_value b }

-- the row with what is told of the leaves that aren't read
abbrev pub with_told : List Constant → (Leaf → Option Bool) → List Leaf → List Constant
with_told row f leaves = row ++ map (λ l. told_cell (f l)) leaves

-- on each row of the scope, whatever is told of the leaves that aren't read, the expression means on the row with that what the condition means
abbrev pub Says : SchemaData → Condition → Tree Place → Type 0
Says s c e =
    (row : List Constant) (f : Leaf → Option Bool) (n : ℕ) → IsRowOf s.scope row
    → meaning e (with_told row f (opaques s c)) n ≡ truth_value (truth_on s row f c)
