-- What a reader of expressions whose chains are joined in halves answers.
use Rattle.std.specs.Prelude.{◌≡◌, ◌<◌, ◌≤◌, ℕ, Bool, true, false, List, [], ◌∷◌, ◌++◌, Option, Some, None, Result, Ok, Err, ⊤}
use Rattle.vortex_base.specs.Data.Scopes.{Named}
use Rattle.vortex_expr.specs.Trees.Connectives.{is_and}
use Rattle.vortex_expr.specs.declared.scalar_fn.Connective.TheVariants as connective
use Rattle.vortex_expr.specs.Trees.Tree.{Tree, Place}
use Rattle.vortex_expr.specs.declared.scalar_fn.Operator.{Operator}
use Rattle.vortex_expr.specs.declared.scalar_fn.Operator.TheVariants as operator
use Rattle.vortex_rewrite.specs.Rewriting.Predicates.{is_predicate}
use Rattle.vortex_syntax.specs.Expressions.{Read, expression_within, form_of, read_between, read_column, read_literal, read_one, read_two}
use Rattle.vortex_syntax.specs.Fails.{when, ◌>>=◌}
use Rattle.vortex_syntax.specs.Words.{Token, plain_word}
use Rattle.vortex_syntax.specs.declared.form.Form.{Form}
use Rattle.vortex_syntax.specs.declared.form.Form.TheVariants as form
use Rattle.vortex_normal.specs.Balanced.{depth}
use Rattle.vortex_capi.specs.Nesting.Halves.{halved, halves, items, joined}
use Rattle.vortex_capi.specs.Nesting.Nodes.{pair_of, unary_of}
use Rattle.vortex_capi.specs.declared.nested.error.NestedError.{NestedError}
use Rattle.vortex_capi.specs.declared.nested.error.NestedError.TheVariants as errors
use Rattle.vortex_capi.specs.declared.nested.nested.Unary.TheVariants as unary
use Rattle.vortex_capi.specs.declared.nested.nested.Pair.TheVariants as pair
use Rattle.vortex_capi.specs.declared.nested.shape.Shape.{Shape}
use Rattle.vortex_capi.specs.declared.nested.shape.Shape.TheVariants as shape

-- ---- the expression that words begin with, its chains joined in halves

abbrev pub halved_pair : Tree Place × List Token → Tree Place × List Token
halved_pair x = (halved x.0, x.1)

abbrev pub halved_read : Read → Read
halved_read None = None
halved_read (Some x) = Some (halved_pair x)

-- of at most so many words, and the words after it
abbrev pub nested_within : List Named → ℕ → List Token → Read
nested_within scope most ws = halved_read (expression_within scope most ws)

-- ---- the items of a chain

-- the items of as many expressions as there are numbers, one after the other, each a truth of at most so many words, and the words after them
abbrev pub chain_within : List Named → (is_and : Bool) → List ℕ → List Token → Option (List (Tree Place) × List Token)
chain_within scope w [] ws = Some ([], ws)
chain_within scope w (most ∷ mosts) ws = do
  x ← expression_within scope most ws
  truth ← when (is_predicate x.0) x.0
  more ← chain_within scope w mosts x.1
  Some (items w (halves truth) ++ more.0, more.1)

abbrev pub joined_read : (is_and : Bool) → Option (List (Tree Place) × List Token) → Read
joined_read w None = None
joined_read w (Some y) = Some (joined w y.0, y.1)

-- ---- by the first word

abbrev pub shape_of_operator : Operator → Shape
shape_of_operator operator.And = shape.Chain connective.And
shape_of_operator operator.Or = shape.Chain connective.Or
shape_of_operator o = shape.Pair (pair.Binary o)

abbrev pub shape_of : Form → Shape
shape_of form.Column = shape.Column
shape_of form.Literal = shape.Literal
shape_of (form.Binary o) = shape_of_operator o
shape_of form.Between = shape.Between
shape_of form.IsNull = shape.Unary unary.IsNull
shape_of form.IsNotNull = shape.Unary unary.IsNotNull
shape_of form.Not = shape.Unary unary.Not
shape_of (form.Like o) = shape.Pair (pair.Like o)

-- what a shape reads behind the first word
abbrev pub shape_within : List Named → ℕ → Shape → List Token → Read
shape_within scope most shape.Column ws = read_column scope ws
shape_within scope most shape.Literal ws = read_literal ws
shape_within scope most (shape.Chain k) ws = joined_read (is_and k) (chain_within scope (is_and k) (most ∷ most ∷ []) ws)
shape_within scope most (shape.Pair p) ws = read_two (nested_within scope most) (pair_of p) ws
shape_within scope most shape.Between ws = read_between (nested_within scope most) ws
shape_within scope most (shape.Unary u) ws = read_one (nested_within scope most) (unary_of u) ws

-- the form is that of a chain of AND, or of OR
abbrev pub opens : (is_and : Bool) → Form → Bool
opens true (form.Binary operator.And) = true
opens false (form.Binary operator.Or) = true
opens w f = false

-- the words behind the AND or the OR that they begin with
abbrev pub behind : (is_and : Bool) → List Token → Option (List Token)
behind w ws = do
  word ← plain_word ws
  shape ← form_of word.0
  when (opens w shape) word.1

-- ---- what a call answers

-- nothing is to be read, or it is no less deep than this; memory may be refused
abbrev pub Fails : (below : ℕ) → NestedError → Read → Type 0
Fails below errors.Memory read = ⊤
Fails below errors.Bad read = read ≡ None
Fails below errors.TooDeep read = (x : Tree Place × List Token) → read ≡ Some x → below ≤ depth x.0

-- what a call returned, seen by view, is what is to be read, and less deep than this
abbrev pub Reads : {X : Type 0} → (below : ℕ) → (X → Tree Place × List Token) → Result X NestedError → Read → Type 0
Reads below view (Ok x) read = (read ≡ Some (view x)) × (depth (view x).0 < below)
Reads below view (Err e) read = Fails below e read

-- a call returned the items of a chain, or the chain that they make up fails
abbrev pub ReadsItems : {X : Type 0} → (below : ℕ) → (is_and : Bool) → (X → List (Tree Place) × List Token) → Result X NestedError → Option (List (Tree Place) × List Token) → Type 0
ReadsItems below w view (Ok x) read = read ≡ Some (view x)
ReadsItems below w view (Err e) read = Fails below e (joined_read w read)
