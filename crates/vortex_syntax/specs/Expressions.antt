-- Expressions in prefix form.
use Rattle.std.specs.Prelude.{◌≡◌, ℕ, zero, suc, Bool, true, false, List, ◌∷◌, Option, Some, None, codes, is_ok, is_some, length, if◌then◌else◌}
use Rattle.std.specs.Str.{bytes_eq}
use Rattle.vortex_expr.specs.Meanings.Binding.{find_column}
use Rattle.vortex_base.specs.Data.Scopes.{Named}
use Rattle.vortex_expr.specs.Trees.Tree.{Tree, Place, column, literal, binary, between, is_null, is_not_null, not, like}
use Rattle.vortex_expr.specs.Meanings.Typing.{type_of as type_of_tree}
use Rattle.vortex_expr.specs.declared.scalar_fn.BetweenOptions.{BetweenOptions}
use Rattle.vortex_expr.specs.declared.scalar_fn.StrictComparison.{StrictComparison}
use Rattle.vortex_expr.specs.declared.scalar_fn.StrictComparison.TheVariants.{Strict, NonStrict}
use Rattle.vortex_base.specs.declared.error.BaseError.{BaseError}
use Rattle.vortex_base.specs.declared.error.BaseError.TheVariants as fault
use Rattle.vortex_expr.specs.declared.like.LikeOptions.{LikeOptions}
use Rattle.vortex_expr.specs.declared.scalar_fn.Operator.{Operator}
use Rattle.vortex_expr.specs.declared.scalar_fn.Operator.TheVariants as operator
use Rattle.vortex_syntax.specs.Fails.{◌>>=◌, IsBad}
use Rattle.vortex_syntax.specs.Names.{type_of}
use Rattle.vortex_syntax.specs.Values.{optional_value_of}
use Rattle.vortex_syntax.specs.Words.{Token, Plain, first_word, no_word, plain_word}
use Rattle.vortex_syntax.specs.declared.form.Form.{Form}
use Rattle.vortex_syntax.specs.declared.form.Form.TheVariants as form
use Rattle.vortex_syntax.specs.declared.line_error.LineError.{LineError}
use Rattle.vortex_syntax.specs.declared.line_error.LineError.TheVariants as errors

-- the operator of two operands that a word names
abbrev pub operator_of : List ℕ → Option Operator
operator_of word =
    if bytes_eq word (codes "eq") then Some operator.Eq else (
    if bytes_eq word (codes "ne") then Some operator.NotEq else (
    if bytes_eq word (codes "gt") then Some operator.Gt else (
    if bytes_eq word (codes "ge") then Some operator.Gte else (
    if bytes_eq word (codes "lt") then Some operator.Lt else (
    if bytes_eq word (codes "le") then Some operator.Lte else (
    if bytes_eq word (codes "and") then Some operator.And else (
    if bytes_eq word (codes "or") then Some operator.Or else None)))))))

-- how a LIKE compares that a word names
abbrev pub like_of : List ℕ → Option LikeOptions
like_of word =
    if bytes_eq word (codes "like") then Some (record { negated = false; case_insensitive = false }) else (
    if bytes_eq word (codes "notlike") then Some (record { negated = true; case_insensitive = false }) else (
    if bytes_eq word (codes "ilike") then Some (record { negated = false; case_insensitive = true }) else (
    if bytes_eq word (codes "notilike") then Some (record { negated = true; case_insensitive = true }) else None)))

-- the form of an operator, or else of a LIKE
abbrev pub other_form : Option Operator → Option LikeOptions → Option Form
other_form (Some o) l = Some (form.Binary o)
other_form None (Some l) = Some (form.Like l)
other_form None None = None

-- the form that a word begins
abbrev pub form_of : List ℕ → Option Form
form_of word =
    if bytes_eq word (codes "col") then Some form.Column else (
    if bytes_eq word (codes "lit") then Some form.Literal else (
    if bytes_eq word (codes "between") then Some form.Between else (
    if bytes_eq word (codes "isnull") then Some form.IsNull else (
    if bytes_eq word (codes "notnull") then Some form.IsNotNull else (
    if bytes_eq word (codes "not") then Some form.Not else other_form (operator_of word) (like_of word))))))

-- the first word begins an expression
abbrev pub begins_expression : List Token → Bool
begins_expression (Plain word ∷ ws) = is_some (form_of word)
begins_expression ws = false

-- whether an end of a BETWEEN is left out
abbrev pub strictness_of : List ℕ → Option StrictComparison
strictness_of word = if bytes_eq word (codes "<") then Some Strict else (if bytes_eq word (codes "<=") then Some NonStrict else None)

-- an expression and the words after it
abbrev pub Read : Type 0
Read = Option (Tree Place × List Token)

-- the expression, if the typing table has a type for it
abbrev pub typed : Tree Place → Option (Tree Place)
typed e = if is_ok (type_of_tree e) then Some e else None

abbrev pub followed : Option (Tree Place) → List Token → Read
followed None ws = None
followed (Some e) ws = Some (e, ws)

-- `NAME`: a column of the scope
abbrev pub read_column : List Named → List Token → Read
read_column scope ws = do
  name ← plain_word ws
  place ← find_column scope name.0
  Some (column place, name.1)

-- `TYPE VALUE`: a literal
abbrev pub read_literal : List Token → Read
read_literal ws = do
  kind ← plain_word ws
  t ← type_of kind.0
  word ← first_word kind.1
  v ← optional_value_of t word.0
  followed (typed (literal (record { dtype = t; value = v }))) word.1

-- `LOP UOP`: how the ends of a BETWEEN are compared
abbrev pub read_options : List Token → Option (BetweenOptions × List Token)
read_options ws = do
  lower ← plain_word ws
  lop ← strictness_of lower.0
  upper ← plain_word lower.1
  uop ← strictness_of upper.0
  Some (record { lower_strict = lop; upper_strict = uop }, upper.1)

-- one operand, of which an expression is made
abbrev pub read_one : (List Token → Read) → (Tree Place → Tree Place) → List Token → Read
read_one operand made ws = do
  x ← operand ws
  followed (typed (made x.0)) x.1

-- two operands, one after the other
abbrev pub read_two : (List Token → Read) → (Tree Place → Tree Place → Tree Place) → List Token → Read
read_two operand made ws = do
  left ← operand ws
  right ← operand left.1
  followed (typed (made left.0 right.0)) right.1

-- the operand of a BETWEEN and its ends, behind how they are compared
abbrev pub read_between : (List Token → Read) → List Token → Read
read_between operand ws = do
  options ← read_options ws
  x ← operand options.1
  lower ← operand x.1
  upper ← operand lower.1
  followed (typed (between options.0 x.0 lower.0 upper.0)) upper.1

-- the expression of a form, where each operand is read in this way
abbrev pub expression_by : List Named → (List Token → Read) → Form → List Token → Read
expression_by scope operand form.Column ws = read_column scope ws
expression_by scope operand form.Literal ws = read_literal ws
expression_by scope operand (form.Binary o) ws = read_two operand (binary o) ws
expression_by scope operand form.Between ws = read_between operand ws
expression_by scope operand form.IsNull ws = read_one operand is_null ws
expression_by scope operand form.IsNotNull ws = read_one operand is_not_null ws
expression_by scope operand form.Not ws = read_one operand not ws
expression_by scope operand (form.Like o) ws = read_two operand (like o) ws

-- the expression that words begin with, of at most so many words, and the words after it
abbrev pub expression_within : List Named → ℕ → List Token → Read
expression_within scope zero ws = None
expression_within scope (suc most) ws = do
  word ← plain_word ws
  shape ← form_of word.0
  expression_by scope (expression_within scope most) shape word.1

-- the expression that words are
abbrev pub expression_of : List Named → List Token → Option (Tree Place)
expression_of scope ws = do
  e ← expression_within scope (length ws) ws
  none ← no_word e.1
  Some e.0

-- a fault of the layer below: memory was refused, or the line is bad, since the operands of an operator don't fit
abbrev pub IsRefusedAs : BaseError → LineError → Type 0
IsRefusedAs (fault.Memory e) r = r ≡ errors.Memory
IsRefusedAs e r = IsBad r
