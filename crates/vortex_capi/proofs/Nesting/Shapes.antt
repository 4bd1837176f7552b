-- What is read by its first word.
use Rattle.std.proofs.Common.{◌≡◌, ◌<◌, ◌≤◌, ◌+◌, ℕ, zero, suc, true, false, List, Option, Some, Result, length, option_and_then, refl, ap, sym, subst, ◌∙◌, arith}
use Rattle.vortex_base.specs.Data.Scopes.{Named}
use Rattle.vortex_base.specs.Data.Scalars.{Constant}
use Rattle.vortex_base.specs.declared.dtype.DType.{DType}
use Rattle.vortex_expr.specs.Trees.Tree.{Tree, Place, column, literal, between, binary}
use Rattle.vortex_expr.specs.declared.scalar_fn.Operator.{Operator}
use Rattle.vortex_expr.specs.declared.scalar_fn.Operator.TheVariants.{And, Or}
use Rattle.vortex_normal.specs.Balanced.{depth}
use Rattle.vortex_syntax.specs.Expressions.{Read, expression_by, expression_within, followed, form_of, read_between, read_column, read_literal, read_one, read_options, read_two, typed}
use Rattle.vortex_syntax.specs.Words.{Token, first_word, plain_word}
use Rattle.vortex_syntax.specs.Names.{type_of as type_of_word}
use Rattle.vortex_syntax.specs.Values.{optional_value_of}
use Rattle.vortex_base.specs.declared.scalar_value.ScalarValue.{ScalarValue}
use Rattle.vortex_expr.specs.Meanings.Binding.{find_column}
use Rattle.vortex_syntax.specs.declared.form.Form.{Form}
use Rattle.vortex_syntax.specs.declared.form.Form.TheVariants as form
use Rattle.vortex_capi.specs.Nesting.Halves.{halved}
use Rattle.vortex_capi.specs.Nesting.Nodes.{pair_of, unary_of}
use Rattle.vortex_capi.specs.Nesting.Reads.{Reads, halved_read, nested_within, shape_of, shape_within}
use Rattle.vortex_capi.specs.declared.nested.error.NestedError.{NestedError}
use Rattle.vortex_capi.specs.declared.nested.nested.Pair.TheVariants as pair
use Rattle.vortex_capi.specs.declared.nested.nested.Unary.TheVariants as unary
use Rattle.vortex_capi.specs.declared.nested.shape.Shape.{Shape}
use Rattle.vortex_capi.proofs.Nesting.Steps.{halved_after, halved_followed, halved_operand, step_of, followed_is}
use Rattle.vortex_capi.proofs.Nesting.Chains.{chain_read}

-- ---- leaves

column_halved : (scope : List Named) (ws : List Token) → halved_read (read_column scope ws) ≡ read_column scope ws
column_halved scope ws =
    let found = λ (name : List ℕ × List Token) (place : Place). Some (column place, name.1) in
    halved_after (plain_word ws) _ _ (λ name. halved_after (find_column scope name.0) (found name) (found name) (λ place. refl))

abbrev pub literal_last : DType → List Token → Option ScalarValue → Read
literal_last t rest v = followed (typed (literal (record { dtype = t; value = v }))) rest

abbrev pub literal_value : DType → Token × List Token → Read
literal_value t word = option_and_then (literal_last t word.1) (optional_value_of t word.0)

abbrev pub literal_word : List Token → DType → Read
literal_word rest t = option_and_then (literal_value t) (first_word rest)

abbrev pub literal_type : List ℕ × List Token → Read
literal_type kind = option_and_then (literal_word kind.1) (type_of_word kind.0)

literal_halved : (ws : List Token) → halved_read (read_literal ws) ≡ read_literal ws
literal_halved ws =
    halved_after (plain_word ws) literal_type literal_type
    (λ kind. halved_after (type_of_word kind.0) (literal_word kind.1) (literal_word kind.1)
    (λ t. halved_after (first_word kind.1) (literal_value t) (literal_value t)
    (λ word. halved_after (optional_value_of t word.0) (literal_last t word.1) (literal_last t word.1)
    (λ v. halved_followed (literal (record { dtype = t; value = v })) (literal (record { dtype = t; value = v })) word.1 refl))))

-- ---- nodes

one_halved : (operand : List Token → Read) (made : Tree Place → Tree Place) (ws : List Token) → ((e : Tree Place) → halved (made e) ≡ made (halved e))
    → halved_read (read_one operand made ws) ≡ read_one (λ vs. halved_read (operand vs)) made ws
one_halved operand made ws same = halved_operand (operand ws) _ _ (λ x. halved_followed (made x.0) (made (halved x.0)) x.1 (same x.0))

two_halved : (operand : List Token → Read) (made : Tree Place → Tree Place → Tree Place) (ws : List Token) → ((d e : Tree Place) → halved (made d e) ≡ made (halved d) (halved e))
    → halved_read (read_two operand made ws) ≡ read_two (λ vs. halved_read (operand vs)) made ws
two_halved operand made ws same =
    halved_operand (operand ws) _ _
    (λ l. halved_operand (operand l.1) _ _ (λ r. halved_followed (made l.0 r.0) (made (halved l.0) (halved r.0)) r.1 (same l.0 r.0)))

ends_halved : (operand : List Token → Read) (ws : List Token) → halved_read (read_between operand ws) ≡ read_between (λ vs. halved_read (operand vs)) ws
ends_halved operand ws =
    halved_after (read_options ws) _ _
    (λ o. halved_operand (operand o.1) _ _
    (λ x. halved_operand (operand x.1) _ _
    (λ l. halved_operand (operand l.1) _ _ (λ u. halved_followed (between o.0 x.0 l.0 u.0) (between o.0 (halved x.0) (halved l.0) (halved u.0)) u.1 refl))))

-- ---- every shape

module _ (scope : List Named) (most : ℕ) where
  operand : List Token → Read
  operand = expression_within scope most

  operator_halved : (o : Operator) (ws : List Token) → halved_read (expression_by scope (expression_within scope most) (form.Binary o) ws) ≡ shape_within scope most (shape_of (form.Binary o)) ws
  operator_halved And ws = chain_read scope true most ws
  operator_halved Or ws = chain_read scope false most ws
  operator_halved o ws = two_halved (expression_within scope most) (binary o) ws (λ d e. refl)

  shape_halved : (f : Form) (ws : List Token) → halved_read (expression_by scope (expression_within scope most) f ws) ≡ shape_within scope most (shape_of f) ws
  shape_halved form.Column ws = column_halved scope ws
  shape_halved form.Literal ws = literal_halved ws
  shape_halved (form.Binary o) ws = operator_halved o ws
  shape_halved form.Between ws = ends_halved (expression_within scope most) ws
  shape_halved form.IsNull ws = one_halved (expression_within scope most) (unary_of unary.IsNull) ws (λ e. refl)
  shape_halved form.IsNotNull ws = one_halved (expression_within scope most) (unary_of unary.IsNotNull) ws (λ e. refl)
  shape_halved form.Not ws = one_halved (expression_within scope most) (unary_of unary.Not) ws (λ e. refl)
  shape_halved (form.Like o) ws = two_halved (expression_within scope most) (pair_of (pair.Like o)) ws (λ d e. refl)

pub step_is : (scope : List Named) (m : ℕ) (ws rest : List Token) (name : List ℕ) (f : Form) → plain_word ws ≡ Some (name, rest) → form_of name ≡ Some f
    → expression_within scope (suc m) ws ≡ expression_by scope (expression_within scope m) f rest
step_is scope m ws rest name f plain form =
    ap (option_and_then (λ (word : List ℕ × List Token). option_and_then (λ (s : Form). expression_by scope (expression_within scope m) s word.1) (form_of word.0))) plain
    ∙ ap (option_and_then (λ (s : Form). expression_by scope (expression_within scope m) s rest)) form

-- what was read of a shape was read of the whole
pub by_shape : {X : Type 0} (scope : List Named) (ws rest : List Token) (name : List ℕ) (f : Form) (s : Shape) (under below : ℕ) (view : X → Tree Place × List Token) (r : Result X NestedError)
    → plain_word ws ≡ Some (name, rest) → form_of name ≡ Some f → s ≡ shape_of f → length rest < length ws → under + 1 ≡ below
    → ((m : ℕ) → length rest ≤ m → Reads (under + 1) view r (shape_within scope m s rest))
    → (most : ℕ) → length ws ≤ most → Reads below view r (nested_within scope most ws)
by_shape scope ws rest name f s under below view r plain form shaped fewer more read zero fits = absurd (omega arith)
by_shape scope ws rest name f s under below view r plain form shaped fewer more read (suc m) fits =
    let P : Read → Type 0 = λ o. Reads below view r o in
    let Q : ℕ → Type 0 = λ n. Reads n view r (shape_within scope m s rest) in
    let whole = ap halved_read (step_is scope m ws rest name f plain form) ∙ shape_halved scope m f rest ∙ ap (λ t. shape_within scope m t rest) (sym shaped) in
    subst P (sym whole) (subst Q more (read m (omega arith)))

-- ---- a literal that was read

pub literal_of : (ws : List Token) (x : Tree Place × List Token) → read_literal ws ≡ Some x → (c : Constant) × (literal c ≡ x.0)
literal_of ws x h =
    let a = step_of (plain_word ws) literal_type x h in
    let b = step_of (type_of_word a.at.0) (literal_word a.at.1) x a.then in
    let c = step_of (first_word a.at.1) (literal_value b.at) x b.then in
    let d = step_of (optional_value_of b.at c.at.0) (literal_last b.at c.at.1) x c.then in
    (record { dtype = b.at; value = d.at }, followed_is (literal (record { dtype = b.at; value = d.at })) c.at.1 x d.then)

abbrev IsLeaf : Tree Place → Type 0
IsLeaf e = depth e ≡ 0

pub literal_leaf : (ws : List Token) (x : Tree Place × List Token) → read_literal ws ≡ Some x → depth x.0 ≡ 0
literal_leaf ws x h = let c = literal_of ws x h in subst IsLeaf c.1 refl
